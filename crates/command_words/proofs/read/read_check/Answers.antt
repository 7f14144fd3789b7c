use Rattle.std.proofs.Common.{◌∙◌, map, string_bytes, codes, ap, sym}
use Rattle.std.proofs.lemmas.Result.{err_from_is_err_and}
use Rattle.clap.specs.Matches.{found_of}
use Rattle.clap.specs.Walk.{rows_of}
use Rattle.clap.specs.Faults.{is_simple_and_free}
use Rattle.command_words.specs.Choices.{Choice, command_of, check}
use Rattle.command_words.specs.Commands.{a_check}
use Rattle.command_words.specs.Words.{rows_in}
use Rattle.command_words.proofs.Apart.{of_no_other, of_none}
use Rattle.command_words.proofs.Parsed.{choice_faults, choice_rows, no_value, says_check}
use Rattle.command_words.proofs.read.read_check.Goals as goal

pub matches-requires : goal.matches-requires
matches-requires c = ap (λ (v : Choice). is_simple_and_free (command_of v)) c.check.ensures

pub returns-in_err-matches-clause-usage : goal.returns-in_err-matches-clause-usage
returns-in_err-matches-clause-usage c =
    let words = map string_bytes c.args.words.now in
    let p = err_from_is_err_and c.from_residual.result c.from_residual.ensures.1 in
    rw (p.1, p.2) (λ is_usage. of_none a_check words c.requires.0 c.requires.1 (λ are. c.in_err-matches.ensures.usage is_usage
    (choice_faults c.check.result check words c.check.ensures ∙ are.1.taken.faultless)))

pub returns-in_err-module-clause-usage : goal.returns-in_err-module-clause-usage
returns-in_err-module-clause-usage c =
    let words = map string_bytes c.args.words.now in
    let rows = rows_of (found_of c.in_ok-matches.matches) in
    let found = choice_rows rows c.check.result check words c.in_ok-matches.ensures.rows c.check.ensures in
    let p = err_from_is_err_and c.from_residual-in_err-module.result c.from_residual-in_err-module.ensures.1 in
    rw (p.1, p.2) (λ is_usage. of_none a_check words c.requires.0 c.requires.1 (λ are. no_value rows (rows_in check words) (codes "MODULE") are.0 found
    (c.in_err-module.ensures.usage is_usage) are.1.path_is))

pub returns-clause-ok : goal.returns-clause-ok
returns-clause-ok c =
    let words = map string_bytes c.args.words.now in
    let rows = rows_of (found_of c.in_ok-matches.matches) in
    says_check words c.requires.0 rows (string_bytes c.in_ok-module.module) c.requires.1
    (choice_faults check c.check.result words (sym c.check.ensures) ∙ c.in_ok-matches.ensures.taken)
    (choice_rows rows c.check.result check words c.in_ok-matches.ensures.rows c.check.ensures)
    c.in_ok-module.ensures.ok

pub returns-clause-alone : goal.returns-clause-alone
returns-clause-alone c = of_no_other a_check (map string_bytes c.args.words.now) c.requires.0 c.requires.1
