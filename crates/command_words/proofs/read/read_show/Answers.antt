use Rattle.std.proofs.Common.{◌∙◌, map, string_bytes, codes, ap, sym, arith}
use Rattle.std.proofs.lemmas.Result.{err_from_is_err_and}
use Rattle.clap.specs.Matches.{found_of}
use Rattle.clap.specs.Walk.{rows_of}
use Rattle.clap.specs.Faults.{is_simple_and_free}
use Rattle.command_words.specs.Choices.{Choice, command_of, show}
use Rattle.command_words.specs.Commands.{a_show}
use Rattle.command_words.specs.Words.{rows_in}
use Rattle.command_words.proofs.Apart.{of_no_other, of_none}
use Rattle.command_words.proofs.Parsed.{choice_faults, choice_rows, no_number, no_value, says_show}
use Rattle.command_words.proofs.read.read_show.Goals as goal

pub matches-requires : goal.matches-requires
matches-requires c = ap (λ (v : Choice). is_simple_and_free (command_of v)) c.show.ensures

pub returns-in_err-matches-clause-usage : goal.returns-in_err-matches-clause-usage
returns-in_err-matches-clause-usage c =
    let words = map string_bytes c.args.words.now in
    let p = err_from_is_err_and c.from_residual.result c.from_residual.ensures.1 in
    rw (p.1, p.2) (λ is_usage. of_none a_show words c.requires.0 c.requires.1
    (λ are. c.in_err-matches.ensures.usage is_usage
    (choice_faults c.show.result show words c.show.ensures ∙ are.2.taken.faultless)))

pub returns-in_err-journal-clause-usage : goal.returns-in_err-journal-clause-usage
returns-in_err-journal-clause-usage c =
    let words = map string_bytes c.args.words.now in
    let rows = rows_of (found_of c.in_ok-matches.matches) in
    let found = choice_rows rows c.show.result show words c.in_ok-matches.ensures.rows c.show.ensures in
    let residual = c.from_residual-in_err-journal in
    let p = err_from_is_err_and residual.result residual.ensures.1 in
    rw (p.1, p.2) (λ is_usage. of_none a_show words c.requires.0 c.requires.1
    (λ are. no_value rows (rows_in show words) (codes "JOURNAL") are.0 found
    (c.in_err-journal.ensures.usage is_usage) are.2.path_is))

pub returns-in_err-tick-clause-usage : goal.returns-in_err-tick-clause-usage
returns-in_err-tick-clause-usage c =
    let words = map string_bytes c.args.words.now in
    let rows = rows_of (found_of c.in_ok-matches.matches) in
    let found = choice_rows rows c.show.result show words c.in_ok-matches.ensures.rows c.show.ensures in
    let residual = c.from_residual-in_err-tick in
    let p = err_from_is_err_and residual.result residual.ensures.1 in
    rw (p.1, p.2) (λ is_usage. of_none a_show words c.requires.0 c.requires.1
    (λ are. no_number show words rows (codes "TICK") are.1 found are.2.tick_is
    (λ text at spells. c.in_err-tick.ensures.usage is_usage text are.1 at spells (omega (arith, are.2.limit)))))

pub returns-clause-ok : goal.returns-clause-ok
returns-clause-ok c =
    let words = map string_bytes c.args.words.now in
    let rows = rows_of (found_of c.in_ok-matches.matches) in
    says_show words c.requires.0 rows (string_bytes c.in_ok-journal.journal) c.in_ok-tick.ensures.ok.0 c.in_ok-tick.tick c.requires.1
    (choice_faults show c.show.result words (sym c.show.ensures) ∙ c.in_ok-matches.ensures.taken)
    (choice_rows rows c.show.result show words c.in_ok-matches.ensures.rows c.show.ensures)
    c.in_ok-journal.ensures.ok c.in_ok-tick.ensures.ok.1 c.in_ok-tick.ensures.ok.2
    (omega (arith, c.in_ok-tick.ensures.ok.3))

pub returns-clause-alone : goal.returns-clause-alone
returns-clause-alone c =
    of_no_other a_show (map string_bytes c.args.words.now) c.requires.0 c.requires.1
