use Rattle.std.proofs.Common.{◌∙◌, map, string_bytes, codes, ap, sym}
use Rattle.std.proofs.lemmas.Result.{err_from_is_err_and}
use Rattle.clap.specs.Matches.{found_of}
use Rattle.clap.specs.Walk.{rows_of}
use Rattle.clap.specs.Faults.{is_simple_and_free}
use Rattle.command_words.specs.Choices.{Choice, command_of, run}
use Rattle.command_words.specs.Commands.{a_run}
use Rattle.command_words.specs.Words.{rows_in}
use Rattle.command_words.proofs.Apart.{of_no_other, of_none}
use Rattle.command_words.proofs.Parsed.{choice_faults, choice_rows, no_value, same_value, same_workers, says_run}
use Rattle.command_words.proofs.read.read_run.Goals as goal

pub matches-requires : goal.matches-requires
matches-requires c = ap (λ (v : Choice). is_simple_and_free (command_of v)) c.run.ensures

pub returns-in_err-matches-clause-usage : goal.returns-in_err-matches-clause-usage
returns-in_err-matches-clause-usage c =
    let words = map string_bytes c.args.words.now in
    let p = err_from_is_err_and c.from_residual.result c.from_residual.ensures.1 in
    rw (p.1, p.2) (λ is_usage. of_none a_run words c.requires.0 c.requires.1 (λ are. c.in_err-matches.ensures.usage is_usage
    (choice_faults c.run.result run words c.run.ensures ∙ are.5.taken.faultless)))

pub returns-in_err-world-clause-usage : goal.returns-in_err-world-clause-usage
returns-in_err-world-clause-usage c =
    let words = map string_bytes c.args.words.now in
    let rows = rows_of (found_of c.in_ok-matches.matches) in
    let found = choice_rows rows c.run.result run words c.in_ok-matches.ensures.rows c.run.ensures in
    let p = err_from_is_err_and c.from_residual-in_err-world.result c.from_residual-in_err-world.ensures.1 in
    rw (p.1, p.2) (λ is_usage. of_none a_run words c.requires.0 c.requires.1 (λ are. no_value rows (rows_in run words) (codes "WORLD") are.0 found
    (c.in_err-world.ensures.usage is_usage) are.5.world_is))

pub returns-in_err-uploads-clause-usage : goal.returns-in_err-uploads-clause-usage
returns-in_err-uploads-clause-usage c =
    let words = map string_bytes c.args.words.now in
    let rows = rows_of (found_of c.in_ok-matches.matches) in
    let found = choice_rows rows c.run.result run words c.in_ok-matches.ensures.rows c.run.ensures in
    let residual = c.from_residual-in_err-uploads in
    let p = err_from_is_err_and residual.result residual.ensures.1 in
    rw (p.1, p.2) (λ is_usage. of_none a_run words c.requires.0 c.requires.1 (λ are. no_value rows (rows_in run words) (codes "UPLOADS") are.1 found
    (c.in_err-uploads.ensures.usage is_usage) are.5.uploads_is))

pub returns-in_err-journal-clause-usage : goal.returns-in_err-journal-clause-usage
returns-in_err-journal-clause-usage c =
    let words = map string_bytes c.args.words.now in
    let rows = rows_of (found_of c.in_ok-matches.matches) in
    let found = choice_rows rows c.run.result run words c.in_ok-matches.ensures.rows c.run.ensures in
    let residual = c.from_residual-in_err-journal in
    let p = err_from_is_err_and residual.result residual.ensures.1 in
    rw (p.1, p.2) (λ is_usage. of_none a_run words c.requires.0 c.requires.1 (λ are. no_value rows (rows_in run words) (codes "JOURNAL") are.2 found
    (c.in_err-journal.ensures.usage is_usage) are.5.journal_is))

pub returns-in_err-ticks-clause-usage : goal.returns-in_err-ticks-clause-usage
returns-in_err-ticks-clause-usage c =
    let words = map string_bytes c.args.words.now in
    let rows = rows_of (found_of c.in_ok-matches.matches) in
    let found = choice_rows rows c.run.result run words c.in_ok-matches.ensures.rows c.run.ensures in
    let p = err_from_is_err_and c.from_residual-in_err-ticks.result c.from_residual-in_err-ticks.ensures.1 in
    rw (p.1, p.2) (λ is_usage. of_none a_run words c.requires.0 c.requires.1 (λ are. c.in_err-ticks.ensures.usage is_usage are.5.number are.3
    (same_value rows (rows_in run words) (codes "ticks") are.5.number found are.5.number_is)
    are.5.spells are.5.limit))

pub returns-in_err-workers-clause-usage : goal.returns-in_err-workers-clause-usage
returns-in_err-workers-clause-usage c =
    let words = map string_bytes c.args.words.now in
    let rows = rows_of (found_of c.in_ok-matches.matches) in
    let found = choice_rows rows c.run.result run words c.in_ok-matches.ensures.rows c.run.ensures in
    let residual = c.from_residual-in_err-workers in
    let p = err_from_is_err_and residual.result residual.ensures.1 in
    rw (p.1, p.2) (λ is_usage. of_none a_run words c.requires.0 c.requires.1 (λ are. c.in_err-workers.ensures.usage is_usage are.4
    (same_workers rows (rows_in run words) (codes "workers") are.4 found are.5.workers_are)))

pub returns-clause-ok : goal.returns-clause-ok
returns-clause-ok c =
    let words = map string_bytes c.args.words.now in
    let rows = rows_of (found_of c.in_ok-matches.matches) in
    says_run words c.requires.0 rows (string_bytes c.in_ok-world.world) (string_bytes c.in_ok-uploads.uploads)
    (string_bytes c.in_ok-journal.journal) c.in_ok-ticks.ensures.ok.0 c.in_ok-ticks.ticks c.in_ok-workers.workers c.requires.1
    (choice_faults run c.run.result words (sym c.run.ensures) ∙ c.in_ok-matches.ensures.taken)
    (choice_rows rows c.run.result run words c.in_ok-matches.ensures.rows c.run.ensures)
    c.in_ok-world.ensures.ok c.in_ok-uploads.ensures.ok c.in_ok-journal.ensures.ok
    c.in_ok-ticks.ensures.ok.1 c.in_ok-ticks.ensures.ok.2 c.in_ok-ticks.ensures.ok.3 c.in_ok-workers.ensures.ok

pub returns-clause-alone : goal.returns-clause-alone
returns-clause-alone c = of_no_other a_run (map string_bytes c.args.words.now) c.requires.0 c.requires.1
