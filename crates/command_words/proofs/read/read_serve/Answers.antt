use Rattle.std.proofs.Common.{◌∙◌, map, string_bytes, codes, ap, sym}
use Rattle.std.proofs.lemmas.Result.{err_from_is_err_and}
use Rattle.clap.specs.Matches.{found_of}
use Rattle.clap.specs.Walk.{rows_of}
use Rattle.clap.specs.Faults.{is_simple_and_free}
use Rattle.command_words.specs.Choices.{Choice, command_of, serve}
use Rattle.command_words.specs.Commands.{a_serve}
use Rattle.command_words.specs.Words.{rows_in}
use Rattle.command_words.proofs.Apart.{of_no_other, of_none}
use Rattle.command_words.proofs.Parsed.{choice_faults, choice_rows, no_number, no_value, same_pace, same_workers, says_serve}
use Rattle.command_words.proofs.read.read_serve.Goals as goal

pub matches-requires : goal.matches-requires
matches-requires c = ap (λ (v : Choice). is_simple_and_free (command_of v)) c.serve.ensures

pub returns-in_err-matches-clause-usage : goal.returns-in_err-matches-clause-usage
returns-in_err-matches-clause-usage c =
    let words = map string_bytes c.args.words.now in
    let p = err_from_is_err_and c.from_residual.result c.from_residual.ensures.1 in
    rw (p.1, p.2) (λ is_usage. of_none a_serve words c.requires.0 c.requires.1
    (λ are. c.in_err-matches.ensures.usage is_usage
    (choice_faults c.serve.result serve words c.serve.ensures ∙ are.7.taken.faultless)))

pub returns-in_err-world-clause-usage : goal.returns-in_err-world-clause-usage
returns-in_err-world-clause-usage c =
    let words = map string_bytes c.args.words.now in
    let rows = rows_of (found_of c.in_ok-matches.matches) in
    let found = choice_rows rows c.serve.result serve words c.in_ok-matches.ensures.rows c.serve.ensures in
    let residual = c.from_residual-in_err-world in
    let p = err_from_is_err_and residual.result residual.ensures.1 in
    rw (p.1, p.2) (λ is_usage. of_none a_serve words c.requires.0 c.requires.1
    (λ are. no_value rows (rows_in serve words) (codes "WORLD") are.0 found
    (c.in_err-world.ensures.usage is_usage) are.7.world_is))

pub returns-in_err-journal-clause-usage : goal.returns-in_err-journal-clause-usage
returns-in_err-journal-clause-usage c =
    let words = map string_bytes c.args.words.now in
    let rows = rows_of (found_of c.in_ok-matches.matches) in
    let found = choice_rows rows c.serve.result serve words c.in_ok-matches.ensures.rows c.serve.ensures in
    let residual = c.from_residual-in_err-journal in
    let p = err_from_is_err_and residual.result residual.ensures.1 in
    rw (p.1, p.2) (λ is_usage. of_none a_serve words c.requires.0 c.requires.1
    (λ are. no_value rows (rows_in serve words) (codes "JOURNAL") are.1 found
    (c.in_err-journal.ensures.usage is_usage) are.7.journal_is))

pub returns-in_err-ticks-clause-usage : goal.returns-in_err-ticks-clause-usage
returns-in_err-ticks-clause-usage c =
    let words = map string_bytes c.args.words.now in
    let rows = rows_of (found_of c.in_ok-matches.matches) in
    let found = choice_rows rows c.serve.result serve words c.in_ok-matches.ensures.rows c.serve.ensures in
    let residual = c.from_residual-in_err-ticks in
    let p = err_from_is_err_and residual.result residual.ensures.1 in
    rw (p.1, p.2) (λ is_usage. of_none a_serve words c.requires.0 c.requires.1
    (λ are. no_number serve words rows (codes "ticks") are.2 found are.7.ticks_are
    (λ text at spells. c.in_err-ticks.ensures.usage is_usage text are.2 at spells are.7.ticks_limit)))

pub returns-in_err-links-clause-usage : goal.returns-in_err-links-clause-usage
returns-in_err-links-clause-usage c =
    let words = map string_bytes c.args.words.now in
    let rows = rows_of (found_of c.in_ok-matches.matches) in
    let found = choice_rows rows c.serve.result serve words c.in_ok-matches.ensures.rows c.serve.ensures in
    let residual = c.from_residual-in_err-links in
    let p = err_from_is_err_and residual.result residual.ensures.1 in
    rw (p.1, p.2) (λ is_usage. of_none a_serve words c.requires.0 c.requires.1
    (λ are. no_number serve words rows (codes "links") are.3 found are.7.links_are
    (λ text at spells. c.in_err-links.ensures.usage is_usage text are.3 at spells are.7.links_limit)))

pub returns-in_err-port-clause-usage : goal.returns-in_err-port-clause-usage
returns-in_err-port-clause-usage c =
    let words = map string_bytes c.args.words.now in
    let rows = rows_of (found_of c.in_ok-matches.matches) in
    let found = choice_rows rows c.serve.result serve words c.in_ok-matches.ensures.rows c.serve.ensures in
    let residual = c.from_residual-in_err-port in
    let p = err_from_is_err_and residual.result residual.ensures.1 in
    rw (p.1, p.2) (λ is_usage. of_none a_serve words c.requires.0 c.requires.1
    (λ are. no_number serve words rows (codes "port") are.4 found are.7.port_is
    (λ text at spells. c.in_err-port.ensures.usage is_usage text are.4 at spells are.7.port_limits.0
    are.7.port_limits.1)))

pub returns-in_err-workers-clause-usage : goal.returns-in_err-workers-clause-usage
returns-in_err-workers-clause-usage c =
    let words = map string_bytes c.args.words.now in
    let rows = rows_of (found_of c.in_ok-matches.matches) in
    let found = choice_rows rows c.serve.result serve words c.in_ok-matches.ensures.rows c.serve.ensures in
    let residual = c.from_residual-in_err-workers in
    let p = err_from_is_err_and residual.result residual.ensures.1 in
    rw (p.1, p.2) (λ is_usage. of_none a_serve words c.requires.0 c.requires.1
    (λ are. c.in_err-workers.ensures.usage is_usage are.5
    (same_workers rows (rows_in serve words) (codes "workers") are.5 found are.7.workers_are)))

pub returns-in_err-pace-clause-usage : goal.returns-in_err-pace-clause-usage
returns-in_err-pace-clause-usage c =
    let words = map string_bytes c.args.words.now in
    let rows = rows_of (found_of c.in_ok-matches.matches) in
    let found = choice_rows rows c.serve.result serve words c.in_ok-matches.ensures.rows c.serve.ensures in
    let residual = c.from_residual-in_err-pace in
    let p = err_from_is_err_and residual.result residual.ensures.1 in
    rw (p.1, p.2) (λ is_usage. of_none a_serve words c.requires.0 c.requires.1
    (λ are. c.in_err-pace.ensures.usage is_usage are.6
    (same_pace rows (rows_in serve words) (codes "pace") are.6 found are.7.pace_is)))

pub returns-clause-ok : goal.returns-clause-ok
returns-clause-ok c =
    let words = map string_bytes c.args.words.now in
    let rows = rows_of (found_of c.in_ok-matches.matches) in
    says_serve words c.requires.0 rows (string_bytes c.in_ok-world.world) (string_bytes c.in_ok-journal.journal)
    c.in_ok-ticks.ensures.ok.0 c.in_ok-links.ensures.ok.0 c.in_ok-port.ensures.ok.0
    c.in_ok-ticks.ticks c.in_ok-links.links c.in_ok-port.port c.in_ok-workers.workers c.in_ok-pace.pace c.requires.1
    (choice_faults serve c.serve.result words (sym c.serve.ensures) ∙ c.in_ok-matches.ensures.taken)
    (choice_rows rows c.serve.result serve words c.in_ok-matches.ensures.rows c.serve.ensures)
    c.in_ok-world.ensures.ok c.in_ok-journal.ensures.ok
    c.in_ok-ticks.ensures.ok.1 c.in_ok-ticks.ensures.ok.2 c.in_ok-ticks.ensures.ok.3
    c.in_ok-links.ensures.ok.1 c.in_ok-links.ensures.ok.2 c.in_ok-links.ensures.ok.3
    c.in_ok-port.ensures.ok.1 c.in_ok-port.ensures.ok.2 (c.in_ok-port.ensures.ok.3, c.in_ok-port.ensures.ok.4)
    c.in_ok-workers.ensures.ok c.in_ok-pace.ensures.ok

pub returns-clause-alone : goal.returns-clause-alone
returns-clause-alone c =
    of_no_other a_serve (map string_bytes c.args.words.now) c.requires.0 c.requires.1
