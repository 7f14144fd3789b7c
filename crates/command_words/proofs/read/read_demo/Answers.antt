use Rattle.std.proofs.Common.{◌∙◌, map, string_bytes, codes, ap, sym, arith}
use Rattle.std.proofs.lemmas.Result.{err_from_is_err_and}
use Rattle.clap.specs.Matches.{found_of}
use Rattle.clap.specs.Walk.{rows_of}
use Rattle.clap.specs.Faults.{is_simple_and_free}
use Rattle.command_words.specs.Choices.{Choice, command_of, demo}
use Rattle.command_words.specs.Commands.{a_demo}
use Rattle.command_words.proofs.Apart.{of_no_other, of_none}
use Rattle.command_words.proofs.Parsed.{choice_faults, choice_rows, no_number, says_demo}
use Rattle.command_words.proofs.read.read_demo.Goals as goal

pub matches-requires : goal.matches-requires
matches-requires c = ap (λ (v : Choice). is_simple_and_free (command_of v)) c.demo.ensures

pub returns-in_err-matches-clause-usage : goal.returns-in_err-matches-clause-usage
returns-in_err-matches-clause-usage c =
    let words = map string_bytes c.args.words.now in
    let p = err_from_is_err_and c.from_residual.result c.from_residual.ensures.1 in
    rw (p.1, p.2) (λ is_usage. of_none a_demo words c.requires.0 c.requires.1
    (λ are. c.in_err-matches.ensures.usage is_usage
    (choice_faults c.demo.result demo words c.demo.ensures ∙ are.3.taken.faultless)))

pub returns-in_err-seed-clause-usage : goal.returns-in_err-seed-clause-usage
returns-in_err-seed-clause-usage c =
    let words = map string_bytes c.args.words.now in
    let rows = rows_of (found_of c.in_ok-matches.matches) in
    let found = choice_rows rows c.demo.result demo words c.in_ok-matches.ensures.rows c.demo.ensures in
    let residual = c.from_residual-in_err-seed in
    let p = err_from_is_err_and residual.result residual.ensures.1 in
    rw (p.1, p.2) (λ is_usage. of_none a_demo words c.requires.0 c.requires.1
    (λ are. no_number demo words rows (codes "SEED") are.0 found are.3.seed_is
    (λ text at spells. c.in_err-seed.ensures.usage is_usage text are.0 at spells (omega (arith, are.3.seed_limit)))))

pub returns-in_err-rooms-clause-usage : goal.returns-in_err-rooms-clause-usage
returns-in_err-rooms-clause-usage c =
    let words = map string_bytes c.args.words.now in
    let rows = rows_of (found_of c.in_ok-matches.matches) in
    let found = choice_rows rows c.demo.result demo words c.in_ok-matches.ensures.rows c.demo.ensures in
    let residual = c.from_residual-in_err-rooms in
    let p = err_from_is_err_and residual.result residual.ensures.1 in
    rw (p.1, p.2) (λ is_usage. of_none a_demo words c.requires.0 c.requires.1
    (λ are. no_number demo words rows (codes "ROOMS") are.1 found are.3.rooms_is
    (λ text at spells. c.in_err-rooms.ensures.usage is_usage text are.1 at spells are.3.rooms_limits)))

pub returns-in_err-ticks-clause-usage : goal.returns-in_err-ticks-clause-usage
returns-in_err-ticks-clause-usage c =
    let words = map string_bytes c.args.words.now in
    let rows = rows_of (found_of c.in_ok-matches.matches) in
    let found = choice_rows rows c.demo.result demo words c.in_ok-matches.ensures.rows c.demo.ensures in
    let residual = c.from_residual-in_err-ticks in
    let p = err_from_is_err_and residual.result residual.ensures.1 in
    rw (p.1, p.2) (λ is_usage. of_none a_demo words c.requires.0 c.requires.1
    (λ are. no_number demo words rows (codes "TICKS") are.2 found are.3.ticks_is
    (λ text at spells. c.in_err-ticks.ensures.usage is_usage text are.2 at spells are.3.limit)))

pub returns-clause-ok : goal.returns-clause-ok
returns-clause-ok c =
    let words = map string_bytes c.args.words.now in
    let rows = rows_of (found_of c.in_ok-matches.matches) in
    says_demo words c.requires.0 rows c.in_ok-seed.ensures.ok.0 c.in_ok-rooms.ensures.ok.0 c.in_ok-ticks.ensures.ok.0
    c.in_ok-seed.seed c.in_ok-rooms.rooms c.in_ok-ticks.ticks c.requires.1
    (choice_faults demo c.demo.result words (sym c.demo.ensures) ∙ c.in_ok-matches.ensures.taken)
    (choice_rows rows c.demo.result demo words c.in_ok-matches.ensures.rows c.demo.ensures)
    c.in_ok-seed.ensures.ok.1 c.in_ok-seed.ensures.ok.2 (omega (arith, c.in_ok-seed.ensures.ok.3))
    c.in_ok-rooms.ensures.ok.1 c.in_ok-rooms.ensures.ok.2 c.in_ok-rooms.ensures.ok.3
    c.in_ok-ticks.ensures.ok.1 c.in_ok-ticks.ensures.ok.2 c.in_ok-ticks.ensures.ok.3

pub returns-clause-alone : goal.returns-clause-alone
returns-clause-alone c =
    of_no_other a_demo (map string_bytes c.args.words.now) c.requires.0 c.requires.1
