use Rattle.std.proofs.lemmas.Result.{err_from_is_err_and}
use Rattle.tick_journal.proofs.BaseContents.{terrain_numbers}
use Rattle.tick_journal.proofs.read_base.read_terrain.Goals as goal

pub returns-in_err-grounds-clause-malformed : goal.returns-in_err-grounds-clause-malformed
returns-in_err-grounds-clause-malformed c =
    let p = err_from_is_err_and c.from_residual-in_err-grounds.result c.from_residual-in_err-grounds.ensures.1 in
    rw (p.1, p.2) (λ is grounds rest tiles e. c.in_err-grounds.ensures.malformed is grounds
    (terrain_numbers grounds c.args.from.now.0 c.in_ok-numbers.numbers.now c.take.new.self.0 rest c.in_ok-numbers.ensures.found c.in_ok-numbers.ensures.count tiles e))
