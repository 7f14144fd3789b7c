use Rattle.std.proofs.Common.{Some, option_map, ap, ◌∙◌}
use Rattle.world_rules.proofs.TableParts.{stands_at}
use Rattle.action_checks.specs.inner.Passing.{placed_at}
use Rattle.action_checks.proofs.effect.standing.Goals as goal

pub returns-in-Some-clause-part : goal.returns-in-Some-clause-part
returns-in-Some-clause-part c = λ grounds.
    let found = c.in-Some.ensures in
    (λ i. Some (placed_at (c.index.ensures i) c.in-Some.object.now))
    ∙ ap (option_map (placed_at c.args.room.now.index)) found
    ∙ stands_at grounds c.args.room.now c.args.id

pub returns-in-None-clause-part : goal.returns-in-None-clause-part
returns-in-None-clause-part c = λ grounds.
    let found = c.in-None.ensures in
    ap (option_map (placed_at c.args.room.now.index)) found
    ∙ stands_at grounds c.args.room.now c.args.id
