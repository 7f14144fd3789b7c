use Rattle.std.specs.Prelude.{◌≡◌, ◌+◌, ◌≤◌, min}
use Rattle.world_rules.specs.Spawns.{held_by}
use Rattle.action_checks.proofs.held.held_by.Given as goal

abbrev pub invariant-loop-object : goal.invariant-loop-object
invariant-loop-object l = (l.sum ≤ l.fn.most) × (min l.fn.most (l.sum + held_by l.fn.owner l.object-iterator) ≡ min l.fn.most (held_by l.fn.owner l.fn.objects))
