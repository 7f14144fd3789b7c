use Rattle.std.specs.Prelude.{◌-◌}
use Rattle.world_rules.specs.RoomParts.{table_part}
use Rattle.spawn_rules.proofs.Around.{NoneBefore}
use Rattle.spawn_rules.proofs.hatching.tile_for.Given as goal

abbrev pub invariant-loop-number : goal.invariant-loop-number
invariant-loop-number l = NoneBefore (table_part l.ground l.room) l.spawn l.number

abbrev pub decreases-loop-number : goal.decreases-loop-number
decreases-loop-number l = 9 - l.number
