use Rattle.std.proofs.Common.{nat_lt, ◌&&◌, ◌-◌, ◌^◌}
use Rattle.room_table.specs.Tables.{is_on}
use Rattle.room_rules.specs.inner.Damage.{IsDamaged}
use Rattle.creep_combat.specs.inner.Damage.{damage_where}
use Rattle.creep_combat.proofs.mass.strike_tile.Given as goal

abbrev pub invariant-loop-object : goal.invariant-loop-object
invariant-loop-object l = IsDamaged (damage_where (λ object. is_on l.x l.y object && nat_lt object.id l.from) l.creep) l.fn.room l.room

abbrev pub decreases-loop-object : goal.decreases-loop-object
decreases-loop-object l = 2 ^ 64 - l.from
