use Rattle.std.proofs.Common.{nat_lt, ◌&&◌}
use Rattle.room_rules.specs.inner.Damage.{IsDamaged}
use Rattle.creep_combat.specs.inner.Damage.{damage_where, is_in_row}
use Rattle.creep_combat.proofs.mass.strike_row.Given as goal

abbrev pub invariant-loop-x : goal.invariant-loop-x
invariant-loop-x l = IsDamaged (damage_where (λ object. is_in_row l.y object && nat_lt object.x l.x) l.creep) l.fn.room l.room
