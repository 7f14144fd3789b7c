use Rattle.std.proofs.Common.{nat_lt}
use Rattle.room_rules.specs.inner.Damage.{IsDamaged}
use Rattle.creep_combat.specs.inner.Damage.{damage_where}
use Rattle.creep_combat.proofs.mass.strike_all.Given as goal

abbrev pub invariant-loop-y : goal.invariant-loop-y
invariant-loop-y l = IsDamaged (damage_where (λ object. nat_lt object.y l.y) l.creep) l.fn.room l.room
