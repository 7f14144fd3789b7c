use Rattle.std.proofs.Common.{◌≡◌, vec_len}
use Rattle.rule_check.specs.inner.Checks.{IsLeast}
use Rattle.rule_check.specs.Kept.{IsBlocked}
use Rattle.rule_check.proofs.Minima.{AnyBelow}
use Rattle.rule_check.proofs.shared.least_blocked.Given as goal

abbrev pub invariant-loop-room : goal.invariant-loop-room
invariant-loop-room l = record { tiles : vec_len l.tiles ≡ 2500; least : IsLeast (AnyBelow (λ room. IsBlocked room.objects.now) l.rooms l.room-index) l.least }
