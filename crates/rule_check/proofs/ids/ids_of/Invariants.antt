use Rattle.std.proofs.Common.{◌≡◌, take}
use Rattle.rule_check.specs.inner.Checks.{ids_in}
use Rattle.rule_check.proofs.ids.ids_of.Given as goal

abbrev pub invariant-loop-room : goal.invariant-loop-room
invariant-loop-room l = l.ids.items ≡ ids_in (take l.room-index l.rooms)
