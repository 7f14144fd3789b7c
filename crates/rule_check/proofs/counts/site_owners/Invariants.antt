use Rattle.std.proofs.Common.{◌≡◌, take}
use Rattle.rule_check.specs.inner.Checks.{owners_in}
use Rattle.rule_check.proofs.counts.site_owners.Given as goal

abbrev pub invariant-loop-room : goal.invariant-loop-room
invariant-loop-room l = l.owners.items ≡ owners_in (take l.room-index l.rooms)
