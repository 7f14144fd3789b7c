use Rattle.std.proofs.Common.{◌≡◌, ◌+◌, length, sum_by, drop}
use Rattle.rule_check.proofs.counts.has_more_objects.Given as goal

abbrev pub invariant-loop-room : goal.invariant-loop-room
invariant-loop-room l = sum_by (λ room. length room.objects.now) l.rooms + l.left ≡ l.most + sum_by (λ room. length room.objects.now) (drop l.room-index l.rooms)
