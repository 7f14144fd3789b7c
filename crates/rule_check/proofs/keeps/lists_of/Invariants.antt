use Rattle.std.proofs.Common.{◌≡◌, map, take}
use Rattle.rule_check.proofs.keeps.lists_of.Given as goal

abbrev pub invariant-loop-room : goal.invariant-loop-room
invariant-loop-room l = map (λ list. list.items) l.lists.items ≡ map (λ room. room.table.objects) (take l.room-index l.rooms)
