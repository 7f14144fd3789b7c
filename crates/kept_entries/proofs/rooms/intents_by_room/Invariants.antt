use Rattle.std.proofs.Common.{◌≡◌, take, length}
use Rattle.world_rules.specs.World.{world_of}
use Rattle.kept_entries.specs.Split.{AreSplit}
use Rattle.kept_entries.proofs.rooms.intents_by_room.Given as goal

abbrev pub invariant-loop-intent : goal.invariant-loop-intent
invariant-loop-intent l = record {
  rooms : length l.lists.items ≡ length l.world.rooms;
  split : AreSplit (world_of l.world) (take l.intent-index l.intents) l.lists.items;
}
