use Rattle.std.proofs.Common.{◌≡◌, ◌++◌, map}
use Rattle.world_rules.specs.World.{listed_room}
use Rattle.world_text.specs.inner.Drafts.{drafted_room, HavePlaces}
use Rattle.world_text.proofs.build.add_rooms.Given as goal

abbrev pub invariant-loop-room : goal.invariant-loop-room
invariant-loop-room l = record {
  rooms : map listed_room l.world.rooms ≡ map listed_room l.fn.world.rooms ++ map drafted_room l.yielded;
  places : HavePlaces l.world.rooms;
  tick : l.world.tick ≡ l.fn.world.tick;
  accounts : l.world.accounts ≡ l.fn.world.accounts;
}
