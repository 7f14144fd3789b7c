use Rattle.std.proofs.Common.{map, take, drop}
use Rattle.kept_entries.specs.Turns.{placed}
use Rattle.world_rules.specs.World.{world_of}
use Rattle.ruled_tick.specs.inner.Entered.{points_entered, AreGains, IsActed}
use Rattle.ruled_tick.proofs.tick.ruled_rooms.Given as goal

abbrev pub invariant-loop-entry : goal.invariant-loop-entry
invariant-loop-entry l = record {
  acted : IsActed l.fn.world (take l.entry-index l.entries) (drop l.entry-index l.entries) l.rooms.items;
  gained : AreGains (points_entered (world_of l.fn.world) (map placed (take l.entry-index l.entries))) l.fn.world.accounts l.gains.items;
}
