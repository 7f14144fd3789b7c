use Rattle.std.proofs.Common.{◌≡◌, ◌<◌, ◌≤◌, ◌-◌, length}
use Rattle.room_table.specs.inner.Chains.{tile_at}
use Rattle.room_table.specs.inner.Placed.{IsLeastFrom}
use Rattle.room_table.proofs.slots.least_on.Given as goal

abbrev pub invariant-loop-number : goal.invariant-loop-number
invariant-loop-number l = record {
  within : l.number ≤ length l.tiles.tiles;
  on : 0 < l.number → tile_at l.tiles.tiles (l.number - 1) ≡ l.tile;
  least : IsLeastFrom l.number l.tile l.kind l.slots l.tiles.tiles l.found;
}

abbrev pub decreases-loop-number : goal.decreases-loop-number
decreases-loop-number l = l.number
