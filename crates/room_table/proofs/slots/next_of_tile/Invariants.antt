use Rattle.std.proofs.Common.{◌≡◌, ◌<◌, ◌≤◌, ◌-◌, length, option_map}
use Rattle.room_table.specs.inner.Chains.{tile_at}
use Rattle.room_table.specs.inner.Placed.{IsNextOfTile}
use Rattle.room_table.proofs.slots.next_of_tile.Given as goal

abbrev pub invariant-loop-older : goal.invariant-loop-older
invariant-loop-older l = record {
  within : l.older ≤ length l.tiles.tiles;
  on : 0 < l.older → tile_at l.tiles.tiles (l.older - 1) ≡ l.tile;
  least : IsNextOfTile l.older l.id l.tile l.slots l.tiles.tiles (option_map (λ o. o.now) l.found);
}

abbrev pub decreases-loop-older : goal.decreases-loop-older
decreases-loop-older l = l.older
