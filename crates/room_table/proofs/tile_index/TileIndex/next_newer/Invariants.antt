use Rattle.std.proofs.Common.{◌≡◌, ◌<◌, ◌≤◌, length}
use Rattle.room_table.specs.inner.Chains.{IsNewest, tile_at}
use Rattle.room_table.proofs.tile_index.TileIndex.next_newer.Given as goal

abbrev pub invariant-loop-number : goal.invariant-loop-number
invariant-loop-number l = record {
  after : l.slot < l.place;
  within : l.place ≤ length l.self.tiles;
  on : l.place < length l.self.tiles → tile_at l.self.tiles l.place ≡ l.tile;
  newest : IsNewest l.tile l.self.tiles l.place l.number;
}

abbrev pub decreases-loop-number : goal.decreases-loop-number
decreases-loop-number l = l.number
