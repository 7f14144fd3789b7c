use Rattle.std.proofs.Common.{◌≡◌, ◌≤◌, map, take}
use Rattle.room_table.specs.inner.Placed.{tile_of_object}
use Rattle.room_table.proofs.slots.tiles_of.Given as goal

abbrev pub invariant-loop-object : goal.invariant-loop-object
invariant-loop-object l = (l.tiles.tiles ≡ map tile_of_object (take l.object-index l.slots)) × (l.tiles.heads ≡ 2500) × (l.room ≤ l.tiles.room)
