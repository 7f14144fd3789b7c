-- Which slots of a room's table stand on which tile, told from the newest slot to the oldest. For private
-- clauses.
use Rattle.std.specs.Prelude.{◌≡◌, ◌≢◌, ℕ, ◌-◌, ◌^◌, ◌<◌, ◌≤◌, List, length, slice_index, slice_index_or}

-- the tiles of the slots, how many tiles are told apart, and for how many slots there is memory
pub record Chained : Type 0 where
  pub tiles : List ℕ
  pub heads : ℕ
  pub room : ℕ

-- the tile of a slot, or 2500 if it stands on none
abbrev pub tile_at : List ℕ → ℕ → ℕ
tile_at tiles slot = slice_index_or tiles slot 2500

-- The newest slot on a tile of those below an end has this number, from 1 on, and it is 0 where there is
-- none.
pub record IsNewest (tile : ℕ) (tiles : List ℕ) (end number : ℕ) : Type 0 where
  pub within : number ≤ end
  pub on : 0 < number → tile_at tiles (number - 1) ≡ tile
  pub above : (slot : ℕ) → number ≤ slot → slot < end → tile_at tiles slot ≢ tile

-- The slot on the tile that comes first after this one has this place, and it is the number of slots where
-- there is none.
pub record IsNextNewer (tile : ℕ) (tiles : List ℕ) (slot place : ℕ) : Type 0 where
  pub after : slot < place
  pub within : place ≤ length tiles
  pub on : place < length tiles → tile_at tiles place ≡ tile
  pub between : (other : ℕ) → slot < other → other < place → tile_at tiles other ≢ tile

-- The head of each tile is the newest slot on it, and each slot is linked to the next older one on its tile.
pub record IsChained (heads links tiles : List ℕ) : Type 0 where
  pub wide : 0 < length heads → length heads ≡ 2500
  pub needed : 0 < length tiles → 0 < length heads
  pub count : length tiles < 2 ^ 32
  pub linked : length links ≡ length tiles
  pub newest : (tile : ℕ) → tile < 2500 → IsNewest tile tiles (length tiles) (slice_index heads tile)
  pub older : (slot : ℕ) → slot < length tiles → tile_at tiles slot < 2500
      → IsNewest (tile_at tiles slot) tiles slot (slice_index links slot)
