-- Which image of a crash a disk in memory gives.
use Rattle.std.specs.Prelude.{◌≡◌, ℕ, ◌<◌, ◌≤◌, ◌%◌, ◌⊎◌, List, length, slice_index}
use Rattle.world_io.specs.Moments.{Moment, IsOutside}

-- The image has this length. Any byte may stand in the ranges that were written and past the old end, and
-- there this one stands; elsewhere stand the bytes of the last sync.
pub record IsFilled (moment : Moment) (len byte : ℕ) (image : List ℕ) : Type 0 where
  pub size : length image ≡ len
  pub stays : (place : ℕ) → place < len → place < length moment.synced → IsOutside place moment.written
      → slice_index image place ≡ slice_index moment.synced place
  pub free : (place : ℕ) → place < len → (length moment.synced ≤ place) ⊎ (¬ IsOutside place moment.written)
      → slice_index image place ≡ byte

-- The pick 0 takes the least length and bytes 0, the pick 1 what a read gives, and any other the greatest
-- length and bytes of its value modulo 256.
pub record IsPicked (pick : ℕ) (moment : Moment) (read image : List ℕ) : Type 0 where
  pub least : pick ≡ 0 → IsFilled moment moment.least 0 image
  pub now : pick ≡ 1 → image ≡ read
  pub greatest : 1 < pick → IsFilled moment moment.greatest (pick % 256) image
