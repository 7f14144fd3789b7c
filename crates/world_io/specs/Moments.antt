-- What a crash may leave of a disk. A disk that tells its bytes tells its moments too, the latest first, and
-- one that doesn't has none to tell.
use Rattle.std.specs.Prelude.{◌≡◌, ℕ, ◌+◌, ◌<◌, ◌≤◌, ◌⊎◌, max, min, List, [], ◌∷◌, length, take, drop}
use Rattle.std.specs.Prelude.{slice_index, Option, Some, None, ⊤}

-- A moment, as far as a crash goes: the bytes of the last sync, and since then the ranges that were written,
-- each as its place and how many bytes, and the least and the greatest length.
pub record Moment : Type 0 where
  pub synced : List ℕ
  pub written : List (ℕ × ℕ)
  pub least : ℕ
  pub greatest : ℕ

-- The place lies in none of the ranges.
abbrev pub IsOutside : ℕ → List (ℕ × ℕ) → Type 0
IsOutside place [] = ⊤
IsOutside place (range ∷ ranges) = ((place < range.0) ⊎ (range.0 + range.1 ≤ place)) × IsOutside place ranges

-- A crash at the moment may leave this: the bytes of the last sync outside the ranges, any bytes in them and
-- past the old end, and a length between.
pub record IsImage (moment : Moment) (image : List ℕ) : Type 0 where
  pub no_shorter : moment.least ≤ length image
  pub no_longer : length image ≤ moment.greatest
  pub stays : (place : ℕ) → place < length image → place < length moment.synced
      → IsOutside place moment.written → slice_index image place ≡ slice_index moment.synced place

-- the moment after a sync that succeeds
abbrev pub settled : List ℕ → Moment
settled bytes = record { synced = bytes; written = []; least = length bytes; greatest = length bytes }

-- the moment after a write of n bytes at a place
abbrev pub torn : ℕ → ℕ → Moment → Moment
torn at n moment = record {
  synced = moment.synced;
  written = (at, n) ∷ moment.written;
  least = moment.least;
  greatest = max moment.greatest (at + n);
}

-- the moment after a cut
abbrev pub shortened : ℕ → Moment → Moment
shortened len moment = record {
  synced = moment.synced;
  written = moment.written;
  least = min moment.least len;
  greatest = moment.greatest;
}

-- the moments with a next one
abbrev pub next : (Moment → Moment) → List Moment → List Moment
next step [] = []
next step (now ∷ past) = step now ∷ now ∷ past

-- The step was begun, or nothing was done. What a crash may leave within the step, it may leave after it too.
abbrev pub Goes : (Moment → Moment) → List Moment → List Moment → Type 0
Goes step before after = (after ≡ before) ⊎ (after ≡ next step before)

-- From now on a crash leaves these bytes.
abbrev pub Settles : Option (List ℕ) → List Moment → List Moment → Type 0
Settles None before after = after ≡ before
Settles (Some bytes) before after = after ≡ settled bytes ∷ before

-- What a read gives now is one of the images that a crash may leave now.
abbrev pub IsLeftNow : Option (List ℕ) → List Moment → Type 0
IsLeftNow None moments = moments ≡ []
IsLeftNow (Some bytes) [] = ⊥
IsLeftNow (Some bytes) (now ∷ past) = IsImage now bytes

-- Each image that a crash at the moment may leave has P.
abbrev pub LeavesOnly : (List ℕ → Type 0) → Moment → Type 0
LeavesOnly P moment = (image : List ℕ) → IsImage moment image → P image

-- A crash at any moment after `old`, up to now, leaves only what has P.
pub data LeavesSince (P : List ℕ → Type 0) (old : List Moment) : List Moment → Type 0 where
  no_moment : LeavesSince P old old
  and_then : {now : List Moment} {moment : Moment} → LeavesSince P old now → LeavesOnly P moment
      → LeavesSince P old (moment ∷ now)

-- A crash now leaves only what has P.
abbrev pub LeavesNow : (List ℕ → Type 0) → List Moment → Type 0
LeavesNow P [] = ⊤
LeavesNow P (now ∷ past) = LeavesOnly P now

-- A read gives these bytes, and a crash now leaves them too.
pub record Rests (bytes : List ℕ) (seen : Option (List ℕ)) (moments : List Moment) : Type 0 where
  pub read : seen ≡ Some bytes
  pub past : List Moment
  pub settled_now : moments ≡ settled bytes ∷ past

-- One write in part: any bytes in the range, the same before and behind it, and a length between.
pub record Torn (at n : ℕ) (old image : List ℕ) : Type 0 where
  pub before : take at image ≡ take at old
  pub behind : drop (at + n) image ≡ drop (at + n) old
  pub no_shorter : length old ≤ length image
  pub no_longer : length image ≤ max (length old) (at + n)

-- One cut in part: some length between.
pub record Shortened (len : ℕ) (old image : List ℕ) : Type 0 where
  pub no_shorter : min (length old) len ≤ length image
  pub front : image ≡ take (length image) old
