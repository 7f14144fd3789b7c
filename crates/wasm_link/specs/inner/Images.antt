-- What an image stands for: a list whose entries are its values in its stretches, and blank outside of them.
use Rattle.std.specs.Prelude.{◌≡◌, ◌⊎◌, ℕ, ◌+◌, ◌<◌, ◌≤◌, List, ◌++◌, length, take, drop}
use Rattle.std.specs.Prelude.{slice_index_or, All, Any}
use Rattle.wasm_link.specs.Linking.{Span}
use Rattle.wasm_link.specs.declared.image.Interval.{Interval}
use Rattle.wasm_link.specs.declared.image.Stretch.{Stretch}

-- The list with these entries from a place on.
abbrev pub put : {A : Type 0} → List A → ℕ → List A → List A
put xs at ys = take at xs ++ (ys ++ drop (at + length ys) xs)

-- ---- intervals and stretches

abbrev pub start_in : Interval → ℕ
start_in interval = interval.start

-- It ends at this size at most: an interval, and a stretch.
abbrev pub EndsIn : ℕ → Interval → Type 0
EndsIn size interval = interval.start + interval.len ≤ size

abbrev pub Ends : ℕ → Stretch → Type 0
Ends size stretch = stretch.start + stretch.len ≤ size

-- Its values are among so many.
abbrev pub Valued : ℕ → Stretch → Type 0
Valued count stretch = stretch.base + stretch.len ≤ count

-- Its values begin no later than its entries.
abbrev pub IsLow : Stretch → Type 0
IsLow stretch = stretch.base ≤ stretch.start

-- One ends before the other begins, and so do its values.
pub record IsBefore (one other : Stretch) : Type 0 where
  pub entries : one.start + one.len ≤ other.start
  pub values : one.base + one.len ≤ other.base

-- The entries of the interval are some of the stretch.
pub record Holds (stretch : Stretch) (interval : Interval) : Type 0 where
  pub from : stretch.start ≤ interval.start
  pub to : interval.start + interval.len ≤ stretch.start + stretch.len

-- The interval is within a stretch.
abbrev pub IsHeld : List Stretch → Interval → Type 0
IsHeld stretches interval = Any (λ stretch. Holds stretch interval) stretches

-- The interval is that of a segment.
pub record IsOf (span : Span) (interval : Interval) : Type 0 where
  pub start : interval.start ≡ span.offset
  pub len : interval.len ≡ span.count

-- So many entries from a place on are within a stretch, if there are any.
abbrev pub IsIn : List Stretch → ℕ → ℕ → Type 0
IsIn stretches offset count = 0 < count → IsHeld stretches (record { start = offset; len = count })

-- The entries of a segment are.
abbrev pub IsCovered : List Stretch → Span → Type 0
IsCovered stretches span = IsIn stretches span.offset span.count

-- The entry is one of the stretch.
pub record IsAt (entry : ℕ) (stretch : Stretch) : Type 0 where
  pub from : stretch.start ≤ entry
  pub below : entry < stretch.start + stretch.len

-- The entry is none of the stretch.
abbrev pub IsOutside : ℕ → Stretch → Type 0
IsOutside entry stretch = (entry < stretch.start) ⊎ (stretch.start + stretch.len ≤ entry)

-- ---- images

-- The entries of the stretch are its values.
abbrev pub HasValues : {A : Type 0} → List A → List A → Stretch → Type 0
HasValues {A} values content stretch = (place : ℕ) (d : A) → place < stretch.len
    → slice_index_or content (stretch.start + place) d ≡ slice_index_or values (stretch.base + place) d

-- The entries of stretches are their values, and all others are blank.
pub record Stands {A : Type 0} (blank : A) (stretches : List Stretch) (values content : List A) : Type 0 where
  pub ends : All (Ends (length content)) stretches
  pub valued : All (Valued (length values)) stretches
  pub inside : All (HasValues values content) stretches
  pub outside : (entry : ℕ) (d : A) → entry < length content → All (IsOutside entry) stretches
      → slice_index_or content entry d ≡ blank

-- The entry is as in the list, or blank yet and in no stretch so far.
abbrev pub IsAsLaid : {A : Type 0} → A → List Stretch → List A → List A → ℕ → Type 0
IsAsLaid {A} blank done content now entry =
    ((d : A) → slice_index_or now entry d ≡ slice_index_or content entry d)
    ⊎ (((d : A) → slice_index_or now entry d ≡ blank) × All (IsOutside entry) done)

-- The stretches so far are laid in blank entries.
pub record IsLaid {A : Type 0} (blank : A) (done : List Stretch) (content now : List A) : Type 0 where
  pub size : length now ≡ length content
  pub each : (entry : ℕ) → entry < length content → IsAsLaid blank done content now entry
