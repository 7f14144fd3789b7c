-- What the bytes of a log stand for. They are gate, frame, gate, frame and so on, up to a closed gate. A gate
-- is one byte: 0 is closed, and any other byte is open. What follows a closed gate is not read.
use Rattle.std.specs.Prelude.{◌≡◌, ℕ, ◌<◌, ◌≤◌, ◌^◌, ◌⊎◌, List, [], ◌∷◌, ◌++◌, length, Option, Some, None, ⊤}
use Rattle.byteorder.specs.Endian.{little_bytes}
use Rattle.world_io.specs.Moments.{Moment, Rests}

-- the length of the content in eight bytes, little endian, and the content
unfoldable pub frame : List ℕ → List ℕ
frame content = little_bytes 8 (length content) ++ content

-- These are open gates, each with the frame of a content behind it.
pub data Spells : List ℕ → List (List ℕ) → Type 0 where
  no_content : Spells [] []
  one_more : {gate : ℕ} {content bytes : List ℕ} {contents : List (List ℕ)}
      → 0 < gate
      → length content < 2 ^ 64
      → Spells bytes contents
      → Spells (gate ∷ (frame content ++ bytes)) (content ∷ contents)

-- The bytes stand for these contents: those up to the first closed gate spell them.
pub record Stands (contents : List (List ℕ)) (bytes : List ℕ) : Type 0 where
  pub front : List ℕ
  pub spelled : Spells front contents
  pub rest : List ℕ
  pub split : bytes ≡ front ++ 0 ∷ rest

-- Nothing was ever committed: there is at most one byte, or a closed gate at once.
abbrev pub IsEmpty : List ℕ → Type 0
IsEmpty bytes = (length bytes ≤ 1) ⊎ ((rest : List ℕ) × (bytes ≡ 0 ∷ rest))

-- ---- what a crash may leave of the calls

-- The image stands for these contents, or for these and the new one.
abbrev pub IsBeforeOrAfter : List (List ℕ) → List ℕ → List ℕ → Type 0
IsBeforeOrAfter contents content image = Stands contents image ⊎ Stands (contents ++ content ∷ []) image

-- The image is empty, or stands for the first content alone.
abbrev pub IsEmptyOrFirst : List ℕ → List ℕ → Type 0
IsEmptyOrFirst first image = IsEmpty image ⊎ Stands (first ∷ []) image

-- ---- the disk between calls

-- A read gives a log of these contents, whose closed gate is at the place, and these bytes behind it; and a
-- crash now leaves what a read gives.
pub record HasClosed (contents : List (List ℕ)) (gate : ℕ) (rest : List ℕ) (seen : Option (List ℕ))
    (moments : List Moment) : Type 0 where
  pub front : List ℕ
  pub spelled : Spells front contents
  pub place : gate ≡ length front
  pub rests : Rests (front ++ 0 ∷ rest) seen moments

-- The same, where nothing is behind the closed gate.
abbrev pub HasContents : List (List ℕ) → ℕ → Option (List ℕ) → List Moment → Type 0
HasContents contents gate = HasClosed contents gate []

-- Where the disk tells its bytes, they are a log whose closed gate is at the place, and some bytes behind it.
abbrev pub IsClosedAt : ℕ → Option (List ℕ) → List Moment → Type 0
IsClosedAt gate None moments = ⊤
IsClosedAt gate (Some bytes) moments =
    (contents : List (List ℕ)) × (rest : List ℕ) × HasClosed contents gate rest (Some bytes) moments

-- Where the disk tells its bytes, they are a log that ends in the closed gate at the place.
abbrev pub IsLog : ℕ → Option (List ℕ) → List Moment → Type 0
IsLog gate None moments = ⊤
IsLog gate (Some bytes) moments = (contents : List (List ℕ)) × HasContents contents gate (Some bytes) moments

-- Where the disk tells its bytes, nothing was ever committed on it, and a crash now leaves what a read gives.
abbrev pub IsEmptyDisk : Option (List ℕ) → List Moment → Type 0
IsEmptyDisk None moments = ⊤
IsEmptyDisk (Some bytes) moments = IsEmpty bytes × Rests bytes (Some bytes) moments

-- ---- one frame

-- The bytes begin with an open gate and the frame of this content, and go on with at least the next gate.
pub record BeginsFrame (bytes content rest : List ℕ) : Type 0 where
  pub gate : ℕ
  pub is_open : 0 < gate
  pub fits : length content < 2 ^ 64
  pub split : bytes ≡ gate ∷ (frame content ++ rest)
  pub next : 1 ≤ length rest

-- A closed gate begins the bytes.
abbrev pub BeginsClosed : List ℕ → Type 0
BeginsClosed bytes = (rest : List ℕ) × (bytes ≡ 0 ∷ rest)
