-- What is told of the bytes of a source or a sink. A device that tells nothing claims nothing.
use Rattle.std.specs.Prelude.{◌≡◌, ℕ, ◌≤◌, List, length, take, Option}
use Rattle.std.specs.Io.KnownBytes.{Consumes, Appends, IsAtEnd}

-- The source gave these bytes and no more of them, and has nothing left.
pub record GaveAll (old new : Option (List ℕ)) (bytes : List ℕ) : Type 0 where
  pub consumed : Consumes old new bytes
  pub ended : IsAtEnd new

-- The source gave some n bytes.
abbrev pub Gave : Option (List ℕ) → Option (List ℕ) → ℕ → Type 0
Gave old new n = (bytes : List ℕ) × Consumes old new bytes × (length bytes ≡ n)

-- The source gave some bytes, of which there are at most n.
abbrev pub GaveAtMost : Option (List ℕ) → Option (List ℕ) → ℕ → Type 0
GaveAtMost old new n = (bytes : List ℕ) × Consumes old new bytes × (length bytes ≤ n)

-- A prefix of these bytes was appended.
abbrev pub AppendsPrefix : Option (List ℕ) → Option (List ℕ) → List ℕ → Type 0
AppendsPrefix old new bytes = (n : ℕ) × Appends old new (take n bytes)
