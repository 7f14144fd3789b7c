-- What the calls of a disk do to its bytes, where these are told.
use Rattle.std.specs.Prelude.{◌≡◌, ℕ, ◌+◌, ◌≤◌, List, ◌++◌, length, take, drop, Option, Some, None, ⊤}

-- The disk has this many bytes.
abbrev pub LengthIs : Option (List ℕ) → ℕ → Type 0
LengthIs None n = ⊤
LengthIs (Some bytes) n = n ≡ length bytes

-- The place is in the bytes or at their end.
abbrev pub Within : Option (List ℕ) → ℕ → Type 0
Within None at = ⊤
Within (Some bytes) at = at ≤ length bytes

-- The bytes at a place, as many as there are and as there is room for.
abbrev pub ReadsAt : Option (List ℕ) → ℕ → ℕ → List ℕ → Type 0
ReadsAt None at room found = ⊤
ReadsAt (Some bytes) at room found = found ≡ take room (drop at bytes)

-- these bytes at the place, over what was there or past the old end, and all others as before
abbrev pub written_at : ℕ → List ℕ → List ℕ → List ℕ
written_at at piece bytes = take at bytes ++ piece ++ drop (at + length piece) bytes

-- These bytes stand at the place now, over what was there or past the old end; all others stay.
abbrev pub WritesAt : Option (List ℕ) → ℕ → List ℕ → Option (List ℕ) → Type 0
WritesAt None at bytes new = ⊤
WritesAt (Some old) at bytes new = new ≡ Some (written_at at bytes old)

-- The first bytes are left, so many of them.
abbrev pub CutTo : Option (List ℕ) → ℕ → Option (List ℕ) → Type 0
CutTo None len new = ⊤
CutTo (Some old) len new = new ≡ Some (take len old)

-- What the disk tells is unchanged.
abbrev pub Same : Option (List ℕ) → Option (List ℕ) → Type 0
Same old new = new ≡ old

-- The disk tells its bytes now if and only if it told them before.
abbrev pub TellsAlike : Option (List ℕ) → Option (List ℕ) → Type 0
TellsAlike None None = ⊤
TellsAlike (Some old) (Some new) = ⊤
TellsAlike None (Some new) = ⊥
TellsAlike (Some old) None = ⊥
