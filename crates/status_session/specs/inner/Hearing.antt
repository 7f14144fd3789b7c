-- What was read of a request. For private clauses.
use Rattle.std.specs.Prelude.{ℕ, ◌<◌, ◌≤◌, List, [], ◌∷◌, ◌++◌, take, length, Option}
use Rattle.std.specs.Io.KnownBytes.{Consumes, IsAtEnd}
use Rattle.status_session.specs.Words.{HasNoFeed}
use Rattle.status_session.specs.declared.hearing.Heard.{Heard}
use Rattle.status_session.specs.declared.hearing.Heard.TheVariants.{Line, Long, Cut, End}

-- These bytes are fewer than a line has at most, and none is a line feed.
abbrev pub IsShort : List ℕ → Type 0
IsShort bytes = HasNoFeed bytes × (length bytes < 200)

-- The bytes of a line were read into a buffer, as far as the answer says.
abbrev pub HeardLine : Option (List ℕ) → Option (List ℕ) → List ℕ → Heard → Type 0
HeardLine left left_now buffer (Line n) =
    (n < 200) × Consumes left left_now (take n buffer ++ 10 ∷ []) × HasNoFeed (take n buffer)
HeardLine left left_now buffer Long =
    Consumes left left_now (take 200 buffer) × HasNoFeed (take 200 buffer)
HeardLine left left_now buffer (Cut n) =
    (0 < n) × (n < 200) × Consumes left left_now (take n buffer) × HasNoFeed (take n buffer)
    × IsAtEnd left_now
HeardLine left left_now buffer End = Consumes left left_now [] × IsAtEnd left_now

-- These bytes were read, and fewer than wanted only at the end of the input.
abbrev pub HeardBytes : Option (List ℕ) → Option (List ℕ) → ℕ → List ℕ → Type 0
HeardBytes left left_now size bytes =
    Consumes left left_now bytes × (length bytes ≤ size) × (length bytes < size → IsAtEnd left_now)

-- Some bytes of a line were read, and not its end.
abbrev pub HeardPart : Option (List ℕ) → Option (List ℕ) → Type 0
HeardPart left left_now = (part : List ℕ) × Consumes left left_now part × IsShort part

-- Some bytes of an upload were read.
abbrev pub HeardFewer : Option (List ℕ) → Option (List ℕ) → ℕ → Type 0
HeardFewer left left_now size = (part : List ℕ) × Consumes left left_now part × (length part ≤ size)
