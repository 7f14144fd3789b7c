-- What a read at a gate finds.
use Rattle.std.specs.Prelude.{ℕ, ◌+◌, ◌<◌, List, length, drop, Option, Some, None, ⊤}
use Rattle.frame_log.specs.declared.read.Behind.{Behind}
use Rattle.frame_log.specs.declared.read.Behind.TheVariants.{Closed, Frame, Broken}
use Rattle.frame_log.specs.Frames.{BeginsFrame, BeginsClosed}

-- At the front of these bytes stands a closed gate, or the frame of this content, or neither.
abbrev pub Finds : List ℕ → Behind → Type 0
Finds bytes Closed = BeginsClosed bytes
Finds bytes (Frame content) = BeginsFrame bytes content.items (drop (9 + length content.items) bytes)
Finds bytes Broken =
    (BeginsClosed bytes → ⊥) × ((content rest : List ℕ) → BeginsFrame bytes content rest → ⊥)

-- The same at a place of a disk, where it tells its bytes.
abbrev pub FindsAt : ℕ → Behind → Option (List ℕ) → Type 0
FindsAt gate behind None = ⊤
FindsAt gate behind (Some bytes) = Finds (drop gate bytes) behind

-- The frame that is found at the gate, and the next gate, lie in so many bytes.
abbrev pub EndsWithin : ℕ → ℕ → Behind → Type 0
EndsWithin gate len Closed = ⊤
EndsWithin gate len (Frame content) = gate + 9 + length content.items < len
EndsWithin gate len Broken = ⊤
