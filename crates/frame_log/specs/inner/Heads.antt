-- The nine bytes that begin a frame: its gate and the length of its content.
use Rattle.std.specs.Prelude.{◌≡◌, ℕ, ◌<◌, List, ◌∷◌, ◌++◌, length}
use Rattle.byteorder.specs.Endian.{little_bytes}
use Rattle.frame_log.specs.declared.read.Head.{Head}
use Rattle.frame_log.specs.declared.read.Head.TheVariants.{Closed, Open, Short}
use Rattle.frame_log.specs.Frames.{BeginsClosed}

-- An open gate begins the bytes, and then this length in eight bytes.
pub record HasOpenHead (bytes : List ℕ) (size : ℕ) : Type 0 where
  pub gate : ℕ
  pub is_open : 0 < gate
  pub rest : List ℕ
  pub split : bytes ≡ gate ∷ (little_bytes 8 size ++ rest)

-- This head begins the bytes.
abbrev pub HasHead : List ℕ → Head → Type 0
HasHead bytes Closed = BeginsClosed bytes
HasHead bytes (Open size) = HasOpenHead bytes size
HasHead bytes Short = (BeginsClosed bytes → ⊥) × (length bytes < 9)
