-- Where a LEB128 number ends, whatever its width and sign.
use Rattle.std.specs.Prelude.{ℕ, ◌^◌, ◌<◌, ◌≤◌, List, [], ◌∷◌}

-- The bytes are the text of one LEB128 number of some width: each but the last has its high bit set.
pub data LebText : List ℕ → Type 0 where
  text_last : {byte : ℕ} → byte < 2 ^ 7 → LebText (byte ∷ [])
  text_more : {byte : ℕ} {bytes : List ℕ} → 2 ^ 7 ≤ byte → LebText bytes → LebText (byte ∷ bytes)
