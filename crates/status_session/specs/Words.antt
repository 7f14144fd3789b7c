-- Words of a line, numbers and tokens.
use Rattle.std.specs.Prelude.{◌≡◌, ◌≢◌, ℕ, ◌+◌, ◌-◌, ◌*◌, ◌<◌, ◌≤◌, ◌⊎◌, List, [], ◌∷◌, ◌==◌, if◌then◌else◌}
use Rattle.std.specs.Prelude.{length, slice_index}

-- the words, of which the first has this byte more at its front
abbrev pub joined : ℕ → List (List ℕ) → List (List ℕ)
joined byte [] = (byte ∷ []) ∷ []
joined byte (word ∷ words) = (byte ∷ word) ∷ words

-- what stands between the single spaces of a line: a line with n spaces has n + 1 words, and a word may be
-- empty
abbrev pub words : List ℕ → List (List ℕ)
words [] = [] ∷ []
words (byte ∷ bytes) = if byte == 32 then [] ∷ words bytes else joined byte (words bytes)

-- Each byte is such a byte.
abbrev pub Each : (ℕ → Type 0) → List ℕ → Type 0
Each P bytes = (k : ℕ) → k < length bytes → P (slice_index bytes k)

-- No byte is a line feed.
abbrev pub HasNoFeed : List ℕ → Type 0
HasNoFeed = Each (λ byte. byte ≢ 10)

-- `0` to `9`
abbrev pub IsDigit : ℕ → Type 0
IsDigit byte = (48 ≤ byte) × (byte ≤ 57)

-- `!` to `~`
abbrev pub IsPlain : ℕ → Type 0
IsPlain byte = (33 ≤ byte) × (byte ≤ 126)

-- The word is one or more digits without leading zeros: the first is no `0`, or the only one.
pub record IsNumber (word : List ℕ) : Type 0 where
  pub some : 0 < length word
  pub digits : Each IsDigit word
  pub first : (slice_index word 0 ≢ 48) ⊎ (length word ≡ 1)

-- The word is one or more bytes from `!` to `~`.
pub record IsToken (word : List ℕ) : Type 0 where
  pub some : 0 < length word
  pub plain : Each IsPlain word

-- the number that digits spell behind those of another
abbrev pub value_behind : ℕ → List ℕ → ℕ
value_behind number [] = number
value_behind number (digit ∷ digits) = value_behind (number * 10 + (digit - 48)) digits

-- the number that digits spell
abbrev pub value : List ℕ → ℕ
value digits = value_behind 0 digits

-- The word is the number of bytes of an upload, at most 1,048,576.
pub record IsSize (word : List ℕ) (size : ℕ) : Type 0 where
  pub number : IsNumber word
  pub is : value word ≡ size
  pub most : size ≤ 1048576
