-- What stands at the front of bytes, for any way to spell values as bytes.
use Rattle.std.specs.Prelude.{◌≡◌, ◌≤◌, ℕ, List, ◌++◌, length}

-- The bytes begin with a text that spells the value, and go on as the rest.
abbrev pub Begins : {V : Type 0} → (List ℕ → V → Type 0) → List ℕ → V → List ℕ → Type 0
Begins Spells bytes value rest = (text : List ℕ) × Spells text value × (bytes ≡ text ++ rest)

-- Whatever is spelled at the front of the bytes is this value, and leaves this rest.
abbrev pub BeginsOnly : {V : Type 0} → (List ℕ → V → Type 0) → List ℕ → V → List ℕ → Type 0
BeginsOnly {V} Spells bytes value rest =
    (other : V) (more : List ℕ) → Begins Spells bytes other more → (other ≡ value) × (more ≡ rest)

-- No value is spelled at the front of the bytes.
abbrev pub BeginsNone : {V : Type 0} → (List ℕ → V → Type 0) → List ℕ → Type 0
BeginsNone {V} Spells bytes = (value : V) (rest : List ℕ) → Begins Spells bytes value rest → ⊥

-- The text spells the value, and no text that spells it is shorter.
abbrev pub SpellsShortest : {V : Type 0} → (List ℕ → V → Type 0) → List ℕ → V → Type 0
SpellsShortest Spells text value =
    Spells text value × ((other : List ℕ) → Spells other value → length text ≤ length other)
