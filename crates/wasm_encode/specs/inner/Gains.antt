-- Words for what is written to the end of bytes.
use Rattle.std.specs.Prelude.{◌≡◌, ℕ, List, ◌++◌}
use Rattle.byte_fields.specs.Front.{SpellsShortest}

-- Some bytes spell the value.
abbrev pub IsSpelled : {V : Type 0} → (List ℕ → V → Type 0) → V → Type 0
IsSpelled Spells value = (text : List ℕ) × Spells text value

-- The bytes have gained a text that spells the value, and no text that spells it is shorter.
abbrev pub Gains : {V : Type 0} → (List ℕ → V → Type 0) → V → List ℕ → List ℕ → Type 0
Gains Spells value old new = (text : List ℕ) × SpellsShortest Spells text value × (new ≡ old ++ text)
