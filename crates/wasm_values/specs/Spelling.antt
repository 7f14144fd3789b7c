-- Words for grammars of bytes: WebAssembly Core 1.0, chapters 5.1.3 and 5.2.1.
-- A grammar is a relation: which bytes spell which value.
use Rattle.std.specs.Prelude.{◌≡◌, ℕ, List, [], ◌∷◌, ◌++◌, length}
use Rattle.byte_fields.specs.Leb.{SpellsUnsigned}

-- An unsigned number of 32 bits, in LEB128.
abbrev pub SpellsU32 : List ℕ → ℕ → Type 0
SpellsU32 = SpellsUnsigned 32

-- A text that spells the first value, and behind it one that spells the second.
abbrev pub Then : {V W : Type 0} → (List ℕ → V → Type 0) → (List ℕ → W → Type 0) → List ℕ → V × W → Type 0
Then First Second bytes values =
    (front : List ℕ) × (back : List ℕ) × First front values.0 × Second back values.1 × (bytes ≡ front ++ back)

-- A byte, as a number.
abbrev pub SpellsByte : List ℕ → ℕ → Type 0
SpellsByte bytes value = bytes ≡ value ∷ []

-- The one byte, which stands for nothing but itself.
abbrev pub SpellsMark : ℕ → List ℕ → Unit {0} → Type 0
SpellsMark mark bytes _ = bytes ≡ mark ∷ []

-- Texts one behind the other, one for each value.
pub data SpellsEach {V : Type 0} (Spells : List ℕ → V → Type 0) : List ℕ → List V → Type 0 where
  each_none : SpellsEach Spells [] []
  each_next : {text more : List ℕ} {value : V} {values : List V}
      → Spells text value
      → SpellsEach Spells more values
      → SpellsEach Spells (text ++ more) (value ∷ values)

-- A list: the count of its entries, and their texts.
abbrev pub SpellsList : {V : Type 0} → (List ℕ → V → Type 0) → List ℕ → List V → Type 0
SpellsList Spells bytes values =
    (count : List ℕ) × (texts : List ℕ) × SpellsU32 count (length values) × SpellsEach Spells texts values
    × (bytes ≡ count ++ texts)

-- A list of bytes: their count, and the bytes themselves.
abbrev pub SpellsBytes : List ℕ → List ℕ → Type 0
SpellsBytes bytes content = (count : List ℕ) × SpellsU32 count (length content) × (bytes ≡ count ++ content)

-- A size, and so many bytes, which are the text of the value.
abbrev pub SpellsSized : {V : Type 0} → (List ℕ → V → Type 0) → List ℕ → V → Type 0
SpellsSized Spells bytes value = (content : List ℕ) × Spells content value × SpellsBytes bytes content
