-- Expressions of which a part was read: what is still to come, by the blocks that are open.
use Rattle.std.specs.Prelude.{◌≡◌, ◌↔◌, ℕ, List, [], ◌∷◌, ◌++◌, Option, None, Some, reverse}
use Rattle.wasm_values.specs.Syntax.{Ops}
use Rattle.wasm_values.specs.Instructions.{SpellsOps}
use Rattle.wasm_values.specs.declared.skim.Open.{Open}
use Rattle.wasm_values.specs.declared.skim.Open.TheVariants.{Block, First}
use Rattle.wasm_values.specs.declared.skim.Turn.{Turn}
use Rattle.wasm_values.specs.declared.skim.Turn.TheVariants.{End, Else, Begin, Pass}

-- The bytes go on to the end of each open block, the innermost of them first.
pub data Closes : List Open → List ℕ → Type 0 where
  closes_all : Closes [] []
  closes_block : {text rest : List ℕ} {ops : Ops} {outer : List Open}
      → SpellsOps text ops
      → Closes outer rest
      → Closes (Block ∷ outer) (text ++ 0x0b ∷ rest)
  closes_first : {text rest : List ℕ} {ops : Ops} {outer : List Open}
      → SpellsOps text ops
      → Closes outer rest
      → Closes (First ∷ outer) (text ++ 0x0b ∷ rest)
  closes_second : {text rest : List ℕ} {ops : Ops} {outer : List Open}
      → SpellsOps text ops
      → Closes (Block ∷ outer) rest
      → Closes (First ∷ outer) (text ++ 0x05 ∷ rest)

-- The open blocks end within the bytes, and this rest is behind the end of the outermost.
abbrev pub ClosesBefore : List Open → List ℕ → List ℕ → Type 0
ClosesBefore opens bytes rest = (text : List ℕ) × Closes opens text × (bytes ≡ text ++ rest)

-- Wherever the one blocks end within the one bytes, the others end within the others, and the other way
-- round.
abbrev pub ClosesAlike : List Open → List ℕ → List Open → List ℕ → Type 0
ClosesAlike before bytes after left =
    (rest : List ℕ) → ClosesBefore before bytes rest ↔ ClosesBefore after left rest

-- The blocks that are open after a turn, by the innermost before it and those around that.
abbrev pub after : Turn → Open → List Open → List Open
after End top outer = outer
after Else top outer = Block ∷ outer
after (Begin inner) top outer = inner ∷ top ∷ outer
after Pass top outer = top ∷ outer

-- The blocks that are open, by the innermost, if there is one, and those around it, the outermost first.
abbrev pub opens : Option Open → List Open → List Open
opens None outer = []
opens (Some top) outer = top ∷ reverse outer
