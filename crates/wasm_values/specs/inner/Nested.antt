-- Parts of instructions that hold others, up to a nesting: for the readers.
use Rattle.std.specs.Prelude.{◌≡◌, ℕ, suc, ◌+◌, ◌≤◌, ◌⊎◌, max, List, [], ◌∷◌, ◌++◌}
use Rattle.wasm_values.specs.Syntax.{Op, Ops, no_ops, nesting, ops_nesting}
use Rattle.wasm_values.specs.Instructions.{SpellsOp, SpellsOps, SpellsExpression}
use Rattle.wasm_values.specs.Nesting.{most_nesting}

-- An instruction that nests no deeper.
abbrev pub SpellsShallow : ℕ → List ℕ → Op → Type 0
SpellsShallow depth bytes op = SpellsOp bytes op × (nesting op ≤ depth)

-- The expression inside of a block that nests no deeper.
abbrev pub SpellsInner : ℕ → List ℕ → Ops → Type 0
SpellsInner depth bytes ops = SpellsExpression bytes ops × (suc (ops_nesting ops) ≤ depth)

-- The two parts of an `if` that nests no deeper.
pub data SpellsBranches : ℕ → List ℕ → Ops × Ops → Type 0 where
  branches_one : {depth : ℕ} {bytes : List ℕ} {first : Ops}
      → SpellsOps bytes first
      → suc (ops_nesting first) ≤ depth
      → SpellsBranches depth (bytes ++ 0x0b ∷ []) (first, no_ops)
  branches_two : {depth : ℕ} {bytes more : List ℕ} {first second : Ops}
      → SpellsOps bytes first
      → SpellsOps more second
      → suc (max (ops_nesting first) (ops_nesting second)) ≤ depth
      → SpellsBranches depth (bytes ++ 0x05 ∷ (more ++ 0x0b ∷ [])) (first, second)

-- The byte behind instructions: 0B, or 05 before the second part of an `if`.
abbrev pub IsEnd : ℕ → Type 0
IsEnd byte = (byte ≡ 0x0b) ⊎ (byte ≡ 0x05)

-- Instructions that nest no deeper, with the byte behind them.
abbrev pub SpellsBody : ℕ → List ℕ → Ops × ℕ → Type 0
SpellsBody depth bytes body =
    (text : List ℕ) × SpellsOps text body.0 × IsEnd body.1 × (ops_nesting body.0 ≤ depth)
    × (bytes ≡ text ++ body.1 ∷ [])

-- An expression within the limit: at most 200 blocks within one another.
abbrev pub SpellsLimited : List ℕ → Ops → Type 0
SpellsLimited = SpellsInner (most_nesting + 1)
