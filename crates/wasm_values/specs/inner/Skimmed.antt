-- Expressions of which nothing is kept: for the reader that tells whether bytes spell a module at all.
use Rattle.std.specs.Prelude.{List, ℕ}
use Rattle.wasm_values.specs.Syntax.{Ops}
use Rattle.wasm_values.specs.Instructions.{SpellsExpression}

-- The bytes spell some expression, however deep its blocks stand within one another.
abbrev pub SpellsSome : List ℕ → Unit {0} → Type 0
SpellsSome bytes _ = (ops : Ops) × SpellsExpression bytes ops
