-- The limits of what is taken as a module.
use Rattle.std.specs.Prelude.{◌≡◌, ℕ, ◌+◌, ◌^◌, ◌≤◌, List, length, sum_by, slice_get, Option, Some, None, All}
use Rattle.wasm_values.specs.Nesting.{most_nesting}
use Rattle.wasm_values.specs.Syntax.{Ops, ops_nesting}
use Rattle.wasm_module.specs.Entries.{Function}
use Rattle.wasm_module.specs.Sections.{Syntax, Spells}
use Rattle.wasm_values.specs.declared.types.FuncType.{FuncType}
use Rattle.wasm_module.specs.declared.module.Limit.{Limit}
use Rattle.wasm_module.specs.declared.module.Limit.TheVariants.{Bytes, Functions, Nesting, Locals}
use Rattle.wasm_module.specs.declared.module.Limit.TheVariants.{Pages, TableEntries}

-- How much of each there may be.
abbrev pub most_functions : ℕ
most_functions = 10000

abbrev pub most_locals : ℕ
most_locals = 65536

abbrev pub most_pages_at_first : ℕ
most_pages_at_first = 256

abbrev pub most_entries_at_first : ℕ
most_entries_at_first = 65536

abbrev pub most_bytes : ℕ
most_bytes = 2 ^ 20

-- At most 10,000 functions.
abbrev pub WithinFunctions : Syntax Ops → Type 0
WithinFunctions m = length m.codes ≤ most_functions

-- In each expression at most 200 blocks, loops and ifs within one another.
abbrev pub WithinNesting : Syntax Ops → Type 0
WithinNesting m =
    All (λ global. ops_nesting global.1 ≤ most_nesting) m.globals
    × All (λ element. ops_nesting element.1.0 ≤ most_nesting) m.elements
    × All (λ code. ops_nesting code.1 ≤ most_nesting) m.codes
    × All (λ segment. ops_nesting segment.1.0 ≤ most_nesting) m.segments

-- The parameters of a type.
abbrev pub params_in : Option FuncType → ℕ
params_in None = 0
params_in (Some type) = length type.params

-- A function's locals, with the parameters of its type, and with none where there is no such type.
abbrev pub locals_of : List FuncType → ℕ → Function Ops → ℕ
locals_of types index function = params_in (slice_get types index) + sum_by (λ run. run.count) function.0

-- At most 65,536 locals in each function, its parameters counted.
abbrev pub WithinLocals : Syntax Ops → Type 0
WithinLocals m =
    (i index : ℕ) (function : Function Ops)
    → slice_get m.funcs i ≡ Some index
    → slice_get m.codes i ≡ Some function
    → locals_of m.types index function ≤ most_locals

-- At most 256 pages in each memory at first.
abbrev pub WithinPages : Syntax Ops → Type 0
WithinPages m = All (λ bounds. bounds.min ≤ most_pages_at_first) m.memories

-- At most 65,536 entries in each table at first.
abbrev pub WithinTableEntries : Syntax Ops → Type 0
WithinTableEntries m = All (λ bounds. bounds.min ≤ most_entries_at_first) m.tables

-- Within all limits but that of the bytes, which a module doesn't show.
abbrev pub IsWithin : Syntax Ops → Type 0
IsWithin m = WithinFunctions m × WithinNesting m × WithinLocals m × WithinPages m × WithinTableEntries m

-- This limit is the first in the list that the module passes.
abbrev pub PassesFirst : Limit → Syntax Ops → Type 0
PassesFirst Bytes m = ⊥
PassesFirst Functions m = WithinFunctions m → ⊥
PassesFirst Nesting m = WithinFunctions m × (WithinNesting m → ⊥)
PassesFirst Locals m = WithinFunctions m × WithinNesting m × (WithinLocals m → ⊥)
PassesFirst Pages m = WithinFunctions m × WithinNesting m × WithinLocals m × (WithinPages m → ⊥)
PassesFirst TableEntries m =
    WithinFunctions m × WithinNesting m × WithinLocals m × WithinPages m × (WithinTableEntries m → ⊥)

-- At most 1 MiB.
abbrev pub WithinBytes : List ℕ → Type 0
WithinBytes bytes = length bytes ≤ most_bytes

-- The bytes pass this limit, and none before it in the list.
abbrev pub IsTooLarge : List ℕ → Limit → Type 0
IsTooLarge bytes Bytes = WithinBytes bytes → ⊥
IsTooLarge bytes limit = WithinBytes bytes × (m : Syntax Ops) × Spells bytes m × PassesFirst limit m
