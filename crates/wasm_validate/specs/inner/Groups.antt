-- The rules of a valid module in groups, for any context.
use Rattle.std.specs.Prelude.{◌≡◌, ℕ, ◌<◌, ◌≤◌, List, length, slice_get, Some, All}
use Rattle.wasm_values.specs.Syntax.{Ops}
use Rattle.wasm_module.specs.Sections.{Syntax}
use Rattle.wasm_module.specs.Entries.{code_view}
use Rattle.wasm_module.specs.declared.codes.Code.{Code}
use Rattle.wasm_values.specs.declared.types.GlobalType.{GlobalType}
use Rattle.wasm_typing.specs.Context.{Context}
use Rattle.wasm_validate.specs.Modules.{AreOrdered, IsMemoryType, IsGlobal, IsElements, IsData}
use Rattle.wasm_typing.specs.Functions.{IsFunction}
use Rattle.wasm_validate.specs.Modules.{IsStart, Exists}

-- what is declared and imported
pub record AreDeclared (cx : Context) (m : Syntax Ops) : Type 0 where
  pub funcs : All (λ index. index < length m.types) cx.funcs
  pub counts : length m.funcs ≡ length m.codes
  pub tables : All AreOrdered cx.tables
  pub memories : All IsMemoryType cx.memories
  pub one_table : length cx.tables ≤ 1
  pub one_memory : length cx.memories ≤ 1

-- what the module begins with and exports
pub record AreMade (cx : Context) (imported : List GlobalType) (m : Syntax Ops) : Type 0 where
  pub globals : All (IsGlobal imported) m.globals
  pub elements : All (IsElements cx imported) m.elements
  pub segments : All (IsData cx imported) m.segments
  pub start : IsStart cx m.start
  pub exports : All (λ entry. Exists cx entry.desc) m.exports

-- each code is that of a function of the type beside it, as far as so many
abbrev pub AreFunctions : Context → List ℕ → List Code → ℕ → Type 0
AreFunctions cx kinds codes bound =
    (i kind : ℕ) (code : Code) → i < bound → slice_get kinds i ≡ Some kind → slice_get codes i ≡ Some code
    → IsFunction cx kind (code_view code)
