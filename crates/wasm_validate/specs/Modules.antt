-- Which modules are valid: WebAssembly Core 1.0, chapter 3.4, with a field for each rule.
use Rattle.std.specs.Prelude.{◌≡◌, ℕ, ◌<◌, ◌≤◌, List, [], length, Option, Some, None, slice_get, All}
use Rattle.wasm_values.specs.Syntax.{Ops}
use Rattle.wasm_module.specs.Sections.{Syntax}
use Rattle.wasm_module.specs.Entries.{Elements, Data, Function, Global}
use Rattle.wasm_values.specs.declared.types.ValType.TheVariants.{I32}
use Rattle.wasm_values.specs.declared.types.FuncType.{FuncType}
use Rattle.wasm_values.specs.declared.types.Bounds.{Bounds}
use Rattle.wasm_values.specs.declared.types.GlobalType.{GlobalType}
use Rattle.wasm_values.specs.declared.exports.Export.{Export}
use Rattle.wasm_values.specs.declared.exports.ExportDesc.{ExportDesc}
use Rattle.wasm_values.specs.declared.exports.ExportDesc.TheVariants as export
use Rattle.wasm_typing.specs.Functions.{IsFunction}
use Rattle.wasm_typing.specs.Context.{Context, imported_globals, module_context}
use Rattle.wasm_typing.specs.Typing.{HasType, IsConstant}

-- 3.2.1: a least size is at most the greatest.
abbrev pub AreOrdered : Bounds → Type 0
AreOrdered bounds = (most : ℕ) → bounds.max ≡ Some most → bounds.min ≤ most

-- 3.2.4: a memory has at most 65,536 pages.
abbrev pub most_type_pages : ℕ
most_type_pages = 65536

abbrev pub IsMemoryType : Bounds → Type 0
IsMemoryType bounds =
    (bounds.min ≤ most_type_pages) × ((most : ℕ) → bounds.max ≡ Some most → most ≤ most_type_pages)
    × AreOrdered bounds

-- 3.4.4: a global begins with a constant of its type.
abbrev pub IsGlobal : List GlobalType → Global Ops → Type 0
IsGlobal imported global = IsConstant imported global.1 global.0.value

-- 3.4.5: a segment of elements has a table, an offset that is a constant, and functions that exist.
abbrev pub IsElements : Context → List GlobalType → Elements Ops → Type 0
IsElements cx imported segment =
    (segment.0 < length cx.tables) × IsConstant imported segment.1.0 I32
    × All (λ func. func < length cx.funcs) segment.1.1

-- 3.4.6: a segment of data has a memory, and an offset that is a constant.
abbrev pub IsData : Context → List GlobalType → Data Ops → Type 0
IsData cx imported segment = (segment.0 < length cx.memories) × IsConstant imported segment.1.0 I32

-- 3.4.7: the start function takes and gives nothing.
abbrev pub IsStart : Context → Option ℕ → Type 0
IsStart cx None = Unit {0}
IsStart cx (Some func) = (type : FuncType) × HasType cx func type × (type.params ≡ []) × (type.result ≡ None)

-- 3.4.8: what is exported exists.
abbrev pub Exists : Context → ExportDesc → Type 0
Exists cx (export.Func index) = index < length cx.funcs
Exists cx (export.Table index) = index < length cx.tables
Exists cx (export.Memory index) = index < length cx.memories
Exists cx (export.Global index) = index < length cx.globals

-- 3.4.10: two exports of one name are one and the same.
abbrev pub NamesDiffer : List Export → Type 0
NamesDiffer exports =
    (i j : ℕ) (one other : Export) → slice_get exports i ≡ Some one → slice_get exports j ≡ Some other
    → one.name ≡ other.name → i ≡ j

-- 3.4.10: the module is valid.
pub record IsValid (m : Syntax Ops) : Type 0 where
  -- a type for each function, the imported ones too, and a code for each that the module defines
  pub funcs : All (λ index. index < length m.types) (module_context m).funcs
  pub counts : length m.funcs ≡ length m.codes
  pub codes : (i index : ℕ) (function : Function Ops)
      → slice_get m.funcs i ≡ Some index
      → slice_get m.codes i ≡ Some function
      → IsFunction (module_context m) index function
  pub tables : All AreOrdered (module_context m).tables
  pub memories : All IsMemoryType (module_context m).memories
  pub globals : All (IsGlobal (imported_globals m)) m.globals
  pub elements : All (IsElements (module_context m) (imported_globals m)) m.elements
  pub segments : All (IsData (module_context m) (imported_globals m)) m.segments
  pub start : IsStart (module_context m) m.start
  pub exports : All (λ entry. Exists (module_context m) entry.desc) m.exports
  pub names : NamesDiffer m.exports
  pub one_table : length (module_context m).tables ≤ 1
  pub one_memory : length (module_context m).memories ≤ 1
