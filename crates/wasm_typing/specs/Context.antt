-- What stands around an instruction: the context of WebAssembly Core 1.0, chapter 3.1.1, and that of a
-- module's functions, chapter 3.4.10.
use Rattle.std.specs.Prelude.{ℕ, List, [], ◌++◌, map, replicate, Option, Some, None}
use Rattle.std.specs.List.{filter_map, flat_map}
use Rattle.wasm_values.specs.Syntax.{Ops}
use Rattle.wasm_module.specs.Sections.{Syntax}
use Rattle.wasm_values.specs.declared.types.ValType.{ValType}
use Rattle.wasm_values.specs.declared.types.FuncType.{FuncType}
use Rattle.wasm_values.specs.declared.types.Bounds.{Bounds}
use Rattle.wasm_values.specs.declared.types.GlobalType.{GlobalType}
use Rattle.wasm_module.specs.declared.codes.LocalRun.{LocalRun}
use Rattle.wasm_values.specs.declared.imports.ImportDesc.{ImportDesc}
use Rattle.wasm_values.specs.declared.imports.ImportDesc.TheVariants as import

-- The types that the module declares; the index of its type for each function; the types of the tables, the
-- memories and the globals; and
-- the locals and the result of the function that the instruction is in. The imported ones come first. The
-- labels stand beside it, since
-- they grow at each block.
pub record Context : Type 0 where
  pub types : List FuncType
  pub funcs : List ℕ
  pub tables : List Bounds
  pub memories : List Bounds
  pub globals : List GlobalType
  pub locals : List ValType
  pub result : Option ValType

-- ---- what is imported, by its kind

abbrev pub imported_func : ImportDesc → Option ℕ
imported_func (import.Func index) = Some index
imported_func _ = None

abbrev pub imported_table : ImportDesc → Option Bounds
imported_table (import.Table bounds) = Some bounds
imported_table _ = None

abbrev pub imported_memory : ImportDesc → Option Bounds
imported_memory (import.Memory bounds) = Some bounds
imported_memory _ = None

abbrev pub imported_global : ImportDesc → Option GlobalType
imported_global (import.Global type) = Some type
imported_global _ = None

-- the globals that are imported, which alone may stand in a constant
abbrev pub imported_globals : Syntax Ops → List GlobalType
imported_globals m = filter_map (λ entry. imported_global entry.desc) m.imports

-- ---- the context of a module, and that of a function

-- outside of functions
abbrev pub module_context : Syntax Ops → Context
module_context m = record {
  types = m.types;
  funcs = filter_map (λ entry. imported_func entry.desc) m.imports ++ m.funcs;
  tables = filter_map (λ entry. imported_table entry.desc) m.imports ++ m.tables;
  memories = filter_map (λ entry. imported_memory entry.desc) m.imports ++ m.memories;
  globals = imported_globals m ++ map (λ global. global.0) m.globals;
  locals = [];
  result = None;
}

-- the locals that the runs say, one by one
abbrev pub locals_of : List LocalRun → List ValType
locals_of = flat_map (λ run. replicate run.count run.value)

-- inside of a function of this type with these runs of locals: the parameters come first
abbrev pub function_context : Context → FuncType → List LocalRun → Context
function_context cx type runs = record cx { locals = type.params ++ locals_of runs; result = type.result }
