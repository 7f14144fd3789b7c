-- Whether a module links against the calls of a host, and what a run of it begins with: WebAssembly Core 1.0,
-- chapter 4.5.4.
use Rattle.std.specs.Prelude.{◌≡◌, ℕ, ◌+◌, ◌<◌, ◌≤◌, List, [], ◌∷◌, ◌++◌, length, map, replicate, codes}
use Rattle.std.specs.Prelude.{Option, Some, None, slice_get, take, drop, All}
use Rattle.std.specs.Option.{unwrap_or}
use Rattle.std.specs.Int.{w32, w64, cast_unsigned}
use Rattle.wasm_values.specs.Syntax.{Ops, no_ops, next, i32_const, i64_const}
use Rattle.wasm_module.specs.Entries.{Elements, Data, Function}
use Rattle.wasm_module.specs.Sections.{Syntax}
use Rattle.wasm_values.specs.declared.types.FuncType.{FuncType}
use Rattle.wasm_values.specs.declared.types.Bounds.{Bounds}
use Rattle.wasm_values.specs.declared.imports.Import.{Import}
use Rattle.wasm_values.specs.declared.imports.ImportDesc.TheVariants as import
use Rattle.wasm_values.specs.declared.exports.Export.{Export}
use Rattle.wasm_values.specs.declared.exports.ExportDesc.TheVariants as export
use Rattle.wasm_store.specs.Memory.{Memory, fresh, written, most_pages}
use Rattle.wasm_typing.specs.Context.{module_context, locals_of}
use Rattle.wasm_typing.specs.Typing.{HasType}
use Rattle.wasm_steps.specs.Program.{imported, defined, Program, Store}
use Rattle.wasm_values.specs.declared.host_sig.HostSig.{HostSig}
use Rattle.wasm_link.specs.declared.fault.LinkFault.{LinkFault}
use Rattle.wasm_link.specs.declared.fault.LinkFault.TheVariants as fault

-- ---- imports and the export `loop`

-- The import names the call of this number.
pub record Names (sigs : List HostSig) (entry : Import) (number : ℕ) (sig : HostSig) : Type 0 where
  pub stands : slice_get sigs number ≡ Some sig
  pub host : entry.module ≡ sig.module.now
  pub name : entry.name ≡ sig.name.now
  pub first : (earlier : ℕ) (other : HostSig) → earlier < number → slice_get sigs earlier ≡ Some other
      → entry.module ≡ other.module.now → entry.name ≡ other.name.now → ⊥

abbrev pub IsKnown : List HostSig → Import → Type 0
IsKnown sigs entry = (number : ℕ) × (sig : HostSig) × Names sigs entry number sig

-- It is a function of the type of the call that it names.
pub record IsOfKind (sigs : List HostSig) (types : List FuncType) (entry : Import) : Type 0 where
  pub number : ℕ
  pub sig : HostSig
  pub index : ℕ
  pub type : FuncType
  pub named : Names sigs entry number sig
  pub func : entry.desc ≡ import.Func index
  pub declared : slice_get types index ≡ Some type
  pub params : type.params ≡ sig.params.now
  pub result : type.result ≡ sig.result

-- A function of no parameters and no result is exported as `loop`.
pub record HasLoop (m : Syntax Ops) (func : ℕ) : Type 0 where
  pub place : ℕ
  pub entry : Export
  pub type : FuncType
  pub stands : slice_get m.exports place ≡ Some entry
  pub name : entry.name ≡ codes "loop"
  pub kind : entry.desc ≡ export.Func func
  pub typed : HasType (module_context m) func type
  pub params : type.params ≡ []
  pub result : type.result ≡ None

-- ---- the store at first

-- the value of a constant; a module that links imports no global, so no other stands
abbrev pub constant : Ops → ℕ
constant (next (i32_const number) no_ops) = cast_unsigned w32 number
constant (next (i64_const number) no_ops) = cast_unsigned w64 number
constant _ = 0

-- the least size of the one table, and the memory of the one memory's limits, where there is one
abbrev pub table_size : List Bounds → ℕ
table_size [] = 0
table_size (bounds ∷ more) = bounds.min

abbrev pub first_memory : List Bounds → Memory
first_memory [] = fresh 0 0
first_memory (bounds ∷ more) = fresh bounds.min (unwrap_or bounds.max most_pages)

-- the table with these functions from a place on, and the memory with these bytes
abbrev pub filled : List (Option ℕ) → Elements Ops → List (Option ℕ)
filled table segment =
    take (constant segment.1.0) table
    ++ (map Some segment.1.1 ++ drop (constant segment.1.0 + length segment.1.1) table)

abbrev pub first_table : List (Option ℕ) → List (Elements Ops) → List (Option ℕ)
first_table table [] = table
first_table table (segment ∷ segments) = first_table (filled table segment) segments

abbrev pub with_segments : Memory → List (Data Ops) → Memory
with_segments memory [] = memory
with_segments memory (segment ∷ segments) =
    with_segments (written memory (constant segment.1.0) segment.1.1) segments

abbrev pub first_store : Syntax Ops → Store
first_store m = record {
  memory = with_segments (first_memory m.memories) m.segments;
  globals = map (λ global. constant global.1) m.globals;
  table = first_table (replicate (table_size m.tables) None) m.elements;
}

-- ---- segments

-- Where a segment stands: from which place on, how many entries it has, and how many there are.
pub record Span : Type 0 where
  pub offset : ℕ
  pub count : ℕ
  pub size : ℕ

abbrev pub table_span : Syntax Ops → Elements Ops → Span
table_span m segment =
    record { offset = constant segment.1.0; count = length segment.1.1; size = table_size m.tables }

abbrev pub memory_span : Syntax Ops → Data Ops → Span
memory_span m segment =
    record {
      offset = constant segment.1.0;
      count = length segment.1.1;
      size = length (first_memory m.memories).bytes;
    }

-- all segments, those of the table first
abbrev pub spans : Syntax Ops → List Span
spans m = map (table_span m) m.elements ++ map (memory_span m) m.segments

-- It ends at the end at most, and so begins there at most where it is empty.
abbrev pub Fits : Span → Type 0
Fits span = span.offset + span.count ≤ span.size

-- ---- what is linked

-- The functions of the module that imports these calls: first the imported ones, then its own.
pub record IsProgram (sigs : List HostSig) (m : Syntax Ops) (program : Program) : Type 0 where
  pub types : program.types ≡ m.types
  pub count : length program.functions ≡ length m.imports + length m.codes
  pub imports : (i number index : ℕ) (entry : Import) (sig : HostSig) (type : FuncType)
      → slice_get m.imports i ≡ Some entry → Names sigs entry number sig → entry.desc ≡ import.Func index
      → slice_get m.types index ≡ Some type
      → slice_get program.functions i ≡ Some (imported type number)
  pub own : (i index : ℕ) (type : FuncType) (function : Function Ops)
      → slice_get m.funcs i ≡ Some index → slice_get m.types index ≡ Some type
      → slice_get m.codes i ≡ Some function
      → slice_get program.functions (length m.imports + i)
      ≡ Some (defined type (length (locals_of function.0)) function.1)

-- A module with its program and its function `loop`.
pub record Link : Type 0 where
  pub whole : Syntax Ops
  pub program : Program
  pub main : ℕ

pub record IsLinked (sigs : List HostSig) (m : Syntax Ops) (link : Link) : Type 0 where
  pub same : link.whole ≡ m
  pub imports : All (IsOfKind sigs m.types) m.imports
  pub main : HasLoop m link.main
  pub segments : All Fits (spans m)
  pub program : IsProgram sigs m link.program

-- ---- why a module is not linked

-- The entry of this place is the first that is not so.
pub record FirstNot {A : Type 0} (P : A → Type 0) (entries : List A) (place : ℕ) : Type 0 where
  pub entry : A
  pub stands : slice_get entries place ≡ Some entry
  pub refused : P entry → ⊥
  pub before : (earlier : ℕ) (other : A) → earlier < place → slice_get entries earlier ≡ Some other → P other

-- The reasons in their order: an import that no call has, one of another kind or type, no `loop`, a segment
-- past the end.
abbrev pub IsFault : List HostSig → Syntax Ops → LinkFault → Type 0
IsFault sigs m (fault.UnknownImport place) = FirstNot (IsKnown sigs) m.imports place
IsFault sigs m (fault.ImportKind place) =
    All (IsKnown sigs) m.imports × FirstNot (IsOfKind sigs m.types) m.imports place
IsFault sigs m fault.NoLoop = All (IsOfKind sigs m.types) m.imports × ((func : ℕ) → HasLoop m func → ⊥)
IsFault sigs m (fault.Segment place) =
    All (IsOfKind sigs m.types) m.imports × (func : ℕ) × HasLoop m func × FirstNot Fits (spans m) place
IsFault sigs m fault.Memory = Unit {0}

-- The module links.
pub record IsLinkable (sigs : List HostSig) (m : Syntax Ops) : Type 0 where
  pub imports : All (IsOfKind sigs m.types) m.imports
  pub main : ℕ
  pub loop : HasLoop m main
  pub segments : All Fits (spans m)
