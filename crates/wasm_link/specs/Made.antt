-- What the code makes of the parts of a module before it links it.
use Rattle.std.specs.Prelude.{◌≡◌, ◌⊎◌, ℕ, ◌+◌, ◌<◌, ◌≤◌, ◌^◌, List, [], ◌∷◌, length, map, codes, Option}
use Rattle.std.specs.Prelude.{Some, None, slice_get, All}
use Rattle.std.specs.Option.{unwrap_or}
use Rattle.wasm_values.specs.Syntax.{Ops, no_ops}
use Rattle.wasm_values.specs.View.{instrs_view}
use Rattle.wasm_module.specs.Entries.{Function}
use Rattle.wasm_module.specs.Sections.{Syntax}
use Rattle.wasm_module.specs.declared.elements.Element.{Element}
use Rattle.wasm_values.specs.declared.exports.Export.{Export}
use Rattle.wasm_values.specs.declared.exports.ExportDesc.TheVariants as export
use Rattle.wasm_values.specs.declared.host_sig.HostSig.{HostSig}
use Rattle.wasm_values.specs.declared.imports.Import.{Import}
use Rattle.wasm_values.specs.declared.imports.ImportDesc.{ImportDesc}
use Rattle.wasm_values.specs.declared.imports.ImportDesc.TheVariants as import
use Rattle.wasm_module.specs.declared.segments.Segment.{Segment}
use Rattle.wasm_values.specs.declared.types.Bounds.{Bounds}
use Rattle.wasm_values.specs.declared.types.FuncType.{FuncType}
use Rattle.wasm_values.specs.declared.types.ValType.{ValType}
use Rattle.wasm_values.specs.declared.types.ValType.TheVariants.{I32, I64, F32, F64}
use Rattle.wasm_typing.specs.Context.{locals_of}
use Rattle.wasm_store.specs.Memory.{most_pages}
use Rattle.wasm_steps.specs.Program.{imported, defined, Program}
use Rattle.wasm_steps.specs.Program as steps
use Rattle.wasm_steps.specs.Threads.{arity}
use Rattle.wasm_link.specs.Linking.{Names, IsKnown, IsOfKind, Span, FirstNot, constant}
use Rattle.wasm_link.specs.declared.entries.Entry.{Entry}
use Rattle.wasm_link.specs.declared.entries.Entry.TheVariants as code
use Rattle.wasm_link.specs.declared.fault.LinkFault.{LinkFault}
use Rattle.wasm_link.specs.declared.fault.LinkFault.TheVariants as fault

-- What holds of each element at its place.
pub record EachAt {A : Type 0} (P : ℕ → A → Type 0) (entries : List A) : Type 0 where
  pub each : (place : ℕ) (entry : A) → slice_get entries place ≡ Some entry → P place entry

-- ---- the names of imports

-- The call has the module and the name of the import.
abbrev pub HasNames : HostSig → Import → Type 0
HasNames sig entry = (entry.module ≡ sig.module.now) × (entry.name ≡ sig.name.now)

-- The import names the call of this number.
abbrev pub IsNamed : List HostSig → Import → ℕ → Type 0
IsNamed sigs entry number = (sig : HostSig) × Names sigs entry number sig

abbrev pub IsNamedAt : List HostSig → List Import → ℕ → ℕ → Type 0
IsNamedAt sigs imports place number =
    (entry : Import) × (slice_get imports place ≡ Some entry) × IsNamed sigs entry number

-- The imports name the calls of these numbers.
pub record AreNamed (sigs : List HostSig) (imports : List Import) (numbers : List ℕ) : Type 0 where
  pub count : length numbers ≡ length imports
  pub named : EachAt (IsNamedAt sigs imports) numbers

abbrev pub IsUnknown : List HostSig → List Import → LinkFault → Type 0
IsUnknown sigs imports (fault.UnknownImport place) = FirstNot (IsKnown sigs) imports place
IsUnknown sigs imports fault.Memory = Unit {0}
IsUnknown sigs imports _ = ⊥

-- ---- the types of imports

-- What is imported is a function of this type, which is the type of the call.
pub record HasKind (types : List FuncType) (desc : ImportDesc) (sig : HostSig) (kind : ℕ) : Type 0 where
  pub type : FuncType
  pub func : desc ≡ import.Func kind
  pub declared : slice_get types kind ≡ Some type
  pub params : type.params ≡ sig.params.now
  pub result : type.result ≡ sig.result

abbrev pub IsImportedAt : List HostSig → List FuncType → List Import → ℕ → Entry → Type 0
IsImportedAt sigs types imports place made =
    (entry : Import) × (slice_get imports place ≡ Some entry) × (number : ℕ) × (sig : HostSig)
    × Names sigs entry number sig × (kind : ℕ) × HasKind types entry.desc sig kind
    × (made ≡ code.Imported kind number)

pub record AreImported (sigs : List HostSig) (types : List FuncType) (imports : List Import)
    (functions : List Entry) : Type 0 where
  pub count : length functions ≡ length imports
  pub imported : EachAt (IsImportedAt sigs types imports) functions

abbrev pub IsOtherKind : List HostSig → List FuncType → List Import → LinkFault → Type 0
IsOtherKind sigs types imports (fault.ImportKind place) = FirstNot (IsOfKind sigs types) imports place
IsOtherKind sigs types imports fault.Memory = Unit {0}
IsOtherKind sigs types imports _ = ⊥

-- ---- the functions of the module

abbrev pub kind_of : Entry → ℕ
kind_of (code.Imported kind call) = kind
kind_of (code.Defined kind place params more results) = kind

-- the entry of a function of this type and this code
abbrev pub own_entry : ℕ → ℕ → FuncType → Function Ops → Entry
own_entry place index type function =
    code.Defined index place (length type.params) (length (locals_of function.0)) (arity type.result)

abbrev pub IsOwnAt : Syntax Ops → ℕ → Entry → Type 0
IsOwnAt m place made =
    (index : ℕ) × (type : FuncType) × (function : Function Ops) × (slice_get m.funcs place ≡ Some index)
    × (slice_get m.types index ≡ Some type) × (slice_get m.codes place ≡ Some function)
    × (made ≡ own_entry place index type function)

pub record AreOwn (m : Syntax Ops) (functions : List Entry) : Type 0 where
  pub count : length functions ≡ length m.codes
  pub own : EachAt (IsOwnAt m) functions

-- ---- the function `loop`

-- The function has no parameters and no result, among functions of types of these indices.
abbrev pub IsPlain : List FuncType → List ℕ → ℕ → Type 0
IsPlain types kinds func =
    (type : FuncType)
    × ((index : ℕ) × (slice_get kinds func ≡ Some index) × (slice_get types index ≡ Some type))
    × (type.params ≡ []) × (type.result ≡ None)

abbrev pub IsLoop : List FuncType → List ℕ → Export → ℕ → Type 0
IsLoop types kinds entry func =
    (entry.name ≡ codes "loop") × (entry.desc ≡ export.Func func) × IsPlain types kinds func

-- ---- segments

abbrev pub element_span : ℕ → Element → Span
element_span size segment =
    record { offset = constant (instrs_view segment.offset); count = length segment.funcs; size = size }

abbrev pub data_span : ℕ → Segment → Span
data_span size segment =
    record { offset = constant (instrs_view segment.offset); count = length segment.bytes; size = size }

-- A memory that may be made: no more pages at first than there may be, and no more than its most.
abbrev pub IsSmall : Bounds → Type 0
IsSmall bounds = (bounds.min ≤ most_pages) × ((most : ℕ) → bounds.max ≡ Some most → bounds.min ≤ most)

-- ---- types

-- a byte for each value type, and for each result
abbrev pub code_of : ValType → ℕ
code_of I32 = 0
code_of I64 = 1
code_of F32 = 2
code_of F64 = 3

abbrev pub result_code : Option ValType → ℕ
result_code None = 4
result_code (Some value) = code_of value

abbrev pub text_of : FuncType → List ℕ
text_of type = result_code type.result ∷ map code_of type.params

-- Two entries have one class exactly where they are equal.
pub record AreClasses {A : Type 0} (entries : List A) (classes : List ℕ) : Type 0 where
  pub count : length classes ≡ length entries
  pub equal : (i j class : ℕ) (one other : A) → slice_get entries i ≡ Some one
      → slice_get entries j ≡ Some other → slice_get classes i ≡ Some class → slice_get classes j ≡ Some class
      → one ≡ other
  pub same : (i j class other : ℕ) (one : A) → slice_get entries i ≡ Some one → slice_get entries j ≡ Some one
      → slice_get classes i ≡ Some class → slice_get classes j ≡ Some other → class ≡ other

-- ---- the whole

-- the function that an entry stands for
abbrev pub no_type : FuncType
no_type = record { params = []; result = None }

abbrev pub body_in : Option (Function Ops) → Ops
body_in None = no_ops
body_in (Some function) = function.1

abbrev pub function_of : Syntax Ops → Entry → steps.Function
function_of m (code.Imported kind call) = imported (unwrap_or (slice_get m.types kind) no_type) call
function_of m (code.Defined kind place params more results) =
    defined (unwrap_or (slice_get m.types kind) no_type) more (body_in (slice_get m.codes place))

abbrev pub program_of : Syntax Ops → List Entry → Program
program_of m entries = record { types = m.types; functions = map (function_of m) entries }

-- What an entry says is so.
abbrev pub IsEntryOf : Syntax Ops → Entry → Type 0
IsEntryOf m (code.Imported kind call) = (type : FuncType) × (slice_get m.types kind ≡ Some type)
IsEntryOf m (code.Defined kind place params more results) =
    (type : FuncType) × (function : Function Ops) × (slice_get m.types kind ≡ Some type)
    × (slice_get m.codes place ≡ Some function) × (params ≡ length type.params)
    × (results ≡ arity type.result)

-- The lists are short enough to count their entries by 32 bits.
pub record IsCounted (m : Syntax Ops) : Type 0 where
  pub types : length m.types < 2 ^ 32
  pub imports : length m.imports < 2 ^ 32
  pub globals : length m.globals < 2 ^ 32
  pub segments : length m.elements + length m.segments < 2 ^ 32

-- Calls that take or give something.
abbrev pub AreBusy : List HostSig → Type 0
AreBusy sigs = All (λ sig. sig.params.now ≡ [] → sig.result ≡ None → ⊥) sigs

abbrev pub IsNumberOf : List HostSig → ℕ → ℕ → Type 0
IsNumberOf sigs place number = number < length sigs

-- The calls of these numbers have no more parameters than this.
abbrev pub HaveAtMost : List HostSig → List ℕ → ℕ → Type 0
HaveAtMost sigs numbers most =
    EachAt (λ place number. (sig : HostSig) → slice_get sigs number ≡ Some sig
    → length sig.params.now ≤ most) numbers

-- No call of these numbers has more parameters, and one has so many; it is 0 where there is none.
pub record HaveMost (sigs : List HostSig) (numbers : List ℕ) (most : ℕ) : Type 0 where
  pub bound : HaveAtMost sigs numbers most
  pub met : (most ≡ 0) ⊎ ((place number : ℕ) × (sig : HostSig) × (slice_get numbers place ≡ Some number)
      × (slice_get sigs number ≡ Some sig) × (length sig.params.now ≡ most))
