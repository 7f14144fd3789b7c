-- Threads, stores and programs that have a typing: what a run keeps, so that each instruction finds its
-- operands.
use Rattle.std.specs.Prelude.{◌≡◌, ℕ, ◌+◌, ◌^◌, ◌<◌, ◌≤◌, List, [], ◌∷◌, ◌++◌, length, map, Option, Some}
use Rattle.std.specs.Prelude.{slice_get}
use Rattle.wasm_values.specs.Syntax.{Ops, no_ops, ops_nesting}
use Rattle.wasm_values.specs.Nesting.{most_nesting}
use Rattle.wasm_values.specs.declared.types.ValType.{ValType}
use Rattle.wasm_values.specs.declared.types.ValType.TheVariants.{I32, I64, F32, F64}
use Rattle.wasm_values.specs.declared.types.FuncType.{FuncType}
use Rattle.wasm_typing.specs.Context.{Context}
use Rattle.wasm_typing.specs.Typing.{types_of, Typed, TypedBody}
use Rattle.wasm_steps.specs.Program.{Function, defined, type_of, Program, Store, most_frames, most_values}
use Rattle.wasm_steps.specs.Threads.{Level, label, frame, Thread, arity, frame_count, size}

-- ---- values

-- The number is a value of the type.
abbrev pub IsValue : ValType → ℕ → Type 0
IsValue I32 number = number < 2 ^ 32
IsValue I64 number = number < 2 ^ 64
IsValue F32 number = number < 2 ^ 32
IsValue F64 number = number < 2 ^ 64

-- The numbers are values of the types, one by one.
pub data AreValues : List ValType → List ℕ → Type 0 where
  no_values : AreValues [] []
  next_value : {type : ValType} {number : ℕ} {types : List ValType} {numbers : List ℕ} → IsValue type number
      → AreValues types numbers → AreValues (type ∷ types) (number ∷ numbers)

-- ---- threads

-- A function has a label for each of the blocks within one another that it may hold, and one of its own.
abbrev pub most_labels : ℕ
most_labels = most_nesting + 1

-- The context of a function with locals of these types and this result.
abbrev pub inside : Context → List ValType → Option ValType → Context
inside base locals result = record base { locals = locals; result = result }

-- The instructions go from these types to those, under these labels, and nest no deeper than there may be
-- labels. There are none outside of
-- functions, where no label is.
pub record GoesOn (cx : Context) (labels : List (Option ValType)) (ops : Ops)
    (from to : List ValType) : Type 0 where
  pub typed : Typed cx labels ops from to
  pub shallow : ops_nesting ops + length labels ≤ most_labels
  pub outside : labels ≡ [] → ops ≡ no_ops

-- What stands around instructions of a function with these locals and this result, under these labels, that
-- give these types. A block has the
-- label of its function further out.
pub data AreTyped (base : Context) : List ValType → Option ValType → List (Option ValType) → List ValType
    → List Level → Type 0 where
  typed_label : {locals gives to under : List ValType} {result takes outer : Option ValType} {labels : List
      (Option ValType)} {again rest : Ops} {below : List ℕ} {levels : List Level}
      → AreValues under below
      → GoesOn (inside base locals result) (outer ∷ labels) again (types_of takes ++ under) to
      → GoesOn (inside base locals result) (outer ∷ labels) rest (gives ++ under) to
      → AreTyped base locals result (outer ∷ labels) to levels
      → AreTyped base locals result (takes ∷ outer ∷ labels) gives (label (arity takes) again below rest
      ∷ levels)
  typed_frame : {locals callers to under : List ValType} {result outer : Option ValType} {labels : List
      (Option ValType)} {rest : Ops} {held below : List ℕ} {levels : List Level}
      → AreValues callers held
      → AreValues under below
      → GoesOn (inside base callers outer) labels rest (types_of result ++ under) to
      → AreTyped base callers outer labels to levels
      → AreTyped base locals result (result ∷ []) (types_of result)
      (frame (arity result) held below rest ∷ levels)
  typed_end : {locals gives : List ValType} {result : Option ValType}
      → AreTyped base locals result [] gives []

-- A thread in the context of a module.
pub record IsTyped (base : Context) (thread : Thread) : Type 0 where
  pub types : List ValType
  pub result : Option ValType
  pub labels : List (Option ValType)
  pub from : List ValType
  pub to : List ValType
  pub locals : AreValues types thread.locals
  pub operands : AreValues from thread.operands
  pub code : GoesOn (inside base types result) labels thread.code from to
  pub levels : AreTyped base types result labels to thread.levels
  pub room : size thread ≤ most_values
  pub frames : frame_count thread.levels ≤ most_frames

-- ---- programs and stores

-- A function of the module: its body has its type.
pub record IsBody (base : Context) (type : FuncType) (more : ℕ) (body : Ops) : Type 0 where
  pub locals : List ValType
  pub count : length locals ≡ more
  pub typed : TypedBody (inside base (type.params ++ locals) type.result) body
  pub shallow : ops_nesting body + 1 ≤ most_labels
  pub room : length type.params + more ≤ most_values

-- The functions of a program in the context of a module.
pub record IsTypedProgram (base : Context) (program : Program) : Type 0 where
  pub types : program.types ≡ base.types
  pub count : length program.functions ≡ length base.funcs
  pub functions : (func index : ℕ) (found : Function) → slice_get program.functions func ≡ Some found
      → slice_get base.funcs func ≡ Some index → slice_get base.types index ≡ Some (type_of found)
  pub bodies : (func : ℕ) (type : FuncType) (more : ℕ) (body : Ops)
      → slice_get program.functions func ≡ Some (defined type more body) → IsBody base type more body

-- The globals have values of their types, and the table names functions.
pub record IsTypedStore (base : Context) (store : Store) : Type 0 where
  pub globals : AreValues (map (λ type. type.value) base.globals) store.globals
  pub table : (entry func : ℕ) → slice_get store.table entry ≡ Some (Some func) → func < length base.funcs
