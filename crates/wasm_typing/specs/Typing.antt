-- Which types instructions have: WebAssembly Core 1.0, chapter 3.3, with a case for each rule. Instructions
-- on floats have none.
-- A list of types is a stack with its top FIRST, so the standard's `[t1 t2]` is written `t2 ∷ t1 ∷ []`.
use Rattle.std.specs.Prelude.{◌≡◌, ◌≢◌, ◌≤◌, ◌^◌, ℕ, ℤ, true, List, [], ◌∷◌, ◌++◌, Option, None, Some}
use Rattle.std.specs.Prelude.{slice_get, reverse, All}
use Rattle.wasm_values.specs.Syntax.{Op, Ops, unreachable, nop, block, loop, if_else, br, br_if}
use Rattle.wasm_values.specs.Syntax.{br_table, return, call, call_indirect, drop_value, select}
use Rattle.wasm_values.specs.Syntax.{local_get, local_set, local_tee, global_get, global_set, load}
use Rattle.wasm_values.specs.Syntax.{store, memory_size, memory_grow, i32_const, i64_const, numeric}
use Rattle.wasm_values.specs.Syntax.{no_ops, next}
use Rattle.wasm_values.specs.declared.types.ValType.{ValType}
use Rattle.wasm_values.specs.declared.types.ValType.TheVariants.{I32, I64}
use Rattle.wasm_values.specs.declared.types.FuncType.{FuncType}
use Rattle.wasm_values.specs.declared.types.GlobalType.{GlobalType}
use Rattle.wasm_typing.specs.Context.{Context}
use Rattle.wasm_typing.specs.Operations.{Signature, signature_of, Access, load_of, store_of}

-- The types of a result, which has one at most.
abbrev pub types_of : Option ValType → List ValType
types_of None = []
types_of (Some value) = value ∷ []

-- The label takes this result. Labels stand innermost first.
abbrev pub Takes : List (Option ValType) → Option ValType → ℕ → Type 0
Takes labels result label = slice_get labels label ≡ Some result

-- The function has this type.
abbrev pub HasType : Context → ℕ → FuncType → Type 0
HasType cx func type =
    (index : ℕ) × (slice_get cx.funcs func ≡ Some index) × (slice_get cx.types index ≡ Some type)

-- There is a memory.
abbrev pub HasMemory : Context → Type 0
HasMemory cx = cx.memories ≢ []

-- There is a table.
abbrev pub HasTable : Context → Type 0
HasTable cx = cx.tables ≢ []

mutual
  -- What an instruction takes from the stack, and what it leaves there.
  pub data TypedOp (cx : Context) : List (Option ValType) → Op → List ValType → List ValType → Type 0 where
    -- 3.3.1, numbers
    i32_const_typed : {labels : List (Option ValType)} {number : ℤ}
        → TypedOp cx labels (i32_const number) [] (I32 ∷ [])
    i64_const_typed : {labels : List (Option ValType)} {number : ℤ}
        → TypedOp cx labels (i64_const number) [] (I64 ∷ [])
    numeric_typed : {labels : List (Option ValType)} {op : ℕ} (signature : Signature)
        → signature_of op ≡ Some signature
        → TypedOp cx labels (numeric op) signature.operands (signature.result ∷ [])
    -- 3.3.2, parametric instructions
    drop_typed : {labels : List (Option ValType)} {value : ValType}
        → TypedOp cx labels drop_value (value ∷ []) []
    select_typed : {labels : List (Option ValType)} {value : ValType}
        → TypedOp cx labels select (I32 ∷ value ∷ value ∷ []) (value ∷ [])
    -- 3.3.3, variables
    local_get_typed : {labels : List (Option ValType)} {value : ValType} {local : ℕ}
        → slice_get cx.locals local ≡ Some value → TypedOp cx labels (local_get local) [] (value ∷ [])
    local_set_typed : {labels : List (Option ValType)} {value : ValType} {local : ℕ}
        → slice_get cx.locals local ≡ Some value → TypedOp cx labels (local_set local) (value ∷ []) []
    local_tee_typed : {labels : List (Option ValType)} {value : ValType} {local : ℕ}
        → slice_get cx.locals local ≡ Some value
        → TypedOp cx labels (local_tee local) (value ∷ []) (value ∷ [])
    global_get_typed : {labels : List (Option ValType)} {global : ℕ} (type : GlobalType)
        → slice_get cx.globals global ≡ Some type → TypedOp cx labels (global_get global) [] (type.value ∷ [])
    global_set_typed : {labels : List (Option ValType)} {global : ℕ} (type : GlobalType)
        → slice_get cx.globals global ≡ Some type → type.mutable ≡ true
        → TypedOp cx labels (global_set global) (type.value ∷ []) []
    -- 3.3.4, memory: the alignment, a power of two, is at most the bytes that are moved
    load_typed : {labels : List (Option ValType)} {op align offset : ℕ} (access : Access)
        → load_of op ≡ Some access → HasMemory cx → 2 ^ align ≤ access.bytes
        → TypedOp cx labels (load op align offset) (I32 ∷ []) (access.value ∷ [])
    store_typed : {labels : List (Option ValType)} {op align offset : ℕ} (access : Access)
        → store_of op ≡ Some access → HasMemory cx → 2 ^ align ≤ access.bytes
        → TypedOp cx labels (store op align offset) (access.value ∷ I32 ∷ []) []
    memory_size_typed : {labels : List (Option ValType)} → HasMemory cx
        → TypedOp cx labels memory_size [] (I32 ∷ [])
    memory_grow_typed : {labels : List (Option ValType)} → HasMemory cx
        → TypedOp cx labels memory_grow (I32 ∷ []) (I32 ∷ [])
    -- 3.3.5, control
    nop_typed : {labels : List (Option ValType)} → TypedOp cx labels nop [] []
    unreachable_typed : {labels : List (Option ValType)} {from to : List ValType}
        → TypedOp cx labels unreachable from to
    block_typed : {labels : List (Option ValType)} {result : Option ValType} {body : Ops}
        → Typed cx (result ∷ labels) body [] (types_of result)
        → TypedOp cx labels (block result body) [] (types_of result)
    loop_typed : {labels : List (Option ValType)} {result : Option ValType} {body : Ops}
        → Typed cx (None ∷ labels) body [] (types_of result)
        → TypedOp cx labels (loop result body) [] (types_of result)
    if_typed : {labels : List (Option ValType)} {result : Option ValType} {first second : Ops}
        → Typed cx (result ∷ labels) first [] (types_of result)
        → Typed cx (result ∷ labels) second [] (types_of result)
        → TypedOp cx labels (if_else result first second) (I32 ∷ []) (types_of result)
    br_typed : {labels : List (Option ValType)} {result : Option ValType} {label : ℕ} {to : List ValType}
        (from : List ValType)
        → Takes labels result label
        → TypedOp cx labels (br label) (types_of result ++ from) to
    br_if_typed : {labels : List (Option ValType)} {result : Option ValType} {label : ℕ}
        → Takes labels result label
        → TypedOp cx labels (br_if label) (I32 ∷ types_of result) (types_of result)
    br_table_typed : {labels : List
        (Option ValType)} {result : Option ValType} {several : List ℕ} {last : ℕ} {to : List ValType}
        (from : List ValType)
        → All (Takes labels result) several → Takes labels result last
        → TypedOp cx labels (br_table several last) (I32 ∷ types_of result ++ from) to
    return_typed : {labels : List (Option ValType)} {to : List ValType} (from : List ValType)
        → TypedOp cx labels return (types_of cx.result ++ from) to
    call_typed : {labels : List (Option ValType)} {func : ℕ} (type : FuncType)
        → HasType cx func type
        → TypedOp cx labels (call func) (reverse type.params) (types_of type.result)
    call_indirect_typed : {labels : List (Option ValType)} {index : ℕ} (type : FuncType)
        → HasTable cx → slice_get cx.types index ≡ Some type
        → TypedOp cx labels (call_indirect index) (I32 ∷ reverse type.params) (types_of type.result)

  -- 3.3.6, instructions in order: each may leave further types below its operands as they are.
  pub data Typed (cx : Context) : List (Option ValType) → Ops → List ValType → List ValType → Type 0 where
    none_typed : {labels : List (Option ValType)} {types : List ValType} → Typed cx labels no_ops types types
    next_typed : {labels : List (Option ValType)} {op : Op} {ops : Ops} {ins outs to : List ValType}
        (below : List ValType)
        → TypedOp cx labels op ins outs
        → Typed cx labels ops (outs ++ below) to
        → Typed cx labels (next op ops) (ins ++ below) to

-- 3.3.7, an expression goes from no types to exactly its result. A branch to the label of a function's body
-- returns.
abbrev pub TypedBody : Context → Ops → Type 0
TypedBody cx body = Typed cx (cx.result ∷ []) body [] (types_of cx.result)

-- 3.3.7, a constant of a type: one constant, or an imported global that is not mutable.
pub data IsConstant (imported : List GlobalType) : Ops → ValType → Type 0 where
  constant_i32 : {number : ℤ} → IsConstant imported (next (i32_const number) no_ops) I32
  constant_i64 : {number : ℤ} → IsConstant imported (next (i64_const number) no_ops) I64
  constant_global : {global : ℕ} (type : GlobalType)
      → slice_get imported global ≡ Some type → (type.mutable ≡ true → ⊥)
      → IsConstant imported (next (global_get global) no_ops) type.value
