-- What typed threads offer to the instructions that neither branch nor call.
use Rattle.std.proofs.Common.{◌≡◌, ℕ, ℤ, ◌<◌, ◌≤◌, List, [], ◌∷◌, map, refl, ap, ◌∙◌, length, drop, get_or, slice_set, Option, Some, slice_get, option_map, arith, length-drop, length-set}
use Rattle.std.proofs.lemmas.Option.{slice_get-map}
use Rattle.wasm_values.specs.Syntax.{nop, drop_value, select, local_get, local_set, local_tee, global_get, global_set, load, store, memory_size, memory_grow, i32_const, i64_const, numeric, float_memory, float_const, float_plain}
use Rattle.wasm_values.specs.declared.instr.FloatBytes.{FloatBytes}
use Rattle.wasm_values.specs.declared.types.ValType.{ValType}
use Rattle.wasm_values.specs.declared.types.ValType.TheVariants.{I32, I64}
use Rattle.wasm_values.specs.declared.types.GlobalType.{GlobalType}
use Rattle.wasm_typing.specs.Context.{Context}
use Rattle.wasm_typing.specs.Operations.{Signature, signature_of, Access, load_of, store_of}
use Rattle.wasm_typing.specs.Typing.{TypedOp, numeric_typed, drop_typed, select_typed, local_get_typed, local_set_typed, local_tee_typed, global_get_typed, global_set_typed, load_typed, store_typed}
use Rattle.wasm_typing.proofs.Instructions as instructions
use Rattle.wasm_steps.specs.Program.{Store}
use Rattle.wasm_steps.specs.Threads.{Thread}
use Rattle.wasm_soundness.specs.Typed.{IsValue, no_values, IsTyped, IsTypedStore}
use Rattle.wasm_soundness.specs.Ready.{pending, Offers}
use Rattle.wasm_soundness.proofs.Values.{value_at, values_set, top_off}
use Rattle.wasm_soundness.proofs.Pending.{ready, operands_as, typed_behind, offered_as}

-- ---- which types they have

module _ {cx : Context} {labels : List (Option ValType)} where
  has_numeric : {op : ℕ} {ins outs : List ValType} → TypedOp cx labels (numeric op) ins outs → (signature : Signature) × (signature_of op ≡ Some signature) × (ins ≡ signature.operands) × (outs ≡ signature.result ∷ [])
  has_numeric (numeric_typed signature known) = (signature, known, refl, refl)

  has_drop : {ins outs : List ValType} → TypedOp cx labels drop_value ins outs → (type : ValType) × (ins ≡ type ∷ []) × (outs ≡ [])
  has_drop (drop_typed {value = type}) = (type, refl, refl)

  has_select : {ins outs : List ValType} → TypedOp cx labels select ins outs → (type : ValType) × (ins ≡ I32 ∷ type ∷ type ∷ []) × (outs ≡ type ∷ [])
  has_select (select_typed {value = type}) = (type, refl, refl)

  has_local_get : {local : ℕ} {ins outs : List ValType} → TypedOp cx labels (local_get local) ins outs → (type : ValType) × (slice_get cx.locals local ≡ Some type) × (ins ≡ []) × (outs ≡ type ∷ [])
  has_local_get (local_get_typed {value = type} known) = (type, known, refl, refl)

  has_local_set : {local : ℕ} {ins outs : List ValType} → TypedOp cx labels (local_set local) ins outs → (type : ValType) × (slice_get cx.locals local ≡ Some type) × (ins ≡ type ∷ []) × (outs ≡ [])
  has_local_set (local_set_typed {value = type} known) = (type, known, refl, refl)

  has_local_tee : {local : ℕ} {ins outs : List ValType} → TypedOp cx labels (local_tee local) ins outs → (type : ValType) × (slice_get cx.locals local ≡ Some type) × (ins ≡ type ∷ []) × (outs ≡ type ∷ [])
  has_local_tee (local_tee_typed {value = type} known) = (type, known, refl, refl)

  has_global_get : {global : ℕ} {ins outs : List ValType} → TypedOp cx labels (global_get global) ins outs → (type : GlobalType) × (slice_get cx.globals global ≡ Some type) × (ins ≡ []) × (outs ≡ type.value ∷ [])
  has_global_get (global_get_typed type known) = (type, known, refl, refl)

  has_global_set : {global : ℕ} {ins outs : List ValType} → TypedOp cx labels (global_set global) ins outs → (type : GlobalType) × (slice_get cx.globals global ≡ Some type) × (ins ≡ type.value ∷ []) × (outs ≡ [])
  has_global_set (global_set_typed type known mutable) = (type, known, refl, refl)

  has_load : {op align offset : ℕ} {ins outs : List ValType} → TypedOp cx labels (load op align offset) ins outs → (access : Access) × (load_of op ≡ Some access) × (ins ≡ I32 ∷ []) × (outs ≡ access.value ∷ [])
  has_load (load_typed access known memory least) = (access, known, refl, refl)

  has_store : {op align offset : ℕ} {ins outs : List ValType} → TypedOp cx labels (store op align offset) ins outs → (access : Access) × (store_of op ≡ Some access) × (ins ≡ access.value ∷ I32 ∷ []) × (outs ≡ [])
  has_store (store_typed access known memory least) = (access, known, refl, refl)

-- ---- what they are offered

module _ {base : Context} (t : Thread) where
  -- numbers
  pub offers_i32_const : {number : ℤ} → IsTyped base (pending (i32_const number) t) → Offers base [] (I32 ∷ []) t
  offers_i32_const {number} p = let r = ready (i32_const number) t p in offered_as r (instructions.only_i32_const r.ins r.outs r.typed)

  pub offers_i64_const : {number : ℤ} → IsTyped base (pending (i64_const number) t) → Offers base [] (I64 ∷ []) t
  offers_i64_const {number} p = let r = ready (i64_const number) t p in offered_as r (instructions.only_i64_const r.ins r.outs r.typed)

  pub offers_numeric : (op : ℕ) → IsTyped base (pending (numeric op) t) → (signature : Signature) × (signature_of op ≡ Some signature) × Offers base signature.operands (signature.result ∷ []) t
  offers_numeric op p = let r = ready (numeric op) t p in let s = has_numeric r.typed in (s.0, s.1, offered_as r (s.2, s.3))

  -- operands
  pub nop_on : IsTyped base (pending nop t) → IsTyped base t
  nop_on p =
      let r = ready nop t p in
      (offered_as r (instructions.only_nop r.ins r.outs r.typed)).gives [] no_values r.room

  pub offers_drop : IsTyped base (pending drop_value t) → (type : ValType) × Offers base (type ∷ []) [] t
  offers_drop p = let r = ready drop_value t p in let s = has_drop r.typed in (s.0, offered_as r (s.1, s.2))

  pub offers_select : IsTyped base (pending select t) → (type : ValType) × Offers base (I32 ∷ type ∷ type ∷ []) (type ∷ []) t
  offers_select p = let r = ready select t p in let s = has_select r.typed in (s.0, offered_as r (s.1, s.2))

  -- locals
  pub offers_local_get : (local : ℕ) → IsTyped base (pending (local_get local) t) → (type : ValType) × (local < length t.locals) × IsValue type (get_or t.locals local 0) × Offers base [] (type ∷ []) t
  offers_local_get local p =
      let r = ready (local_get local) t p in
      let s = has_local_get r.typed in
      let v = value_at local s.0 r.locals s.1 in
      (s.0, v.0, v.1, offered_as r (s.2, s.3))

  pub sets_local : (local : ℕ) → IsTyped base (pending (local_set local) t)
      → (local < length t.locals) × (1 ≤ length t.operands) × IsTyped base (record t { locals = slice_set t.locals local (get_or t.operands 0 0); operands = drop 1 t.operands })
  sets_local local p =
      let r = ready (local_set local) t p in
      let s = has_local_set r.typed in
      let v = top_off t.operands (operands_as r s.2) in (
        (value_at local s.0 r.locals s.1).0,
        v.0,
        typed_behind r (slice_set t.locals local (get_or t.operands 0 0)) (drop 1 t.operands) s.3 (values_set local (get_or t.operands 0 0) s.0 r.locals s.1 v.1) v.2
            (omega (arith, r.room, length-drop 1 t.operands, length-set t.locals local (get_or t.operands 0 0))),
      )

  pub tees_local : (local : ℕ) → IsTyped base (pending (local_tee local) t)
      → (local < length t.locals) × (1 ≤ length t.operands) × IsTyped base (record t { locals = slice_set t.locals local (get_or t.operands 0 0) })
  tees_local local p =
      let r = ready (local_tee local) t p in
      let s = has_local_tee r.typed in
      let held = operands_as r s.2 in
      let v = top_off t.operands held in (
        (value_at local s.0 r.locals s.1).0,
        v.0,
        typed_behind r (slice_set t.locals local (get_or t.operands 0 0)) t.operands s.3 (values_set local (get_or t.operands 0 0) s.0 r.locals s.1 v.1) held
            (omega (arith, r.room, length-set t.locals local (get_or t.operands 0 0))),
      )

  -- globals
  pub offers_global_get : (global : ℕ) (held : Store) → IsTypedStore base held → IsTyped base (pending (global_get global) t)
      → (type : ValType) × (global < length held.globals) × IsValue type (get_or held.globals global 0) × Offers base [] (type ∷ []) t
  offers_global_get global held stored p =
      let r = ready (global_get global) t p in
      let s = has_global_get r.typed in
      let v = value_at global s.0.value stored.globals (slice_get-map (λ (type : GlobalType). type.value) base.globals global ∙ ap (option_map (λ (type : GlobalType). type.value)) s.1) in
      (s.0.value, v.0, v.1, offered_as r (s.2, s.3))

  pub offers_global_set : (global : ℕ) (held : Store) → IsTypedStore base held → IsTyped base (pending (global_set global) t)
      → (type : ValType) × (global < length held.globals) × Offers base (type ∷ []) [] t
      × ((value : ℕ) → IsValue type value → IsTypedStore base (record held { globals = slice_set held.globals global value }))
  offers_global_set global held stored p =
      let r = ready (global_set global) t p in
      let s = has_global_set r.typed in
      let known : slice_get (map (λ (type : GlobalType). type.value) base.globals) global ≡ Some s.0.value = slice_get-map (λ (type : GlobalType). type.value) base.globals global ∙ ap (option_map (λ (type : GlobalType). type.value)) s.1 in (
        s.0.value,
        (value_at global s.0.value stored.globals known).0,
        offered_as r (s.2, s.3),
        λ value v. record { globals = values_set global value s.0.value stored.globals known v; table = stored.table },
      )

  -- memory
  pub offers_load : (op align offset : ℕ) → IsTyped base (pending (load op align offset) t) → (access : Access) × (load_of op ≡ Some access) × Offers base (I32 ∷ []) (access.value ∷ []) t
  offers_load op align offset p = let r = ready (load op align offset) t p in let s = has_load r.typed in (s.0, s.1, offered_as r (s.2, s.3))

  pub offers_store : (op align offset : ℕ) → IsTyped base (pending (store op align offset) t) → (access : Access) × (store_of op ≡ Some access) × Offers base (access.value ∷ I32 ∷ []) [] t
  offers_store op align offset p = let r = ready (store op align offset) t p in let s = has_store r.typed in (s.0, s.1, offered_as r (s.2, s.3))

  pub offers_memory_size : IsTyped base (pending memory_size t) → Offers base [] (I32 ∷ []) t
  offers_memory_size p = let r = ready memory_size t p in offered_as r (instructions.only_memory_size r.ins r.outs r.typed)

  pub offers_memory_grow : IsTyped base (pending memory_grow t) → Offers base (I32 ∷ []) (I32 ∷ []) t
  offers_memory_grow p = let r = ready memory_grow t p in offered_as r (instructions.only_memory_grow r.ins r.outs r.typed)

  -- floats
  pub no_float_memory : (op align offset : ℕ) → IsTyped base (pending (float_memory op align offset) t) → ⊥
  no_float_memory op align offset p = let r = ready (float_memory op align offset) t p in instructions.no_float_memory r.ins r.outs r.typed

  pub no_float_const : (bytes : FloatBytes) → IsTyped base (pending (float_const bytes) t) → ⊥
  no_float_const bytes p = let r = ready (float_const bytes) t p in instructions.no_float_const r.ins r.outs r.typed

  pub no_float_plain : (op : ℕ) → IsTyped base (pending (float_plain op) t) → ⊥
  no_float_plain op p = let r = ready (float_plain op) t p in instructions.no_float_plain r.ins r.outs r.typed
