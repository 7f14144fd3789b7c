-- Which types each instruction can have, once what it names has been looked up.
use Rattle.std.proofs.Common.{◌≡◌, ℕ, ◌≤◌, ◌^◌, ℤ, List, [], ◌∷◌, ◌++◌, refl, ap, sym, ◌∙◌, subst, true, false, Option, None, Some, slice_get, reverse, All}
use Rattle.wasm_values.specs.Syntax.{Op, Ops, unreachable, nop, block, loop, if_else, br, br_if, br_table, return, call, call_indirect, local_get, local_set, local_tee, global_get, global_set, load, store, memory_size, memory_grow, i32_const, i64_const, numeric, float_memory, float_const, float_plain}
use Rattle.wasm_values.specs.declared.instr.FloatBytes.{FloatBytes}
use Rattle.wasm_values.specs.declared.types.ValType.{ValType}
use Rattle.wasm_values.specs.declared.types.ValType.TheVariants.{I32, I64}
use Rattle.wasm_values.specs.declared.types.FuncType.{FuncType}
use Rattle.wasm_values.specs.declared.types.GlobalType.{GlobalType}
use Rattle.wasm_typing.specs.Context.{Context}
use Rattle.wasm_typing.specs.Operations.{Signature, signature_of, Access, load_of, store_of}
use Rattle.wasm_typing.specs.Typing.{types_of, Takes, HasType, HasMemory, HasTable, TypedOp, Typed, unreachable_typed, nop_typed, i32_const_typed, i64_const_typed, numeric_typed, local_get_typed, local_set_typed, local_tee_typed, global_get_typed, global_set_typed, load_typed, store_typed, memory_size_typed, memory_grow_typed, call_typed, call_indirect_typed, return_typed, block_typed, loop_typed, if_typed, br_typed, br_if_typed, br_table_typed}
use Rattle.wasm_typing.specs.inner.Stands.{State, Image}
use Rattle.wasm_typing.proofs.Stacks.{popped_none}
use Rattle.wasm_typing.proofs.Images.{Only, Leaves, only_image, leaves_image}

-- Which types an instruction can't have.
abbrev pub Never : Context → List (Option ValType) → Op → Type 0
Never cx labels op = (a b : List ValType) → TypedOp cx labels op a b → ⊥

-- ---- what a look-up gives

pub one_found : {A : Type 0} {x y : A} (found : Option A) → found ≡ Some x → found ≡ Some y → x ≡ y
one_found found e f = cc

pub not_found : {A : Type 0} {x : A} (found : Option A) → found ≡ Some x → found ≡ None → ⊥
not_found found e f = cc

one_index : {n m : ℕ} (found : Option ℕ) → found ≡ Some n → found ≡ Some m → n ≡ m
one_index found e f = cc

pub one_type : (cx : Context) (func : ℕ) {s t : FuncType} → HasType cx func s → HasType cx func t → s ≡ t
one_type cx func {s} h k =
    let same = one_index (slice_get cx.funcs func) h.1 k.1 in
    one_found (slice_get cx.types k.0) (subst (λ (z : ℕ). slice_get cx.types z ≡ Some s) same h.2) k.2

not_both : true ≡ false → ⊥
not_both e = cc

module _ {cx : Context} {labels : List (Option ValType)} where
  -- ---- constants and blocks
  pub only_nop : Only cx labels nop [] []
  only_nop a b nop_typed = (refl, refl)

  pub only_i32_const : {z : ℤ} → Only cx labels (i32_const z) [] (I32 ∷ [])
  only_i32_const a b i32_const_typed = (refl, refl)

  pub only_i64_const : {z : ℤ} → Only cx labels (i64_const z) [] (I64 ∷ [])
  only_i64_const a b i64_const_typed = (refl, refl)

  pub only_block : {kind : Option ValType} {body : Ops} → Only cx labels (block kind body) [] (types_of kind)
  only_block a b (block_typed t) = (refl, refl)

  pub only_loop : {kind : Option ValType} {body : Ops} → Only cx labels (loop kind body) [] (types_of kind)
  only_loop a b (loop_typed t) = (refl, refl)

  pub only_if : {kind : Option ValType} {first second : Ops} → Only cx labels (if_else kind first second) (I32 ∷ []) (types_of kind)
  only_if a b (if_typed t u) = (refl, refl)

  pub block_body : {kind : Option ValType} {body : Ops} {a b : List ValType} → TypedOp cx labels (block kind body) a b → Typed cx (kind ∷ labels) body [] (types_of kind)
  block_body (block_typed t) = t

  pub loop_body : {kind : Option ValType} {body : Ops} {a b : List ValType} → TypedOp cx labels (loop kind body) a b → Typed cx (None ∷ labels) body [] (types_of kind)
  loop_body (loop_typed t) = t

  pub if_bodies : {kind : Option ValType} {first second : Ops} {a b : List ValType} → TypedOp cx labels (if_else kind first second) a b → Typed cx (kind ∷ labels) first [] (types_of kind) × Typed cx (kind ∷ labels) second [] (types_of kind)
  if_bodies (if_typed t u) = (t, u)

  pub nop_image : (s : State) → Image cx labels nop s s
  nop_image s = only_image nop_typed only_nop s (popped_none s) refl

  pub unreachable_image : {s n : State} → n ≡ (true, [], s.2) → Image cx labels unreachable s n
  unreachable_image {s} e = leaves_image {ins = []} (λ from to. unreachable_typed) (λ a b t. (a, refl)) s (popped_none s) e

  -- ---- operations on numbers
  pub only_numeric : {op : ℕ} (s : Signature) → signature_of op ≡ Some s → Only cx labels (numeric op) s.operands (s.result ∷ [])
  only_numeric {op} s e a b (numeric_typed u f) = let same = one_found (signature_of op) f e in (ap (λ z. z.operands) same, ap (λ z. z.result ∷ []) same)

  pub no_numeric : {op : ℕ} → signature_of op ≡ None → Never cx labels (numeric op)
  no_numeric {op} e a b (numeric_typed u f) = not_found (signature_of op) f e

  -- ---- floats
  pub no_float_memory : {op align offset : ℕ} → Never cx labels (float_memory op align offset)
  no_float_memory a b t = elim t [ ]

  pub no_float_const : {bytes : FloatBytes} → Never cx labels (float_const bytes)
  no_float_const a b t = elim t [ ]

  pub no_float_plain : {op : ℕ} → Never cx labels (float_plain op)
  no_float_plain a b t = elim t [ ]

  -- ---- locals and globals
  module _ {n : ℕ} where
    pub only_local_get : {t : ValType} → slice_get cx.locals n ≡ Some t → Only cx labels (local_get n) [] (t ∷ [])
    only_local_get e a b (local_get_typed f) = (refl, ap (λ z. z ∷ []) (one_found (slice_get cx.locals n) f e))

    pub only_local_set : {t : ValType} → slice_get cx.locals n ≡ Some t → Only cx labels (local_set n) (t ∷ []) []
    only_local_set e a b (local_set_typed f) = (ap (λ z. z ∷ []) (one_found (slice_get cx.locals n) f e), refl)

    pub only_local_tee : {t : ValType} → slice_get cx.locals n ≡ Some t → Only cx labels (local_tee n) (t ∷ []) (t ∷ [])
    only_local_tee e a b (local_tee_typed f) = let same = ap (λ z. z ∷ []) (one_found (slice_get cx.locals n) f e) in (same, same)

    pub no_local_get : slice_get cx.locals n ≡ None → Never cx labels (local_get n)
    no_local_get e a b (local_get_typed f) = not_found (slice_get cx.locals n) f e

    pub no_local_set : slice_get cx.locals n ≡ None → Never cx labels (local_set n)
    no_local_set e a b (local_set_typed f) = not_found (slice_get cx.locals n) f e

    pub no_local_tee : slice_get cx.locals n ≡ None → Never cx labels (local_tee n)
    no_local_tee e a b (local_tee_typed f) = not_found (slice_get cx.locals n) f e

    pub only_global_get : (g : GlobalType) → slice_get cx.globals n ≡ Some g → Only cx labels (global_get n) [] (g.value ∷ [])
    only_global_get g e a b (global_get_typed h f) = (refl, ap (λ z. z.value ∷ []) (one_found (slice_get cx.globals n) f e))

    pub only_global_set : (g : GlobalType) → slice_get cx.globals n ≡ Some g → Only cx labels (global_set n) (g.value ∷ []) []
    only_global_set g e a b (global_set_typed h f m) = (ap (λ z. z.value ∷ []) (one_found (slice_get cx.globals n) f e), refl)

    pub no_global_get : slice_get cx.globals n ≡ None → Never cx labels (global_get n)
    no_global_get e a b (global_get_typed g f) = not_found (slice_get cx.globals n) f e

    pub no_global_set : slice_get cx.globals n ≡ None → Never cx labels (global_set n)
    no_global_set e a b (global_set_typed g f m) = not_found (slice_get cx.globals n) f e

    pub constant_global_set : (g : GlobalType) → slice_get cx.globals n ≡ Some g → g.mutable ≡ false → Never cx labels (global_set n)
    constant_global_set g e c a b (global_set_typed h f m) = not_both (sym m ∙ ap (λ z. z.mutable) (one_found (slice_get cx.globals n) f e) ∙ c)

  -- ---- memory
  module _ {op align offset : ℕ} where
    pub only_load : (x : Access) → load_of op ≡ Some x → Only cx labels (load op align offset) (I32 ∷ []) (x.value ∷ [])
    only_load x e a b (load_typed y f m l) = (refl, ap (λ z. z.value ∷ []) (one_found (load_of op) f e))

    pub only_store : (x : Access) → store_of op ≡ Some x → Only cx labels (store op align offset) (x.value ∷ I32 ∷ []) []
    only_store x e a b (store_typed y f m l) = (ap (λ z. z.value ∷ I32 ∷ []) (one_found (store_of op) f e), refl)

    pub no_load : load_of op ≡ None → Never cx labels (load op align offset)
    no_load e a b (load_typed y f m l) = not_found (load_of op) f e

    pub no_store : store_of op ≡ None → Never cx labels (store op align offset)
    no_store e a b (store_typed y f m l) = not_found (store_of op) f e

    pub bad_load : (x : Access) → load_of op ≡ Some x → (HasMemory cx × (2 ^ align ≤ x.bytes) → ⊥) → Never cx labels (load op align offset)
    bad_load x e bad a b (load_typed y f m l) = bad (m, subst (λ (z : Access). 2 ^ align ≤ z.bytes) (one_found (load_of op) f e) l)

    pub bad_store : (x : Access) → store_of op ≡ Some x → (HasMemory cx × (2 ^ align ≤ x.bytes) → ⊥) → Never cx labels (store op align offset)
    bad_store x e bad a b (store_typed y f m l) = bad (m, subst (λ (z : Access). 2 ^ align ≤ z.bytes) (one_found (store_of op) f e) l)

  pub only_memory_size : Only cx labels memory_size [] (I32 ∷ [])
  only_memory_size a b (memory_size_typed m) = (refl, refl)

  pub only_memory_grow : Only cx labels memory_grow (I32 ∷ []) (I32 ∷ [])
  only_memory_grow a b (memory_grow_typed m) = (refl, refl)

  pub no_memory_size : (HasMemory cx → ⊥) → Never cx labels memory_size
  no_memory_size bad a b (memory_size_typed m) = bad m

  pub no_memory_grow : (HasMemory cx → ⊥) → Never cx labels memory_grow
  no_memory_grow bad a b (memory_grow_typed m) = bad m

  -- ---- calls
  module _ {n : ℕ} where
    pub only_call : (t : FuncType) → HasType cx n t → Only cx labels (call n) (reverse t.params) (types_of t.result)
    only_call t h a b (call_typed u k) = let same = one_type cx n k h in (ap (λ z. reverse z.params) same, ap (λ z. types_of z.result) same)

    pub no_call : ((t : FuncType) → HasType cx n t → ⊥) → Never cx labels (call n)
    no_call bad a b (call_typed u k) = bad u k

    pub only_call_indirect : (t : FuncType) → slice_get cx.types n ≡ Some t → Only cx labels (call_indirect n) (I32 ∷ reverse t.params) (types_of t.result)
    only_call_indirect t e a b (call_indirect_typed u h f) =
        let same = one_found (slice_get cx.types n) f e in
        (ap (λ z. I32 ∷ reverse z.params) same, ap (λ z. types_of z.result) same)

    pub no_table : (HasTable cx → ⊥) → Never cx labels (call_indirect n)
    no_table bad a b (call_indirect_typed u h f) = bad h

    pub no_call_indirect : slice_get cx.types n ≡ None → Never cx labels (call_indirect n)
    no_call_indirect e a b (call_indirect_typed u h f) = not_found (slice_get cx.types n) f e

  -- ---- branches
  pub leaves_return : Leaves cx labels return (types_of cx.result)
  leaves_return a b (return_typed from) = (from, refl)

  module _ {label : ℕ} where
    pub leaves_br : {kind : Option ValType} → Takes labels kind label → Leaves cx labels (br label) (types_of kind)
    leaves_br k a b (br_typed from t) = (from, ap (λ z. types_of z ++ from) (one_found (slice_get labels label) t k))

    pub only_br_if : {kind : Option ValType} → Takes labels kind label → Only cx labels (br_if label) (I32 ∷ types_of kind) (types_of kind)
    only_br_if k a b (br_if_typed t) = let same = one_found (slice_get labels label) t k in (ap (λ z. I32 ∷ types_of z) same, ap types_of same)

    pub no_br : slice_get labels label ≡ None → Never cx labels (br label)
    no_br e a b (br_typed from t) = not_found (slice_get labels label) t e

    pub no_br_if : slice_get labels label ≡ None → Never cx labels (br_if label)
    no_br_if e a b (br_if_typed t) = not_found (slice_get labels label) t e

    module _ {several : List ℕ} where
      pub leaves_br_table : {kind : Option ValType} → Takes labels kind label → Leaves cx labels (br_table several label) (I32 ∷ types_of kind)
      leaves_br_table k a b (br_table_typed from all t) = (from, ap (λ z. I32 ∷ types_of z ++ from) (one_found (slice_get labels label) t k))

      pub no_br_table : slice_get labels label ≡ None → Never cx labels (br_table several label)
      no_br_table e a b (br_table_typed from all t) = not_found (slice_get labels label) t e

      pub other_br_table : {kind : Option ValType} → Takes labels kind label → (All (Takes labels kind) several → ⊥) → Never cx labels (br_table several label)
      other_br_table k bad a b (br_table_typed from all t) = bad (subst (λ (z : Option ValType). All (Takes labels z) several) (one_found (slice_get labels label) t k) all)
