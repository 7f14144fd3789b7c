-- Instructions that take known types and leave known types.
use Rattle.std.proofs.Common.{ℕ, ◌≡◌, ◌≤◌, ◌^◌, List, [], ◌∷◌, ◌++◌, refl, Bool, true, false, Option, Some, Result, IfOk, slice_get, get_or, length, ◌<◌, subst, sym, arith, inl, inr, not}
use Rattle.std.proofs.lemmas.Option.{slice_get_read}
use Rattle.std.proofs.lemmas.Bool.Decides.{leb_tells}
use Rattle.std.proofs.Math.Dec.{leb}
use Rattle.std.proofs.Math.Pow.{pow-lt, pow_mono}
use Rattle.std.proofs.lemmas.Result.{IfOk-weaker}
use Rattle.wasm_values.specs.Syntax.{Op, numeric, load, store}
use Rattle.wasm_values.specs.declared.types.ValType.{ValType}
use Rattle.wasm_values.specs.declared.types.ValType.TheVariants.{I32}
use Rattle.wasm_typing.specs.Context.{Context}
use Rattle.wasm_typing.specs.Operations.{Signature, signature_of, Access, load_of, store_of}
use Rattle.wasm_typing.specs.Typing.{HasMemory, TypedOp, numeric_typed, load_typed, store_typed}
use Rattle.wasm_typing.specs.inner.Stands.{State, Popped, Applies, Checks, Exactly}
use Rattle.wasm_typing.specs.inner.Tables.{operands_of}
use Rattle.wasm_typing.specs.declared.numbers.Operation.{Operation}
use Rattle.wasm_typing.proofs.Stacks.{popped_join, stop_later}
use Rattle.wasm_typing.proofs.Images.{Only, only_checks}
use Rattle.wasm_typing.proofs.Instructions.{only_numeric, only_load, only_store}

-- an instruction whose type the labels do not matter for
pub any_applied : {E : Type 0} (r : Result Bool E) (cx : Context) (op : Op) (ins outs : List ValType) (old new : State) → ((labels : List (Option ValType)) → TypedOp cx labels op ins outs) → ((labels : List (Option ValType)) → Only cx labels op ins outs)
    → IfOk r (λ b. Applies ins outs old new b) → IfOk r (λ b. (labels : List (Option ValType)) → Checks cx labels op old new b)
any_applied r cx op ins outs old new typed only h =
    IfOk-weaker r (λ b. Applies ins outs old new b) (λ b. (labels : List (Option ValType)) → Checks cx labels op old new b) (λ b a labels. only_checks old new (typed labels) (only labels) b a) h

-- an operation on numbers
pub numeric_applied : {E : Type 0} (r : Result Bool E) (op : ℕ) (s : Signature) (old new : State) → signature_of op ≡ Some s
    → IfOk r (λ b. Applies s.operands (s.result ∷ []) old new b) → IfOk r (λ b. (cx : Context) (labels : List (Option ValType)) → Checks cx labels (numeric op) old new b)
numeric_applied r op s old new e h =
    IfOk-weaker r (λ b. Applies s.operands (s.result ∷ []) old new b) (λ b. (cx : Context) (labels : List (Option ValType)) → Checks cx labels (numeric op) old new b)
    (λ b a cx labels. only_checks old new (numeric_typed s e) (only_numeric s e) b a) h

-- loads and stores with any offset
module _ {E : Type 0} (r : Result Bool E) (cx : Context) (op align : ℕ) (x : Access) (old new : State) where
  pub load_applied : load_of op ≡ Some x → HasMemory cx → 2 ^ align ≤ x.bytes
      → IfOk r (λ b. Applies (I32 ∷ []) (x.value ∷ []) old new b) → IfOk r (λ b. (labels : List (Option ValType)) (offset : ℕ) → Checks cx labels (load op align offset) old new b)
  load_applied e m l h =
      IfOk-weaker r (λ b. Applies (I32 ∷ []) (x.value ∷ []) old new b) (λ b. (labels : List (Option ValType)) (offset : ℕ) → Checks cx labels (load op align offset) old new b)
      (λ b a labels offset. only_checks old new (load_typed x e m l) (only_load x e) b a) h

  pub store_applied : store_of op ≡ Some x → HasMemory cx → 2 ^ align ≤ x.bytes
      → IfOk r (λ b. Applies (x.value ∷ I32 ∷ []) [] old new b) → IfOk r (λ b. (labels : List (Option ValType)) (offset : ℕ) → Checks cx labels (store op align offset) old new b)
  store_applied e m l h =
      IfOk-weaker r (λ b. Applies (x.value ∷ I32 ∷ []) [] old new b) (λ b. (labels : List (Option ValType)) (offset : ℕ) → Checks cx labels (store op align offset) old new b)
      (λ b a labels offset. only_checks old new (store_typed x e m l) (only_store x e) b a) h

-- types that are taken off first
applies_join : {first : List ValType} (ins outs : List ValType) {s m : State} (n : State) → Popped first s m → (b : Bool) → Applies ins outs m n b → Applies (first ++ ins) outs s n b
applies_join ins outs n p true a = (a.0, popped_join p a.1, a.2)
applies_join ins outs n p false a = stop_later p a

pub applied_later : {E : Type 0} (r : Result Bool E) (first ins outs : List ValType) (s m n : State) → Popped first s m
    → IfOk r (λ b. Applies ins outs m n b) → IfOk r (λ b. Applies (first ++ ins) outs s n b)
applied_later r first ins outs s m n p h = IfOk-weaker r (λ b. Applies ins outs m n b) (λ b. Applies (first ++ ins) outs s n b) (λ b a. applies_join ins outs n p b a) h

-- what the tables of the code say
operands_at : {E : Type 0} (r : Result Bool E) (x : Operation) (many : Bool) (old new : State) → x.is_binary ≡ many
    → IfOk r (λ b. Applies (operands_of x.operand many) (x.value ∷ []) old new b) → IfOk r (λ b. Applies (operands_of x.operand x.is_binary) (x.value ∷ []) old new b)
operands_at r x many old new e h = subst (λ (z : Bool). IfOk r (λ b. Applies (operands_of x.operand z) (x.value ∷ []) old new b)) (sym e) h

pub binary_applied : {E : Type 0} (r : Result Bool E) (x : Operation) (old new : State) → x.is_binary ≡ true
    → IfOk r (λ b. Applies (x.operand ∷ x.operand ∷ []) (x.value ∷ []) old new b) → IfOk r (λ b. Applies (operands_of x.operand x.is_binary) (x.value ∷ []) old new b)
binary_applied r x old new e h = operands_at r x true old new e h

pub unary_applied : {E : Type 0} (r : Result Bool E) (x : Operation) (old new : State) → x.is_binary ≡ false
    → IfOk r (λ b. Applies (x.operand ∷ []) (x.value ∷ []) old new b) → IfOk r (λ b. Applies (operands_of x.operand x.is_binary) (x.value ∷ []) old new b)
unary_applied r x old new e h = operands_at r x false old new e h

pub found_at : {A : Type 0} (all : List A) (at : ℕ) (x : A) → at < length all → x ≡ get_or all at x → slice_get all at ≡ Some x
found_at all at x below is = slice_get_read all (length all) at x refl below is

-- alignments
pub aligned : {P : Type 0} (a p : ℕ) → P → Exactly (P × (2 ^ a ≤ 2 ^ p)) (leb a p)
aligned {P} a p h = elim (leb_tells a p) [
  | inl t ↦ subst (λ (z : Bool). Exactly (P × (2 ^ a ≤ 2 ^ p)) z) (sym t.0) (h, pow_mono t.1)
  | inr t ↦ subst (λ (z : Bool). Exactly (P × (2 ^ a ≤ 2 ^ p)) z) (sym t.0) (λ both. let over = pow-lt t.1 in absurd (omega (arith, over, both.1)))
]

-- a test that was turned round
pub not_true : (b : Bool) → not b ≡ true → b ≡ false
not_true true e = absurd cc
not_true false e = refl

pub not_false : (b : Bool) → not b ≡ false → b ≡ true
not_false true e = refl
not_false false e = absurd cc
