-- Operations on numbers: what they find, and that they are done.
use Rattle.std.proofs.Common.{◌≡◌, ◌≢◌, ℕ, ℤ, w32, w64, Result, MatchResult, ◌<◌, ◌≤◌, ◌^◌, List, [], ◌∷◌, length, drop, get_or, Some, None, refl, sym, ap, ap₂, subst, ◌∙◌, cond, Bool, true, false, inl, inr, arith}
use Rattle.std.specs.Int.{cast_unsigned}
use mir.Val.{bool_byte}
use Rattle.std.proofs.lemmas.Option.{same_Some}
use Rattle.wasm_values.specs.Syntax.{no_ops, i32_const, i64_const, numeric}
use Rattle.wasm_values.specs.declared.types.ValType.{ValType}
use Rattle.wasm_values.specs.declared.types.ValType.TheVariants.{I32, I64}
use Rattle.wasm_typing.specs.Context.{Context}
use Rattle.wasm_typing.specs.Operations.{Signature}
use Rattle.wasm_numeric.specs.Opcodes.{IsFrom, IsUnary, IsNarrowUnary, IsBinary, IsCompare, IsConvert, IsOverflow, unary_value, binary_value, compare_value, convert_value}
use Rattle.wasm_steps.specs.Program.{Store, most_values}
use Rattle.wasm_steps.specs.Threads.{Thread, size}
use Rattle.wasm_steps.specs.Plain.{Does, does_i32_const, does_i64_const, does_unary, does_binary, does_test, does_compare, does_convert, fails_by_zero, fails_overflow, IsTest, truth}
use Rattle.wasm_steps.specs.declared.outcome.Trap.{Trap}
use Rattle.wasm_steps.specs.declared.outcome.Trap.TheVariants as traps
use Rattle.wasm_soundness.specs.Typed.{IsValue, no_values, next_value, IsTyped}
use Rattle.wasm_soundness.specs.Ready.{pending, Offers}
use Rattle.wasm_soundness.proofs.Plain.{offers_i32_const, offers_i64_const, offers_numeric}
use Rattle.wasm_soundness.proofs.Values.{one_value, two_values}
use Rattle.wasm_stack.specs.Held.{Held, running, pushed, replaced}
use Rattle.wasm_plain.specs.Done.{data_of, IsNext, IsDone, IsStopped, IsRun}
use Rattle.wasm_plain.proofs.Doing.{first_of_all, two_of_all, Gives, done_replaced, done_pushed}
use Rattle.wasm_plain.proofs.Signatures.{Takes, takes_unary, takes_binary, takes_test, takes_compare, takes_convert, compares_first, grouped}

offers_taken : {base : Context} (thread : Thread) (op : ℕ) (ins : List ValType) (out : ValType) → Takes op ins out → IsTyped base (pending (numeric op) thread) → Offers base ins (out ∷ []) thread
offers_taken {base} thread op ins out takes typed =
    let o = offers_numeric thread op typed in
    let same : o.0 ≡ record { operands = ins; result = out } = same_Some o.0 (record { operands = ins; result = out }) (sym o.1 ∙ takes) in
    subst (λ (s : Signature). Offers base s.operands (s.result ∷ []) thread) same o.2

-- ---- what is found

module _ {op : ℕ} {old : Held} {before : Store} (n : IsNext (numeric op) old before) where
  pub one_found : {type out : ValType} → Takes op (type ∷ []) out → (1 ≤ length old.operands) × IsValue type (get_or old.operands 0 0)
  one_found {type} {out} takes =
      let o = offers_taken (running n.rest old) op (type ∷ []) out takes n.thread in
      (o.there, one_value type old.operands o.values)

  pub two_found : {type out : ValType} → Takes op (type ∷ type ∷ []) out → (2 ≤ length old.operands) × IsValue type (get_or old.operands 0 0) × IsValue type (get_or old.operands 1 0)
  two_found {type} {out} takes =
      let o = offers_taken (running n.rest old) op (type ∷ type ∷ []) out takes n.thread in
      let v = two_values type type old.operands o.values in
      (o.there, v.0, v.1)

-- ---- what is done

gives_one : (op : ℕ) (old : Held) (store : Store) (ins : List ValType) (out : ValType) (value : ℕ) → Takes op ins out → IsValue out value → Gives (numeric op) (length ins) (value ∷ []) old store
gives_one op old store ins out value takes v = λ base rest typed stored. record {
  ins = ins;
  outs = out ∷ [];
  as_many = refl;
  values = next_value v no_values;
  offers = offers_taken (running rest old) op ins out takes typed;
}

module _ {op : ℕ} {old : Held} {before : Store} (n : IsNext (numeric op) old before) (store : Store) (new : Held) (value : ℕ) where
  -- the result of one operand
  pub one_done : {type out : ValType} → Takes op (type ∷ []) out → IsValue out value → new ≡ replaced 1 value old
      → Does (numeric op) (data_of old store) (data_of (replaced 1 value old) store)
      → IsDone (numeric op) old store new store
  one_done {type} {out} takes v e does =
      done_replaced (numeric op) old store new 1 value e (omega arith) (one_found n takes).0 n.thread.room does
      (gives_one op old store (type ∷ []) out value takes v)

  -- the result of two operands
  pub two_done : {type out : ValType} → Takes op (type ∷ type ∷ []) out → IsValue out value → new ≡ replaced 2 value old
      → Does (numeric op) (data_of old store) (data_of (replaced 2 value old) store)
      → IsDone (numeric op) old store new store
  two_done {type} {out} takes v e does =
      done_replaced (numeric op) old store new 2 value e (omega arith) (two_found n takes).0 n.thread.room does
      (gives_one op old store (type ∷ type ∷ []) out value takes v)

-- ---- the groups: what they find

module _ {op : ℕ} {old : Held} {before : Store} (n : IsNext (numeric op) old before) where
  pub unary_found : IsUnary op → (1 ≤ length old.operands) × (IsNarrowUnary op → get_or old.operands 0 0 < 2 ^ 32)
  unary_found group = let t = takes_unary op group in let f = one_found n t.1 in (f.0, λ h. t.2.narrow (get_or old.operands 0 0) f.1 h)

  pub binary_found : IsBinary op → (2 ≤ length old.operands) × (op ≤ 0x78 → get_or old.operands 0 0 < 2 ^ 32) × (op ≤ 0x78 → get_or old.operands 1 0 < 2 ^ 32)
  binary_found group =
      let t = takes_binary op group in
      let f = two_found n t.1 in
      (f.0, λ h. t.2.narrow (get_or old.operands 0 0) f.1 h, λ h. t.2.narrow (get_or old.operands 1 0) f.2 h)

  pub test_found : IsTest op → (1 ≤ length old.operands) × (op ≤ 0x4f → get_or old.operands 0 0 < 2 ^ 32)
  test_found group = let t = takes_test op group in let f = one_found n t.1 in (f.0, λ h. t.2.narrow (get_or old.operands 0 0) f.1 h)

  pub compare_found : IsCompare op → (IsTest op → ⊥) → (2 ≤ length old.operands) × (op ≤ 0x4f → get_or old.operands 0 0 < 2 ^ 32) × (op ≤ 0x4f → get_or old.operands 1 0 < 2 ^ 32)
  compare_found group two =
      let t = takes_compare op group two in
      let f = two_found n t.1 in
      (f.0, λ h. t.2.narrow (get_or old.operands 0 0) f.1 h, λ h. t.2.narrow (get_or old.operands 1 0) f.2 h)

  pub convert_found : IsConvert op → (1 ≤ length old.operands) × (0xac ≤ op → get_or old.operands 0 0 < 2 ^ 32)
  convert_found group = let t = takes_convert op group in let f = one_found n t.takes in (f.0, λ h. t.narrow (get_or old.operands 0 0) f.1 h)

-- an operation of no other group is a conversion
pub must_convert : {op : ℕ} {old : Held} {before : Store} → IsNext (numeric op) old before → (IsFrom 0x45 0x5a op → ⊥) → (IsFrom 0x67 0x8a op → ⊥) → (IsFrom 0xc0 0xc4 op → ⊥) → IsConvert op
must_convert {op} {old} n no_compare no_arithmetic no_extension =
    let o = offers_numeric (running n.rest old) op n.thread in
    elim (grouped op o.0 o.1) [ inl h ↦ absurd (no_compare h) | inr h ↦ elim h [ inl k ↦ absurd (no_arithmetic k) | inr k ↦ elim k [ inl m ↦ m | inr m ↦ absurd (no_extension m) ] ] ]

-- ---- the groups: what they do

two_on_top : (xs : List ℕ) (a b : ℕ) → b ≡ get_or xs 0 0 → a ≡ get_or xs 1 0 → 2 ≤ length xs → xs ≡ b ∷ a ∷ drop 2 xs
two_on_top xs a b top under there = two_of_all xs there ∙ ap₂ (λ u v. u ∷ v ∷ drop 2 xs) (sym top) (sym under)

overflow_not_zero : (op a b : ℕ) → IsOverflow op a b → b ≢ 0
overflow_not_zero op a b (inl h) e = absurd (omega (arith, h.2, e))
overflow_not_zero op a b (inr h) e = absurd (omega (arith, h.2, e))

-- a truth value as the number that the code makes of it
truth_is : (holds : Bool) → bool_byte holds ≡ cond holds 1 0
truth_is true = refl
truth_is false = refl

truth_small : (holds : Bool) → bool_byte holds < 2 ^ 32
truth_small true = omega arith
truth_small false = omega arith

module _ {op : ℕ} {old : Held} {before : Store} (n : IsNext (numeric op) old before) (store : Store) (new : Held) where
  -- the same value by another term
  does_same : (count value said : ℕ) → value ≡ said → Does (numeric op) (data_of old store) (data_of (replaced count said old) store) → Does (numeric op) (data_of old store) (data_of (replaced count value old) store)
  does_same count value said e does = subst (λ z. Does (numeric op) (data_of old store) (data_of (replaced count z old) store)) (sym e) does

  pub unary_done : IsUnary op → (a value : ℕ) → a ≡ get_or old.operands 0 0 → value ≡ unary_value op a → (IsNarrowUnary op → value < 2 ^ 32) → value < 2 ^ 64 → new ≡ replaced 1 value old → IsDone (numeric op) old store new store
  unary_done group a value at said narrow wide e =
      let t = takes_unary op group in
      one_done n store new value t.1 (t.2.wide value narrow wide) e
      (does_same 1 value (unary_value op a) said
      (does_unary {held = data_of old store} {a = a} {below = drop 1 old.operands} group (subst (λ z. old.operands ≡ z ∷ drop 1 old.operands) (sym at) (first_of_all old.operands (one_found n t.1).0))))

  pub test_done : IsTest op → (a : ℕ) (holds : Bool) (value : ℕ) → a ≡ get_or old.operands 0 0 → holds ≡ compare_value op a 0 → value ≡ bool_byte holds → new ≡ replaced 1 value old → IsDone (numeric op) old store new store
  test_done group a holds value at said is e =
      let t = takes_test op group in
      one_done n store new value t.1 (subst (λ z. z < 2 ^ 32) (sym is) (truth_small holds)) e
      (does_same 1 value (truth op a 0) (is ∙ truth_is holds ∙ ap (λ (b : Bool). cond b 1 0) said)
      (does_test {held = data_of old store} {a = a} {below = drop 1 old.operands} (compares_first op group) group (subst (λ z. old.operands ≡ z ∷ drop 1 old.operands) (sym at) (first_of_all old.operands (one_found n t.1).0))))

  pub convert_done : IsConvert op → (a value : ℕ) → a ≡ get_or old.operands 0 0 → value ≡ convert_value op a → (op ≡ 0xa7 → value < 2 ^ 32) → value < 2 ^ 64 → new ≡ replaced 1 value old → IsDone (numeric op) old store new store
  convert_done group a value at said narrow wide e =
      let t = takes_convert op group in
      one_done n store new value t.takes (t.wide value narrow wide) e
      (does_same 1 value (convert_value op a) said
      (does_convert {held = data_of old store} {a = a} {below = drop 1 old.operands} group (subst (λ z. old.operands ≡ z ∷ drop 1 old.operands) (sym at) (first_of_all old.operands (one_found n t.takes).0))))

  pub compare_done : IsCompare op → (IsTest op → ⊥) → (a b : ℕ) (holds : Bool) (value : ℕ) → b ≡ get_or old.operands 0 0 → a ≡ get_or old.operands 1 0 → holds ≡ compare_value op a b → value ≡ bool_byte holds → new ≡ replaced 2 value old → IsDone (numeric op) old store new store
  compare_done group two a b holds value top under said is e =
      let t = takes_compare op group two in
      two_done n store new value t.1 (subst (λ z. z < 2 ^ 32) (sym is) (truth_small holds)) e
      (does_same 2 value (truth op a b) (is ∙ truth_is holds ∙ ap (λ (b : Bool). cond b 1 0) said)
      (does_compare {held = data_of old store} {a = a} {b = b} {below = drop 2 old.operands} group two (two_on_top old.operands a b top under (two_found n t.1).0)))

  pub binary_done : IsBinary op → (a b value : ℕ) → b ≡ get_or old.operands 0 0 → a ≡ get_or old.operands 1 0 → Some value ≡ binary_value op a b → (op ≤ 0x78 → value < 2 ^ 32) → value < 2 ^ 64 → new ≡ replaced 2 value old → IsDone (numeric op) old store new store
  binary_done group a b value top under said narrow wide e =
      let t = takes_binary op group in
      two_done n store new value t.1 (t.2.wide value narrow wide) e
      (does_binary {held = data_of old store} {a = a} {b = b} {c = value} {below = drop 2 old.operands} group (two_on_top old.operands a b top under (two_found n t.1).0) (sym said))

  pub divides_by_zero : IsBinary op → (a b : ℕ) → b ≡ get_or old.operands 0 0 → a ≡ get_or old.operands 1 0 → None ≡ binary_value op a b → b ≡ 0 → new ≡ old → IsStopped (numeric op) old store traps.DivideByZero new store
  divides_by_zero group a b top under said zero same = record {
    cause = inl (fails_by_zero {held = data_of old store} {a = a} {below = drop 2 old.operands} group
        (two_on_top old.operands a 0 (sym zero ∙ top) under (binary_found n group).0)
        (ap (λ z. binary_value op a z) (sym zero) ∙ sym said));
    held = same;
    stored = refl;
  }

  pub overflows : IsBinary op → (a b : ℕ) → b ≡ get_or old.operands 0 0 → a ≡ get_or old.operands 1 0 → None ≡ binary_value op a b → IsOverflow op a b → new ≡ old → IsStopped (numeric op) old store traps.Overflow new store
  overflows group a b top under said least same = record {
    cause = inl (fails_overflow {held = data_of old store} {a = a} {b = b} {below = drop 2 old.operands} group
        (two_on_top old.operands a b top under (binary_found n group).0) (overflow_not_zero op a b least) (sym said));
    held = same;
    stored = refl;
  }

-- ---- constants

module _ (old : Held) (store : Store) {T : Type 0} (answer : Result T Trap) (new : Held) (number : ℤ) (value : ℕ) where
  pub i32_const_done : value ≡ cast_unsigned w32 number → value < 2 ^ 32
      → MatchResult answer (λ _. (size (running no_ops old) < most_values) × (new ≡ pushed value old)) (λ trap. (trap ≡ traps.StackFull) × (most_values ≤ size (running no_ops old)) × (new ≡ old))
      → IsRun (i32_const number) old store answer new store
  i32_const_done said fits e =
      done_pushed (i32_const number) old store answer new value e
      (subst (λ z. Does (i32_const number) (data_of old store) (data_of (pushed z old) store)) (sym said) (does_i32_const {held = data_of old store} {number = number}))
      (λ base rest typed stored. record { ins = []; outs = I32 ∷ []; as_many = refl; values = next_value fits no_values; offers = offers_i32_const (running rest old) typed })

  pub i64_const_done : value ≡ cast_unsigned w64 number → value < 2 ^ 64
      → MatchResult answer (λ _. (size (running no_ops old) < most_values) × (new ≡ pushed value old)) (λ trap. (trap ≡ traps.StackFull) × (most_values ≤ size (running no_ops old)) × (new ≡ old))
      → IsRun (i64_const number) old store answer new store
  i64_const_done said fits e =
      done_pushed (i64_const number) old store answer new value e
      (subst (λ z. Does (i64_const number) (data_of old store) (data_of (pushed z old) store)) (sym said) (does_i64_const {held = data_of old store} {number = number}))
      (λ base rest typed stored. record { ins = []; outs = I64 ∷ []; as_many = refl; values = next_value fits no_values; offers = offers_i64_const (running rest old) typed })
