-- The instructions that drop an operand and select one.
use Rattle.std.proofs.Common.{◌≡◌, ◌≢◌, ℕ, ◌≤◌, ◌==◌, if◌then◌else◌, cond, Bool, true, false, [], ◌∷◌, length, drop, get_or, refl, sym, subst, ◌∙◌, arith}
use Rattle.std.proofs.lemmas.Bool.Decides.{nat_tests}
use Rattle.wasm_values.specs.Syntax.{drop_value, select}
use Rattle.wasm_values.specs.declared.types.ValType.{ValType}
use Rattle.wasm_values.specs.declared.types.ValType.TheVariants.{I32}
use Rattle.wasm_steps.specs.Program.{Store}
use Rattle.wasm_steps.specs.Plain.{Does, does_drop, does_select}
use Rattle.wasm_soundness.specs.Typed.{IsValue, no_values, next_value}
use Rattle.wasm_soundness.proofs.Plain.{offers_drop, offers_select}
use Rattle.wasm_soundness.proofs.Values.{three_values}
use Rattle.wasm_stack.specs.Held.{Held, running, without, replaced}
use Rattle.wasm_plain.specs.Done.{data_of, IsNext, IsDone}
use Rattle.wasm_plain.proofs.Doing.{first_of_all, three_of_all, shrunk, done_in, done_replaced}

pub drop_found : {old : Held} {before : Store} → IsNext drop_value old before → 1 ≤ length old.operands
drop_found {old} n = (offers_drop (running n.rest old) n.thread).1.there

pub drop_done : {old : Held} {before : Store} → IsNext drop_value old before → (store : Store) (new : Held) → new ≡ without 1 old → IsDone drop_value old store new store
drop_done {old} n store new e =
    let there = drop_found n in
    subst (λ (z : Held). IsDone drop_value old store z store) (sym e)
    (done_in drop_value old store store 1 [] (does_drop {held = data_of old store} {a = get_or old.operands 0 0} {below = drop 1 old.operands} (first_of_all old.operands there))
    (shrunk old 1 [] (omega arith) there n.thread.room)
    (λ base rest typed stored. let o = offers_drop (running rest old) typed in record { ins = o.0 ∷ []; outs = []; as_many = refl; values = no_values; offers = o.1 })
    (λ base rest typed stored. stored))

pub select_found : {old : Held} {before : Store} → IsNext select old before → 3 ≤ length old.operands
select_found {old} n = (offers_select (running n.rest old) n.thread).1.there

-- either of two values is one
chosen : (type : ValType) (first : Bool) (a b : ℕ) → IsValue type a → IsValue type b → IsValue type (cond first b a)
chosen type true a b v w = w
chosen type false a b v w = v

pub chosen_second : (condition first second value : ℕ) → condition ≡ 0 → value ≡ second → value ≡ (if condition == 0 then second else first)
chosen_second condition first second value e is = grind (arith, nat_tests)

pub chosen_first : (condition first second value : ℕ) → condition ≢ 0 → value ≡ first → value ≡ (if condition == 0 then second else first)
chosen_first condition first second value e is = grind (arith, nat_tests)

pub select_done : {old : Held} {before : Store} → IsNext select old before → (store : Store) (new : Held) (condition second first value : ℕ)
    → condition ≡ get_or old.operands 0 0 → second ≡ get_or old.operands 1 0 → first ≡ get_or old.operands 2 0
    → value ≡ (if condition == 0 then second else first) → new ≡ replaced 3 value old → IsDone select old store new store
select_done {old} n store new condition second first value top under below said e =
    let xs = old.operands in
    let there = select_found n in
    let all : xs ≡ condition ∷ second ∷ first ∷ drop 3 xs = three_of_all xs there ∙ cc in
    done_replaced select old store new 3 value e (omega arith) there n.thread.room
    (subst (λ z. Does select (data_of old store) (data_of (replaced 3 z old) store)) (sym said)
    (does_select {held = data_of old store} {a = first} {b = second} {c = condition} {below = drop 3 xs} all))
    (λ base rest typed stored.
    let o = offers_select (running rest old) typed in
    let v = three_values I32 o.0 o.0 xs o.1.values in
    let kept : IsValue o.0 (if condition == 0 then second else first) =
    chosen o.0 (condition == 0) first second (subst (λ z. IsValue o.0 z) (sym below) v.2) (subst (λ z. IsValue o.0 z) (sym under) v.1) in
    record {
      ins = I32 ∷ o.0 ∷ o.0 ∷ [];
      outs = o.0 ∷ [];
      as_many = refl;
      values = next_value (subst (λ z. IsValue o.0 z) (sym said) kept) no_values;
      offers = o.1;
    })
