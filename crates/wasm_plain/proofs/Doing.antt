-- Instructions that put results in the place of operands.
use Rattle.std.proofs.Common.{◌≡◌, ℕ, ◌<◌, ◌≤◌, List, [], ◌∷◌, ◌++◌, length, drop, get_or, Result, MatchResult, refl, sym, subst, inr, arith, length-append, length-drop}
use Rattle.std.proofs.lemmas.Result.{MatchResult-weaker}
use Rattle.wasm_values.specs.Syntax.{Op, Ops, no_ops, next}
use Rattle.wasm_values.specs.declared.types.ValType.{ValType}
use Rattle.wasm_typing.specs.Context.{Context}
use Rattle.wasm_steps.specs.Program.{Store, most_values}
use Rattle.wasm_steps.specs.Threads.{Thread, size}
use Rattle.wasm_steps.specs.Plain.{Does}
use Rattle.wasm_steps.specs.declared.outcome.Trap.{Trap}
use Rattle.wasm_steps.specs.declared.outcome.Trap.TheVariants as traps
use Rattle.wasm_soundness.specs.Typed.{AreValues, IsTyped, IsTypedStore}
use Rattle.wasm_soundness.specs.Ready.{Offers, given}
use Rattle.wasm_stack.specs.Held.{Held, running, pushed, replaced}
use Rattle.wasm_plain.specs.Done.{data_of, IsDone, IsRun}

-- ---- lists

pub first_of_all : (xs : List ℕ) → 1 ≤ length xs → xs ≡ get_or xs 0 0 ∷ drop 1 xs
first_of_all [] h = absurd (omega (arith, h))
first_of_all (x ∷ xs) h = refl

pub two_of_all : (xs : List ℕ) → 2 ≤ length xs → xs ≡ get_or xs 0 0 ∷ get_or xs 1 0 ∷ drop 2 xs
two_of_all [] h = absurd (omega (arith, h))
two_of_all (x ∷ []) h = absurd (omega (arith, h))
two_of_all (x ∷ y ∷ xs) h = refl

pub three_of_all : (xs : List ℕ) → 3 ≤ length xs → xs ≡ get_or xs 0 0 ∷ get_or xs 1 0 ∷ get_or xs 2 0 ∷ drop 3 xs
three_of_all [] h = absurd (omega (arith, h))
three_of_all (x ∷ []) h = absurd (omega (arith, h))
three_of_all (x ∷ y ∷ []) h = absurd (omega (arith, h))
three_of_all (x ∷ y ∷ z ∷ xs) h = refl

-- ---- results in the place of operands

-- with results in the place of so many operands
abbrev pub with_results : ℕ → List ℕ → Held → Held
with_results count results held = record held { operands = results ++ drop count held.operands }

-- The thread offers so many operands for these results.
pub record Offered (base : Context) (count : ℕ) (results : List ℕ) (thread : Thread) : Type 0 where
  pub ins : List ValType
  pub outs : List ValType
  pub as_many : length ins ≡ count
  pub values : AreValues outs results
  pub offers : Offers base ins outs thread

-- However it is typed with the instruction next, the thread offers so many operands for these results.
abbrev pub Gives : Op → ℕ → List ℕ → Held → Store → Type 0
Gives op count results held store = (base : Context) (rest : Ops) → IsTyped base (running (next op rest) held) → IsTypedStore base store → Offered base count results (running rest held)

typed_with : {base : Context} {count : ℕ} {results : List ℕ} {thread : Thread} → Offered base count results thread → size (given count results thread) ≤ most_values → IsTyped base (given count results thread)
typed_with {base} {count} {results} {thread} o room =
    let P : ℕ → Type 0 = λ n. size (given n results thread) ≤ most_values → IsTyped base (given n results thread) in
    subst P o.as_many (o.offers.gives results o.values) room

-- no more results than operands: they have room where the operands had it
pub shrunk : (old : Held) (count : ℕ) (results : List ℕ) → length results ≤ count → count ≤ length old.operands → size (running no_ops old) ≤ most_values → size (running no_ops (with_results count results old)) ≤ most_values
shrunk old count results few there room = omega (arith, few, there, room, length-append results (drop count old.operands), length-drop count old.operands)

module _ (op : Op) (old : Held) (store : Store) where
  -- results in the place of operands, and another store
  pub done_in : (after : Store) (count : ℕ) (results : List ℕ)
      → Does op (data_of old store) (data_of (with_results count results old) after)
      → size (running no_ops (with_results count results old)) ≤ most_values
      → Gives op count results old store
      → ((base : Context) (rest : Ops) → IsTyped base (running (next op rest) old) → IsTypedStore base store → IsTypedStore base after)
      → IsDone op old store (with_results count results old) after
  done_in after count results does room gives keeps = record {
    does = does;
    levels = refl;
    room = room;
    thread = λ base rest typed stored. typed_with (gives base rest typed stored) room;
    store = keeps;
  }

  -- one result in the place of operands
  pub done_replaced : (new : Held) (count value : ℕ) → new ≡ replaced count value old → 1 ≤ count → count ≤ length old.operands → size (running no_ops old) ≤ most_values
      → Does op (data_of old store) (data_of (replaced count value old) store)
      → Gives op count (value ∷ []) old store
      → IsDone op old store new store
  done_replaced new count value e some there room does gives =
      subst (λ (z : Held). IsDone op old store z store) (sym e)
      (done_in store count (value ∷ []) does (shrunk old count (value ∷ []) (omega arith) there room) gives (λ base rest typed stored. stored))

  -- a result on top, where there is room
  pub done_pushed : {T : Type 0} (answer : Result T Trap) (new : Held) (value : ℕ)
      → MatchResult answer (λ _. (size (running no_ops old) < most_values) × (new ≡ pushed value old)) (λ trap. (trap ≡ traps.StackFull) × (most_values ≤ size (running no_ops old)) × (new ≡ old))
      → Does op (data_of old store) (data_of (pushed value old) store)
      → Gives op 0 (value ∷ []) old store
      → IsRun op old store answer new store
  done_pushed answer new value e does gives =
      MatchResult-weaker answer e
      (λ _ p. subst (λ (z : Held). IsDone op old store z store) (sym p.1) (done_in store 0 (value ∷ []) does (omega (arith, p.0)) gives (λ base rest typed stored. stored)))
      (λ trap p. record { cause = inr (p.0, record { result = data_of (pushed value old) store; does = does; full = omega (arith, p.1) }); held = p.2; stored = refl })
