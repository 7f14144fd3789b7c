-- The instructions on global variables.
use Rattle.std.proofs.Common.{◌≡◌, ℕ, ◌<◌, ◌≤◌, List, [], ◌∷◌, length, drop, get_or, slice_set, Some, Result, MatchResult, refl, sym, ap, subst, ◌∙◌, arith}
use Rattle.std.proofs.lemmas.Option.{slice_get-get_or}
use Rattle.wasm_values.specs.Syntax.{no_ops, global_get, global_set}
use Rattle.wasm_steps.specs.Program.{Store, most_values}
use Rattle.wasm_steps.specs.Threads.{size}
use Rattle.wasm_steps.specs.Plain.{does_global_get, does_global_set}
use Rattle.wasm_steps.specs.declared.outcome.Trap.{Trap}
use Rattle.wasm_steps.specs.declared.outcome.Trap.TheVariants as traps
use Rattle.wasm_soundness.specs.Typed.{IsValue, no_values, next_value}
use Rattle.wasm_soundness.proofs.Plain.{offers_global_get, offers_global_set}
use Rattle.wasm_soundness.proofs.Values.{one_value}
use Rattle.wasm_stack.specs.Held.{Held, running, pushed, without}
use Rattle.wasm_plain.specs.Done.{data_of, IsNext, IsDone, IsRun}
use Rattle.wasm_plain.proofs.Doing.{first_of_all, shrunk, done_in, done_pushed}

module _ {global : ℕ} {old : Held} {before : Store} where
  pub get_found : (globals : List ℕ) → before.globals ≡ globals → IsNext (global_get global) old before → global < length globals
  get_found globals same n = subst (λ (z : List ℕ). global < length z) same (offers_global_get (running n.rest old) global before n.store n.thread).1

  pub get_done : (globals : List ℕ) → before.globals ≡ globals → IsNext (global_get global) old before
      → (store : Store) → store.globals ≡ globals → {T : Type 0} (answer : Result T Trap) (new : Held) (value : ℕ) → value ≡ get_or globals global 0
      → MatchResult answer (λ _. (size (running no_ops old) < most_values) × (new ≡ pushed value old)) (λ trap. (trap ≡ traps.StackFull) × (most_values ≤ size (running no_ops old)) × (new ≡ old))
      → IsRun (global_get global) old store answer new store
  get_done globals same n store is answer new value said e =
      let at : value ≡ get_or store.globals global 0 = said ∙ ap (λ z. get_or z global 0) (sym is) in
      let within : global < length store.globals = subst (λ (z : List ℕ). global < length z) (sym is) (get_found globals same n) in
      done_pushed (global_get global) old store answer new value e
      (does_global_get {held = data_of old store} {global = global} {a = value} (slice_get-get_or store.globals global 0 within ∙ ap Some (sym at)))
      (λ base rest typed stored.
      let o = offers_global_get (running rest old) global store stored typed in
      record { ins = []; outs = o.0 ∷ []; as_many = refl; values = next_value (subst (λ z. IsValue o.0 z) (sym at) o.2) no_values; offers = o.3 })

  pub set_found : (globals : List ℕ) → before.globals ≡ globals → IsNext (global_set global) old before → (global < length globals) × (1 ≤ length old.operands)
  set_found globals same n =
      let o = offers_global_set (running n.rest old) global before n.store n.thread in
      (subst (λ (z : List ℕ). global < length z) same o.1, o.2.there)

  pub set_done : (globals : List ℕ) → before.globals ≡ globals → IsNext (global_set global) old before
      → (store : Store) → store.globals ≡ globals → (new : Held) (after : List ℕ) (value : ℕ) → value ≡ get_or old.operands 0 0 → after ≡ slice_set globals global value → new ≡ without 1 old
      → IsDone (global_set global) old store new (record store { globals = after })
  set_done globals same n store is new after value said written e =
      let f = set_found globals same n in
      let top = get_or old.operands 0 0 in
      let within : global < length store.globals = subst (λ (z : List ℕ). global < length z) (sym is) f.0 in
      let to : slice_set store.globals global top ≡ after = ap (λ z. slice_set z global top) is ∙ ap (λ z. slice_set globals global z) (sym said) ∙ sym written in
      let P : Held → List ℕ → Type 0 = λ z w. IsDone (global_set global) old store z (record store { globals = w }) in
      subst (λ (z : Held). P z after) (sym e) (subst (λ (w : List ℕ). P (without 1 old) w) to
      (done_in (global_set global) old store (record store { globals = slice_set store.globals global top }) 1 []
      (does_global_set {held = data_of old store} {global = global} {a = top} {below = drop 1 old.operands} within (first_of_all old.operands f.1))
      (shrunk old 1 [] (omega arith) f.1 n.thread.room)
      (λ base rest typed stored.
      let o = offers_global_set (running rest old) global store stored typed in
      record { ins = o.0 ∷ []; outs = []; as_many = refl; values = no_values; offers = o.2 })
      (λ base rest typed stored.
      let o = offers_global_set (running rest old) global store stored typed in
      o.3 top (one_value o.0 old.operands o.2.values))))
