-- The instructions on locals.
use Rattle.std.proofs.Common.{◌≡◌, ℕ, ◌<◌, ◌≤◌, [], ◌∷◌, length, drop, get_or, Some, Result, MatchResult, refl, sym, ap, subst, ◌∙◌, arith, length-drop, length-set}
use Rattle.std.proofs.lemmas.Option.{slice_get-get_or}
use Rattle.wasm_values.specs.Syntax.{no_ops, local_get, local_set, local_tee}
use Rattle.wasm_steps.specs.Program.{Store, most_values}
use Rattle.wasm_steps.specs.Threads.{size}
use Rattle.wasm_steps.specs.Plain.{does_local_get, does_local_set, does_local_tee}
use Rattle.wasm_steps.specs.declared.outcome.Trap.{Trap}
use Rattle.wasm_steps.specs.declared.outcome.Trap.TheVariants as traps
use Rattle.wasm_soundness.specs.Typed.{IsValue, no_values, next_value}
use Rattle.wasm_soundness.proofs.Plain.{offers_local_get, sets_local, tees_local}
use Rattle.wasm_stack.specs.Held.{Held, running, pushed, without, with_local}
use Rattle.wasm_plain.specs.Done.{data_of, IsNext, IsDone, IsRun}
use Rattle.wasm_plain.proofs.Doing.{first_of_all, done_pushed}

module _ {local : ℕ} {old : Held} {before : Store} where
  pub get_found : IsNext (local_get local) old before → local < length old.locals
  get_found n = (offers_local_get (running n.rest old) local n.thread).1

  pub get_done : IsNext (local_get local) old before → (store : Store) {T : Type 0} (answer : Result T Trap) (new : Held) (value : ℕ) → value ≡ get_or old.locals local 0
      → MatchResult answer (λ _. (size (running no_ops old) < most_values) × (new ≡ pushed value old)) (λ trap. (trap ≡ traps.StackFull) × (most_values ≤ size (running no_ops old)) × (new ≡ old))
      → IsRun (local_get local) old store answer new store
  get_done n store answer new value said e =
      done_pushed (local_get local) old store answer new value e
      (does_local_get {held = data_of old store} {local = local} {a = value} (slice_get-get_or old.locals local 0 (get_found n) ∙ ap Some (sym said)))
      (λ base rest typed stored.
      let o = offers_local_get (running rest old) local typed in
      record { ins = []; outs = o.0 ∷ []; as_many = refl; values = next_value (subst (λ z. IsValue o.0 z) (sym said) o.2) no_values; offers = o.3 })

  pub set_found : IsNext (local_set local) old before → (local < length old.locals) × (1 ≤ length old.operands)
  set_found n = let s = sets_local (running n.rest old) local n.thread in (s.0, s.1)

  pub set_done : IsNext (local_set local) old before → (store : Store) (new : Held) (value : ℕ) → value ≡ get_or old.operands 0 0 → new ≡ without 1 (with_local local value old) → IsDone (local_set local) old store new store
  set_done n store new value said e =
      let f = set_found n in
      let room = n.thread.room in
      subst (λ (z : Held). IsDone (local_set local) old store z store) (ap (λ z. without 1 (with_local local z old)) (sym said) ∙ sym e)
      (record {
        does = does_local_set {held = data_of old store} {local = local} {a = get_or old.operands 0 0} {below = drop 1 old.operands} f.0 (first_of_all old.operands f.1);
        levels = refl;
        room = omega (arith, room, length-drop 1 old.operands, length-set old.locals local (get_or old.operands 0 0));
        thread = λ base rest typed stored. (sets_local (running rest old) local typed).2;
        store = λ base rest typed stored. stored;
      })

  pub tee_found : IsNext (local_tee local) old before → (local < length old.locals) × (1 ≤ length old.operands)
  tee_found n = let s = tees_local (running n.rest old) local n.thread in (s.0, s.1)

  pub tee_done : IsNext (local_tee local) old before → (store : Store) (new : Held) (value : ℕ) → value ≡ get_or old.operands 0 0 → new ≡ with_local local value old → IsDone (local_tee local) old store new store
  tee_done n store new value said e =
      let f = tee_found n in
      let room = n.thread.room in
      subst (λ (z : Held). IsDone (local_tee local) old store z store) (ap (λ z. with_local local z old) (sym said) ∙ sym e)
      (record {
        does = does_local_tee {held = data_of old store} {local = local} {a = get_or old.operands 0 0} {below = drop 1 old.operands} f.0 (first_of_all old.operands f.1);
        levels = refl;
        room = omega (arith, room, length-set old.locals local (get_or old.operands 0 0));
        thread = λ base rest typed stored. (tees_local (running rest old) local typed).2;
        store = λ base rest typed stored. stored;
      })
