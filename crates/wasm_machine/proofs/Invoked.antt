-- Functions that are invoked from outside, and runs of whole instances.
use Rattle.std.proofs.Common.{◌≡◌, ℕ, ◌+◌, ◌-◌, ◌≤◌, Bool, true, false, cond, [], Option, Some, None, slice_get, refl, ap, sym, ◌∙◌, subst, arith}
use Rattle.wasm_values.specs.Syntax.{Ops, no_ops}
use Rattle.wasm_values.specs.declared.types.FuncType.{FuncType}
use Rattle.wasm_typing.specs.Context.{Context}
use Rattle.wasm_steps.specs.Program.{defined, Program, Store, most_values}
use Rattle.wasm_steps.specs.Threads.{Thread, size}
use Rattle.wasm_steps.specs.Steps.{Meaning, State}
use Rattle.wasm_steps.specs.Runs.{IsInvoked, IsStopped, Ends, ends_main, ends_in_start, ends_behind_start, behind}
use Rattle.wasm_steps.specs.declared.outcome.Outcome.{Outcome}
use Rattle.wasm_steps.specs.declared.outcome.Outcome.TheVariants.{Finished, Trapped, Spent}
use Rattle.wasm_soundness.specs.Typed.{IsTyped, IsTypedProgram}
use Rattle.wasm_soundness.proofs.Ends.{begins_typed}
use Rattle.wasm_stack.specs.Held.{Held, running, nothing, called}
use Rattle.wasm_machine.specs.Runs.{EndsSo}

pub same_more : {t u : FuncType} {m n : ℕ} {b d : Ops} → defined t m b ≡ defined u n d → m ≡ n
same_more e = cc

pub same_body : {t u : FuncType} {m n : ℕ} {b d : Ops} → defined t m b ≡ defined u n d → b ≡ d
same_body e = cc

made_so : (b : Bool) (new made old : Held) → b ≡ true → new ≡ cond b made old → new ≡ made
made_so true new made old t e = e
made_so false new made old t e = absurd (cc)

-- ---- invocations

-- there is always room for the locals of a function that is invoked
pub always_fits : (program : Program) (func : ℕ) (base : Context) (type : FuncType) (more : ℕ) (body : Ops) (empty : Held) (fits : Bool)
    → IsTypedProgram base program → slice_get program.functions func ≡ Some (defined type more body) → empty ≡ nothing
    → (size (running no_ops empty) + more ≤ most_values → fits ≡ true) → fits ≡ true
always_fits program func base type more body empty fits typed known e room =
    let within : more ≤ most_values = omega (arith, (typed.bodies func type more body known).room) in
    let low : size (running no_ops empty) ≡ 0 = ap (λ (z : Held). size (running no_ops z)) e in
    room (omega arith)

pub never_full : (fits : Bool) → fits ≡ true → fits ≡ false → ⊥
never_full fits e f = cc

pub invoked_as : (program : Program) (func : ℕ) (base : Context) (type : FuncType) (more : ℕ) (body : Ops) (empty made : Held) (fits : Bool)
    → IsTypedProgram base program → slice_get program.functions func ≡ Some (defined type more body) → empty ≡ nothing
    → (size (running no_ops empty) + more ≤ most_values → fits ≡ true) → made ≡ cond fits (called 0 more 0 no_ops empty) empty
    → IsInvoked program func (running body made)
invoked_as program func base type more body empty made fits typed known e room made_is =
    let so : made ≡ called 0 more 0 no_ops nothing = made_so fits made (called 0 more 0 no_ops empty) empty (always_fits program func base type more body empty fits typed known e room) made_is ∙ ap (λ (z : Held). called 0 more 0 no_ops z) e in
    record { type = type; more = more; body = body; known = known; begins = ap (λ (z : Held). running body z) so }

pub invoked_typed : (program : Program) (func : ℕ) (base : Context) (type : FuncType) (more : ℕ) (body : Ops) (empty made : Held) (fits : Bool)
    → IsTypedProgram base program → slice_get program.functions func ≡ Some (defined type more body) → type.params ≡ [] → type.result ≡ None → empty ≡ nothing
    → (size (running no_ops empty) + more ≤ most_values → fits ≡ true) → made ≡ cond fits (called 0 more 0 no_ops empty) empty
    → IsTyped base (running body made)
unfolding invoked_as
invoked_typed program func base type more body empty made fits typed known params result e room made_is =
    begins_typed program func (running body made) typed (invoked_as program func base type more body empty made fits typed known e room made_is) params result

-- ---- whole runs

-- what invoking a function came to
abbrev pub Came : Program → {S : Type 0} → Meaning S → ℕ → Store → S → ℕ → Outcome → Store → S → Type 0
Came program H func store host fuel outcome kept later = (thread : Thread) × IsInvoked program func thread × EndsSo program H (record { thread = thread; store = store; host = host }) fuel outcome kept later

pub not_finished : (outcome : Outcome) → ((used : ℕ) → outcome ≡ Finished used → ⊥) → IsStopped outcome
not_finished (Finished used) never = absurd (never used refl)
not_finished (Trapped used trap) never = tt
not_finished (Spent used) never = tt

module _ {S : Type 0} (program : Program) (H : Meaning S) (main : ℕ) where
  -- without a start function
  pub main_alone : (start : Option ℕ) (first store kept : Store) (host later : S) (fuel : ℕ) (outcome : Outcome) → start ≡ None → store ≡ first → Came program H main store host fuel outcome kept later
      → (last : State S) × Ends program H main start first host fuel outcome last × (last.host ≡ later)
  main_alone start first store kept host later fuel outcome none e came =
      let P : Option ℕ → Store → Type 0 = λ y z. Ends program H main y z host fuel outcome came.2.0 in
      (came.2.0, subst (λ (y : Option ℕ). P y first) (sym none) (subst (λ (z : Store). P None z) e (ends_main came.1 came.2.1)), came.2.2)

  -- the start function was stopped
  pub start_stopped : (start : Option ℕ) (func : ℕ) (first store kept : Store) (host later : S) (fuel : ℕ) (outcome : Outcome) → start ≡ Some func → store ≡ first → IsStopped outcome
      → Came program H func store host fuel outcome kept later
      → (last : State S) × Ends program H main start first host fuel outcome last × (last.host ≡ later)
  start_stopped start func first store kept host later fuel outcome some e stopped came =
      let P : Option ℕ → Store → Type 0 = λ y z. Ends program H main y z host fuel outcome came.2.0 in
      (came.2.0, subst (λ (y : Option ℕ). P y first) (sym some) (subst (λ (z : Store). P (Some func) z) e (ends_in_start came.1 came.2.1 stopped)), came.2.2)

  -- `loop` behind the start function
  pub behind_start : (start : Option ℕ) (func used : ℕ) (first store between kept : Store) (host middle later : S) (fuel : ℕ) (outcome all : Outcome) → start ≡ Some func → store ≡ first → all ≡ behind used outcome
      → Came program H func store host fuel (Finished used) between middle → Came program H main between middle (fuel - used) outcome kept later
      → (last : State S) × Ends program H main start first host fuel all last × (last.host ≡ later)
  behind_start start func used first store between kept host middle later fuel outcome all some e total came next =
      let state = came.2.0 in
      let Q : Store → S → Type 0 = λ z h. Ends program H main None z h (fuel - used) outcome next.2.0 in
      let second : Q between middle = ends_main next.1 next.2.1 in
      let moved : Q state.store state.host = subst (λ (h : S). Q state.store h) (sym came.2.2) (subst (λ (z : Store). Q z middle) (sym came.2.3) second) in
      let P : Option ℕ → Store → Outcome → Type 0 = λ y z o. Ends program H main y z host fuel o next.2.0 in
      let whole : P (Some func) store (behind used outcome) = ends_behind_start came.1 came.2.1 moved in
      (next.2.0, subst (λ (y : Option ℕ). P y first all) (sym some) (subst (λ (z : Store). P (Some func) z all) e (subst (λ (o : Outcome). P (Some func) store o) (sym total) whole)), next.2.2)
