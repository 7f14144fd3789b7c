-- Whole runs, and how they end.
use Rattle.std.specs.Prelude.{◌≡◌, ℕ, ◌+◌, ◌-◌, ◌≤◌, [], ◌∷◌, replicate, Option, Some, None, slice_get}
use Rattle.wasm_values.specs.Syntax.{Op, Ops, no_ops, next}
use Rattle.wasm_values.specs.declared.types.FuncType.{FuncType}
use Rattle.wasm_steps.specs.Program.{Program, Store, defined}
use Rattle.wasm_steps.specs.Threads.{Thread, frame}
use Rattle.wasm_steps.specs.Steps.{Meaning, State, Step, Stops}
use Rattle.wasm_steps.specs.declared.outcome.Outcome.{Outcome}
use Rattle.wasm_steps.specs.declared.outcome.Outcome.TheVariants.{Finished, Trapped, Spent}

-- Some steps, and what they cost together.
pub data Steps (program : Program) {S : Type 0} (H : Meaning S) : State S → ℕ → State S → Type 0 where
  no_step : {state : State S} → Steps program H state 0 state
  one_more : {first middle last : State S} {used cost : ℕ}
      → Steps program H first used middle → Step program H middle cost last
      → Steps program H first (used + cost) last

-- Nothing is left to run.
abbrev pub IsOver : Thread → Type 0
IsOver thread = (thread.code ≡ no_ops) × (thread.levels ≡ [])

-- An instruction is to be executed.
abbrev pub IsAtInstruction : Thread → Type 0
IsAtInstruction thread = (op : Op) × (rest : Ops) × (thread.code ≡ next op rest)

-- With so much fuel a run that begins in one state ends so, in the other state.
abbrev pub EndsFrom : Program → {S : Type 0} → Meaning S → State S → ℕ → Outcome → State S → Type 0
EndsFrom program H first fuel (Finished used) last =
    (used ≤ fuel) × Steps program H first used last × IsOver last.thread
EndsFrom program H first fuel (Trapped used trap) last =
    (used ≤ fuel) × (before : ℕ) × (before + 1 ≡ used) × Steps program H first before last
    × Stops program last trap
EndsFrom program H first fuel (Spent used) last =
    (used ≡ fuel) × Steps program H first used last × IsAtInstruction last.thread

-- ---- a run of an instance

-- The thread of a function that is invoked from outside: it costs nothing, and is frame 1.
pub record IsInvoked (program : Program) (func : ℕ) (thread : Thread) : Type 0 where
  pub type : FuncType
  pub more : ℕ
  pub body : Ops
  pub known : slice_get program.functions func ≡ Some (defined type more body)
  pub begins : thread ≡ record {
    code = body;
    operands = [];
    locals = replicate more 0;
    levels = frame 0 [] [] no_ops ∷ [];
  }

-- an outcome with so many instructions before it
abbrev pub behind : ℕ → Outcome → Outcome
behind before (Finished used) = Finished (before + used)
behind before (Trapped used trap) = Trapped (before + used) trap
behind before (Spent used) = Spent (before + used)

-- The run did not come to its end.
abbrev pub IsStopped : Outcome → Type 0
IsStopped (Finished used) = ⊥
IsStopped outcome = Unit {0}

-- A run of a fresh instance: the start function first, where there is one, and then `loop`.
pub data Ends (program : Program) {S : Type 0} (H : Meaning S) (main : ℕ) : Option ℕ → Store → S → ℕ → Outcome
    → State S → Type 0 where
  ends_main : {thread : Thread} {store : Store} {host : S} {fuel : ℕ} {outcome : Outcome} {last : State S}
      → IsInvoked program main thread
      → EndsFrom program H (record { thread = thread; store = store; host = host }) fuel outcome last
      → Ends program H main None store host fuel outcome last
  ends_in_start : {start : ℕ} {thread : Thread} {store : Store} {host : S} {fuel : ℕ} {outcome : Outcome}
      {last : State S}
      → IsInvoked program start thread
      → EndsFrom program H (record { thread = thread; store = store; host = host }) fuel outcome last
      → IsStopped outcome
      → Ends program H main (Some start) store host fuel outcome last
  ends_behind_start : {start used : ℕ} {thread : Thread} {store : Store} {host : S} {fuel : ℕ}
      {outcome : Outcome} {middle last : State S}
      → IsInvoked program start thread
      → EndsFrom program H (record {
        thread = thread;
        store = store;
        host = host;
      }) fuel (Finished used) middle
      → Ends program H main None middle.store middle.host (fuel - used) outcome last
      → Ends program H main (Some start) store host fuel (behind used outcome) last
