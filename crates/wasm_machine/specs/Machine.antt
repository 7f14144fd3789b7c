-- What running instructions does to a thread, a store and a host.
use Rattle.std.specs.Prelude.{◌≡◌, Result, MatchResult}
use Rattle.wasm_values.specs.Syntax.{Op, Ops, next}
use Rattle.wasm_typing.specs.Context.{Context, module_context}
use Rattle.wasm_steps.specs.Program.{Program, Store}
use Rattle.wasm_steps.specs.Steps.{Meaning, State, Step, Stops}
use Rattle.wasm_steps.specs.declared.outcome.Trap.{Trap}
use Rattle.wasm_soundness.specs.Typed.{IsTyped, IsTypedStore}
use Rattle.wasm_stack.specs.Held.{Held, running}
use Rattle.wasm_stack.specs.View.{ops_at}
use Rattle.wasm_stack.specs.declared.place.Place.{Place}
use Rattle.wasm_link.specs.Kept.{Kept, link_view}

-- of a linked module, the context of its functions, and its program
abbrev pub base_of : Kept → Context
base_of linked = module_context (link_view linked).whole

abbrev pub program_of : Kept → Program
program_of linked = (link_view linked).program

-- the state with these instructions left to run
abbrev pub state_of : {S : Type 0} → Ops → Held → Store → S → State S
state_of code held store host = record { thread = running code held; store = store; host = host }

-- The thread and the store are typed.
pub record IsSoundAt (base : Context) (code : Ops) (held : Held) (stored : Store) : Type 0 where
  pub thread : IsTyped base (running code held)
  pub store : IsTypedStore base stored

-- The instruction is next in a typed thread.
abbrev pub IsRunnable : Op → Ops → Held → Type 0
IsRunnable op rest held = (base : Context) × IsTyped base (running (next op rest) held)

-- By one step that costs 1 from one state to another, which is typed again.
pub record Ran (program : Program) {S : Type 0} (H : Meaning S) (base : Context) (code : Ops) (old : Held)
    (before : Store) (host : S) (after : Ops) (new : Held) (kept : Store) (later : S) : Type 0 where
  pub step : Step program H (state_of code old before host) 1 (state_of after new kept later)
  pub sound : IsSoundAt base after new kept

-- The instruction trapped, and changed nothing.
pub record Stopped (program : Program) {S : Type 0} (code : Ops) (old : Held) (before : Store) (host : S)
    (trap : Trap) (new : Held) (kept : Store) (later : S) : Type 0 where
  pub stops : Stops program (state_of code old before host) trap
  pub held : new ≡ old
  pub stored : kept ≡ before
  pub host_kept : later ≡ host

-- The instruction was run and led to a place, or trapped.
abbrev pub Executes : Program → {S : Type 0} → Meaning S → Context → Ops → Held → Store → S
    → Result Place Trap → Held → Store → S → Type 0
Executes program H base code old before host result new kept later =
    MatchResult result (λ place. Ran program H base code old before host (ops_at place) new kept later)
    (λ trap. Stopped program code old before host trap new kept later)
