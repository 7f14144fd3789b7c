-- What each answer of a host keeps, a run keeps.
use Rattle.std.proofs.Common.{ℕ, ℤ, List, Option}
use Rattle.wasm_values.specs.Syntax.{Ops}
use Rattle.wasm_store.specs.Memory.{Memory}
use Rattle.wasm_steps.specs.Program.{Function, Program, Store}
use Rattle.wasm_steps.specs.Steps.{Meaning, State, Step, Calls, calls_own, calls_host, step_leaves, step_plain, step_block, step_loop, step_then, step_else, step_br, step_br_if, step_no_br_if, step_br_table, step_return, step_call, step_call_indirect}
use Rattle.wasm_steps.specs.Runs.{EndsFrom, Ends, Steps, no_step, one_more, ends_main, ends_in_start, ends_behind_start}
use Rattle.wasm_steps.specs.declared.outcome.Outcome.{Outcome}
use Rattle.wasm_steps.specs.declared.outcome.Outcome.TheVariants.{Finished, Trapped, Spent}

module _ (program : Program) {S : Type 0} (H : Meaning S) (P : S → Type 0)
    (keeps : (host later : S) (number : ℕ) (args : List ℤ) (memory after : Memory) (answer : ℤ) → H host number args memory answer after later → P host → P later) where
  call_keeps : {found : Function} {rest : Ops} {first last : State S} → Calls H found rest first last → P first.host → P last.host
  call_keeps (calls_own few small) held = held
  call_keeps (calls_host {state = s} {number = n} {answer = a} {memory = m} {host = h} small got) held = keeps s.host h n _ s.store.memory m a got held

  step_keeps : {first last : State S} {cost : ℕ} → Step program H first cost last → P first.host → P last.host
  step_keeps (step_leaves leaves) held = held
  step_keeps (step_plain code does small) held = held
  step_keeps (step_block code) held = held
  step_keeps (step_loop code) held = held
  step_keeps (step_then code operands other) held = held
  step_keeps (step_else code operands) held = held
  step_keeps (step_br code branches) held = held
  step_keeps (step_br_if code operands other branches) held = held
  step_keeps (step_no_br_if code operands) held = held
  step_keeps (step_br_table code operands target branches) held = held
  step_keeps (step_return code returns) held = held
  step_keeps (step_call code known calls) held = call_keeps calls held
  step_keeps (step_call_indirect code operands finds calls) held = call_keeps calls held

  steps_keep : {first last : State S} {cost : ℕ} → Steps program H first cost last → P first.host → P last.host
  steps_keep no_step held = held
  steps_keep (one_more steps step) held = step_keeps step (steps_keep steps held)

  from_keeps : (first : State S) (fuel : ℕ) (outcome : Outcome) (last : State S) → EndsFrom program H first fuel outcome last → P first.host → P last.host
  from_keeps first fuel (Finished used) last e held = steps_keep e.1 held
  from_keeps first fuel (Trapped used trap) last e held = steps_keep e.3 held
  from_keeps first fuel (Spent used) last e held = steps_keep e.1 held

  pub run_keeps : {main fuel : ℕ} {start : Option ℕ} {store : Store} {host : S} {outcome : Outcome} {last : State S} → Ends program H main start store host fuel outcome last → P host → P last.host
  run_keeps {fuel = f} {outcome = o} {last = l} (ends_main {thread = t} {store = s} {host = h} v e) held = from_keeps (record { thread = t; store = s; host = h }) f o l e held
  run_keeps {fuel = f} {outcome = o} {last = l} (ends_in_start {thread = t} {store = s} {host = h} v e u) held = from_keeps (record { thread = t; store = s; host = h }) f o l e held
  run_keeps {fuel = f} (ends_behind_start {used = n} {thread = t} {store = s} {host = h} {middle = m} v e d) held = run_keeps d (from_keeps (record { thread = t; store = s; host = h }) f (Finished n) m e held)
