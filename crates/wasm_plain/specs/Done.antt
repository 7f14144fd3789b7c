-- What running a plain instruction does to the stack and the store, and what it finds there.
use Rattle.std.specs.Prelude.{◌≡◌, ◌<◌, ◌≤◌, ◌⊎◌, Result, MatchResult}
use Rattle.wasm_values.specs.Syntax.{Op, Ops, next, no_ops}
use Rattle.wasm_typing.specs.Context.{Context}
use Rattle.wasm_steps.specs.Program.{Store, most_values}
use Rattle.wasm_steps.specs.Threads.{size}
use Rattle.wasm_steps.specs.Plain.{Data, Does, Fails}
use Rattle.wasm_steps.specs.declared.outcome.Trap.{Trap}
use Rattle.wasm_steps.specs.declared.outcome.Trap.TheVariants as traps
use Rattle.wasm_soundness.specs.Typed.{IsTyped, IsTypedStore}
use Rattle.wasm_stack.specs.Held.{Held, running}

-- the locals, the operands and the store
abbrev pub data_of : Held → Store → Data
data_of held store = record { locals = held.locals; operands = held.operands; store = store }

-- The instruction is next in a thread and a store that are typed.
pub record IsNext (op : Op) (held : Held) (stored : Store) : Type 0 where
  pub base : Context
  pub rest : Ops
  pub thread : IsTyped base (running (next op rest) held)
  pub store : IsTypedStore base stored

-- The instruction was run: the thread and the store have a typing again wherever they had one.
pub record IsDone (op : Op) (old : Held) (before : Store) (new : Held) (after : Store) : Type 0 where
  pub does : Does op (data_of old before) (data_of new after)
  pub levels : new.levels ≡ old.levels
  pub room : size (running no_ops new) ≤ most_values
  pub thread : (base : Context) (rest : Ops) → IsTyped base (running (next op rest) old)
      → IsTypedStore base before → IsTyped base (running rest new)
  pub store : (base : Context) (rest : Ops) → IsTyped base (running (next op rest) old)
      → IsTypedStore base before → IsTypedStore base after

-- There is no room for what the instruction pushes.
pub record IsFull (op : Op) (old : Held) (before : Store) : Type 0 where
  pub result : Data
  pub does : Does op (data_of old before) result
  pub full : most_values
      < size (running no_ops (record old { operands = result.operands; locals = result.locals }))

-- The instruction trapped, and changed nothing.
pub record IsStopped (op : Op) (old : Held) (before : Store) (trap : Trap) (new : Held)
    (after : Store) : Type 0 where
  pub cause : Fails op (data_of old before) trap ⊎ ((trap ≡ traps.StackFull) × IsFull op old before)
  pub held : new ≡ old
  pub stored : after ≡ before

-- What an instruction that may trap leaves: it was run, or it trapped.
abbrev pub IsRun : {A : Type 0} → Op → Held → Store → Result A Trap → Held → Store → Type 0
IsRun op old before result new after =
    MatchResult result (λ _. IsDone op old before new after)
    (λ trap. IsStopped op old before trap new after)
