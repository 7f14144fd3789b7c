-- What calls do to a thread, the memory and the host.
use Rattle.std.specs.Prelude.{◌≡◌, ◌⊎◌, ℕ, ℤ, ◌+◌, ◌<◌, ◌≤◌, List, ◌++◌, length, map, drop, take, reverse}
use Rattle.std.specs.Prelude.{zip, Result, MatchResult, IfOk}
use Rattle.wasm_values.specs.Syntax.{Ops}
use Rattle.wasm_values.specs.declared.types.ValType.{ValType}
use Rattle.wasm_values.specs.declared.types.FuncType.{FuncType}
use Rattle.wasm_store.specs.Memory.{Memory}
use Rattle.wasm_typing.specs.Context.{Context}
use Rattle.wasm_typing.specs.Typing.{types_of}
use Rattle.wasm_steps.specs.Program.{Function, Store, most_frames, most_values}
use Rattle.wasm_steps.specs.Threads.{frame_count, size}
use Rattle.wasm_steps.specs.Steps.{Meaning, Calls, CallFails, argument, answered}
use Rattle.wasm_steps.specs.declared.outcome.Trap.{Trap}
use Rattle.wasm_steps.specs.declared.outcome.Trap.TheVariants as traps
use Rattle.wasm_soundness.specs.Typed.{AreValues, IsTyped}
use Rattle.wasm_soundness.specs.Ready.{CanCall}
use Rattle.wasm_stack.specs.Held.{Held, running, called}
use Rattle.wasm_stack.specs.View.{ops_at}
use Rattle.wasm_stack.specs.declared.place.Place.{Place}
use Rattle.wasm_machine.specs.Machine.{state_of}

-- operands of these types as a host gets them
abbrev pub arguments_of : List ValType → List ℕ → List ℤ
arguments_of types operands = map (λ pair. argument pair.0 pair.1) (zip types operands)

-- A function of the module was entered.
pub record IsEntered (params more results : ℕ) (rest : Ops) (old new : Held) : Type 0 where
  pub frames : frame_count old.levels < most_frames
  pub room : size (running rest old) + more ≤ most_values
  pub enters : new ≡ called params more results rest old

-- It can't be entered: the frames are counted first.
abbrev pub IsNotEntered : ℕ → Ops → Held → Trap → Type 0
IsNotEntered more rest old trap =
    ((trap ≡ traps.CallDepth) × (most_frames ≤ frame_count old.levels))
    ⊎ ((trap ≡ traps.StackFull) × (frame_count old.levels < most_frames)
    × (most_values < size (running rest old) + more))

-- The host answered a call.
pub record IsAnswered {S : Type 0} (H : Meaning S) (type : FuncType) (number : ℕ) (old new : Held)
    (before after : Memory) (host later : S) : Type 0 where
  pub answer : ℤ
  pub value : AreValues (types_of type.result) (answered type.result answer)
  pub answers : H host number
      (arguments_of type.params (reverse (take (length type.params) old.operands))) before answer after later
  pub gives : new
      ≡ record old { operands = answered type.result answer ++ drop (length type.params) old.operands }

-- The function was called and led to a place, or trapped; whatever instruction called it.
abbrev pub CallRuns : {S : Type 0} → Meaning S → Function → Ops → Held → Store → S → Result Place Trap → Held
    → Memory → S → Type 0
CallRuns H found rest old before host result new memory later = (code : Ops) →
    MatchResult result
    (λ place. Calls H found rest (state_of code old before host)
    (state_of (ops_at place) new (record before { memory = memory }) later))
    (λ trap. CallFails found (state_of code old before host) trap × (new ≡ old) × (memory ≡ before.memory)
    × (later ≡ host))

-- It leads to a typed thread.
abbrev pub CallIsTyped : Function → Ops → Held → Result Place Trap → Held → Type 0
CallIsTyped found rest old result new =
    (base : Context) → CanCall base found (running rest old)
    → IfOk result (λ place. IsTyped base (running (ops_at place) new))

-- The function can be called from a typed thread.
abbrev pub MayCall : Function → Ops → Held → Type 0
MayCall found rest old =
    (base : Context) × CanCall base found (running rest old) × (size (running rest old) ≤ most_values)
