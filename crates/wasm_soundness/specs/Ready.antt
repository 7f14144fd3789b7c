-- What a typed thread offers to the instruction that is next.
use Rattle.std.specs.Prelude.{◌≡◌, ℕ, zero, suc, ℤ, ◌+◌, ◌-◌, ◌<◌, ◌≤◌, List, [], ◌∷◌, ◌++◌, length, drop}
use Rattle.std.specs.Prelude.{take, Option, Some, None, reverse}
use Rattle.wasm_values.specs.Syntax.{Op, Ops, next}
use Rattle.wasm_values.specs.declared.types.ValType.{ValType}
use Rattle.wasm_typing.specs.Context.{Context}
use Rattle.wasm_typing.specs.Typing.{types_of}
use Rattle.wasm_values.specs.declared.types.FuncType.{FuncType}
use Rattle.wasm_steps.specs.Program.{Function, imported, defined, type_of, most_frames, most_values}
use Rattle.wasm_steps.specs.Threads.{Level, label, frame, Thread, arity, frame_count, size, Branches}
use Rattle.wasm_steps.specs.Steps.{answered, called}
use Rattle.wasm_soundness.specs.Typed.{AreValues, IsTyped}

-- the thread with an instruction before the others
abbrev pub pending : Op → Thread → Thread
pending op thread = record thread { code = next op thread.code }

-- the thread with results in the place of so many operands
abbrev pub given : ℕ → List ℕ → Thread → Thread
given count results thread = record thread { operands = results ++ drop count thread.operands }

-- On top there are operands of these types. With any values of those types in their place, for which there is
-- room, the thread is typed.
pub record Offers (base : Context) (ins outs : List ValType) (thread : Thread) : Type 0 where
  pub there : length ins ≤ length thread.operands
  pub values : AreValues ins (take (length ins) thread.operands)
  pub gives : (results : List ℕ) → AreValues outs results
      → size (given (length ins) results thread) ≤ most_values
      → IsTyped base (given (length ins) results thread)

-- how many operands a branch to a level takes along
abbrev pub results_at : Level → ℕ
results_at (label results again below rest) = results
results_at (frame results locals below rest) = results

-- the level of a label, where the innermost frame has it
abbrev pub level_of : ℕ → List Level → Option Level
level_of to [] = None
level_of zero (level ∷ levels) = Some level
level_of (suc outer) (label results again below rest ∷ levels) = level_of outer levels
level_of (suc outer) (frame results locals below rest ∷ levels) = None

-- A branch to the label can be made.
pub record CanBranch (to : ℕ) (thread : Thread) : Type 0 where
  pub level : Level
  pub stands : level_of to thread.levels ≡ Some level
  pub few : results_at level ≤ 1
  pub there : results_at level ≤ length thread.operands

-- A branch to the label can be made, and leaves a typed thread.
abbrev pub MayBranch : Context → ℕ → Thread → Type 0
MayBranch base to thread =
    CanBranch to thread × ((after : Thread) → Branches to thread after → IsTyped base after)

-- how many labels of blocks are open in the innermost frame
abbrev pub open_labels : List Level → ℕ
open_labels [] = 0
open_labels (label results again below rest ∷ levels) = suc (open_labels levels)
open_labels (frame results locals below rest ∷ levels) = 0

-- The function can be called: its arguments are there, and what the call leads to is typed, where the answer
-- of a host is a value.
pub record CanCall (base : Context) (found : Function) (thread : Thread) : Type 0 where
  pub there : length (type_of found).params ≤ length thread.operands
  pub values : AreValues (type_of found).params
      (reverse (take (length (type_of found).params) thread.operands))
  pub own : (type : FuncType) (more : ℕ) (body : Ops) → found ≡ defined type more body
      → frame_count thread.levels < most_frames → size thread + more ≤ most_values
      → IsTyped base (called type more body thread thread.code)
  pub host : (type : FuncType) (number : ℕ) (answer : ℤ) → found ≡ imported type number
      → AreValues (types_of type.result) (answered type.result answer)
      → size thread - length type.params + arity type.result ≤ most_values
      → IsTyped base (record thread {
        operands = answered type.result answer ++ drop (length type.params) thread.operands;
      })
