-- What a typed thread leaves room for, and where it can branch.
use Rattle.std.proofs.Common.{◌≡◌, ℕ, ◌<◌, List, ◌∷◌, length, ap, arith, subst, sym}
use Rattle.wasm_values.specs.Syntax.{Ops}
use Rattle.wasm_typing.specs.Context.{Context}
use Rattle.wasm_steps.specs.Threads.{Level, Thread}
use Rattle.wasm_soundness.specs.Typed.{IsTyped}
use Rattle.wasm_soundness.specs.Ready.{CanBranch}
use Rattle.wasm_soundness.proofs.Ends.{few_levels}
use Rattle.wasm_stack.specs.Held.{Held, running, most_controls}

-- There is room for the innermost level of a typed thread.
pub has_room : (base : Context) (t : Thread) (level : Level) (levels : List Level) → IsTyped base t → t.levels ≡ level ∷ levels → length levels < most_controls
has_room base t level levels p e = omega (arith, few_levels t p, p.frames, ap length e)

-- Where a branch can be made does not depend on the instructions.
pub can_branch : (to : ℕ) (code other : Ops) (old new : Held) → CanBranch to (running code old) → new ≡ old → CanBranch to (running other new)
can_branch to code other old new can e =
    let P : Held → Type 0 = λ z. CanBranch to (running other z) in
    subst P (sym e) (record { level = can.level; stands = can.stands; few = can.few; there = can.there })
