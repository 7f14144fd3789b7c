use Rattle.std.proofs.Common.{ℕ, subst, sym, refl}
use Rattle.wasm_values.specs.Syntax.{no_ops}
use Rattle.wasm_steps.specs.Threads.{Branches}
use Rattle.wasm_soundness.specs.Ready.{CanBranch}
use Rattle.wasm_soundness.proofs.Branches.{return_on, returns_by_branch}
use Rattle.wasm_stack.specs.Held.{running}
use Rattle.wasm_stack.specs.Standing.{held}
use Rattle.wasm_stack.specs.View.{ops_at}
use Rattle.wasm_machine.proofs.Rooms.{can_branch}
use Rattle.wasm_machine.proofs.control.leave_function.Goals as goal

pub branch-stack-requires : goal.branch-stack-requires
branch-stack-requires c =
    let h = held c.args.stack.now in
    let on = return_on (running c.requires.0 h) c.requires.1.1 in
    let P : ℕ → Type 0 = λ n. CanBranch n (running no_ops h) in
    subst P (sym c.open_labels-to.ensures) (can_branch _ c.requires.0 no_ops h h on.0 refl)

pub returns : goal.returns
returns c = λ code.
    let h = held c.args.stack.now in
    let after = running (ops_at c.branch-stack.result) (held c.branch-stack.new.self) in
    let P : ℕ → Type 0 = λ n. Branches n (running code h) after in
    returns_by_branch (running code h) after (subst P c.open_labels-to.ensures (c.branch-stack.ensures code))
