use Rattle.std.proofs.Common.{◌≡◌, ap, sym, ◌∙◌, subst, ℕ, arith}
use Rattle.std.specs.Option.{unwrap_or}
use Rattle.std.proofs.Common.{slice_get}
use Rattle.wasm_values.specs.Syntax.{no_ops}
use Rattle.wasm_steps.specs.Steps.{target_of}
use Rattle.wasm_soundness.specs.Ready.{CanBranch}
use Rattle.wasm_soundness.proofs.Branches.{br_table_on}
use Rattle.wasm_stack.specs.Held.{running, without}
use Rattle.wasm_stack.specs.Standing.{held}
use Rattle.wasm_machine.proofs.Rooms.{can_branch}
use Rattle.wasm_machine.proofs.control.branch_by_index.Goals as goal

pub operand-index-requires : goal.operand-index-requires
operand-index-requires c = omega (arith, (br_table_on (running c.requires.0 (held c.args.stack.now)) c.args.several.now c.args.last c.requires.1.1).0)

pub discard-requires : goal.discard-requires
discard-requires c = (br_table_on (running c.requires.0 (held c.args.stack.now)) c.args.several.now c.args.last c.requires.1.1).0

pub branch-stack-requires : goal.branch-stack-requires
branch-stack-requires c =
    let on = br_table_on (running c.requires.0 (held c.args.stack.now)) c.args.several.now c.args.last c.requires.1.1 in
    let index = c.operand-index.result in
    let to : c.unwrap_or-to.result ≡ target_of c.args.several.now c.args.last index =
    c.unwrap_or-to.ensures ∙ ap (λ z. unwrap_or z c.args.last) (c.nth.ensures ∙ ap (λ z. slice_get z index) c.as_slice.ensures) in
    let P : ℕ → Type 0 = λ n. CanBranch n (running no_ops (held c.discard.new.self)) in
    subst P (sym to) (can_branch (target_of c.args.several.now c.args.last index) c.requires.0 no_ops (without 1 (held c.args.stack.now)) _ (on.2 index).0 c.discard.ensures)
