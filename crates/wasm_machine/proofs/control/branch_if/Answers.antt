use Rattle.std.proofs.Common.{arith}
use Rattle.wasm_values.specs.Syntax.{no_ops}
use Rattle.wasm_soundness.proofs.Branches.{br_if_on}
use Rattle.wasm_stack.specs.Held.{running, without}
use Rattle.wasm_stack.specs.Standing.{held}
use Rattle.wasm_stack.specs.View.{ops_at}
use Rattle.wasm_machine.proofs.Rooms.{can_branch}
use Rattle.wasm_machine.proofs.control.branch_if.Goals as goal

pub operand-condition-requires : goal.operand-condition-requires
operand-condition-requires c = omega (arith, (br_if_on (running (ops_at c.args.here) (held c.args.stack.now)) c.args.to c.requires.1).0)

pub discard-requires : goal.discard-requires
discard-requires c = (br_if_on (running (ops_at c.args.here) (held c.args.stack.now)) c.args.to c.requires.1).0

pub branch-stack-requires : goal.branch-stack-requires
branch-stack-requires c =
    let on = br_if_on (running (ops_at c.args.here) (held c.args.stack.now)) c.args.to c.requires.1 in
    can_branch c.args.to (ops_at c.args.here) no_ops (without 1 (held c.args.stack.now)) _ on.3 c.discard.ensures
