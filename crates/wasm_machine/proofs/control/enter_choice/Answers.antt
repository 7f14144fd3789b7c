use Rattle.std.proofs.Common.{◌<◌, length, refl, subst, sym, arith}
use Rattle.wasm_values.specs.View.{instrs_view}
use Rattle.wasm_soundness.proofs.Blocks.{enters_if}
use Rattle.wasm_stack.specs.Held.{Held, running}
use Rattle.wasm_stack.specs.Standing.{held}
use Rattle.wasm_stack.specs.View.{ops_at}
use Rattle.wasm_machine.proofs.Rooms.{has_room}
use Rattle.wasm_machine.proofs.control.enter_choice.Goals as goal

pub operand-condition-requires : goal.operand-condition-requires
operand-condition-requires c =
    let t = running (ops_at c.args.here) (held c.args.stack.now) in
    let on = enters_if t c.args.kind (instrs_view c.args.first.now) (instrs_view c.args.second.now) c.requires.1 in
    omega (arith, on.0)

pub discard-requires : goal.discard-requires
discard-requires c =
    let t = running (ops_at c.args.here) (held c.args.stack.now) in
    (enters_if t c.args.kind (instrs_view c.args.first.now) (instrs_view c.args.second.now) c.requires.1).0

pub enter-requires : goal.enter-requires
enter-requires c =
    let t = running (ops_at c.args.here) (held c.args.stack.now) in
    let on = enters_if t c.args.kind (instrs_view c.args.first.now) (instrs_view c.args.second.now) c.requires.1 in
    let P : Held → Type 0 = λ z. length z.levels < 201000 in
    subst P (sym c.discard.ensures) (has_room c.requires.0 _ _ _ on.2 refl)
