use Rattle.std.proofs.Common.{refl}
use Rattle.wasm_values.specs.View.{instrs_view}
use Rattle.wasm_soundness.proofs.Blocks.{enters_block}
use Rattle.wasm_stack.specs.Held.{running}
use Rattle.wasm_stack.specs.Standing.{held}
use Rattle.wasm_stack.specs.View.{ops_at}
use Rattle.wasm_machine.proofs.Rooms.{has_room}
use Rattle.wasm_machine.proofs.control.enter_block.Goals as goal

pub enter-requires : goal.enter-requires
enter-requires c =
    let t = running (ops_at c.args.here) (held c.args.stack.now) in
    has_room c.requires.0 _ _ _ (enters_block t c.args.kind (instrs_view c.args.body.now) c.requires.1) refl
