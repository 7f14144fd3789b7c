use Rattle.std.proofs.Common.{refl}
use Rattle.wasm_values.specs.View.{instrs_view}
use Rattle.wasm_soundness.proofs.Blocks.{enters_loop}
use Rattle.wasm_stack.specs.Held.{running}
use Rattle.wasm_stack.specs.Standing.{held}
use Rattle.wasm_machine.proofs.Rooms.{has_room}
use Rattle.wasm_machine.proofs.control.enter_loop.Goals as goal

pub enter-requires : goal.enter-requires
enter-requires c =
    let t = running c.requires.1 (held c.args.stack.now) in
    has_room c.requires.2.0 _ _ _ (enters_loop t c.requires.0 (instrs_view c.args.body.now) c.requires.2.1) refl
