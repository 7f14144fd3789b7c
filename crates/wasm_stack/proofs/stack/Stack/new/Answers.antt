use Rattle.std.proofs.Common.{arith}
use Rattle.wasm_stack.proofs.Levels.{sound_empty}
use Rattle.wasm_stack.proofs.stack.Stack.new.Goals as goal

pub invariant_of-result : goal.invariant_of-result
invariant_of-result c = record {
  controls = sound_empty _ _ c.in_ok-controls.ensures.items c.in_ok-values.ensures;
  room = omega (arith, c.in_ok-controls.ensures.exact);
}
