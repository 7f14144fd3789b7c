use Rattle.std.proofs.Common.{arith}
use Rattle.wasm_stack.proofs.Levels.{sound_empty}
use Rattle.wasm_stack.proofs.stack.Stack.reset.Goals as goal

pub invariant_of-self : goal.invariant_of-self
invariant_of-self c = record {
  controls = sound_empty _ _ c.clear.ensures.items c.reset.ensures;
  room = omega (arith, c.clear.ensures.capacity, c.self.invariant.room);
}
