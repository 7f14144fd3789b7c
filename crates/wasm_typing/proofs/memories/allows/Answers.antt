use Rattle.wasm_typing.proofs.Applied.{aligned}
use Rattle.wasm_typing.proofs.memories.allows.Goals as goal

pub returns-then-has_memory : goal.returns-then-has_memory
returns-then-has_memory c = aligned c.args.align c.args.access.power c.if-has_memory.ensures
