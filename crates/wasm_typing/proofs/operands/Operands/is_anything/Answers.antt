use Rattle.std.proofs.Common.{rules}
use Rattle.wasm_typing.proofs.Entries.{anything_exactly}
use Rattle.wasm_typing.proofs.operands.Operands.is_anything.Goals as goal

pub returns-then-self : goal.returns-then-self
returns-then-self c = rw (← c.self.view_is) (anything_exactly c.self.inside.entries.items c.self.inside.base c.len.result c.self.inside.is_open c.if-self.true (search rules) c.self.invariant)
