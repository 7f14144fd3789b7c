use Rattle.std.proofs.Common.{rules}
use Rattle.wasm_typing.proofs.Entries.{bare_exactly}
use Rattle.wasm_typing.proofs.operands.Operands.is_bare.Goals as goal

pub returns : goal.returns
returns c = rw (← c.self.view_is) (bare_exactly c.self.inside.entries.items c.self.inside.base c.len.result c.self.inside.is_open (search rules) c.self.invariant)
