use Rattle.std.proofs.Common.{rules}
use Rattle.wasm_typing.proofs.Entries.{entered}
use Rattle.wasm_typing.proofs.operands.Operands.enter.Goals as goal

pub returns-clause-inside : goal.returns-clause-inside
returns-clause-inside c = rw (← c.self.view_is) (entered c.self.inside.entries.items c.self.inside.base c.len-self-inside.result c.self.inside.is_open (search rules))
