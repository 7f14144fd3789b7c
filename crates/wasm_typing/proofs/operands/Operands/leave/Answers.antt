use Rattle.wasm_typing.proofs.Entries.{left_block}
use Rattle.wasm_typing.proofs.operands.Operands.leave.Goals as goal

pub returns : goal.returns
returns c = λ here below b e l. left_block c.self.inside.entries.items here below c.self.inside.base c.args.outer.base c.self.inside.is_open c.args.outer.is_open c.args.self.now c.self.view_is b e l c.self.invariant
