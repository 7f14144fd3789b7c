use Rattle.wasm_encode.proofs.Types.{gains_block_type}
use Rattle.wasm_encode.proofs.values.put_block_type.Goals as goal

pub returns : goal.returns
returns c = gains_block_type c.args.kind c.block_code.result c.args.out.now.items c.push.new.self.items c.block_code.ensures c.in_ok-push.ensures.items
