use Rattle.wasm_encode.proofs.Types.{gains_val_type}
use Rattle.wasm_encode.proofs.values.put_val_type.Goals as goal

pub returns : goal.returns
returns c = gains_val_type c.args.value c.val_code.result c.args.out.now.items c.push.new.self.items c.val_code.ensures c.in_ok-push.ensures.items
