use Rattle.std.proofs.lemmas.Result.{on_ok_weaker}
use Rattle.wasm_encode.proofs.Numbers.{u32_below}
use Rattle.wasm_encode.proofs.Types.{gains_name, name_below}
use Rattle.wasm_encode.proofs.values.put_name.Goals as goal

pub put_bytes-requires : goal.put_bytes-requires
put_bytes-requires c = rw c.as_slice.ensures (u32_below _ (name_below c.args.name.now c.requires))

pub returns : goal.returns
returns c = on_ok_weaker c.put_bytes.result (λ bytes. gains_name c.args.name.now c.args.out.now.items c.put_bytes.new.out.items c.requires (rw c.as_slice.ensures at bytes)) c.put_bytes.ensures
