use Rattle.wasm_values.specs.Values.{SpellsValType, SpellsMutable}
use Rattle.wasm_encode.proofs.Shortest.{gains_then}
use Rattle.wasm_encode.proofs.Types.{gains_mutable}
use Rattle.wasm_encode.proofs.values.put_global_type.Goals as goal

pub returns : goal.returns
returns c =
    let kind = c.args.kind.now in
    gains_then SpellsValType SpellsMutable kind.value kind.mutable c.args.out.now.items c.put_val_type.new.out.items c.push.new.self.items c.in_ok-put_val_type.ensures (gains_mutable kind.mutable c.mutable_code.result c.put_val_type.new.out.items c.push.new.self.items c.mutable_code.ensures c.in_ok-push.ensures.items)
