use Rattle.std.proofs.lemmas.Result.{on_ok_weaker}
use Rattle.wasm_values.specs.Values.{SpellsGlobalType}
use Rattle.wasm_values.specs.Instructions.{SpellsExpression}
use Rattle.wasm_values.specs.View.{instrs_view}
use Rattle.wasm_encode.proofs.Shortest.{gains_then}
use Rattle.wasm_encode.proofs.entries.GlobalEntryWritten.put.Goals as goal

pub returns : goal.returns
returns c =
    let entry = c.args.value.now in
    on_ok_weaker c.put_expression.result (λ init. gains_then SpellsGlobalType SpellsExpression entry.kind (instrs_view entry.init) c.args.out.now.items c.put_global_type.new.out.items c.put_expression.new.out.items c.in_ok-put_global_type.ensures init) c.put_expression.ensures
