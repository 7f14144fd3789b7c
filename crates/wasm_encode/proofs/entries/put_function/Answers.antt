use Rattle.std.proofs.lemmas.Result.{on_ok_weaker}
use Rattle.std.proofs.lemmas.List.{map-id}
use Rattle.wasm_values.specs.Spelling.{SpellsList}
use Rattle.wasm_module.specs.Entries.{SpellsLocalRun}
use Rattle.wasm_values.specs.Instructions.{SpellsExpression}
use Rattle.wasm_values.specs.View.{instrs_view}
use Rattle.wasm_encode.proofs.Shortest.{gains_then}
use Rattle.wasm_encode.proofs.entries.put_function.Goals as goal

pub returns : goal.returns
returns c =
    let code = c.args.code.now in
    let locals = rw (map-id, c.as_slice.ensures) at c.in_ok-put_list.ensures in
    on_ok_weaker c.put_expression.result (λ body. gains_then (SpellsList SpellsLocalRun) SpellsExpression code.locals (instrs_view code.body) c.args.out.now.items c.put_list.new.out.items c.put_expression.new.out.items locals body) c.put_expression.ensures
