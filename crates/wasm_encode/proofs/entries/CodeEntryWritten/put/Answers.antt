use Rattle.std.proofs.lemmas.Result.{on_ok_weaker}
use Rattle.wasm_values.specs.Spelling.{Then, SpellsList}
use Rattle.wasm_module.specs.Entries.{SpellsLocalRun, code_view}
use Rattle.wasm_values.specs.Instructions.{SpellsExpression}
use Rattle.wasm_encode.proofs.Numbers.{content_shortest, sized_below, gains_sized}
use Rattle.wasm_encode.proofs.entries.CodeEntryWritten.put.Goals as goal

pub put_bytes-requires : goal.put_bytes-requires
put_bytes-requires c =
    let shortest = content_shortest (Then (SpellsList SpellsLocalRun) SpellsExpression) (code_view c.args.value.now) c.new-content.result.items c.put_function.new.out.items c.new-content.ensures.items c.in_ok-put_function.ensures in
    rw c.deref.ensures.value (sized_below (Then (SpellsList SpellsLocalRun) SpellsExpression) (code_view c.args.value.now) c.put_function.new.out.items c.requires shortest)

pub returns : goal.returns
returns c =
    let shortest = content_shortest (Then (SpellsList SpellsLocalRun) SpellsExpression) (code_view c.args.value.now) c.new-content.result.items c.put_function.new.out.items c.new-content.ensures.items c.in_ok-put_function.ensures in
    on_ok_weaker c.put_bytes.result (λ bytes. gains_sized (Then (SpellsList SpellsLocalRun) SpellsExpression) (code_view c.args.value.now) c.put_function.new.out.items c.args.out.now.items c.put_bytes.new.out.items shortest (rw c.deref.ensures.value at bytes)) c.put_bytes.ensures
