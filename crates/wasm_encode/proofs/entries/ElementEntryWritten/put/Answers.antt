use Rattle.std.proofs.lemmas.Result.{on_ok_weaker}
use Rattle.std.proofs.lemmas.List.{map-id}
use Rattle.wasm_values.specs.Spelling.{Then, SpellsU32, SpellsList}
use Rattle.wasm_values.specs.Instructions.{SpellsExpression}
use Rattle.wasm_values.specs.View.{instrs_view}
use Rattle.wasm_encode.proofs.Shortest.{gains_then, second_spelled}
use Rattle.wasm_encode.proofs.entries.ElementEntryWritten.put.Goals as goal

pub put_list-requires : goal.put_list-requires
put_list-requires c =
    let entry = c.args.value.now in
    let offset = instrs_view entry.offset in
    let both = second_spelled SpellsU32 (Then SpellsExpression (SpellsList SpellsU32)) (entry.table, (offset, entry.funcs)) c.requires in
    rw (map-id, c.as_slice.ensures) (second_spelled SpellsExpression (SpellsList SpellsU32) (offset, entry.funcs) both)

pub returns : goal.returns
returns c =
    let entry = c.args.value.now in
    let offset = instrs_view entry.offset in
    on_ok_weaker c.put_list.result (λ list. gains_then SpellsU32 (Then SpellsExpression (SpellsList SpellsU32)) entry.table (offset, entry.funcs) c.args.out.now.items c.put_leb_u32.new.out.items c.put_list.new.out.items c.in_ok-put_leb_u32.ensures.written (gains_then SpellsExpression (SpellsList SpellsU32) offset entry.funcs c.put_leb_u32.new.out.items c.put_expression.new.out.items c.put_list.new.out.items c.in_ok-put_expression.ensures (rw (map-id, c.as_slice.ensures) at list))) c.put_list.ensures
