use Rattle.std.proofs.lemmas.Result.{on_ok_weaker}
use Rattle.std.proofs.Common.{refl}
use Rattle.std.proofs.lemmas.List.{map-id}
use Rattle.wasm_values.specs.Spelling.{SpellsU32, SpellsList}
use Rattle.wasm_values.specs.Syntax.{br_table}
use Rattle.wasm_encode.proofs.Shortest.{gains_then, first_spelled}
use Rattle.wasm_encode.proofs.Tagged.{gains_tagged, inner_spelled}
use Rattle.wasm_encode.proofs.Ops.{br_table_tagged}
use Rattle.wasm_encode.proofs.instrs.put_br_table.Goals as goal

pub put_list-requires : goal.put_list-requires
put_list-requires c =
    let both = inner_spelled br_table_tagged (c.args.labels.now, c.args.last) (br_table c.args.labels.now c.args.last) refl c.requires in
    rw (map-id, c.as_slice.ensures) (first_spelled (SpellsList SpellsU32) SpellsU32 (c.args.labels.now, c.args.last) both)

pub returns : goal.returns
returns c =
    let labels = rw (map-id, c.as_slice.ensures) at c.in_ok-put_list.ensures in
    on_ok_weaker c.put_leb_u32.result (λ last. gains_tagged br_table_tagged (c.args.labels.now, c.args.last) (br_table c.args.labels.now c.args.last) c.args.out.now.items c.put_plain.new.out.items c.put_leb_u32.new.out.items refl c.in_ok-put_plain.ensures (gains_then (SpellsList SpellsU32) SpellsU32 c.args.labels.now c.args.last c.put_plain.new.out.items c.put_list.new.out.items c.put_leb_u32.new.out.items labels last)) c.put_leb_u32.ensures.written
