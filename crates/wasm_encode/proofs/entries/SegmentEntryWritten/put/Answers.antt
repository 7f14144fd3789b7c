use Rattle.std.proofs.lemmas.Result.{on_ok_weaker}
use Rattle.wasm_values.specs.Spelling.{Then, SpellsU32, SpellsBytes}
use Rattle.wasm_values.specs.Instructions.{SpellsExpression}
use Rattle.wasm_values.specs.View.{instrs_view}
use Rattle.wasm_encode.proofs.Numbers.{u32_below}
use Rattle.wasm_encode.proofs.Shortest.{gains_then, second_spelled}
use Rattle.wasm_encode.proofs.Types.{bytes_below}
use Rattle.wasm_encode.proofs.entries.SegmentEntryWritten.put.Goals as goal

pub put_bytes-requires : goal.put_bytes-requires
put_bytes-requires c =
    let entry = c.args.value.now in
    let offset = instrs_view entry.offset in
    let both = second_spelled SpellsU32 (Then SpellsExpression SpellsBytes) (entry.memory, (offset, entry.bytes)) c.requires in
    rw c.as_slice.ensures (u32_below _ (bytes_below entry.bytes (second_spelled SpellsExpression SpellsBytes (offset, entry.bytes) both)))

pub returns : goal.returns
returns c =
    let entry = c.args.value.now in
    let offset = instrs_view entry.offset in
    on_ok_weaker c.put_bytes.result (λ bytes. gains_then SpellsU32 (Then SpellsExpression SpellsBytes) entry.memory (offset, entry.bytes) c.args.out.now.items c.put_leb_u32.new.out.items c.put_bytes.new.out.items c.in_ok-put_leb_u32.ensures.written (gains_then SpellsExpression SpellsBytes offset entry.bytes c.put_leb_u32.new.out.items c.put_expression.new.out.items c.put_bytes.new.out.items c.in_ok-put_expression.ensures (rw c.as_slice.ensures at bytes))) c.put_bytes.ensures
