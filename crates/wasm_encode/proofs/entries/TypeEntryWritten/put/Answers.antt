use Rattle.std.proofs.lemmas.Result.{on_ok_weaker}
use Rattle.std.proofs.lemmas.List.{map-id}
use Rattle.wasm_values.specs.Spelling.{Then, SpellsMark, SpellsList}
use Rattle.wasm_values.specs.Values.{SpellsValType, SpellsResult}
use Rattle.wasm_encode.proofs.Shortest.{gains_then, gains_mark, first_spelled, second_spelled}
use Rattle.wasm_encode.proofs.entries.TypeEntryWritten.put.Goals as goal

pub put_list-requires : goal.put_list-requires
put_list-requires c =
    let type = c.args.value.now in
    let both = second_spelled (SpellsMark 0x60) (Then (SpellsList SpellsValType) SpellsResult) (tt, (type.params, type.result)) c.requires in
    rw (map-id, c.as_slice.ensures) (first_spelled (SpellsList SpellsValType) SpellsResult (type.params, type.result) both)

pub returns : goal.returns
returns c =
    let type = c.args.value.now in
    let params = rw (map-id, c.as_slice.ensures) at c.in_ok-put_list.ensures in
    on_ok_weaker c.put_results.result (λ single. gains_then (SpellsMark 0x60) (Then (SpellsList SpellsValType) SpellsResult) tt (type.params, type.result) c.args.out.now.items c.push.new.self.items c.put_results.new.out.items (gains_mark 0x60 c.args.out.now.items c.push.new.self.items c.in_ok-push.ensures.items) (gains_then (SpellsList SpellsValType) SpellsResult type.params type.result c.push.new.self.items c.put_list.new.out.items c.put_results.new.out.items params single)) c.put_results.ensures
