use Rattle.std.proofs.Common.{arith, length, map}
use Rattle.std.proofs.lemmas.List.{length-map}
use Rattle.std.proofs.lemmas.Result.{on_ok_weaker}
use Rattle.wasm_values.specs.Spelling.{SpellsU32}
use Rattle.wasm_encode.specs.inner.Gains.{Gains}
use Rattle.wasm_encode.proofs.Shortest.{gains_list, count_spelled}
use Rattle.wasm_encode.proofs.Numbers.{u32_below}
use Rattle.wasm_encode.proofs.written.put_list.Goals as goal

pub overflow_cast-list : goal.overflow_cast-list
overflow_cast-list g c =
    let below = u32_below _ (count_spelled g.W.Written.spells (map g.W.Written.seen c.args.list.now) c.requires) in
    omega (arith, length-map c.args.list.now g.W.Written.seen, below)

pub returns : goal.returns
returns g c =
    let seen = map g.W.Written.seen c.args.list.now in
    let count : Gains SpellsU32 (length seen) c.args.out.now.items c.put_leb_u32.new.out.items = rw length-map c.in_ok-put_leb_u32.ensures.written in
    on_ok_weaker c.put_entries.result (λ entries. gains_list g.W.Written.spells seen c.args.out.now.items c.put_leb_u32.new.out.items c.put_entries.new.out.items count entries) c.put_entries.ensures
