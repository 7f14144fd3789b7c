use Rattle.wasm_encode.proofs.Shortest.{gains_none, gains_item, item_spelled}
use Rattle.wasm_encode.proofs.written.put_entries.Goals as goal

pub each-init : goal.each-init
each-init g c = gains_none g.W.Written.spells c.args.out.now.items

pub put-requires : goal.put-requires
put-requires g c = item_spelled g.W.Written.spells g.W.Written.seen c.args.list.now c.each.value-index c.value-item.result c.requires c.each-test.true c.value-item.is

pub each-preserved : goal.each-preserved
each-preserved g c = gains_item g.W.Written.spells g.W.Written.seen c.args.list.now c.each.value-index c.value-item.result c.args.out.now.items c.each.out.items c.put.new.out.items c.each-test.true c.value-item.is c.each.invariant c.in_ok-put.ensures
