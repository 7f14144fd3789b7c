use Rattle.std.proofs.Common.{arith}
use Rattle.wasm_link.proofs.Begun.{globals_more, value_here}
use Rattle.wasm_link.proofs.beginning.values_of.Goals as goal

pub loop-at-preserved : goal.loop-at-preserved
loop-at-preserved c =
    let globals = c.args.globals.now in
    let at = c.loop-at.at in
    let x = c.index-globals-at.result in
    record {
      within = omega (arith, c.loop-at-test.true);
      begun = globals_more globals at x c.loop-at.values.items c.push.new.self.items c.value_of.result c.loop-at-test.true c.index-globals-at.is c.value_of.ensures.value c.loop-at.invariant.begun c.in_ok-push.ensures.items;
      typed = value_here globals at x c.value_of.result c.loop-at-test.true c.index-globals-at.is c.value_of.ensures.value c.value_of.ensures.typed c.requires c.loop-at.invariant.typed;
    }
