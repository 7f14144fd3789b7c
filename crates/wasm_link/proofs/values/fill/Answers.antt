use Rattle.std.proofs.Common.{refl, get_or, arith}
use Rattle.wasm_link.proofs.Begun.{filled_more}
use Rattle.wasm_link.proofs.values.fill.Goals as goal

pub loop-step-preserved : goal.loop-step-preserved
loop-step-preserved c = record {
  within = omega (arith, c.loop-step-test.true);
  filled = filled_more c.args.values.now c.loop-step.values _ c.args.at c.loop-step.step (get_or c.args.funcs.now c.loop-step.step 0) c.args.funcs.now c.requires c.loop-step-test.true refl c.loop-step.invariant.filled refl;
}
