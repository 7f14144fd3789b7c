use Rattle.std.proofs.Common.{arith}
use Rattle.std.proofs.lemmas.Option.{slice_get_within}
use Rattle.wasm_link.proofs.Names.{most_more, met_more, number_within}
use Rattle.wasm_link.proofs.imports.most_params.Goals as goal

pub bounds-sigs-calls : goal.bounds-sigs-calls
bounds-sigs-calls c = number_within c.args.sigs.now c.args.calls.now c.loop-at.at c.requires c.loop-at-test.true

pub loop-at-preserved : goal.loop-at-preserved
loop-at-preserved c = record {
  within = omega (arith, c.loop-at-test.true);
  most = most_more c.args.sigs.now c.args.calls.now c.loop-at.at c.loop-at.most c.max-most.result _ c.loop-at-test.true c.max-most.ensures c.loop-at.invariant.most;
  met = met_more c.args.sigs.now c.args.calls.now c.loop-at.at c.loop-at.most c.max-most.result _ c.loop-at-test.true c.max-most.ensures c.requires c.loop-at.invariant.met;
}

pub returns : goal.returns
returns c = record { bound = record { each = λ place number e sig f. c.loop-at.invariant.most place number sig (let w = slice_get_within c.args.calls.now place number e in omega (arith, w, c.loop-at-test.false)) e f }; met = c.loop-at.invariant.met }
