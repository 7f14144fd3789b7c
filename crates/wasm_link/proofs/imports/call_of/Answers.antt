use Rattle.std.proofs.Common.{arith}
use Rattle.std.proofs.lemmas.Option.{slice_get_within, slice_get-get_or}
use Rattle.wasm_link.proofs.Names.{exactly_true, exactly_false, found_here, none_more, unknown}
use Rattle.wasm_link.proofs.imports.call_of.Goals as goal

pub returns-then-has_names : goal.returns-then-has_names
returns-then-has_names c = found_here c.args.sigs.now c.args.entry.now c.loop-at.at _ (slice_get-get_or c.args.sigs.now c.loop-at.at _ c.loop-at-test.true) c.loop-at.invariant.before (exactly_true c.has_names.result c.has_names.ensures c.if-has_names.true)

pub loop-at-preserved : goal.loop-at-preserved
loop-at-preserved c = record {
  within = omega (arith, c.loop-at-test.true);
  before = none_more c.args.sigs.now c.args.entry.now c.loop-at.at _ (slice_get-get_or c.args.sigs.now c.loop-at.at _ c.loop-at-test.true) c.loop-at.invariant.before (exactly_false c.has_names.result c.has_names.ensures c.if-has_names.false);
}

pub returns : goal.returns
returns c = unknown c.args.sigs.now c.args.entry.now (λ number sig e h. c.loop-at.invariant.before number sig (let w = slice_get_within c.args.sigs.now number sig e in omega (arith, w, c.loop-at-test.false)) e h)
