use Rattle.std.proofs.Common.{◌-◌, get_or, arith}
use Rattle.wasm_values.specs.declared.types.ValType.TheVariants.{I32}
use Rattle.wasm_typing.proofs.Entries.{get_or_any, anything_at, more_at, stop_none_at, stop_other_at}
use Rattle.wasm_typing.proofs.operands.Operands.pop_types.Goals as goal

pub returns-in_default : goal.returns-in_default
returns-in_default c = stop_none_at c.args.types.now (c.loop-left.left - 1) c.loop-left.left (omega arith) (omega arith) c.loop-left.invariant.popped c.in_default.ensures

pub returns-then-not-fits : goal.returns-then-not-fits
returns-then-not-fits c = stop_other_at c.args.types.now (c.loop-left.left - 1) c.loop-left.left c.in-Some.entry (get_or c.args.types.now (c.loop-left.left - 1) I32) (omega arith) (omega arith) (get_or_any c.args.types.now (c.loop-left.left - 1) I32 (get_or c.args.types.now (c.loop-left.left - 1) I32) (omega arith)) c.loop-left.invariant.popped c.in-Some.ensures c.if-not-fits.ensures

pub loop-left-preserved : goal.loop-left-preserved
loop-left-preserved c = record {
  within = omega arith;
  popped = more_at c.args.types.now (c.loop-left.left - 1) c.loop-left.left c.in-Some.entry (get_or c.args.types.now (c.loop-left.left - 1) I32) (omega arith) (omega arith) (get_or_any c.args.types.now (c.loop-left.left - 1) I32 (get_or c.args.types.now (c.loop-left.left - 1) I32) (omega arith)) c.loop-left.invariant.popped c.in-Some.ensures c.if-not-fits.ensures;
}

pub returns-then-is_anything : goal.returns-then-is_anything
returns-then-is_anything c = anything_at c.args.types.now c.loop-left.left c.loop-left.invariant.popped c.if-is_anything.ensures.0 c.if-is_anything.ensures.1
