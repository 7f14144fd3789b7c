use Rattle.std.proofs.Common.{rules, ◌<◌, arith, get_or, length}
use Rattle.wasm_values.specs.declared.types.ValType.TheVariants.{I32}
use Rattle.wasm_module.specs.declared.codes.LocalRun.{LocalRun}
use Rattle.wasm_typing.proofs.Entries.{get_or_any}
use Rattle.wasm_typing.proofs.Ends.{end_more, ends_more}
use Rattle.wasm_typing.proofs.locals.write_ends.Goals as goal

pub loop-at-preserved : goal.loop-at-preserved
loop-at-preserved c =
    let i = c.loop-at.invariant in
    let run : LocalRun = get_or c.args.runs.now c.loop-at.at (record { count = 0; value = I32 }) in
    let below : c.loop-at.at < length c.args.runs.now = omega (arith, c.loop-at-test.true) in
    let next = end_more c.args.runs.now c.loop-at.at run c.loop-at.end c.saturating_add-end.result below (get_or_any c.args.runs.now c.loop-at.at (record { count = 0; value = I32 }) run below) i.end (search rules) in
    record { within = omega (arith, below); end = next; ends = ends_more c.args.runs.now c.loop-at.at c.loop-at.ends.items c.push.new.self.items c.saturating_add-end.result below i.ends next (c.in_ok-push.ensures.items) }
