use Rattle.std.proofs.Common.{arith, ◌∙◌}
use Rattle.std.proofs.Math.Seq.{take-add}
use Rattle.std.proofs.lemmas.List.{take_rest}
use Rattle.std.proofs.lemmas.Grind.{common_steps}
use Rattle.world_io.proofs.Known.{appends_more}
use Rattle.world_io.proofs.sink.write_all.Goals as goal

pub loop-at-preserved : goal.loop-at-preserved
loop-at-preserved g c =
    let taken = rw take_rest at c.in_ok-count.ensures.bytes in
    record {
      within = grind (arith, common_steps, c.in_ok-count.ensures.bound);
      part = rw take-add (appends_more _ _ _ _ _ c.loop-at.invariant.part taken);
      kept = c.in_ok-count.ensures.cause.kept ∙ c.loop-at.invariant.kept;
    }
