use Rattle.std.proofs.Common.{ℕ, List, sym, subst}
use Rattle.world_rules.specs.World.{world_of}
use Rattle.upload_stream.specs.Entries.{upload_of}
use Rattle.hosted_tick.specs.Hosting.{modules_of}
use Rattle.hosted_tick.proofs.Judged.{HasJudged, judged_more}
use Rattle.hosted_tick.proofs.judge.judge_all.Goals as goal

pub each-preserved : goal.each-preserved
each-preserved c =
    let world = world_of c.args.world.now in
    let before = modules_of c.args.modules.now.entries in
    let next = modules_of c.settle.new.modules.entries in
    let so = c.each.invariant in
    record {
      judged = subst (HasJudged world before c.args.uploads c.next.new.self next) (sym {A = List ℕ} c.in_ok-push.ensures.items)
          (judged_more world before c.args.uploads c.each.left (modules_of c.each.modules.entries) next c.each.results.items (upload_of c.in-Some.upload) c.next.new.self c.in_ok-settle.field-0 so.judged c.in-Some.ensures.some c.in_ok-settle.ensures.settled);
      linked = c.in_ok-settle.ensures.linked;
    }
