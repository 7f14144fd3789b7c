use Rattle.std.proofs.Common.{length}
use Rattle.world_rules.specs.World.{world_of}
use Rattle.hosted_tick.specs.Hosting.{AreLinked, modules_of}
use Rattle.hosted_tick.proofs.Judged.{HasJudged}
use Rattle.hosted_tick.proofs.judge.judge_all.Given as goal

abbrev pub invariant-each : goal.invariant-each
invariant-each l = record {
  judged : HasJudged (world_of l.world) (modules_of l.fn.modules.entries) l.uploads l.left (modules_of l.modules.entries) l.results.items;
  linked : AreLinked l.modules.entries;
}

abbrev pub decreases-each : goal.decreases-each
decreases-each l = length l.left
