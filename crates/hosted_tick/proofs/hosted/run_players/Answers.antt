use Rattle.std.proofs.Common.{sym, subst}
use Rattle.world_rules.specs.World.{world_of}
use Rattle.hosted_tick.specs.Hosting.{modules_of}
use Rattle.hosted_tick.specs.Next.{AreRuns}
use Rattle.hosted_tick.proofs.Idle.{nobody_runs}
use Rattle.hosted_tick.proofs.hosted.run_players.Goals as goal

pub returns-then-is_empty-clause-runs : goal.returns-then-is_empty-clause-runs
returns-then-is_empty-clause-runs g c =
    let world = world_of c.args.world.now in
    let kept = c.args.modules.now.entries in
    subst (AreRuns world (modules_of kept) c.args.world.now.accounts) (sym c.new.ensures.items)
    (nobody_runs world kept (c.is_empty.ensures.0 c.if-is_empty.true) c.args.world.now.accounts)
