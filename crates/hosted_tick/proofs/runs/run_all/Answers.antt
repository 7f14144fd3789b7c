use Rattle.std.proofs.Common.{◌^◌, ◌≤◌, List, length, sym, subst, arith}
use Rattle.std.specs.List.{AllByRecursion}
use Rattle.std.proofs.lemmas.Result.{IfOk-weaker}
use Rattle.game_tables.specs.Limits.{most_memory}
use Rattle.intent_book.specs.declared.player_run.PlayerRun.{PlayerRun}
use Rattle.world_rules.specs.Tick.{intents_of}
use Rattle.world_rules.specs.World.{world_of}
use Rattle.player_runs.specs.declared.runs.PlayerModule.{PlayerModule}
use Rattle.player_runs.specs.PlayerRuns.{AreRunsOf, MayBeRun}
use Rattle.hosted_tick.specs.Hosting.{modules_of}
use Rattle.hosted_tick.specs.Next.{AreRuns}
use Rattle.hosted_tick.specs.inner.Listing.{AreListed}
use Rattle.hosted_tick.proofs.Listed.{few_listed, may_all, ran_all}
use Rattle.hosted_tick.proofs.runs.run_all.Goals as goal

pub run_players-requires-clause-may : goal.run_players-requires-clause-may
run_players-requires-clause-may g c =
    let world = c.args.world.now in
    let modules = modules_of c.args.modules.now.entries in
    let players : List PlayerModule = c.in_ok-players.players.items in
    let listed = c.in_ok-players.ensures in
    let few = few_listed world modules world.accounts players listed in
    subst (MayBeRun world c.args.roster.now) (sym c.deref.ensures.value) (record {
      sound = c.requires.hosted.sound;
      rooms = c.requires.hosted.rooms;
      listed = c.requires.roster;
      short = (let most = c.requires.hosted.players in omega (arith, few, most));
      each = may_all world modules c.requires.hosted.memories world.accounts players listed;
    })

pub returns-clause-runs : goal.returns-clause-runs
returns-clause-runs g c =
    let world = c.args.world.now in
    let modules = modules_of c.args.modules.now.entries in
    IfOk-weaker c.run_players.result (λ v. AreRunsOf world c.deref.result.now v.items) (λ v. AreRuns (world_of world) modules world.accounts v.items) (λ v each.
    (ran_all world modules world.accounts c.deref.result.now v.items (subst (λ (list : List PlayerModule). AreListed world modules world.accounts list) (sym c.deref.ensures.value) c.in_ok-players.ensures) each).ran) c.run_players.ensures

pub returns-clause-few : goal.returns-clause-few
returns-clause-few g c =
    let world = c.args.world.now in
    let modules = modules_of c.args.modules.now.entries in
    let most = c.requires.hosted.players in
    IfOk-weaker c.run_players.result (λ v. AreRunsOf world c.deref.result.now v.items) (λ v. length (intents_of v.items) ≤ 2 ^ 18) (λ v each.
    let few = (ran_all world modules world.accounts c.deref.result.now v.items (subst (λ (list : List PlayerModule). AreListed world modules world.accounts list) (sym c.deref.ensures.value) c.in_ok-players.ensures) each).few in
    omega (arith, few, most)) c.run_players.ensures

pub returns-clause-short : goal.returns-clause-short
returns-clause-short g c =
    let world = c.args.world.now in
    let modules = modules_of c.args.modules.now.entries in
    IfOk-weaker c.run_players.result (λ v. AreRunsOf world c.deref.result.now v.items) (λ v. AllByRecursion (λ (run : PlayerRun). length run.memory ≤ most_memory) v.items) (λ v each.
    (ran_all world modules world.accounts c.deref.result.now v.items (subst (λ (list : List PlayerModule). AreListed world modules world.accounts list) (sym c.deref.ensures.value) c.in_ok-players.ensures) each).short) c.run_players.ensures
