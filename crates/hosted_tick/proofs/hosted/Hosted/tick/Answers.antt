use Rattle.std.proofs.Common.{◌≤◌, ◌^◌, List, length, sym, ap, subst, ◌∙◌}
use Rattle.std.specs.List.{AllByRecursion}
use Rattle.game_tables.specs.Limits.{most_memory}
use Rattle.intent_book.specs.declared.intent.Intent.{Intent}
use Rattle.intent_book.specs.declared.player_run.PlayerRun.{PlayerRun}
use Rattle.kept_entries.specs.Split.{AreSplit}
use Rattle.world_rules.specs.Tick.{book, gained, intents_of, next_world}
use Rattle.world_rules.specs.World.{world_of}
use Rattle.hosted_tick.specs.Hosting.{Held, IsHosted}
use Rattle.hosted_tick.proofs.After.{hosted_after, next_of}
use Rattle.hosted_tick.proofs.hosted.Hosted.tick.Goals as goal

pub next_world-requires-clause-few : goal.next_world-requires-clause-few
next_world-requires-clause-few g c = subst (λ (r : List PlayerRun). length (intents_of r) ≤ 2 ^ 18) (sym c.deref-2.ensures.value) c.in_ok-runs.ensures.few

pub next_world-requires-clause-split : goal.next_world-requires-clause-split
next_world-requires-clause-split g c =
    let world = world_of c.self.inside.world in
    let wanted = c.in_ok-runs.field-0 in
    subst (λ (lists : List (List Intent)). AreSplit world (intents_of c.deref-2.result.now) lists) (sym c.deref.ensures.value)
    (subst (λ (r : List PlayerRun). AreSplit world (intents_of r) wanted.lists.items) (sym c.deref-2.ensures.value) c.in_ok-runs.ensures.split)

pub returns-clause-next : goal.returns-clause-next
returns-clause-next g c =
    let world = c.self.inside.world in
    let runs = c.in_ok-runs.field-0.runs.items in
    next_of c.args.self world c.self.inside.modules.entries c.judge_all.new.modules.entries c.args.uploads c.in_ok-judged.judged runs c.in_ok-after.after
    c.self.view_is c.requires.hosted.sound c.in_ok-judged.ensures.judged c.in_ok-runs.ensures.runs
    (c.in_ok-after.ensures.next ∙ ap (λ (r : List PlayerRun). next_world (world_of world) r) c.deref-2.ensures.value)

pub returns-clause-hosted : goal.returns-clause-hosted
returns-clause-hosted g c =
    let world = c.self.inside.world in
    let runs = c.deref-2.result.now in
    let hosted = subst (λ (h : Held). IsHosted h.world) (sym c.self.view_is) c.requires.hosted in
    let short = subst (AllByRecursion (λ (run : PlayerRun). length run.memory ≤ most_memory)) (sym c.deref-2.ensures.value) c.in_ok-runs.ensures.short in
    let ensured = c.in_ok-after.ensures in
    hosted_after world c.in_ok-after.after (gained book (world_of world) (intents_of runs)) runs hosted short ensured.sound ensured.rooms ensured.accounts
