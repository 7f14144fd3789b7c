use Rattle.std.proofs.Common.{min, Some, subst, sym, ◌∙◌}
use Rattle.room_table.specs.Tables.{IsRising}
use Rattle.world_rules.specs.Checks.{all_hold}
use Rattle.world_rules.specs.Spawns.{held_by, spawn_checks}
use Rattle.world_rules.proofs.TableParts.{part_values}
use Rattle.spawn_rules.proofs.spawning.may_begin.Goals as goal

pub returns : goal.returns
returns c = λ grounds.
    let entry = c.args.intent.now in
    let room = c.args.room.now in
    let rising = subst IsRising c.objects.ensures.all c.objects.ensures.rising in
    let turned = sym (part_values grounds room rising) in
    let held = c.held_by-held.ensures ∙ (λ i. min (c.from.ensures i) (held_by entry.player (c.objects.ensures.all i))) in
    let actor = c.standing.ensures.part grounds in
    c.may_be_made.ensures room.objects held
    ∙ (λ i. all_hold (spawn_checks entry.player (actor i) (turned i) (Some entry.body)))
