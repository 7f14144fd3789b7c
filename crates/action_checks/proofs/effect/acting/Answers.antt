use Rattle.std.proofs.Common.{Bool, if◌then◌else◌, None, sym, ap, ◌∙◌}
use Rattle.std.specs.FinMap.{get}
use Rattle.world_rules.specs.RoomParts.{table_part}
use Rattle.world_rules.proofs.TableParts.{get_table_part}
use Rattle.action_checks.proofs.effect.acting.Goals as goal

pub returns-then-takes_effect : goal.returns-then-takes_effect
returns-then-takes_effect c = λ grounds.
    let room = c.args.room.now in
    let entry = c.args.intent.now in
    let part = table_part grounds room in
    let creep = c.get.ensures ∙ sym (get_table_part grounds room entry.actor) in
    c.copied.ensures
    ∙ creep
    ∙ sym (ap (λ (b : Bool). if b then get part.objects entry.actor else None) (sym (c.takes_effect.ensures grounds) ∙ c.if-takes_effect.true))
