use Rattle.std.proofs.Common.{◌&&◌, not, sym, ap, ◌∙◌}
use Rattle.std.specs.Option.{is_some}
use Rattle.game_tables.specs.declared.kind.Kind.TheVariants.{Creep}
use Rattle.room_table.specs.Tables.{first_on}
use Rattle.world_rules.proofs.TableParts.{part_values}
use Rattle.spawn_rules.proofs.Around.{none_of_id}
use Rattle.spawn_rules.proofs.hatching.is_free.Goals as goal

pub returns-then-is_open : goal.returns-then-is_open
returns-then-is_open c =
    let turned = sym (part_values c.args.ground.now c.args.room.now c.stands_in_order.ensures.rising) in
    let free = none_of_id c.is_none.result (first_on c.args.x c.args.y Creep c.args.room.now.objects) (sym (ap is_some c.at.ensures) ∙ c.is_none.ensures) in
    free ∙ (λ i. (sym c.if-is_open.true ∙ c.is_open.ensures) i && not (is_some (first_on c.args.x c.args.y Creep (turned i))))
