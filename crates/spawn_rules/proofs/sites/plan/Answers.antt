use Rattle.std.proofs.Common.{sym}
use Rattle.world_rules.specs.Sites.{plan_of}
use Rattle.world_rules.specs.RoomParts.{table_part}
use Rattle.world_rules.proofs.TableParts.{part_values}
use Rattle.spawn_rules.proofs.sites.plan.Goals as goal

pub returns-clause-view : goal.returns-clause-view
returns-clause-view c =
    let same = part_values c.args.ground.now c.args.room.now c.stands_in_order.ensures.rising in
    let turned = sym same in
    λ i. record (plan_of c.args.intent.now (table_part c.args.ground.now c.args.room.now)) { around = turned i }
