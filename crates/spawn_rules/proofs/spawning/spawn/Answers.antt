use Rattle.std.proofs.Common.{[], sym, ◌∙◌}
use Rattle.world_rules.specs.RoomParts.{table_part}
use Rattle.spawn_rules.proofs.Begun.{begun, parts_few}
use Rattle.spawn_rules.proofs.spawning.spawn.Goals as goal

pub begin-requires-clause-parts : goal.begin-requires-clause-parts
begin-requires-clause-parts c = parts_few [] c.args.room.now c.args.intent.now (sym (c.may_begin.ensures []) ∙ c.if-not-may_begin.false)

pub returns-clause-rule : goal.returns-clause-rule
returns-clause-rule c = λ grounds.
    begun grounds c.args.room.now c.args.intent.now (sym (c.may_begin.ensures grounds) ∙ c.if-not-may_begin.false) c.stands_in_order.ensures.rising c.cost.result c.cost.ensures (table_part grounds c.pay.new.room) (table_part grounds c.begin.new.room) (c.pay.ensures.rule grounds) (c.begin.ensures.rule grounds)
