use Rattle.std.proofs.Common.{ℕ, ap, ◌∙◌}
use Rattle.world_rules.specs.RoomParts.{table_part}
use Rattle.world_rules.specs.Spawns.{paid, payers}
use Rattle.game_tables.specs.declared.kind.Kind.TheVariants.{Spawn, Extension}
use Rattle.spawn_rules.proofs.Paid.{both_paid}
use Rattle.spawn_rules.proofs.spawning.pay.Goals as goal

pub returns-clause-rule : goal.returns-clause-rule
returns-clause-rule c = λ grounds.
    both_paid c.args.owner c.from.result c.pay_all-left.result c.args.room.now c.pay_all-left.new.room c.pay_all.new.room Spawn Extension c.pay_all-left.ensures.has c.pay_all.ensures.has grounds
    (c.pay_all-left.ensures.rule grounds) (c.pay_all-left.ensures.left grounds) (c.pay_all.ensures.rule grounds)
    ∙ ap (λ (cost : ℕ). paid (payers c.args.owner c.args.room.now.objects) cost (table_part grounds c.args.room.now)) c.from.ensures
