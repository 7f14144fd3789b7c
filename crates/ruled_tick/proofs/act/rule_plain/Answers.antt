-- What each rule makes of the room's part: those that only do something to objects leave it.
use Rattle.std.proofs.Common.{ap, sym, ◌∙◌}
use Rattle.game_tables.specs.declared.action.Action.{Action}
use Rattle.world_rules.specs.RoomParts.{table_part}
use Rattle.world_rules.specs.Tick.{rule_of}
use Rattle.ruled_tick.proofs.act.rule_plain.Goals as goal

pub returns-in-Heal-clause-rule : goal.returns-in-Heal-clause-rule
returns-in-Heal-clause-rule c =
    c.heal.ensures.rule c.args.ground.now ∙ sym (ap (λ (action : Action). (rule_of action c.args.intent.now (table_part c.args.ground.now c.args.table.now)).part) c.in-Heal.is)

pub returns-in-RangedHeal-clause-rule : goal.returns-in-RangedHeal-clause-rule
returns-in-RangedHeal-clause-rule c =
    c.ranged_heal.ensures.rule c.args.ground.now ∙ sym (ap (λ (action : Action). (rule_of action c.args.intent.now (table_part c.args.ground.now c.args.table.now)).part) c.in-RangedHeal.is)

pub returns-in-Attack-clause-rule : goal.returns-in-Attack-clause-rule
returns-in-Attack-clause-rule c =
    c.attack.ensures.rule c.args.ground.now ∙ sym (ap (λ (action : Action). (rule_of action c.args.intent.now (table_part c.args.ground.now c.args.table.now)).part) c.in-Attack.is)

pub returns-in-RangedMassAttack-clause-rule : goal.returns-in-RangedMassAttack-clause-rule
returns-in-RangedMassAttack-clause-rule c =
    c.mass_attack.ensures.rule c.args.ground.now ∙ sym (ap (λ (action : Action). (rule_of action c.args.intent.now (table_part c.args.ground.now c.args.table.now)).part) c.in-RangedMassAttack.is)

pub returns-in-RangedAttack-clause-rule : goal.returns-in-RangedAttack-clause-rule
returns-in-RangedAttack-clause-rule c =
    c.ranged_attack.ensures.rule c.args.ground.now ∙ sym (ap (λ (action : Action). (rule_of action c.args.intent.now (table_part c.args.ground.now c.args.table.now)).part) c.in-RangedAttack.is)
