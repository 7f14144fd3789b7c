use Rattle.std.proofs.Common.{Some, None, sym, subst, ◌∙◌}
use Rattle.game_tables.specs.declared.action.Action.TheVariants.{RangedHeal}
use Rattle.room_table.specs.Tables.{Table}
use Rattle.room_table.specs.Tallies.{healed}
use Rattle.world_rules.specs.RuleBook.{Harm}
use Rattle.world_rules.specs.Fights.{cure, healed_by}
use Rattle.world_rules.proofs.TableParts.{has_the_id}
use Rattle.room_rules.specs.Calls.{IsHarmedBy}
use Rattle.room_rules.proofs.Harmed.{harmed_by_cure, unharmed, with_tallies}
use Rattle.room_rules.proofs.Parties.{target_found}
use Rattle.room_rules.proofs.Harmed.{harmed_between}
use Rattle.creep_combat.proofs.healing.ranged_heal.Goals as goal

pub returns-in_default-clause-harm : goal.returns-in_default-clause-harm
returns-in_default-clause-harm c =
    let table = c.args.room.now in
    harmed_between RangedHeal (healed_by 4) c.args.intent.now table table None (λ grounds. sym c.in_default.is ∙ c.parties.ensures grounds) (unharmed table c.stands_in_order.ensures.tallies)

pub add_healing-requires : goal.add_healing-requires
add_healing-requires c = record { there = (c.in-Some.field-0-1, target_found RangedHeal c.args.intent.now c.args.room.now c.in-Some.creep c.in-Some.field-0-1 c.in-Some.ensures) }

pub returns-clause-harm : goal.returns-clause-harm
returns-clause-harm c =
    let table = c.args.room.now in
    let entry = c.args.intent.now in
    let creep = c.in-Some.creep in
    let target = c.in-Some.field-0-1 in
    let named = sym (has_the_id entry.target table.objects target (target_found RangedHeal entry table creep target c.in-Some.ensures)) in
    let amount = c.healing.ensures in
    let new : Table = with_tallies (healed entry.target (c.healing.result) table.tallies) table in
    let harmed = subst (λ (harm : Harm). IsHarmedBy harm table new) (λ i. cure (named i) (amount i)) (harmed_by_cure table entry.target (c.healing.result) c.stands_in_order.ensures.tallies) in
    harmed_between RangedHeal (healed_by 4) entry table c.add_healing.new.self (Some (creep, target)) c.in-Some.ensures
    (subst (λ (after : Table). IsHarmedBy (healed_by 4 creep target) table after) (sym c.add_healing.ensures) harmed)
