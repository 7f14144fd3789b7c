use Rattle.std.proofs.Common.{◌*◌, ℕ, Some, None, sym, ap, subst, ◌∙◌}
use Rattle.game_tables.specs.declared.action.Action.TheVariants.{RangedAttack}
use Rattle.room_table.specs.Tables.{Table}
use Rattle.room_table.specs.Tallies.{damaged}
use Rattle.world_rules.specs.RuleBook.{Harm}
use Rattle.world_rules.specs.Fights.{blow, shot_by}
use Rattle.world_rules.proofs.TableParts.{has_the_id}
use Rattle.room_rules.specs.Calls.{IsHarmedBy}
use Rattle.room_rules.proofs.Harmed.{harmed_by_blow, unharmed, with_tallies}
use Rattle.room_rules.proofs.Parties.{target_found}
use Rattle.room_rules.proofs.Harmed.{harmed_between}
use Rattle.creep_combat.proofs.attacking.ranged_attack.Goals as goal

pub returns-in_default-clause-harm : goal.returns-in_default-clause-harm
returns-in_default-clause-harm c =
    let table = c.args.room.now in
    harmed_between RangedAttack shot_by c.args.intent.now table table None (λ grounds. sym c.in_default.is ∙ c.parties.ensures grounds) (unharmed table c.stands_in_order.ensures.tallies)

pub add_damage-requires : goal.add_damage-requires
add_damage-requires c = record { there = (c.in-Some.field-0-1, target_found RangedAttack c.args.intent.now c.args.room.now c.in-Some.creep c.in-Some.field-0-1 c.in-Some.ensures) }

pub returns-clause-harm : goal.returns-clause-harm
returns-clause-harm c =
    let table = c.args.room.now in
    let entry = c.args.intent.now in
    let creep = c.in-Some.creep in
    let target = c.in-Some.field-0-1 in
    let named = sym (has_the_id entry.target table.objects target (target_found RangedAttack entry table creep target c.in-Some.ensures)) in
    let amount = ap (λ (n : ℕ). 10 * n) c.live.ensures.count in
    let new : Table = with_tallies (damaged entry.target (10 * c.live.result) table.tallies) table in
    let harmed = subst (λ (harm : Harm). IsHarmedBy harm table new) (λ i. blow (named i) (amount i)) (harmed_by_blow table entry.target (10 * c.live.result) c.stands_in_order.ensures.tallies) in
    harmed_between RangedAttack shot_by entry table c.add_damage.new.self (Some (creep, target)) c.in-Some.ensures
    (subst (λ (after : Table). IsHarmedBy (shot_by creep target) table after) (sym c.add_damage.ensures) harmed)
