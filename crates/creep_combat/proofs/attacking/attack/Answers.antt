use Rattle.std.proofs.Common.{◌≡◌, ◌∷◌, [], Bool, if◌then◌else◌, Some, None, sym, ap, subst, ◌∙◌}
use Rattle.game_tables.specs.declared.action.Action.TheVariants.{Attack}
use Rattle.room_table.specs.Tables.{Table, find_object}
use Rattle.room_table.specs.Tallies.{damaged}
use Rattle.world_rules.specs.RuleBook.{Harm}
use Rattle.world_rules.specs.Fights.{attacked_by, strength, struck_back}
use Rattle.world_rules.proofs.TableParts.{has_the_id}
use Rattle.room_rules.specs.Calls.{IsHarmedBy}
use Rattle.room_rules.proofs.Harmed.{harmed_by_blow, harmed_by_two, unharmed, with_tallies}
use Rattle.room_rules.proofs.Parties.{creep_found, target_found}
use Rattle.creep_combat.proofs.Found.{strikes_back}
use Rattle.room_rules.proofs.Harmed.{harmed_between}
use Rattle.creep_combat.proofs.attacking.attack.Goals as goal

pub returns-in_default-clause-harm : goal.returns-in_default-clause-harm
returns-in_default-clause-harm c =
    let table = c.args.room.now in
    harmed_between Attack attacked_by c.args.intent.now table table None (λ grounds. sym c.in_default.is ∙ c.parties.ensures grounds) (unharmed table c.stands_in_order.ensures.tallies)

pub add_damage-requires : goal.add_damage-requires
add_damage-requires c = record { there = (c.in-Some.target, target_found Attack c.args.intent.now c.args.room.now c.in-Some.creep c.in-Some.target c.in-Some.ensures) }

pub add_damage-requires-then-is_creep : goal.add_damage-requires-then-is_creep
add_damage-requires-then-is_creep c =
    let found = creep_found Attack c.args.intent.now c.args.room.now c.in-Some.creep c.in-Some.target c.in-Some.ensures in
    record { there = (c.in-Some.creep, ap (λ (t : Table). find_object c.args.intent.now.actor t.objects) c.add_damage.ensures ∙ found) }

pub returns-then-is_creep-clause-harm : goal.returns-then-is_creep-clause-harm
returns-then-is_creep-clause-harm c =
    let table = c.args.room.now in
    let entry = c.args.intent.now in
    let creep = c.in-Some.creep in
    let target = c.in-Some.target in
    let hers = sym (has_the_id entry.target table.objects target (target_found Attack entry table creep target c.in-Some.ensures)) in
    let his = sym (has_the_id entry.actor table.objects creep (creep_found Attack entry table creep target c.in-Some.ensures)) in
    let does = c.strength.ensures in
    let gets = c.strength-then-is_creep.ensures in
    let n = c.strength.result in
    let m = c.strength-then-is_creep.result in
    let back : (entry.actor, m) ∷ [] ≡ struck_back target.kind creep target =
    (λ i. (his i, gets i) ∷ [])
    ∙ sym (ap (λ (b : Bool). if b then (creep.id, strength target) ∷ [] else []) (sym c.is_creep.ensures ∙ c.if-is_creep.true))
    ∙ sym (strikes_back target.kind creep target) in
    let new : Table = with_tallies (damaged entry.actor m (damaged entry.target n table.tallies)) table in
    let harmed = subst (λ (harm : Harm). IsHarmedBy harm table new) (λ i. record { damage = (hers i, does i) ∷ back i; healing = [] }) (harmed_by_two table entry.target n entry.actor m c.stands_in_order.ensures.tallies) in
    let done = c.add_damage-then-is_creep.ensures ∙ ap (λ (t : Table). with_tallies (damaged entry.actor m t.tallies) t) c.add_damage.ensures in
    harmed_between Attack attacked_by entry table c.add_damage-then-is_creep.new.self (Some (creep, target)) c.in-Some.ensures
    (subst (λ (after : Table). IsHarmedBy (attacked_by creep target) table after) (sym done) harmed)

pub returns-else-is_creep-clause-harm : goal.returns-else-is_creep-clause-harm
returns-else-is_creep-clause-harm c =
    let table = c.args.room.now in
    let entry = c.args.intent.now in
    let creep = c.in-Some.creep in
    let target = c.in-Some.target in
    let hers = sym (has_the_id entry.target table.objects target (target_found Attack entry table creep target c.in-Some.ensures)) in
    let does = c.strength.ensures in
    let n = c.strength.result in
    let back : [] ≡ struck_back target.kind creep target =
    sym (ap (λ (b : Bool). if b then (creep.id, strength target) ∷ [] else []) (sym c.is_creep.ensures ∙ c.if-is_creep.false))
    ∙ sym (strikes_back target.kind creep target) in
    let new : Table = with_tallies (damaged entry.target n table.tallies) table in
    let harmed = subst (λ (harm : Harm). IsHarmedBy harm table new) (λ i. record { damage = (hers i, does i) ∷ back i; healing = [] }) (harmed_by_blow table entry.target n c.stands_in_order.ensures.tallies) in
    harmed_between Attack attacked_by entry table c.add_damage.new.self (Some (creep, target)) c.in-Some.ensures
    (subst (λ (after : Table). IsHarmedBy (attacked_by creep target) table after) (sym c.add_damage.ensures) harmed)
