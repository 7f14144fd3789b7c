use Rattle.std.proofs.Common.{◌==◌, map, sym, subst}
use Rattle.std.specs.List.{filter}
use Rattle.game_tables.specs.declared.action.Action.TheVariants.{RangedMassAttack}
use Rattle.room_table.specs.Tables.{IsOnTile}
use Rattle.world_rules.specs.Fights.{all_struck_by, is_struck, mass_blow}
use Rattle.world_rules.specs.RuleBook.{Harm}
use Rattle.world_rules.proofs.TableParts.{all_found, part_values}
use Rattle.room_rules.specs.Calls.{IsHarmedBy}
use Rattle.creep_combat.specs.inner.Damage.{mass_damage}
use Rattle.room_rules.proofs.Harmed.{harmed_by}
use Rattle.creep_combat.proofs.Found.{acting_found}
use Rattle.creep_combat.proofs.Struck.{total_struck}
use Rattle.creep_combat.proofs.mass.mass_attack.Goals as goal

pub strike_all-requires-clause-tile : goal.strike_all-requires-clause-tile
strike_all-requires-clause-tile c =
    let table = c.args.room.now in
    let creep = c.in-Some.creep in
    let found = acting_found RangedMassAttack c.args.intent.now table creep c.in-Some.ensures in
    all_found IsOnTile (λ o. o.id == c.args.intent.now.actor) table.objects creep c.requires.ready.tiles found

pub strike_all-requires-clause-ids : goal.strike_all-requires-clause-ids
strike_all-requires-clause-ids c = c.ids_fit.ensures

pub returns-clause-harm : goal.returns-clause-harm
returns-clause-harm c =
    let table = c.args.room.now in
    let creep = c.in-Some.creep in
    let new = c.strike_all.new.room in
    let rising = c.stands_in_order.ensures.rising in
    let harmed = harmed_by (mass_damage creep) table new (map (mass_blow creep) (filter (is_struck creep) table.objects)) c.stands_in_order.ensures.tallies c.strike_all.ensures
    (λ id object found. total_struck creep table.objects id object rising found) in
    λ grounds. subst (λ (harm : Harm). IsHarmedBy harm table new) (λ i. all_struck_by (sym (part_values grounds table rising) i) (c.in-Some.ensures grounds i)) harmed
