use Rattle.std.proofs.Common.{◌+◌, ◌==◌, [], min, sym, ap, subst, ◌∙◌}
use Rattle.game_tables.specs.declared.action.Action.TheVariants.{Pickup}
use Rattle.room_rules.specs.Calls.{Keeps, KeepsTallies}
use Rattle.room_rules.proofs.Calls.{tallies_set}
use Rattle.world_rules.specs.Changes.{with_object}
use Rattle.world_rules.specs.Checks.{between}
use Rattle.world_rules.specs.Loads.{picked_up_by, taken_from, with_more}
use Rattle.world_rules.specs.RoomParts.{table_part}
use Rattle.world_rules.proofs.TableParts.{found_on_tile, part_replaced}
use Rattle.creep_logistics.proofs.Standing.{apart_from_pile, creep_stands, keeps_set, target_stands}
use Rattle.creep_logistics.proofs.picking.pickup.Goals as goal

pub take_from-requires-clause-there : goal.take_from-requires-clause-there
take_from-requires-clause-there c =
    target_stands Pickup c.args.intent.now c.args.room.now c.in-Some.creep c.in-Some.pile (sym (c.parties.ensures []) ∙ c.in-Some.is)

pub set-requires-clause-tile : goal.set-requires-clause-tile
set-requires-clause-tile c =
    let creep = c.in-Some.creep in
    let there = creep_stands Pickup c.args.intent.now c.args.room.now creep c.in-Some.pile (sym (c.parties.ensures []) ∙ c.in-Some.is) in
    found_on_tile (λ o. o.id == creep.id) c.args.room.now.objects creep (creep.energy + c.min-amount.result) c.requires.ready.tiles there

pub set-requires-clause-there : goal.set-requires-clause-there
set-requires-clause-there c =
    let creep = c.in-Some.creep in
    let pile = c.in-Some.pile in
    let found = sym (c.parties.ensures []) ∙ c.in-Some.is in
    let there = creep_stands Pickup c.args.intent.now c.args.room.now creep pile found in
    c.take_from.ensures.others creep.id (apart_from_pile c.args.intent.now c.args.room.now creep pile found) (creep, there)

pub returns-clause-rule : goal.returns-clause-rule
returns-clause-rule c = λ grounds.
    let creep = c.in-Some.creep in
    let pile = c.in-Some.pile in
    let part = table_part grounds c.args.room.now in
    let found = sym (c.parties.ensures []) ∙ c.in-Some.is in
    let there = creep_stands Pickup c.args.intent.now c.args.room.now creep pile found in
    let still = c.take_from.ensures.others creep.id (apart_from_pile c.args.intent.now c.args.room.now creep pile found) (creep, there) in
    let amount = c.min-amount.ensures ∙ (λ i. min pile.energy (c.free_in.ensures.room grounds i)) in
    ap (table_part grounds) c.set.ensures
    ∙ part_replaced grounds c.take_from.new.room (with_more c.min-amount.result creep) still
    ∙ ap (with_object (with_more c.min-amount.result creep)) (c.take_from.ensures.rule grounds)
    ∙ (λ i. with_object (with_more (amount i) creep) (taken_from pile (amount i) part))
    ∙ sym (λ i. between picked_up_by ((sym (c.parties.ensures grounds) ∙ c.in-Some.is) i) part)

pub returns-clause-keeps : goal.returns-clause-keeps
returns-clause-keeps c =
    let creep = c.in-Some.creep in
    let there = creep_stands Pickup c.args.intent.now c.args.room.now creep c.in-Some.pile (sym (c.parties.ensures []) ∙ c.in-Some.is) in
    let on = found_on_tile (λ o. o.id == creep.id) c.args.room.now.objects creep (creep.energy + c.min-amount.result) c.requires.ready.tiles there in
    subst (Keeps c.args.room.now) (sym c.set.ensures) (keeps_set c.args.room.now c.take_from.new.room (with_more c.min-amount.result creep) on c.take_from.ensures.keeps)

pub returns-clause-tallies : goal.returns-clause-tallies
returns-clause-tallies c =
    subst (KeepsTallies c.args.room.now) (sym c.set.ensures) (tallies_set c.args.room.now c.take_from.new.room (with_more c.min-amount.result c.in-Some.creep) c.take_from.ensures.tallies)
