use Rattle.std.proofs.Common.{sym, ap, subst, ◌∙◌}
use Rattle.room_table.specs.Controllers.{is_owned_room}
use Rattle.world_rules.specs.RoomParts.{table_part}
use Rattle.world_rules.specs.Steps.{over_objects}
use Rattle.world_rules.specs.Upkeep.{weathered_as}
use Rattle.world_rules.proofs.TableParts.{part_controller}
use Rattle.room_rules.specs.Calls.{IsReadyFor, KeepsUpTo}
use Rattle.upkeep_rules.proofs.First.{own_are, own_sums, weather_budget}
use Rattle.upkeep_rules.proofs.upkeep.decay_buildings.Goals as goal

pub wear_all-requires : goal.wear_all-requires
wear_all-requires c = record { ready = subst (λ n. IsReadyFor n c.args.room.now) (sym (weather_budget c.is_owned_room-in_owned.result c.args.room.now)) c.requires.ready }

pub returns-clause-rule : goal.returns-clause-rule
returns-clause-rule c grounds =
    let owned = c.is_owned_room-in_owned.ensures ∙ ap is_owned_room (c.controller.ensures ∙ sym (part_controller grounds c.args.room.now c.stands_in_order.ensures.rising)) in
    c.wear_all.ensures.rule grounds (own_sums c.args.room.now) (own_are c.args.room.now)
    ∙ ap (λ b. over_objects (weathered_as b) (table_part grounds c.args.room.now)) owned

pub returns-clause-keeps : goal.returns-clause-keeps
returns-clause-keeps c = subst (λ n. KeepsUpTo n c.args.room.now c.wear_all.new.room) (weather_budget c.is_owned_room-in_owned.result c.args.room.now) c.wear_all.ensures.keeps
