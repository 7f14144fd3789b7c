use Rattle.std.proofs.Common.{◌-◌, sym, ap, ◌∙◌, Option}
use Rattle.room_table.specs.declared.object.Object.{Object}
use Rattle.room_table.specs.Stores.{free_room}
use Rattle.world_rules.proofs.TableParts.{part_controller}
use Rattle.creep_logistics.proofs.amounts.free_in.Goals as goal

pub returns-clause-room : goal.returns-clause-room
returns-clause-room c = λ grounds.
    let object = c.args.object.now in
    c.missing.ensures.missing
    ∙ (λ i. c.capacity.ensures i - object.energy)
    ∙ ap (λ (controller : Option Object). free_room controller object) (c.controller.ensures ∙ sym (part_controller grounds c.args.room.now c.stands_in_order.ensures.rising))
