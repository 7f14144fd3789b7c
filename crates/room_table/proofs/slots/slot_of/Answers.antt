use Rattle.room_table.proofs.Keyed.{rises_from_objects}
use Rattle.room_table.proofs.Changed.{stands_within, stands_in}
use Rattle.room_table.proofs.slots.slot_of.Goals as goal

pub bounds-order-place : goal.bounds-order-place
bounds-order-place c =
    stands_within c.args.slots.now c.args.order.now c.place-place.result c.args.id (rises_from_objects _ c.requires.rising) c.place-place.ensures.within c.place-place.ensures.between c.requires.there

pub returns-clause-stands : goal.returns-clause-stands
returns-clause-stands c =
    stands_in c.args.slots.now c.args.order.now c.place-place.result c.args.id c.requires.known (rises_from_objects _ c.requires.rising) c.place-place.ensures.within c.place-place.ensures.between c.requires.there
