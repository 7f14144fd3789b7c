-- What creeps hand over, take and pick up.
use Rattle.std.specs.Prelude.{ℕ, ◌+◌, ◌-◌, ◌==◌, min, if◌then◌else◌, Option}
use Rattle.game_tables.specs.declared.action.Action.TheVariants.{Transfer, Withdraw, Pickup}
use Rattle.room_table.specs.Stores.{free_room}
use Rattle.room_table.specs.declared.object.Object.{Object}
use Rattle.intent_book.specs.declared.intent.Intent.{Intent}
use Rattle.world_rules.specs.RoomParts.{RoomPart, controller_of}
use Rattle.world_rules.specs.Changes.{with_object, without}
use Rattle.world_rules.specs.Checks.{by_parties}
use Rattle.world_rules.specs.Drops.{wanted_of}

-- an object with more energy, and with less
abbrev pub with_more : ℕ → Object → Object
with_more amount object = record object { energy = object.energy + amount }

abbrev pub with_less : ℕ → Object → Object
with_less amount object = record object { energy = object.energy - amount }

-- An amount of energy goes from one object to another.
abbrev pub handed_over : ℕ → Object → Object → RoomPart → RoomPart
handed_over amount giver taker part =
    with_object (with_more amount taker) (with_object (with_less amount giver) part)

-- how much goes over, in a room with this controller: what is wanted of what the giver has, as far as the
-- taker has room for it
abbrev pub handed : ℕ → Option Object → Object → Object → ℕ
handed wanted controller giver taker =
    min (wanted_of wanted giver.energy) (free_room controller taker)

-- A creep hands over what is wanted of its load, as far as the target has room for it.
abbrev pub transferred_by : ℕ → Object → Object → RoomPart → RoomPart
transferred_by wanted creep target part =
    handed_over (handed wanted (controller_of part) creep target) creep target part

abbrev pub transferred : Intent → RoomPart → RoomPart
transferred entry = by_parties Transfer (transferred_by entry.amount) entry

-- A creep takes what is wanted of a store, as far as it has room for it.
abbrev pub withdrawn_by : ℕ → Object → Object → RoomPart → RoomPart
withdrawn_by wanted creep store part =
    handed_over (handed wanted (controller_of part) store creep) store creep part

abbrev pub withdrawn : Intent → RoomPart → RoomPart
withdrawn entry = by_parties Withdraw (withdrawn_by entry.amount) entry

-- An amount is taken from a pile; at 0 it is gone.
abbrev pub taken_from : Object → ℕ → RoomPart → RoomPart
taken_from pile amount part =
    if amount == pile.energy then without pile.id part else with_object (with_less amount pile) part

-- A creep picks up a pile, as far as it has room for it.
abbrev pub picked_up_by : Object → Object → RoomPart → RoomPart
picked_up_by creep pile part =
    let amount : ℕ = min pile.energy (free_room (controller_of part) creep) in
    with_object (with_more amount creep) (taken_from pile amount part)

abbrev pub picked_up : Intent → RoomPart → RoomPart
picked_up entry = by_parties Pickup picked_up_by entry
