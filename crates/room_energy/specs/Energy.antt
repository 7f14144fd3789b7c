-- The energy of a room, and what the rules of actions put into it and take out of it.
use Rattle.std.specs.Prelude.{ℕ, ◌+◌, ◌-◌, ◌*◌, ◌==◌, min, if◌then◌else◌, Option, Some, None}
use Rattle.std.specs.List.{sum_by}
use Rattle.std.specs.FinMap.{get, values}
use Rattle.game_tables.specs.Bodies.{body_cost}
use Rattle.game_tables.specs.declared.action.Action.{Action}
use Rattle.game_tables.specs.declared.action.Action.TheVariants.{DropLoad, Dismantle, Harvest, Repair, Build}
use Rattle.game_tables.specs.declared.action.Action.TheVariants.{Upgrade, SpawnCreep}
use Rattle.game_tables.specs.declared.kind.Kind.{Kind}
use Rattle.room_table.specs.Stores.{building_of, free_room}
use Rattle.room_table.specs.declared.object.Object.{Object}
use Rattle.intent_book.specs.declared.intent.Intent.{Intent}
use Rattle.world_rules.specs.RoomParts.{RoomPart, controller_of}
use Rattle.world_rules.specs.Changes.{with_object}
use Rattle.world_rules.specs.Checks.{all_hold, may_take_effect, parties, standing_at}
use Rattle.world_rules.specs.Claims.{work_taken}
use Rattle.world_rules.specs.Drops.{pile_bound, pile_on, wanted_of}
use Rattle.world_rules.specs.Fights.{salvage}
use Rattle.world_rules.specs.Loads.{with_less, with_more}
use Rattle.world_rules.specs.Spawns.{spawn_checks}
use Rattle.world_rules.specs.Work.{hits_gained, live_work, repair_cost, work_put}

-- the energy of all objects of a room
abbrev pub energy_in : RoomPart → ℕ
energy_in part = sum_by (λ object. object.energy) (values part.objects)

-- ---- what is lost of energy that falls

-- what passes the most of a pile, where this one lies on the tile or none
abbrev pub passing : Option Object → ℕ → ℕ
passing None amount = amount - pile_bound
passing (Some pile) amount = (pile.energy + amount) - pile_bound

-- What is lost of an amount that falls on a tile; of 0 nothing falls.
abbrev pub lost_on : ℕ → ℕ → ℕ → RoomPart → ℕ
lost_on x y amount part = if amount == 0 then 0 else passing (pile_on x y part) amount

-- ---- what each action puts into the room, and what it takes out of it

-- an amount by a creep and its target, where they are there
abbrev pub amount_between : (Object → Object → ℕ) → Option (Object × Object) → ℕ
amount_between amount None = 0
amount_between amount (Some found) = amount found.0 found.1

-- What an entry puts into the room: what a creep gets out of a building that it tears down. No other action
-- makes energy.
abbrev pub given_by : Action → Intent → RoomPart → ℕ
given_by Dismantle entry part = amount_between salvage (parties Dismantle entry part)
given_by action entry part = 0

-- of what a creep drops, what is lost
abbrev pub lost_by_drop : Intent → RoomPart → Option Object → ℕ
lost_by_drop entry part None = 0
lost_by_drop entry part (Some creep) =
    let amount : ℕ = wanted_of entry.amount creep.energy in
    if may_take_effect DropLoad entry part
    then lost_on creep.x creep.y amount (with_object (with_less amount creep) part) else 0

-- of what a creep harvests and has no room for, what is lost
abbrev pub lost_by_harvest : RoomPart → Object → Object → ℕ
lost_by_harvest part creep source =
    let amount : ℕ = min (2 * live_work creep) source.energy in
    let taken : ℕ = min amount (free_room (controller_of part) creep) in
    lost_on creep.x creep.y (amount - taken)
    (with_object (with_more taken creep) (with_object (with_less amount source) part))

-- of what a creep gets out of a building and has no room for, what is lost
abbrev pub lost_by_dismantle : RoomPart → Object → Object → ℕ
lost_by_dismantle part creep building =
    let amount : ℕ = salvage creep building in
    let taken : ℕ = min amount (free_room (controller_of part) creep) in
    lost_on creep.x creep.y (amount - taken) (with_object (with_more taken creep) part)

-- the load that goes into a site of this kind
abbrev pub put_into : Option Kind → Object → Object → ℕ
put_into None creep site = 0
put_into (Some kind) creep site = work_put kind creep site

-- what a creep costs that a spawn begins to make
abbrev pub cost_of : Intent → RoomPart → ℕ
cost_of entry part =
    if all_hold
    (spawn_checks entry.player (standing_at part entry.actor) (values part.objects) (Some entry.body))
    then body_cost entry.body else 0

-- What an entry takes out of the room: what is lost of what falls, what a repair costs, what is built with,
-- what is put into a controller, and what a creep costs. All other actions leave the energy in the room.
abbrev pub taken_by : Action → Intent → RoomPart → ℕ
taken_by DropLoad entry part = lost_by_drop entry part (get part.objects entry.actor)
taken_by Dismantle entry part = amount_between (lost_by_dismantle part) (parties Dismantle entry part)
taken_by Harvest entry part = amount_between (lost_by_harvest part) (parties Harvest entry part)
taken_by Repair entry part =
    amount_between (λ creep building. repair_cost (hits_gained creep building)) (parties Repair entry part)
taken_by Build entry part =
    amount_between (λ creep site. put_into (building_of site) creep site) (parties Build entry part)
taken_by Upgrade entry part = amount_between work_taken (parties Upgrade entry part)
taken_by SpawnCreep entry part = cost_of entry part
taken_by action entry part = 0
