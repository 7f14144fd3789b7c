-- The steps of upkeep at the end of a tick. Each is a change of a room's part, over its objects in rising id.
use Rattle.std.specs.Prelude.{ℕ, ◌+◌, ◌-◌, ◌*◌, ◌==◌, ◌&&◌, ◌||◌, min, max, nat_lt, Bool, true, false}
use Rattle.std.specs.Prelude.{if◌then◌else◌, List, [], ◌∷◌, ◌++◌, Option, Some, None}
use Rattle.std.specs.FinMap.{values}
use Rattle.game_tables.specs.Bodies.{live_count, load_room}
use Rattle.game_tables.specs.Kinds.{full_timer, hits_max, is_building, is_creep, source_capacity}
use Rattle.game_tables.specs.Kinds.{renewal_ticks, pile_decay}
use Rattle.game_tables.specs.declared.kind.Kind.{Kind}
use Rattle.game_tables.specs.declared.kind.Kind.TheVariants.{Source, Creep, Spawn, Container, Road, Pile}
use Rattle.game_tables.specs.declared.kind.Part.TheVariants.{Move}
use Rattle.room_table.specs.Controllers.{is_taken, is_owned_room}
use Rattle.room_table.specs.declared.object.Object.{Object}
use Rattle.world_rules.specs.RoomParts.{RoomPart, controller_of}
use Rattle.world_rules.specs.RuleBook.{Step, Sums}
use Rattle.world_rules.specs.Changes.{with_object, without}
use Rattle.world_rules.specs.Drops.{dropped_by, fallen}
use Rattle.world_rules.specs.Claims.{controllers_aged}
use Rattle.world_rules.specs.Spawns.{hatched, held_by}
use Rattle.world_rules.specs.Steps.{over_objects, each}

-- ---- hits

-- What is gone leaves the energy that it held on its tile.
abbrev pub gone : Object → RoomPart → RoomPart
gone object part = fallen object.x object.y object.energy (without object.id part)

-- What has no hits left is gone.
abbrev pub standing_or_gone : Object → RoomPart → RoomPart
standing_or_gone object part = if object.hits == 0 then gone object part else with_object object part

-- The hits that a tick leaves: a creep is healed and damaged at once, up to its most, unless it had none; of
-- a building the damage is taken.
abbrev pub hits_left : Kind → Sums → Object → ℕ
hits_left Creep sums creep =
    if creep.hits == 0 then 0
    else min (hits_max Creep creep.body) (creep.hits + sums.healing creep.id - sums.damage creep.id)
hits_left kind sums building = building.hits - sums.damage building.id

abbrev pub struck_as : Sums → Object → RoomPart → RoomPart
struck_as sums object part =
    if is_creep object.kind || is_building object.kind
    then standing_or_gone (record object { hits = hits_left object.kind sums object }) part else part

-- Creeps and buildings have the hits that the tick leaves them, or are gone.
abbrev pub struck : Sums → RoomPart → RoomPart
struck sums = over_objects (struck_as sums)

-- ---- creeps

-- What a creep carries above what its live parts hold falls on its tile.
abbrev pub unloaded_as : Kind → Object → RoomPart → RoomPart
unloaded_as Creep creep part = dropped_by creep (creep.energy - load_room creep.hits creep.body) part
unloaded_as kind object part = part

abbrev pub unloaded : RoomPart → RoomPart
unloaded = over_objects (λ object. unloaded_as object.kind object)

-- A creep's timer falls by 1, and at 0 it dies.
abbrev pub aged_as : Kind → Object → RoomPart → RoomPart
aged_as Creep creep part =
    if nat_lt 1 creep.timer then with_object (record creep { timer = creep.timer - 1 }) part
    else gone creep part
aged_as kind object part = part

abbrev pub aged : RoomPart → RoomPart
aged = over_objects (λ object. aged_as object.kind object)

-- Fatigue falls by 2 for each live MOVE part, down to 0.
abbrev pub recovered_as : Kind → Object → Object
recovered_as Creep creep = record creep { extra = creep.extra - 2 * live_count Move creep.hits creep.body }
recovered_as _ object = object

-- Creeps recover.
abbrev pub recovered : RoomPart → RoomPart
recovered part = each (λ object. Some (recovered_as object.kind object)) part

-- ---- spawns

-- the energy that a spawn holds
abbrev pub spawn_capacity : ℕ
spawn_capacity = 300

-- A spawn that has room gains 1, where its owner's spawns and extensions hold less than one spawn does.
abbrev pub filled_as : Kind → Object → RoomPart → RoomPart
filled_as Spawn spawn part =
    if nat_lt spawn.energy spawn_capacity && nat_lt (held_by spawn.owner (values part.objects)) spawn_capacity
    then with_object (record spawn { energy = spawn.energy + 1 }) part else part
filled_as kind object part = part

-- Spawns gain energy, one after the other.
abbrev pub filled : RoomPart → RoomPart
filled = over_objects (λ object. filled_as object.kind object)

-- ---- sources

-- A timer above 0 falls by 1, and at 0 the energy becomes at least the capacity. A source with timer 0 and
-- less than its capacity gets the timer to its renewal.
abbrev pub source_renewed : ℕ → Object → Object
source_renewed capacity source =
    if nat_lt 1 source.timer then record source { timer = source.timer - 1 }
    else if source.timer == 1 then record source { timer = 0; energy = max source.energy capacity }
    else if nat_lt source.energy capacity then record source { timer = renewal_ticks }
    else source

abbrev pub renewed_as : Kind → ℕ → Object → Option Object
renewed_as Source capacity object = Some (source_renewed capacity object)
renewed_as _ capacity object = Some object

-- Sources are renewed, up to the capacity in a room whose controller somebody owns or reserves, or in
-- another.
abbrev pub renewed : RoomPart → RoomPart
renewed part =
    each (λ object. renewed_as object.kind (source_capacity (is_taken (controller_of part))) object) part

-- ---- containers and roads

-- It decays: a container or a road.
abbrev pub decays : Kind → Bool
decays Container = true
decays Road = true
decays _ = false

-- the hits that it loses at a time
abbrev pub decay_hits : Kind → ℕ
decay_hits Container = 5000
decay_hits _ = 100

-- Its timer falls by 1, and at 0 it loses hits and the timer is full again.
abbrev pub weathered : Bool → Object → Object
weathered in_owned building =
    if nat_lt 1 building.timer then record building { timer = building.timer - 1 }
    else record building {
      hits = building.hits - decay_hits building.kind;
      timer = full_timer building.kind in_owned;
    }

abbrev pub weathered_as : Bool → Object → RoomPart → RoomPart
weathered_as in_owned object part =
    if decays object.kind then standing_or_gone (weathered in_owned object) part else part

-- Containers and roads decay, one after the other; containers slower in a room whose controller somebody
-- owns.
abbrev pub buildings_decayed : RoomPart → RoomPart
buildings_decayed part = over_objects (weathered_as (is_owned_room (controller_of part))) part

-- ---- piles

-- A pile loses a part of its energy; at 0 it is removed.
abbrev pub pile_decayed : Object → Option Object
pile_decayed pile =
    let left : ℕ = pile.energy - pile_decay pile.energy in
    if left == 0 then None else Some (record pile { energy = left })

abbrev pub decayed_as : Kind → Object → Option Object
decayed_as Pile object = pile_decayed object
decayed_as _ object = Some object

-- Piles decay.
abbrev pub decayed : RoomPart → RoomPart
decayed part = each (λ object. decayed_as object.kind object) part

-- ---- all steps

-- the steps up to the gain of spawns
abbrev pub first_steps : List Step
first_steps = struck ∷ (λ sums. unloaded) ∷ (λ sums. aged) ∷ (λ sums. recovered) ∷ (λ sums. filled) ∷ []

-- what spawns and controllers do
abbrev pub middle_steps : List Step
middle_steps = (λ sums. hatched) ∷ (λ sums. controllers_aged) ∷ []

-- the steps from the renewal of sources on
abbrev pub last_steps : List Step
last_steps = (λ sums. renewed) ∷ (λ sums. buildings_decayed) ∷ (λ sums. decayed) ∷ []

-- the ten steps, in their order
abbrev pub steps : List Step
steps = first_steps ++ middle_steps ++ last_steps
