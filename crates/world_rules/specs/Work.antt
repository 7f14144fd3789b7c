-- What creeps harvest, repair and build.
use Rattle.std.specs.Prelude.{ℕ, ◌+◌, ◌-◌, ◌*◌, ◌/◌, min, nat_lt, if◌then◌else◌, [], Option, Some, None}
use Rattle.std.specs.Option.{unwrap_or}
use Rattle.game_tables.specs.Bodies.{live_count}
use Rattle.game_tables.specs.Kinds.{build_total, built_hits, full_timer, hits_max, is_owned}
use Rattle.game_tables.specs.declared.action.Action.TheVariants.{Harvest, Repair, Build}
use Rattle.game_tables.specs.declared.kind.Kind.{Kind}
use Rattle.game_tables.specs.declared.kind.Part.TheVariants as part_kinds
use Rattle.room_table.specs.Controllers.{is_owned_room}
use Rattle.room_table.specs.Stores.{building_of, free_room}
use Rattle.room_table.specs.declared.object.Object.{Object}
use Rattle.intent_book.specs.declared.intent.Intent.{Intent}
use Rattle.world_rules.specs.RoomParts.{RoomPart, controller_of}
use Rattle.world_rules.specs.Changes.{with_object, without, with_new}
use Rattle.world_rules.specs.Checks.{by_parties}
use Rattle.world_rules.specs.Drops.{fallen}
use Rattle.world_rules.specs.Loads.{with_less, with_more}

-- the WORK parts of a creep that are live
abbrev pub live_work : Object → ℕ
live_work creep = live_count part_kinds.Work creep.hits creep.body

-- ---- harvest

-- what leaves the source: 2 for each live WORK part, as far as it has them
abbrev pub dug : Object → Object → ℕ
dug creep source = min (2 * live_work creep) source.energy

-- The creep takes what it has room for, and the rest falls on its tile.
abbrev pub harvested_by : Object → Object → RoomPart → RoomPart
harvested_by creep source part =
    let amount : ℕ = dug creep source in
    let taken : ℕ = min amount (free_room (controller_of part) creep) in
    fallen creep.x creep.y (amount - taken)
    (with_object (with_more taken creep) (with_object (with_less amount source) part))

abbrev pub harvested : Intent → RoomPart → RoomPart
harvested entry = by_parties Harvest harvested_by entry

-- ---- repair

-- the hits that a building gains: 100 for each live WORK part, as far as they are missing and the load pays
-- them
abbrev pub hits_gained : Object → Object → ℕ
hits_gained creep building =
    min (100 * live_work creep)
    (min (hits_max building.kind building.body - building.hits) (100 * creep.energy))

-- what so many hits cost: 1 for each 100 of them that were begun
abbrev pub repair_cost : ℕ → ℕ
repair_cost hits = (hits + 99) / 100

abbrev pub repaired_by : Object → Object → RoomPart → RoomPart
repaired_by creep building part =
    let gain : ℕ = hits_gained creep building in
    with_object (record building { hits = building.hits + gain })
    (with_object (with_less (repair_cost gain) creep) part)

abbrev pub repaired : Intent → RoomPart → RoomPart
repaired entry = by_parties Repair repaired_by entry

-- ---- build

-- the progress at which a building is finished
abbrev pub total_of : Kind → ℕ
total_of kind = unwrap_or (build_total kind) 0

-- the work that a creep puts into a site: 5 for each live WORK part, as far as it carries them and they are
-- missing
abbrev pub work_put : Kind → Object → Object → ℕ
work_put kind creep site = min (5 * live_work creep) (min creep.energy (total_of kind - site.progress))

-- The building of a site under an id: whole, empty, with a full decay timer, and with the owner of the site
-- where its kind has one.
abbrev pub building_on : Kind → RoomPart → Object → ℕ → Object
building_on kind part site id = record {
  id = id;
  kind = kind;
  x = site.x;
  y = site.y;
  owner = if is_owned kind then site.owner else 0;
  hits = built_hits kind;
  energy = 0;
  timer = full_timer kind (is_owned_room (controller_of part));
  extra = 0;
  progress = 0;
  other = 0;
  other_ticks = 0;
  body = [];
}

-- A site has come so far: once nothing is missing, its building stands in its place, under the next id.
abbrev pub advanced : Kind → Object → RoomPart → RoomPart
advanced kind site part =
    if nat_lt site.progress (total_of kind) then with_object site part
    else with_new (building_on kind part site) (without site.id part)

abbrev pub built_as : Option Kind → Object → Object → RoomPart → RoomPart
built_as None creep site part = part
built_as (Some kind) creep site part =
    let work : ℕ = work_put kind creep site in
    advanced kind (record site { progress = site.progress + work }) (with_object (with_less work creep) part)

abbrev pub built_by : Object → Object → RoomPart → RoomPart
built_by creep site = built_as (building_of site) creep site

abbrev pub built : Intent → RoomPart → RoomPart
built entry = by_parties Build built_by entry
