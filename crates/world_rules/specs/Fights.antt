-- What creeps do to each other and to buildings: the damage and the healing of each action, and what its rule
-- makes of the room.
use Rattle.std.specs.Prelude.{ℕ, ◌-◌, ◌*◌, ◌/◌, ◌==◌, ◌&&◌, ◌||◌, min, max, nat_le, Bool, if◌then◌else◌, List}
use Rattle.std.specs.Prelude.{[], ◌∷◌, map, Option, Some, None}
use Rattle.std.specs.List.{filter}
use Rattle.std.specs.FinMap.{values}
use Rattle.game_tables.specs.Bodies.{live_count}
use Rattle.game_tables.specs.Kinds.{is_building, is_creep}
use Rattle.game_tables.specs.declared.action.Action.{Action}
use Rattle.game_tables.specs.declared.action.Action.TheVariants.{Dismantle, RangedMassAttack, Suicide}
use Rattle.game_tables.specs.declared.kind.Kind.{Kind}
use Rattle.game_tables.specs.declared.kind.Kind.TheVariants.{Creep}
use Rattle.game_tables.specs.declared.kind.Part.TheVariants as part_kinds
use Rattle.room_terrain.specs.Geometry.{distance}
use Rattle.room_table.specs.Controllers.{is_another}
use Rattle.room_table.specs.Stores.{free_room}
use Rattle.room_table.specs.declared.object.Object.{Object}
use Rattle.intent_book.specs.declared.intent.Intent.{Intent}
use Rattle.world_rules.specs.RoomParts.{RoomPart, controller_of}
use Rattle.world_rules.specs.RuleBook.{Harm, no_harm}
use Rattle.world_rules.specs.Changes.{with_object}
use Rattle.world_rules.specs.Checks.{acting, by_parties, parties}
use Rattle.world_rules.specs.Steps.{by_object}
use Rattle.world_rules.specs.Drops.{fallen}
use Rattle.world_rules.specs.Loads.{with_more}
use Rattle.world_rules.specs.Work.{live_work}

-- ---- harm in one entry

-- so much damage to an object
abbrev pub blow : ℕ → ℕ → Harm
blow id amount = record { damage = (id, amount) ∷ []; healing = [] }

-- so much healing
abbrev pub cure : ℕ → ℕ → Harm
cure id amount = record { damage = []; healing = (id, amount) ∷ [] }

-- what a creep does to a target and around it, where they are there
abbrev pub harm_between : (Object → Object → Harm) → Option (Object × Object) → Harm
harm_between harm None = no_harm
harm_between harm (Some found) = harm found.0 found.1

-- what an entry of an action does to objects, by what it does with the creep and the target
abbrev pub harm_by_parties : Action → (Object → Object → Harm) → Intent → RoomPart → Harm
harm_by_parties action harm entry part = harm_between harm (parties action entry part)

-- ---- healing

-- Each live HEAL part heals the target by so much.
abbrev pub healed_by : ℕ → Object → Object → Harm
healed_by each creep target = cure target.id (each * live_count part_kinds.Heal creep.hits creep.body)

-- ---- attacks on one target

-- what a creep does with its ATTACK parts: 30 for each that is live
abbrev pub strength : Object → ℕ
strength creep = 30 * live_count part_kinds.Attack creep.hits creep.body

-- A creep that is attacked strikes back.
abbrev pub struck_back : Kind → Object → Object → List (ℕ × ℕ)
struck_back Creep creep target = (creep.id, strength target) ∷ []
struck_back kind creep target = []

abbrev pub attacked_by : Object → Object → Harm
attacked_by creep target =
    record { damage = (target.id, strength creep) ∷ struck_back target.kind creep target; healing = [] }

-- Each live RANGED_ATTACK part does so much.
abbrev pub shot_strength : ℕ → Object → ℕ
shot_strength each creep = each * live_count part_kinds.RangedAttack creep.hits creep.body

abbrev pub shot_by : Object → Object → Harm
shot_by creep target = blow target.id (shot_strength 10 creep)

-- ---- attacks on all around

-- what each part does in a mass attack at a range
abbrev pub mass_strength : ℕ → ℕ
mass_strength range = if nat_le range 1 then 10 else if range == 2 then 4 else 1

-- how far from each other two objects of a room are
abbrev pub range_between : Object → Object → ℕ
range_between one other = max (distance one.x other.x) (distance one.y other.y)

-- A mass attack strikes it: a creep or a building of another player, at most 3 away.
abbrev pub is_struck : Object → Object → Bool
is_struck creep object =
    (is_creep object.kind || is_building object.kind) && is_another creep.owner object.owner
    && nat_le (range_between creep object) 3

-- what it does to one of these
abbrev pub mass_blow : Object → Object → ℕ × ℕ
mass_blow creep object = (object.id, shot_strength (mass_strength (range_between creep object)) creep)

abbrev pub all_struck_by : List Object → Option Object → Harm
all_struck_by objects None = no_harm
all_struck_by objects (Some creep) =
    record { damage = map (mass_blow creep) (filter (is_struck creep) objects); healing = [] }

abbrev pub mass_attacked : Intent → RoomPart → Harm
mass_attacked entry part = all_struck_by (values part.objects) (acting RangedMassAttack entry part)

-- ---- dismantling

-- what a creep tears down with its WORK parts: 50 hits for each that is live
abbrev pub tear : Object → ℕ
tear creep = 50 * live_work creep

abbrev pub torn_by : Object → Object → Harm
torn_by creep building = blow building.id (tear creep)

-- the energy that it gets out: 1 for each 200 of the hits that it tears down, as far as they are there
abbrev pub salvage : Object → Object → ℕ
salvage creep building = min (tear creep) building.hits / 200

-- The creep takes what it has room for, and the rest falls on its tile.
abbrev pub dismantled_by : Object → Object → RoomPart → RoomPart
dismantled_by creep building part =
    let amount : ℕ = salvage creep building in
    let taken : ℕ = min amount (free_room (controller_of part) creep) in
    fallen creep.x creep.y (amount - taken) (with_object (with_more taken creep) part)

abbrev pub dismantled : Intent → RoomPart → RoomPart
dismantled entry = by_parties Dismantle dismantled_by entry

-- ---- the end of a creep

-- It has no hits left.
abbrev pub without_hits : Object → RoomPart → RoomPart
without_hits creep = with_object (record creep { hits = 0 })

-- what an entry by which a creep ends itself makes of the room
abbrev pub ended : Intent → RoomPart → RoomPart
ended entry part = by_object without_hits part (acting Suicide entry part)
