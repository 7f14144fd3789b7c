-- Creeps that spawns make.
use Rattle.std.specs.Prelude.{ℕ, ◌-◌, ◌*◌, ◌==◌, ◌&&◌, not, min, Bool, true, false, nat_lt, nat_le}
use Rattle.std.specs.Prelude.{if◌then◌else◌, List, [], ◌∷◌, ◌++◌, length, map, Option, Some, None}
use Rattle.std.specs.List.{filter, filter_map, find, sum_by}
use Rattle.std.specs.Option.{is_some}
use Rattle.std.specs.FinMap.{get, values}
use Rattle.game_tables.specs.Bodies.{body_cost, lifetime, most_parts}
use Rattle.game_tables.specs.Kinds.{hits_max}
use Rattle.game_tables.specs.Numbers.{kind_number}
use Rattle.game_tables.specs.declared.code.Code.TheVariants.{NotOwner, Busy, NotFound, NotEnoughResources}
use Rattle.game_tables.specs.declared.code.Code.TheVariants.{InvalidArgs}
use Rattle.game_tables.specs.declared.kind.Kind.{Kind}
use Rattle.game_tables.specs.declared.kind.Kind.TheVariants.{Creep, Spawn, Extension}
use Rattle.game_tables.specs.declared.kind.Part.{Part}
use Rattle.room_table.specs.Tables.{first_on}
use Rattle.room_table.specs.declared.object.Object.{Object}
use Rattle.intent_book.specs.declared.intent.Intent.{Intent}
use Rattle.world_rules.specs.World.{Placed}
use Rattle.world_rules.specs.RoomParts.{RoomPart}
use Rattle.world_rules.specs.Changes.{with_new, with_object}
use Rattle.world_rules.specs.Checks.{Check, all_hold, holds_of, standing_at}
use Rattle.world_rules.specs.Loads.{with_less}
use Rattle.world_rules.specs.Moves.{directions, is_open, tile_towards}
use Rattle.world_rules.specs.Steps.{by_object, over_objects}

-- ---- what pays for a creep

-- What a spawn makes creeps of: spawns and extensions hold it.
abbrev pub holds_for_creeps : Kind → Bool
holds_for_creeps Spawn = true
holds_for_creeps Extension = true
holds_for_creeps kind = false

-- what the spawns and extensions of an owner hold together
abbrev pub held_by : ℕ → List Object → ℕ
held_by owner objects =
    let holds : Object → Bool = λ object. holds_for_creeps object.kind && (object.owner == owner) in
    sum_by (λ object. object.energy) (filter holds objects)

-- the ids of an owner's objects of a kind, as they rise
abbrev pub those_of : Kind → ℕ → List Object → List ℕ
those_of kind owner objects =
    let is_one : Object → Bool = λ object.
    (kind_number object.kind == kind_number kind) && (object.owner == owner) in
    map (λ object. object.id) (filter is_one objects)

-- those that pay, in their order: spawns, then extensions
abbrev pub payers : ℕ → List Object → List ℕ
payers owner objects = those_of Spawn owner objects ++ those_of Extension owner objects

-- what an object pays of a cost, as far as it holds it
abbrev pub share : ℕ → Option Object → ℕ
share cost None = 0
share cost (Some payer) = min payer.energy cost

-- Each pays what those before it left to pay.
abbrev pub paid : List ℕ → ℕ → RoomPart → RoomPart
paid [] cost part = part
paid (id ∷ later) cost part =
    let payer : Option Object = get part.objects id in
    let pay : Object → RoomPart → RoomPart = λ object. with_object (with_less (share cost payer) object) in
    paid later (cost - share cost payer) (by_object pay part payer)

-- ---- the checks

-- Of 1 to 50 parts.
abbrev pub is_body : Option (List Part) → Bool
is_body None = false
is_body (Some body) = nat_lt 0 (length body) && nat_le (length body) most_parts

abbrev pub is_payable : ℕ → List Object → Option (List Part) → Bool
is_payable player around None = false
is_payable player around (Some body) = nat_le (body_cost body) (held_by player around)

-- The actor is a spawn, the player's, and makes no creep; the body has parts, and what they cost is there.
abbrev pub spawn_checks : ℕ → Option Placed → List Object → Option (List Part) → List Check
spawn_checks player actor around body =
    (holds_of actor (λ object. kind_number object.kind == kind_number Spawn), NotFound)
    ∷ (holds_of actor (λ object. object.owner == player), NotOwner)
    ∷ (holds_of actor (λ object. object.timer == 0), Busy)
    ∷ (is_body body, InvalidArgs)
    ∷ (is_payable player around body, NotEnoughResources)
    ∷ []

-- ---- the rule

-- The spawn makes a creep of this body, for 3 ticks a part.
abbrev pub begun_with : List Part → Object → RoomPart → RoomPart
begun_with body spawn part = with_object (record spawn { body = body; timer = 3 * length body }) part

abbrev pub creep_begun : Intent → RoomPart → RoomPart
creep_begun entry part =
    let around : List Object = values part.objects in
    let after : RoomPart = paid (payers entry.player around) (body_cost entry.body) part in
    if all_hold (spawn_checks entry.player (standing_at part entry.actor) around (Some entry.body))
    then by_object (begun_with entry.body) after (get after.objects entry.actor) else part

-- ---- hatching

-- The tile is one to stand on, nothing that obstructs stands there, and no creep.
abbrev pub is_free_for_creep : RoomPart → ℕ → ℕ × ℕ → Bool
is_free_for_creep part player at =
    is_open part player at && not (is_some (first_on at.0 at.1 Creep (values part.objects)))

-- the first such tile round a spawn, in the eight directions
abbrev pub tile_for : RoomPart → Object → Option (ℕ × ℕ)
tile_for part spawn =
    find (is_free_for_creep part spawn.owner) (filter_map (λ to. tile_towards to spawn.x spawn.y) directions)

-- the creep of a spawn on a tile, under an id: whole, empty and rested
abbrev pub newborn : Object → ℕ × ℕ → ℕ → Object
newborn spawn at id = record {
  id = id;
  kind = Creep;
  x = at.0;
  y = at.1;
  owner = spawn.owner;
  hits = hits_max Creep spawn.body;
  energy = 0;
  timer = lifetime spawn.body;
  extra = 0;
  progress = 0;
  other = 0;
  other_ticks = 0;
  body = spawn.body;
}

-- The creep comes where there is a tile for it; else the spawn waits.
abbrev pub hatched_on : Object → Option (ℕ × ℕ) → RoomPart → RoomPart
hatched_on spawn None part = part
hatched_on spawn (Some at) part =
    with_new (newborn spawn at) (with_object (record spawn { timer = 0; body = [] }) part)

-- A spawn's timer falls by 1, and in its last tick the creep comes.
abbrev pub hatched_as : Kind → Object → RoomPart → RoomPart
hatched_as Spawn spawn part =
    if nat_lt 1 spawn.timer then with_object (record spawn { timer = spawn.timer - 1 }) part
    else if spawn.timer == 1 then hatched_on spawn (tile_for part spawn) part
    else part
hatched_as kind object part = part

-- Spawns make creeps, one after the other.
abbrev pub hatched : RoomPart → RoomPart
hatched = over_objects (λ object. hatched_as object.kind object)
