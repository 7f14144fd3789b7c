-- Worked examples of the frame of a tick, with toy rules but for crossings, which the check computes.
use Rattle.std.specs.Prelude.{◌≡◌, ℕ, ◌+◌, not, Bool, pos, List, [], ◌∷◌, length, map, replicate, Option}
use Rattle.std.specs.Prelude.{Some, None}
use Rattle.std.specs.List.{filter, list_any}
use Rattle.std.specs.FinMap.{from_entries, get}
use Rattle.room_terrain.specs.declared.name.RoomName.{RoomName}
use Rattle.room_terrain.specs.declared.terrain.Ground.{Ground}
use Rattle.room_terrain.specs.declared.terrain.Ground.TheVariants.{Plain}
use Rattle.game_tables.specs.declared.action.Action.{Action}
use Rattle.game_tables.specs.declared.kind.Kind.TheVariants as kinds
use Rattle.game_tables.specs.declared.kind.Part.TheVariants as parts_of
use Rattle.room_table.specs.declared.object.Object.{Object}
use Rattle.intent_book.specs.declared.intent.Intent.{Intent}
use Rattle.world_rules.specs.World.{Placed, Frame, World}
use Rattle.world_rules.specs.RoomParts.{RoomPart}
use Rattle.world_rules.specs.RuleBook.{Effect, Harm, RuleBook, changes_to, no_harm}
use Rattle.world_rules.specs.Changes.{with_object, without, with_new}
use Rattle.world_rules.specs.Fights.{blow}
use Rattle.world_rules.specs.Steps.{over_objects}
use Rattle.world_rules.specs.Intents.{all_actions, same_entry, last_of_each, undropped}
use Rattle.world_rules.specs.Tick.{Gain, Course, begun, after_kind, sums_of}
use Rattle.world_rules.specs.Movement.{Mover, movers}
use Rattle.world_rules.specs.Crossings.{crossed}

-- a creep on a tile
abbrev pub creep_on : ℕ → ℕ → ℕ → Object
creep_on id x y = record {
  id = id;
  kind = kinds.Creep;
  x = x;
  y = y;
  owner = 1;
  hits = 100;
  energy = 0;
  timer = 1;
  extra = 0;
  progress = 0;
  other = 0;
  other_ticks = 0;
  body = [];
}

-- an entry of player 1
abbrev pub entry_of : Action → ℕ → Intent
entry_of action actor =
    record { player = 1; action = action; actor = actor; target = 0; amount = 0; body = [] }

-- ---- movers

-- a creep that would step onto a tile
abbrev pub mover : ℕ → ℕ → ℕ → Mover
mover creep x y = record { creep = creep; x = x; y = y }

-- the creeps that move
abbrev pub moving : List Object → List Mover → List ℕ
moving objects list = map (λ one. one.creep) (movers objects list)

-- a creep of this many parts, before its step and after it, when it is tired by its parts
abbrev pub walker : ℕ → ℕ → ℕ → ℕ → Object
walker id parts x y = record (creep_on id x y) { body = replicate parts parts_of.Move }

abbrev pub tired : Object → Object
tired creep = record creep { other_ticks = 1; extra = length creep.body }

abbrev pub tired_by : Object → Mover → ℕ
tired_by creep one = length creep.body

-- a road that lasts for so many parts
abbrev pub road_on : ℕ → ℕ → ℕ → ℕ → Object
road_on id timer x y = record (creep_on id x y) { kind = kinds.Road; timer = timer }

-- ---- entries that drop others

-- the entries that are left
abbrev pub left_of : List Intent → List Intent
left_of list = undropped (last_of_each list)

-- Of these two entries of one creep the second is dropped.
abbrev pub is_dropped_by : Action → Action → Bool
is_dropped_by action by =
    not (list_any (same_entry (entry_of action 3)) (left_of (entry_of by 3 ∷ entry_of action 3 ∷ [])))

-- the actions that drop this one
abbrev pub droppers : Action → List Action
droppers action = filter (is_dropped_by action) all_actions

-- ---- sums

-- the damage to an object
abbrev pub damage_to : ℕ → List Harm → ℕ
damage_to id harms = (sums_of harms).damage id

-- its healing
abbrev pub healing_of : ℕ → List Harm → ℕ
healing_of id harms = (sums_of harms).healing id

-- ---- steps

-- objects, each under its id
abbrev pub by_id : List Object → List (ℕ × Object)
by_id objects = map (λ object. (object.id, object)) objects

-- a room in which these objects stand and nothing else
abbrev pub room_of_objects : ℕ → List Object → RoomPart
room_of_objects next objects =
    record { rules = 1; index = 0; grounds = []; next = next; objects = from_entries (by_id objects) }

-- a creep with a load
abbrev pub creep_with : ℕ → ℕ → Object
creep_with id energy = record (creep_on id 5 5) { energy = energy }

-- a step in which each takes away the one of the next id
abbrev pub takes_next : Object → RoomPart → RoomPart
takes_next object part = without (object.id + 1) part

-- a step in which each adds its load to that of the next id
abbrev pub given : ℕ → RoomPart → Option Object → RoomPart
given energy part None = part
given energy part (Some next) = with_object (record next { energy = next.energy + energy }) part

abbrev pub gives_next : Object → RoomPart → RoomPart
gives_next object part = given object.energy part (get part.objects (object.id + 1))

-- A step over these objects leaves those.
abbrev pub StepLeaves : (Object → RoomPart → RoomPart) → List Object → List Object → Type 0
StepLeaves change before after = over_objects change (room_of_objects 4 before) ≡ room_of_objects 4 after

-- a step in which each makes another like it
abbrev pub makes_another : Object → RoomPart → RoomPart
makes_another object part = with_new (λ id. record object { id = id }) part

-- ---- what entries do to objects

-- Toy rules: an actor that stands does 10 damage to its target, and takes it away for a point.
abbrev pub blow_of : Intent → Option Object → Harm
blow_of entry None = no_harm
blow_of entry (Some actor) = blow entry.target 10

abbrev pub taken_by : Intent → RoomPart → Option Object → Effect
taken_by entry part None = changes_to part
taken_by entry part (Some actor) = record { part = without entry.target part; points = 1 }

abbrev pub fighters : RuleBook
fighters = record {
  harm = λ entry part. blow_of entry (get part.objects entry.actor);
  effect = λ entry part. taken_by entry part (get part.objects entry.actor);
  moved = λ list part. part;
  steps = [];
}

-- a world of these rooms and objects
abbrev pub world_with : List (ℕ × Frame) → List (ℕ × Placed) → World
world_with rooms objects = record {
  rules = 1;
  tick = 0;
  rooms = from_entries rooms;
  objects = from_entries objects;
  accounts = from_entries [];
}

-- an object with its id and its room
abbrev pub standing : ℕ → Object → ℕ × Placed
standing room object = (object.id, record { room = room; object = object })

abbrev pub gain_of : ℕ → Gain
gain_of points = record { room = 0; player = 1; points = points }

-- a world of one room with these creeps
abbrev pub arena : Frame → List ℕ → World
arena frame creeps = world_with ((0, frame) ∷ []) (map (λ id. standing 0 (creep_on id 5 5)) creeps)

-- an entry of this action that creep 1 strikes creep 2, and one that creep 2 strikes back
abbrev pub strike : Action → Intent
strike action = record (entry_of action 1) { target = 2 }

abbrev pub back : Action → Intent
back action = record (entry_of action 2) { target = 1 }

-- the course after entries of one kind, in the tick that begins with both creeps
abbrev pub struck : Frame → List Intent → Course → Course
struck frame list course = after_kind fighters (arena frame (1 ∷ 2 ∷ [])) list course

abbrev pub at_first : Frame → Course
at_first frame = begun (arena frame (1 ∷ 2 ∷ []))

-- creep 1 is left, and gained a point, where creep 2 gained none; and this was done to them
abbrev pub first_left : Frame → List Harm → Course
first_left frame harms = record {
  world = arena frame (1 ∷ []);
  harms = map (λ harm. (0, harm)) harms;
  gains = gain_of 1 ∷ gain_of 0 ∷ [];
}

-- ---- crossings

-- a room of one ground alone
abbrev pub room_of_ground : RoomName → Ground → Frame
room_of_ground name surface = record { name = name; grounds = replicate 2500 surface; next = 100 }

-- E0S0 and E1S0, which lies east of it
abbrev pub west : RoomName
west = record { column = pos 0; row = pos 0 }

abbrev pub east : RoomName
east = record { column = pos 1; row = pos 0 }

-- room 0 of plains in the west alone, and with room 1 of this ground in the east
abbrev pub west_room : List (ℕ × Frame)
west_room = (0, room_of_ground west Plain) ∷ []

abbrev pub both_rooms : Ground → List (ℕ × Frame)
both_rooms surface = (0, room_of_ground west Plain) ∷ (1, room_of_ground east surface) ∷ []

-- a creep in a room that has moved onto its tile
abbrev pub moved_to : ℕ → ℕ → ℕ → ℕ → ℕ × Placed
moved_to id room x y = standing room (record (creep_on id x y) { other_ticks = 1 })

-- one that stands there still
abbrev pub resting_at : ℕ → ℕ → ℕ → ℕ → ℕ × Placed
resting_at id room x y = standing room (creep_on id x y)

-- a container
abbrev pub container_at : ℕ → ℕ → ℕ → ℕ → ℕ × Placed
container_at id room x y = standing room (record (creep_on id x y) { kind = kinds.Container })

-- In the two rooms, room 1 of this ground, these objects stand before crossings, and those after them.
abbrev pub Cross : Ground → List (ℕ × Placed) → List (ℕ × Placed) → Type 0
Cross surface before after =
    crossed (world_with (both_rooms surface) before) ≡ world_with (both_rooms surface) after

-- In room 0 alone.
abbrev pub CrossAlone : List (ℕ × Placed) → List (ℕ × Placed) → Type 0
CrossAlone before after = crossed (world_with west_room before) ≡ world_with west_room after
