-- Rooms that are taken one by one, in any order.
use Rattle.std.specs.Prelude.{◌≡◌, ⊤, ℕ, ◌+◌, ◌<◌, ◌≤◌, ◌==◌, ◌&&◌, Bool, false, nat_lt, List, [], ◌∷◌}
use Rattle.std.specs.Prelude.{Option, Some, None}
use Rattle.std.specs.List.{count_by, sum_by}
use Rattle.std.specs.FinMap.{get, keys, contains_key}
use Rattle.intent_book.specs.declared.intent.Intent.{Intent}
use Rattle.world_rules.specs.World.{Frame, World, alone}
use Rattle.world_rules.specs.RoomParts.{objects_in, with_room}
use Rattle.world_rules.specs.RuleBook.{RuleBook}
use Rattle.world_rules.specs.Intents.{those_in}
use Rattle.world_rules.specs.Tick.{Course, inner, points_of}

-- what happens inside the world that has a room alone, with the entries whose actor is in it
abbrev pub alone_course : RuleBook → World → List Intent → ℕ → Course
alone_course book world list room = inner book (alone world room) (those_in world room list)

-- a worker draws a room, and is done with it
pub data Event : Type 0 where
  draw : ℕ → ℕ → Event
  done : ℕ → ℕ → Event

-- The event is a draw of this room.
abbrev pub draws : ℕ → Event → Bool
draws room (draw worker index) = index == room
draws room (done worker index) = false

-- The worker is done with the room.
abbrev pub ends : ℕ → ℕ → Event → Bool
ends worker room (draw by index) = false
ends worker room (done by index) = (by == worker) && (index == room)

-- Each draw has one end of the same worker after it.
abbrev pub AllEnd : List Event → Type 0
AllEnd [] = ⊤
AllEnd (draw worker room ∷ later) = (count_by (ends worker room) later ≡ 1) × AllEnd later
AllEnd (done worker room ∷ later) = AllEnd later

-- Each room below n is drawn once and no other is; and each draw has its end.
pub record IsFull (events : List Event) (n : ℕ) : Type 0 where
  pub once : (room : ℕ) → room < n → count_by (draws room) events ≡ 1
  pub others : (room : ℕ) → n ≤ room → count_by (draws room) events ≡ 0
  pub ends : AllEnd events

-- the world with a room as another world has it
abbrev pub with_frame_from : World → ℕ → World → Option Frame → World
with_frame_from from room world None = world
with_frame_from from room world (Some frame) = with_room world room frame (objects_in from room)

abbrev pub with_room_from : World → ℕ → World → World
with_room_from from room world = with_frame_from from room world (get from.rooms room)

-- the world after an event: with the end of a room it has what happened in the world that has it alone
abbrev pub after_event : RuleBook → World → List Intent → World → Event → World
after_event book before list world (draw worker room) = world
after_event book before list world (done worker room) =
    with_room_from (alone_course book before list room).world room world

abbrev pub after_events : RuleBook → World → List Intent → List Event → World → World
after_events book before list [] world = world
after_events book before list (event ∷ later) world =
    after_events book before list later (after_event book before list world event)

-- the world after a tick by a schedule: each room as of its end, then crossings once over all
abbrev pub after : RuleBook → (World → World) → World → List Intent → List Event → World
after book crossed before list events =
    let world : World = crossed (after_events book before list events before) in
    record world { tick = world.tick + 1 }

-- the points that a player gains, summed over the rooms
abbrev pub summed : RuleBook → World → List Intent → ℕ → ℕ
summed book before list player =
    sum_by (λ room. points_of player (alone_course book before list room).gains) (keys before.rooms)

-- The rooms of the world are those below n.
abbrev pub HasRooms : World → ℕ → Type 0
HasRooms world n = (room : ℕ) → contains_key world.rooms room ≡ nat_lt room n
