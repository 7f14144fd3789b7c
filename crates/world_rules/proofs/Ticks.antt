-- The tick's number, which no rule and no change of a room's part touches.
use Rattle.std.proofs.Common.{◌≡◌, ℕ, ◌+◌, ◌++◌, if◌then◌else◌, true, false, List, [], ◌∷◌, Option, Some, None, refl, ap, ◌∙◌}
use Rattle.std.specs.List.{filter_map}
use Rattle.std.specs.FinMap.{get, keys}
use Rattle.game_tables.specs.declared.action.Action.{Action}
use Rattle.intent_book.specs.declared.intent.Intent.{Intent}
use Rattle.intent_book.specs.declared.player_run.PlayerRun.{PlayerRun}
use Rattle.room_table.specs.declared.object.Object.{Object}
use Rattle.world_rules.specs.World.{Placed, Frame, World}
use Rattle.world_rules.specs.Crossings.{Place, beyond, may_enter, with_object_on, crossed_to, crossed_by, crossed_over, crossers}
use Rattle.world_rules.specs.RoomParts.{RoomPart, in_frame, in_room, in_rooms, in_every_room}
use Rattle.world_rules.specs.RuleBook.{Sums, Step, RuleBook}
use Rattle.world_rules.specs.Intents.{all_actions, kept, room_of, entries_of}
use Rattle.world_rules.specs.Tick.{Course, book, next_world, intents_of, begun, acted, movement, inner, sums_in, harm_of, after_rule, after_rules, after_kind, after_actions, after_steps}

frame_tick : (change : RoomPart → RoomPart) (room : ℕ) (world : World) (frame : Option Frame) → (in_frame change room world frame).tick ≡ world.tick
frame_tick change room world None = refl
frame_tick change room world (Some frame) = refl

rooms_tick : (change : ℕ → RoomPart → RoomPart) (rooms : List ℕ) (world : World) → (in_rooms change rooms world).tick ≡ world.tick
rooms_tick change [] world = refl
rooms_tick change (room ∷ later) world = rooms_tick change later (in_room (change room) room world) ∙ frame_tick (change room) room world (get world.rooms room)

steps_tick : (sums : ℕ → Sums) (list : List Step) (world : World) → (after_steps sums list world).tick ≡ world.tick
steps_tick sums [] world = refl
steps_tick sums (step ∷ later) world = steps_tick sums later (in_every_room (λ room. step (sums room)) world) ∙ rooms_tick (λ room. step (sums room)) (keys world.rooms) world

module _ (rules : RuleBook) (before : World) where
  rule_tick : (course : Course) (entry : Intent) (room : Option ℕ) → (after_rule rules before course entry room).world.tick ≡ course.world.tick
  rule_tick course entry None = refl
  rule_tick course entry (Some room) = frame_tick (λ part. (rules.effect entry part).part) room course.world (get course.world.rooms room)

  entries_tick : (list : List Intent) (course : Course) → (after_rules rules before list course).world.tick ≡ course.world.tick
  entries_tick [] course = refl
  entries_tick (entry ∷ later) course = entries_tick later (after_rule rules before course entry (room_of before entry)) ∙ rule_tick course entry (room_of before entry)

  actions_tick : (actions : List Action) (list : List Intent) (course : Course) → (after_actions rules before actions list course).world.tick ≡ course.world.tick
  actions_tick [] list course = refl
  actions_tick (action ∷ later) list course =
      actions_tick later list (after_kind rules before (entries_of action list) course)
      ∙ entries_tick (entries_of action list) (record course { harms = course.harms ++ filter_map (harm_of rules before course.world) (entries_of action list) })

  inner_tick : (list : List Intent) → (inner rules before list).world.tick ≡ before.tick
  inner_tick list =
      let after : Course = acted rules before list in
      steps_tick (sums_in after) rules.steps (in_every_room (movement rules before list) after.world)
      ∙ rooms_tick (movement rules before list) (keys after.world.rooms) after.world
      ∙ actions_tick all_actions (kept before list) (begun before)

-- ---- crossings

to_tick : (world : World) (id : ℕ) (object : Object) (place : Option Place) → (crossed_to world id object place).tick ≡ world.tick
to_tick world id object None = refl
to_tick world id object (Some place) =
    elim (may_enter world place) as (λ b. (if b then with_object_on world id object place else world).tick ≡ world.tick) [ true ↦ refl | false ↦ refl ]

by_tick : (world : World) (id : ℕ) (found : Option Placed) → (crossed_by world id found).tick ≡ world.tick
by_tick world id None = refl
by_tick world id (Some placed) = to_tick world id placed.object (beyond world placed)

over_tick : (ids : List ℕ) (world : World) → (crossed_over ids world).tick ≡ world.tick
over_tick [] world = refl
over_tick (id ∷ later) world = over_tick later (crossed_by world id (get world.objects id)) ∙ by_tick world id (get world.objects id)

pub next_world-tick : (world : World) (runs : List PlayerRun) → (next_world world runs).tick ≡ world.tick + 1
next_world-tick world runs =
    let within : World = (inner book world (intents_of runs)).world in
    ap (λ (n : ℕ). n + 1) (over_tick (crossers within) within ∙ inner_tick book world (intents_of runs))
