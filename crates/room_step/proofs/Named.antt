-- No change inside a room touches the names of rooms.
use Rattle.std.proofs.Common.{◌≡◌, ℕ, ◌==◌, ◌++◌, true, false, cond, List, [], ◌∷◌, Option, Some, None, option_map, refl, sym, ap, ◌∙◌}
use Rattle.std.specs.List.{filter_map}
use Rattle.std.specs.FinMap.{get, keys}
use Rattle.std.proofs.lemmas.Bool.{eqb-true}
use Rattle.game_tables.specs.declared.action.Action.{Action}
use Rattle.room_terrain.specs.declared.name.RoomName.{RoomName}
use Rattle.intent_book.specs.declared.intent.Intent.{Intent}
use Rattle.world_rules.specs.World.{Frame, World}
use Rattle.world_rules.specs.RoomParts.{RoomPart, part_of, in_frame, in_room, in_rooms, in_every_room}
use Rattle.world_rules.specs.RuleBook.{Sums, Step, RuleBook}
use Rattle.world_rules.specs.Intents.{all_actions, kept, room_of, entries_of}
use Rattle.world_rules.specs.Tick.{Course, begun, acted, movement, inner, sums_in, harm_of, after_rule, after_rules, after_kind, after_actions, after_steps}
use Rattle.world_rules.proofs.Parts.{room_with}

abbrev pub name_at : World → ℕ → Option RoomName
name_at world k = option_map (λ frame. frame.name) (get world.rooms k)

frame_name : (change : RoomPart → RoomPart) (room : ℕ) (world : World) (found : Option Frame) → get world.rooms room ≡ found → (k : ℕ) → name_at (in_frame change room world found) k ≡ name_at world k
frame_name change room world None is k = refl
frame_name change room world (Some frame) is k =
    let after : RoomPart = change (part_of world room frame) in
    let framed : Frame = record frame { next = after.next } in
    let name : Frame → RoomName = λ f. f.name in
    ap (option_map name) (room_with world room framed after.objects k)
    ∙ elim (k == room) as (λ b. (k == room) ≡ b → option_map name (cond b (Some framed) (get world.rooms k)) ≡ option_map name (get world.rooms k)) [
      | true ↦ λ same. sym (ap (option_map name) (ap (get world.rooms) (eqb-true k room same) ∙ is))
      | false ↦ λ apart. refl
    ] refl

rooms_name : (change : ℕ → RoomPart → RoomPart) (rooms : List ℕ) (world : World) (k : ℕ) → name_at (in_rooms change rooms world) k ≡ name_at world k
rooms_name change [] world k = refl
rooms_name change (room ∷ later) world k =
    rooms_name change later (in_room (change room) room world) k ∙ frame_name (change room) room world (get world.rooms room) refl k

steps_name : (sums : ℕ → Sums) (list : List Step) (world : World) (k : ℕ) → name_at (after_steps sums list world) k ≡ name_at world k
steps_name sums [] world k = refl
steps_name sums (step ∷ later) world k =
    steps_name sums later (in_every_room (λ room. step (sums room)) world) k ∙ rooms_name (λ room. step (sums room)) (keys world.rooms) world k

module _ (rules : RuleBook) (before : World) (k : ℕ) where
  rule_name : (course : Course) (entry : Intent) (room : Option ℕ) → name_at (after_rule rules before course entry room).world k ≡ name_at course.world k
  rule_name course entry None = refl
  rule_name course entry (Some room) = frame_name (λ part. (rules.effect entry part).part) room course.world (get course.world.rooms room) refl k

  entries_name : (list : List Intent) (course : Course) → name_at (after_rules rules before list course).world k ≡ name_at course.world k
  entries_name [] course = refl
  entries_name (entry ∷ later) course = entries_name later (after_rule rules before course entry (room_of before entry)) ∙ rule_name course entry (room_of before entry)

  actions_name : (actions : List Action) (list : List Intent) (course : Course) → name_at (after_actions rules before actions list course).world k ≡ name_at course.world k
  actions_name [] list course = refl
  actions_name (action ∷ later) list course =
      actions_name later list (after_kind rules before (entries_of action list) course)
      ∙ entries_name (entries_of action list) (record course { harms = course.harms ++ filter_map (harm_of rules before course.world) (entries_of action list) })

  pub inner_name : (list : List Intent) → name_at (inner rules before list).world k ≡ name_at before k
  inner_name list =
      let after : Course = acted rules before list in
      steps_name (sums_in after) rules.steps (in_every_room (movement rules before list) after.world) k
      ∙ rooms_name (movement rules before list) (keys after.world.rooms) after.world k
      ∙ actions_name all_actions (kept before list) (begun before)
