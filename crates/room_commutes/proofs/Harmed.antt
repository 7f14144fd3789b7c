-- What entries do to objects, where no rule before an entry changes it.
use Rattle.std.proofs.Common.{◌≡◌, ℕ, zero, suc, ◌==◌, true, false, List, [], ◌∷◌, ◌++◌, Option, Some, None, option_map, option_and_then, refl, sym, ap, subst, ◌∙◌, append-nil, append_assoc, arith, ◌+◌, ◌*◌, ◌^◌}
use Rattle.std.specs.List.{AllByRecursion, cons_option, filter_map}
use Rattle.std.specs.Option.{option_to_list}
use Rattle.std.specs.FinMap.{get}
use Rattle.std.proofs.lemmas.Bool.{eqb-true, eqb-false}
use Rattle.std.proofs.lemmas.List.Elements.{recursion_from_All}
use Rattle.game_tables.specs.declared.action.Action.{Action}
use Rattle.intent_book.specs.declared.intent.Intent.{Intent}
use Rattle.world_rules.specs.World.{Frame, World}
use Rattle.world_rules.specs.RoomParts.{RoomPart, part_of, part_at, in_frame, in_room}
use Rattle.world_rules.specs.RuleBook.{Harm, RuleBook, IsOrderly}
use Rattle.world_rules.specs.Intents.{room_of, entries_of}
use Rattle.world_rules.specs.Tick.{Course, harm_of, after_rule, after_rules, after_kind, after_actions}
use Rattle.world_rules.specs.Seen.{seen}
use Rattle.world_rules.proofs.Parts.{get_objects_in, seen_part, seen_changed}
use Rattle.room_commutes.specs.Serials.{AreSerialsUsed, AreOwnSerialsUsed}
use Rattle.room_commutes.specs.Running.{running_kind, running_actions, LeavesHarm, LeaveHarms, KeepsKeys}
use Rattle.room_commutes.specs.Standing.{AreAllKeyed}
use Rattle.room_commutes.proofs.InTick.{at_start, in_tick_room, others, standing}
use Rattle.room_commutes.proofs.Keyed.{part_keyed, room_keyed}
use Rattle.room_commutes.proofs.OneRoom.{changed_part}

-- Of a room's own ids, those that stand in its part have used up their serials.
part_used : (world : World) (room : ℕ) (frame : Frame) → AreSerialsUsed world → get world.rooms room ≡ Some frame → AreOwnSerialsUsed (part_of world room frame)
part_used world room frame used is serial object small there =
    let id : ℕ = room * 2 ^ 32 + serial in
    let stood = standing room object (get world.objects id) (sym (get_objects_in world room id) ∙ there) in
    used room serial frame stood.0 is small stood.1

-- The objects of a world stand under their ids, and have used up their serials.
record IsKept (world : World) : Type 0 where
  used : AreSerialsUsed world
  keyed : AreAllKeyed world

module _ (book : RuleBook) (orderly : IsOrderly book) (keeps : KeepsKeys book) (before : World) where
  abbrev change_by : Intent → RoomPart → RoomPart
  change_by entry part = (book.effect entry part).part

  -- what an entry does in a room
  abbrev harm_in : Intent → ℕ → World → Option (ℕ × Harm)
  harm_in entry room world = option_map (λ part. (room, book.harm entry part)) (part_at world room)

  left_frame : (one other : Intent) (room : ℕ) (world : World) (found : Option Frame) → IsKept world → LeavesHarm book one other → get world.rooms room ≡ found → harm_in other room (in_room (change_by one) room world) ≡ harm_in other room world
  left_frame one other room world None kept leaves is = ap (λ (found : Option Frame). harm_in other room (in_frame (change_by one) room world found)) is
  left_frame one other room world (Some frame) kept leaves is =
      let part : RoomPart = part_of world room frame in
      let there : part_at world room ≡ Some part = ap (option_map (part_of world room)) is in
      let then_there : part_at (in_room (change_by one) room world) room ≡ Some (change_by one part) = ap (seen_part room) (seen_changed (change_by one) room world) ∙ changed_part (change_by one) (orderly.effect one) room (seen world room) part there in
      ap (option_map (λ part. (room, book.harm other part))) then_there
      ∙ ap (λ harm. Some (room, harm)) (leaves part (part_keyed world room frame kept.keyed) (part_used world room frame kept.used is))
      ∙ sym (ap (option_map (λ part. (room, book.harm other part))) there)

  left_in : (one other : Intent) (room index : ℕ) (world : World) → IsKept world → LeavesHarm book one other → harm_in other index (in_room (change_by one) room world) ≡ harm_in other index world
  left_in one other room index world kept leaves = elim (index == room) as (λ b. (index == room) ≡ b → harm_in other index (in_room (change_by one) room world) ≡ harm_in other index world) [
    | true ↦ λ is. subst (λ n. harm_in other n (in_room (change_by one) room world) ≡ harm_in other n world) (sym (eqb-true index room is)) (left_frame one other room world (get world.rooms room) kept leaves refl)
    | false ↦ λ is. ap (λ s. option_map (λ part. (index, book.harm other part)) (seen_part index s)) (others world world (at_start world kept.used) (change_by one) (orderly.effect one) room index (eqb-false index room is))
  ] refl

  -- the rule of an entry leaves what another does
  left : (one other : Intent) (course : Course) → IsKept course.world → LeavesHarm book one other → harm_of book before (after_rule book before course one (room_of before one)).world other ≡ harm_of book before course.world other
  left one other course kept leaves = elim (room_of before one) as (λ r. harm_of book before (after_rule book before course one r).world other ≡ harm_of book before course.world other) [
    | None ↦ refl
    | Some room ↦ elim (room_of before other) as (λ r. option_and_then (λ index. harm_in other index (in_room (change_by one) room course.world)) r ≡ option_and_then (λ index. harm_in other index course.world) r) [
      | None ↦ refl
      | Some index ↦ left_in one other room index course.world kept leaves
    ]
  ]

  left_all : (one : Intent) (later : List Intent) (course : Course) → IsKept course.world → AllByRecursion (LeavesHarm book one) later
      → filter_map (harm_of book before (after_rule book before course one (room_of before one)).world) later ≡ filter_map (harm_of book before course.world) later
  left_all one [] course kept leave = refl
  left_all one (other ∷ later) course kept leave = λ i. cons_option (left one other course kept leave.0 i) (left_all one later course kept leave.1 i)

  kept_after : (entry : Intent) (course : Course) → IsKept course.world → IsKept (after_rule book before course entry (room_of before entry)).world
  kept_after entry course kept = elim (room_of before entry) as (λ r. IsKept (after_rule book before course entry r).world) [
    | None ↦ kept
    | Some room ↦ record {
      used = (in_tick_room course.world course.world (at_start course.world kept.used) (change_by entry) (orderly.effect entry) room).used;
      keyed = room_keyed (change_by entry) (keeps entry) room course.world kept.keyed;
    }
  ]

  -- what was done to objects goes through a rule as it is
  with_more : (course : Course) (entry : Intent) (room : Option ℕ) (harms more : List (ℕ × Harm))
      → record (after_rule book before (record course { harms = harms }) entry room) { harms = harms ++ more } ≡ after_rule book before (record course { harms = harms ++ more }) entry room
  with_more course entry None harms more = refl
  with_more course entry (Some room) harms more = refl

  same_harms : (course : Course) (entry : Intent) (room : Option ℕ) (harms : List (ℕ × Harm)) → (after_rule book before (record course { harms = harms }) entry room).harms ≡ harms
  same_harms course entry None harms = refl
  same_harms course entry (Some room) harms = refl

  same_world : (course : Course) (entry : Intent) (room : Option ℕ) (harms : List (ℕ × Harm)) → (after_rule book before (record course { harms = harms }) entry room).world ≡ (after_rule book before course entry room).world
  same_world course entry None harms = refl
  same_world course entry (Some room) harms = refl

  appended : (harms : List (ℕ × Harm)) (harm : Option (ℕ × Harm)) (more : List (ℕ × Harm)) → (harms ++ option_to_list harm) ++ more ≡ harms ++ cons_option harm more
  appended harms None more = ap (λ list. list ++ more) (append-nil harms)
  appended harms (Some harm) more = append_assoc harms (harm ∷ []) more

  abbrev LeaveAll : List Intent → Type 0
  LeaveAll [] = Unit {0}
  LeaveAll (entry ∷ later) = AllByRecursion (LeavesHarm book entry) later × LeaveAll later

  leave_all : (list : List Intent) → LeaveHarms book list → LeaveAll list
  leave_all [] leave = tt
  leave_all (entry ∷ later) leave = (
    recursion_from_All (LeavesHarm book entry) later (λ k d within. leave zero (suc k) d (omega arith) (omega arith)),
    leave_all later (λ i j d less within. leave (suc i) (suc j) d (omega arith) (omega arith)),
  )

  running_same : (list : List Intent) (course : Course) → IsKept course.world → LeaveAll list → running_kind book before list course ≡ after_kind book before list course
  running_same [] course kept leave = λ i. record course { harms = sym (append-nil course.harms) i }
  running_same (entry ∷ later) course kept leave =
      let room : Option ℕ = room_of before entry in
      let harms : List (ℕ × Harm) = course.harms ++ option_to_list (harm_of book before course.world entry) in
      let next : Course = after_rule book before (record course { harms = harms }) entry room in
      let more : List (ℕ × Harm) = filter_map (harm_of book before course.world) later in
      let read : filter_map (harm_of book before next.world) later ≡ more = left_all entry later (record course { harms = harms }) kept leave.0 in
      running_same later next (kept_after entry (record course { harms = harms }) kept) leave.1
      ∙ (λ i. after_rules book before later (record next { harms = same_harms course entry room harms i ++ read i }))
      ∙ ap (after_rules book before later) (with_more course entry room harms more)
      ∙ (λ i. after_rules book before later (after_rule book before (record course { harms = appended course.harms (harm_of book before course.world entry) more i }) entry room))

  pub running_is : (list : List Intent) (course : Course) → AreSerialsUsed course.world → AreAllKeyed course.world → LeaveHarms book list → running_kind book before list course ≡ after_kind book before list course
  running_is list course used keyed leave = running_same list course (record { used = used; keyed = keyed }) (leave_all list leave)

  -- ---- all entries

  kept_rules : (list : List Intent) (course : Course) → IsKept course.world → IsKept (after_rules book before list course).world
  kept_rules [] course kept = kept
  kept_rules (entry ∷ later) course kept = kept_rules later (after_rule book before course entry (room_of before entry)) (kept_after entry course kept)

  running_each : (actions : List Action) (list : List Intent) (course : Course) → IsKept course.world → ((action : Action) → LeaveHarms book (entries_of action list))
      → running_actions book before actions list course ≡ after_actions book before actions list course
  running_each [] list course kept leave = refl
  running_each (action ∷ later) list course kept leave =
      let harms : List (ℕ × Harm) = course.harms ++ filter_map (harm_of book before course.world) (entries_of action list) in
      ap (running_actions book before later list) (running_same (entries_of action list) course kept (leave_all (entries_of action list) (leave action)))
      ∙ running_each later list (after_kind book before (entries_of action list) course) (kept_rules (entries_of action list) (record course { harms = harms }) kept) leave

  pub running_all : (actions : List Action) (list : List Intent) (course : Course) → AreSerialsUsed course.world → AreAllKeyed course.world → ((action : Action) → LeaveHarms book (entries_of action list))
      → running_actions book before actions list course ≡ after_actions book before actions list course
  running_all actions list course used keyed leave = running_each actions list course (record { used = used; keyed = keyed }) leave
