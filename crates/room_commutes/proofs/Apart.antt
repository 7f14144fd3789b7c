-- What happens inside the rooms does not look at the tick and the accounts.
use Rattle.std.proofs.Common.{◌≡◌, ℕ, ◌++◌, List, [], ◌∷◌, Option, Some, None, refl, sym, ap, ◌∙◌}
use Rattle.std.specs.List.{filter_map}
use Rattle.std.specs.Ordering.{nat_cmp}
use Rattle.std.specs.FinMap.{FinMap, get, keys}
use Rattle.game_tables.specs.declared.action.Action.{Action}
use Rattle.object_store.specs.declared.account.Account.{Account}
use Rattle.intent_book.specs.declared.intent.Intent.{Intent}
use Rattle.world_rules.specs.World.{Frame, World}
use Rattle.world_rules.specs.RoomParts.{RoomPart, in_frame, in_room, in_rooms, in_every_room}
use Rattle.world_rules.specs.RuleBook.{Sums, Step, RuleBook}
use Rattle.world_rules.specs.Intents.{all_actions, room_of, kept, entries_of}
use Rattle.world_rules.specs.Tick.{Course, begun, harm_of, after_rule, after_rules, after_kind, after_actions, acted, movement, inner, after_steps, sums_in}

module _ (tick : ℕ) (accounts : FinMap nat_cmp Account) where
  -- the world with another tick and other accounts
  abbrev pub over : World → World
  over world = record world { tick = tick; accounts = accounts }

  abbrev pub over_course : Course → Course
  over_course course = record course { world = over course.world }

  over_frame : (change : RoomPart → RoomPart) (room : ℕ) (world : World) (found : Option Frame) → in_frame change room (over world) found ≡ over (in_frame change room world found)
  over_frame change room world None = refl
  over_frame change room world (Some frame) = refl

  over_rooms : (change : ℕ → RoomPart → RoomPart) (rooms : List ℕ) (world : World) → in_rooms change rooms (over world) ≡ over (in_rooms change rooms world)
  over_rooms change [] world = refl
  over_rooms change (room ∷ later) world = ap (in_rooms change later) (over_frame (change room) room world (get world.rooms room)) ∙ over_rooms change later (in_room (change room) room world)

  over_steps : (sums : ℕ → Sums) (steps : List Step) (world : World) → after_steps sums steps (over world) ≡ over (after_steps sums steps world)
  over_steps sums [] world = refl
  over_steps sums (step ∷ later) world = ap (after_steps sums later) (over_rooms (λ room. step (sums room)) (keys world.rooms) world) ∙ over_steps sums later (in_every_room (λ room. step (sums room)) world)

  module _ (book : RuleBook) (before : World) where
    over_rule : (course : Course) (entry : Intent) (room : Option ℕ) → after_rule book (over before) (over_course course) entry room ≡ over_course (after_rule book before course entry room)
    over_rule course entry None = refl
    over_rule course entry (Some room) = λ i. record (after_rule book before course entry (Some room)) { world = over_frame (λ part. (book.effect entry part).part) room course.world (get course.world.rooms room) i }

    over_rules : (list : List Intent) (course : Course) → after_rules book (over before) list (over_course course) ≡ over_course (after_rules book before list course)
    over_rules [] course = refl
    over_rules (entry ∷ later) course = ap (after_rules book (over before) later) (over_rule course entry (room_of before entry)) ∙ over_rules later (after_rule book before course entry (room_of before entry))

    over_actions : (actions : List Action) (list : List Intent) (course : Course) → after_actions book (over before) actions list (over_course course) ≡ over_course (after_actions book before actions list course)
    over_actions [] list course = refl
    over_actions (action ∷ later) list course =
        ap (after_actions book (over before) later list) (over_rules (entries_of action list) (record course { harms = course.harms ++ filter_map (harm_of book before course.world) (entries_of action list) }))
        ∙ over_actions later list (after_kind book before (entries_of action list) course)

    -- a world with another tick and other accounts comes to the same rooms, objects, harm and gains
    over_inner : (list : List Intent) → inner book (over before) list ≡ over_course (inner book before list)
    over_inner list =
        let after : Course = acted book before list in
        let finish : Course → Course = λ course. record course { world = after_steps (sums_in course) book.steps (in_every_room (movement book before list) course.world) } in
        ap finish (over_actions all_actions (kept before list) (begun before))
        ∙ (λ i. record after { world = (ap (after_steps (sums_in after) book.steps) (over_rooms (movement book before list) (keys after.world.rooms) after.world) ∙ over_steps (sums_in after) book.steps (in_every_room (movement book before list) after.world)) i })

-- Two worlds with equal rules, rooms and objects come to the same rooms, objects, harm and gains.
pub same_inner : (book : RuleBook) (one other : World) (list : List Intent) → one.rules ≡ other.rules → one.rooms ≡ other.rooms → one.objects ≡ other.objects
    → inner book other list ≡ over_course other.tick other.accounts (inner book one list)
same_inner book one other list rules rooms objects =
    (λ i. inner book (record other { rules = sym rules i; rooms = sym rooms i; objects = sym objects i }) list) ∙ over_inner other.tick other.accounts book one list
