-- The points of a tick are the sums over its rooms.
use Rattle.std.proofs.Common.{◌≡◌, ℕ, ◌+◌, ◌==◌, if◌then◌else◌, Bool, true, false, cond, List, [], ◌∷◌, ◌++◌, Option, Some, None, is_some, option_map, refl, sym, ap, ◌∙◌, arith}
use Rattle.std.specs.List.{AllByRecursion, filter, sum_by}
use Rattle.std.specs.Option.{option_to_list}
use Rattle.std.specs.FinMap.{get, keys}
use Rattle.std.proofs.lemmas.Bool.{eq-eqb, eqb-true, eqb-false, ne_eqb}
use Rattle.std.proofs.lemmas.List.Sums.{sum_by-cons}
use Rattle.game_tables.specs.declared.action.Action.{Action}
use Rattle.intent_book.specs.declared.intent.Intent.{Intent}
use Rattle.world_rules.specs.World.{Frame, World, alone}
use Rattle.world_rules.specs.RoomParts.{RoomPart, part_of}
use Rattle.world_rules.specs.RuleBook.{RuleBook, IsOrderly}
use Rattle.world_rules.specs.Intents.{all_actions, room_of, those_in, kept, entries_of}
use Rattle.world_rules.specs.Tick.{Gain, Course, begun, gain_in, after_rule, after_rules, after_kind, after_actions, inner, gains_in, points_of}
use Rattle.room_commutes.specs.Serials.{AreSerialsUsed}
use Rattle.room_commutes.specs.Schedules.{alone_course, summed}
use Rattle.world_rules.proofs.Parts.{room_alone}
use Rattle.room_commutes.proofs.InTick.{IsInTick, in_tick_room, at_start, used_alone}
use Rattle.room_commutes.proofs.Courses.{in_tick_rules}
use Rattle.room_commutes.proofs.Everywhere.{once, keys_once}
use Rattle.room_commutes.proofs.Inner.{inner_alike}

-- ---- each gain is in a room of the world

-- Each of these gains is in a room of the world.
abbrev AreInRooms : World → List Gain → Type 0
AreInRooms world gains = AllByRecursion (λ gain. is_some (get world.rooms gain.room) ≡ true) gains

all_append : (world : World) (one two : List Gain) → AreInRooms world one → AreInRooms world two → AreInRooms world (one ++ two)
all_append world [] two all more = more
all_append world (gain ∷ one) two all more = (all.0, all_append world one two all.1 more)

module _ (book : RuleBook) (orderly : IsOrderly book) (before : World) where
  gain_room : (entry : Intent) (room : ℕ) (now : World) (found : Option Frame) → is_some found ≡ is_some (get before.rooms room)
      → AreInRooms before (option_to_list (option_map (λ (part : RoomPart). record { room = room; player = entry.player; points = (book.effect entry part).points }) (option_map (part_of now room) found)))
  gain_room entry room now None same = tt
  gain_room entry room now (Some frame) same = (sym same, tt)

  rules_rooms : (list : List Intent) (course : Course) → IsInTick before course.world → AreInRooms before course.gains → AreInRooms before (after_rules book before list course).gains
  rules_rooms [] course in_tick all = all
  rules_rooms (entry ∷ later) course in_tick all =
      elim (room_of before entry) as (λ r. AreInRooms before (after_rules book before later (after_rule book before course entry r)).gains) [
        | None ↦ rules_rooms later course in_tick all
        | Some room ↦ rules_rooms later (after_rule book before course entry (Some room)) (in_tick_room before course.world in_tick (λ part. (book.effect entry part).part) (orderly.effect entry) room)
            (all_append before course.gains (gain_in book before course.world entry room) all (gain_room entry room course.world (get course.world.rooms room) (in_tick.keeps room)))
      ]

  actions_rooms : (actions : List Action) (list : List Intent) (course : Course) → IsInTick before course.world → AreInRooms before course.gains → AreInRooms before (after_actions book before actions list course).gains
  actions_rooms [] list course in_tick all = all
  actions_rooms (action ∷ later) list course in_tick all =
      actions_rooms later list (after_kind book before (entries_of action list) course) (in_tick_rules book orderly.effect before 0 (entries_of action list) _ in_tick) (rules_rooms (entries_of action list) _ in_tick all)

  inner_rooms : AreSerialsUsed before → (list : List Intent) → AreInRooms before (inner book before list).gains
  inner_rooms used list = actions_rooms all_actions (kept before list) (begun before) (at_start before used) tt

-- ---- the gains of a room are those of the world that has it alone

some_alone : (b : Bool) (found : Option Frame) → is_some (cond b found None) ≡ true → b ≡ true
some_alone true found is = refl
some_alone false found is = absurd (cc)

lone_gains : (world : World) (k : ℕ) (gains : List Gain) → AreInRooms (alone world k) gains → gains_in k gains ≡ gains
lone_gains world k [] all = refl
lone_gains world k (gain ∷ gains) all =
    let here : (gain.room == k) ≡ true = some_alone (gain.room == k) (get world.rooms gain.room) (ap is_some (sym (room_alone world k gain.room)) ∙ all.0) in
    ap (λ (b : Bool). cond b (gain ∷ gains_in k gains) (gains_in k gains)) here ∙ ap (λ rest. gain ∷ rest) (lone_gains world k gains all.1)

module _ (book : RuleBook) (orderly : IsOrderly book) (world : World) (used : AreSerialsUsed world) (list : List Intent) where
  pub gains_alone : (k : ℕ) → gains_in k (inner book world list).gains ≡ (alone_course book world list k).gains
  gains_alone k =
      (inner_alike book orderly world used list k).gains
      ∙ lone_gains world k (alone_course book world list k).gains (inner_rooms book orderly (alone world k) (used_alone world k used) (those_in world k list))

-- ---- sums over the rooms

abbrev points_in : ℕ → Gain → ℕ
points_in player gain = if gain.player == player then gain.points else 0

sum_zero : (rooms : List ℕ) → sum_by (λ (k : ℕ). 0) rooms ≡ 0
sum_zero [] = refl
sum_zero (k ∷ rooms) = omega (arith, sum_by-cons (λ (j : ℕ). 0) k rooms, sum_zero rooms)

sum_plus : (f g : ℕ → ℕ) (rooms : List ℕ) → sum_by (λ k. f k + g k) rooms ≡ sum_by f rooms + sum_by g rooms
sum_plus f g [] = omega arith
sum_plus f g (k ∷ rooms) = omega (arith, sum_plus f g rooms, sum_by-cons (λ j. f j + g j) k rooms, sum_by-cons f k rooms, sum_by-cons g k rooms)

sum_at : (room n : ℕ) (rooms : List ℕ) → sum_by (λ k. if room == k then n else 0) rooms ≡ sum_by (λ (k : ℕ). n) (filter (λ k. k == room) rooms)
sum_at room n [] = refl
sum_at room n (k ∷ rooms) =
    let rest = sum_at room n rooms in
    let all = sum_by-cons (λ j. if room == j then n else 0) k rooms in
    elim (k == room) as (λ b. (k == room) ≡ b → sum_by (λ j. if room == j then n else 0) (k ∷ rooms) ≡ sum_by (λ (j : ℕ). n) (cond b (k ∷ filter (λ j. j == room) rooms) (filter (λ j. j == room) rooms))) [
      | true ↦ λ at.
          let here : (if room == k then n else 0) ≡ n = ap (λ (b : Bool). if b then n else 0) (eq-eqb room k (sym (eqb-true k room at))) in
          omega (arith, rest, all, here, sum_by-cons (λ (j : ℕ). n) k (filter (λ j. j == room) rooms))
      | false ↦ λ at.
          let here : (if room == k then n else 0) ≡ 0 = ap (λ (b : Bool). if b then n else 0) (ne_eqb room k (λ same. eqb-false k room at (sym same))) in
          omega (arith, rest, all, here)
    ] refl

sum_here : (room n : ℕ) (found : Option Frame) → is_some found ≡ true → sum_by (λ (k : ℕ). n) (once room found) ≡ n
sum_here room n None is = absurd (cc)
sum_here room n (Some frame) is = omega (arith, sum_by-cons (λ (k : ℕ). n) room [])

points_cons : (player k : ℕ) (gain : Gain) (gains : List Gain) → points_of player (gains_in k (gain ∷ gains)) ≡ (if gain.room == k then points_in player gain else 0) + points_of player (gains_in k gains)
points_cons player k gain gains =
    elim (gain.room == k) as (λ b. points_of player (cond b (gain ∷ gains_in k gains) (gains_in k gains)) ≡ (if b then points_in player gain else 0) + points_of player (gains_in k gains)) [
      | true ↦ sum_by-cons (points_in player) gain (gains_in k gains)
      | false ↦ omega arith
    ]

sums_rooms : (world : World) (player : ℕ) (gains : List Gain) → AreInRooms world gains → sum_by (λ k. points_of player (gains_in k gains)) (keys world.rooms) ≡ points_of player gains
sums_rooms world player [] all = sum_zero (keys world.rooms)
sums_rooms world player (gain ∷ gains) all =
    let n : ℕ = points_in player gain in
    (λ i. sum_by (λ k. points_cons player k gain gains i) (keys world.rooms))
    ∙ sum_plus (λ k. if gain.room == k then n else 0) (λ k. points_of player (gains_in k gains)) (keys world.rooms)
    ∙ (λ i. (sum_at gain.room n (keys world.rooms) ∙ ap (sum_by (λ (k : ℕ). n)) (keys_once world.rooms gain.room) ∙ sum_here gain.room n (get world.rooms gain.room) all.0) i + sums_rooms world player gains all.1 i)
    ∙ sym (sum_by-cons (points_in player) gain gains)

-- the points of a tick are the sums over the rooms, each alone
pub points_summed : (book : RuleBook) → IsOrderly book → (world : World) → AreSerialsUsed world → (list : List Intent) (player : ℕ) → summed book world list player ≡ points_of player (inner book world list).gains
points_summed book orderly world used list player =
    (λ i. sum_by (λ k. points_of player (sym (gains_alone book orderly world used list k) i)) (keys world.rooms))
    ∙ sums_rooms world player (inner book world list).gains (inner_rooms book orderly world used list)
