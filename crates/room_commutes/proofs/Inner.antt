-- What happens inside a room is what happens in the world that has the room alone.
use Rattle.std.proofs.Common.{◌≡◌, ℕ, true, List, [], ◌∷◌, map, refl, sym, ap, subst, ◌∙◌}
use Rattle.std.specs.List.{filter}
use Rattle.game_tables.specs.declared.action.Action.{Action}
use Rattle.game_tables.specs.declared.action.Action.TheVariants.{Move}
use Rattle.intent_book.specs.declared.intent.Intent.{Intent}
use Rattle.world_rules.specs.World.{World, alone}
use Rattle.world_rules.specs.RoomParts.{in_every_room}
use Rattle.world_rules.specs.RuleBook.{RuleBook, StaysInRoom, IsOrderly}
use Rattle.world_rules.specs.Intents.{all_actions, is_at, is_in, those_in, kept, entries_of}
use Rattle.world_rules.specs.Tick.{Course, begun, after_kind, after_actions, acted, movement, inner, sums_in, sums_of}
use Rattle.room_commutes.specs.Serials.{AreSerialsUsed}
use Rattle.world_rules.proofs.Parts.{seen_alone}
use Rattle.room_commutes.proofs.InTick.{IsInTick, at_start, used_alone}
use Rattle.room_commutes.proofs.Everywhere.{in_tick_every, every_alike, in_tick_steps, steps_alike}
use Rattle.room_commutes.proofs.Courses.{AreAlike, room_of_alone, in_tick_rules, kind_alike}
use Rattle.room_commutes.proofs.Split.{filters_agree, kept_alone, those_of}

filter_all : {A : Type 0} (list : List A) → filter (λ x. true) list ≡ list
filter_all [] = refl
filter_all (x ∷ list) = ap (λ rest. x ∷ rest) (filter_all list)

-- those in a room stay in it where it is alone
those_alone : (world : World) (k : ℕ) (list : List Intent) → those_in (alone world k) k (those_in world k list) ≡ those_in world k list
those_alone world k list =
    filters_agree (is_in (alone world k) k) (λ entry. true) (is_in world k) (λ entry is. ap (is_at k) (room_of_alone world k entry is) ∙ is) list
    ∙ filter_all (those_in world k list)

module _ (book : RuleBook) (orderly : IsOrderly book) where
  module _ (before : World) where
    in_tick_actions : (actions : List Action) (list : List Intent) (course : Course) → IsInTick before course.world → IsInTick before (after_actions book before actions list course).world
    in_tick_actions [] list course in_tick = in_tick
    in_tick_actions (action ∷ later) list course in_tick =
        in_tick_actions later list (after_kind book before (entries_of action list) course) (in_tick_rules book orderly.effect before 0 (entries_of action list) _ in_tick)

    actions_alike : (k : ℕ) (actions : List Action) (list : List Intent) (one two : Course) → IsInTick before one.world → AreAlike k one two
        → AreAlike k (after_actions book before actions list one) (after_actions book (alone before k) actions (those_in before k list) two)
    actions_alike k [] list one two in_one alike = alike
    actions_alike k (action ∷ later) list one two in_one alike =
        let next : Course = after_kind book before (entries_of action list) one in
        let mate : List Intent → Course = λ entries. after_kind book (alone before k) entries two in
        actions_alike k later list next (mate (entries_of action (those_in before k list))) (in_tick_rules book orderly.effect before k (entries_of action list) _ in_one)
        (subst (λ entries. AreAlike k next (mate entries)) (sym (those_of before k action list)) (kind_alike book orderly.effect before k (entries_of action list) one two in_one alike))

  module _ (before : World) (used : AreSerialsUsed before) (list : List Intent) where
    abbrev after : Course
    after = acted book before list

    pub in_acted : IsInTick before (acted book before list).world
    in_acted = in_tick_actions before all_actions (kept before list) (begun before) (at_start before used)

    moves_own : (room : ℕ) → StaysInRoom (movement book before list room)
    moves_own room = orderly.moved (those_in before room (entries_of Move (kept before list)))

    pub in_moved : IsInTick before (in_every_room (movement book before list) (acted book before list).world)
    in_moved = in_tick_every before (movement book before list) moves_own (acted book before list).world in_acted

    -- the world after what happens inside the rooms
    pub in_inner : IsInTick before (inner book before list).world
    in_inner = in_tick_steps before (sums_in (acted book before list)) book.steps orderly.steps _ in_moved

  module _ (world : World) (used : AreSerialsUsed world) (list : List Intent) (k : ℕ) where
    abbrev here : List Intent
    here = those_in world k list

    acted_alike : AreAlike k (acted book world list) (acted book (alone world k) (those_in world k list))
    acted_alike =
        subst (λ entries. AreAlike k (acted book world list) (after_actions book (alone world k) all_actions entries (begun (alone world k)))) (sym (kept_alone world k list))
        (actions_alike world k all_actions (kept world list) (begun world) (begun (alone world k)) (at_start world used) (record { world = sym (seen_alone world k); harms = refl; gains = refl }))

    movement_alike : movement book world list k ≡ movement book (alone world k) (those_in world k list) k
    movement_alike =
        ap book.moved (sym (
        ap (λ entries. those_in (alone world k) k (entries_of Move entries)) (kept_alone world k list)
        ∙ ap (those_in (alone world k) k) (those_of world k Move (kept world list))
        ∙ those_alone world k (entries_of Move (kept world list))))

    -- what happens inside the rooms is seen alike at a room, where that is alone with its entries
    pub inner_alike : AreAlike k (inner book world list) (inner book (alone world k) (those_in world k list))
    inner_alike =
        let lone : World = alone world k in
        let one : Course = acted book world list in
        let two : Course = acted book lone (those_in world k list) in
        let used_lone = used_alone world k used in
        record {
          world =
              steps_alike k world lone (sums_in one) (sums_in two) (ap (λ harms. sums_of (map (λ harm. harm.1) harms)) acted_alike.harms) book.steps orderly.steps
              (in_every_room (movement book world list) one.world) (in_every_room (movement book lone (those_in world k list)) two.world)
              (in_moved world used list) (in_moved lone used_lone (those_in world k list))
              (every_alike k world lone (movement book world list) (movement book lone (those_in world k list)) (moves_own world used list) (moves_own lone used_lone (those_in world k list)) movement_alike
              one.world two.world (in_acted world used list) (in_acted lone used_lone (those_in world k list)) acted_alike.world);
          harms = acted_alike.harms;
          gains = acted_alike.gains;
        }
