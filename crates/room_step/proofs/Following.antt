-- Rooms that are stepped follow those before, once their creeps are at rest.
use Rattle.std.proofs.Common.{◌≡◌, ℕ, Bool, List, [], ◌∷◌, map, Option, Some, None, option_map, slice_get, refl, sym, ap, subst, ◌∙◌}
use Rattle.std.proofs.lemmas.Option.{slice_get-map}
use Rattle.game_tables.specs.declared.action.Action.{Action}
use Rattle.intent_book.specs.declared.intent.Intent.{Intent}
use Rattle.room_table.specs.declared.object.Object.{Object}
use Rattle.object_store.specs.declared.world.Room.{Room}
use Rattle.object_store.specs.Stored.{Stored}
use Rattle.world_rules.specs.World.{world_of}
use Rattle.world_rules.specs.RoomParts.{RoomPart}
use Rattle.world_rules.specs.RuleBook.{Follows}
use Rattle.world_rules.specs.RoomTick.{RoomCourse, kept_in, room_after_actions, room_after_kind, room_after_rule, room_after_rules, room_begun, room_tick}
use Rattle.world_rules.specs.Crossings.{still}
use Rattle.world_rules.specs.Intents.{all_actions, entries_of}
use Rattle.game_tables.specs.declared.action.Action.TheVariants.{Move}
use Rattle.world_rules.specs.Moves.{moved}
use Rattle.world_rules.specs.Steps.{each}
use Rattle.world_rules.specs.Sound.{IsSound}
use Rattle.world_rules.specs.Tick.{book, sums_of}
use Rattle.world_rules.specs.Upkeep.{steps}
use Rattle.world_rules.proofs.Follows.{follows_each, follows_self, follows_trans}
use Rattle.world_rules.proofs.Orderly.{book_orderly}
use Rattle.room_rules.specs.Followed.{part_stored, FollowsAt, FollowsRoom, FollowRooms}
use Rattle.room_rules.specs.RoomRules.{KeepsRoomRules, is_player}
use Rattle.room_rules.specs.Within.{between, within}
use Rattle.room_rules.proofs.Rules.{begun_leads}
use Rattle.room_rules.proofs.Sound.{sound_keeps}
use Rattle.room_rules.proofs.Steps.{keeps_rest}
use Rattle.exit_crossing.specs.Crossing.{rested_room}
use Rattle.ruled_tick.proofs.Rested.{rested_part, rested_rise, steps_follow}
use Rattle.room_step.specs.inner.Rooms.{IsLeft, IsLeftAt}
use Rattle.room_step.proofs.Keeping.{tick_keeps}

-- ---- the tick of a room makes no object but under new ids

rules_follow : (list : List Intent) (course : RoomCourse) → Follows course.part (room_after_rules book list course).part
rules_follow [] course = follows_self course.part
rules_follow (entry ∷ later) course =
    let next : RoomCourse = room_after_rule book course entry in
    follows_trans course.part next.part (room_after_rules book later next).part (book_orderly.effect entry course.part) (rules_follow later next)

actions_follow : (actions : List Action) (list : List Intent) (course : RoomCourse) → Follows course.part (room_after_actions book actions list course).part
actions_follow [] list course = follows_self course.part
actions_follow (action ∷ later) list course =
    let next : RoomCourse = room_after_kind book (entries_of action list) course in
    follows_trans course.part next.part (room_after_actions book later list next).part (rules_follow (entries_of action list) _) (actions_follow later list next)

pub tick_follows : (list : List Intent) (part : RoomPart) → Follows part (room_tick book list part).part
tick_follows list part =
    let counted : List Intent = kept_in part list in
    let after : RoomCourse = room_after_actions book all_actions counted (room_begun part) in
    let stepped : RoomPart = moved (entries_of Move counted) after.part in
    follows_trans part after.part (room_tick book list part).part (actions_follow all_actions counted (room_begun part))
    (follows_trans after.part stepped (room_tick book list part).part (book_orderly.moved (entries_of Move counted) after.part) (steps_follow steps book_orderly.steps (sums_of after.harms) stepped))

module _ (stored : Stored) (sound : IsSound stored) (lists : ℕ → List Intent) (left : List Room) (each_left : (k : ℕ) → IsLeftAt (lists k) (slice_get stored.rooms k) (slice_get left k)) where
  abbrev players : ℕ → Bool
  players = is_player (world_of stored)

  room_follows : (k : ℕ) (was mate : Room) → slice_get stored.rooms k ≡ Some was → IsLeft (lists k) was mate → FollowsRoom players between was (rested_room mate)
  room_follows k was mate at is =
      let part : RoomPart = part_stored was in
      let ticked : RoomPart = (room_tick book (lists k) part).part in
      let rests : Object → Option Object = λ object. Some (still object) in
      let part_is : part_stored (rested_room mate) ≡ each rests ticked = rested_part mate is.rising ∙ ap (each rests) is.tick in
      let keeps : KeepsRoomRules players within part = begun_leads players part (sound_keeps stored sound k was at) in
      record {
        name = is.name;
        terrain = is.terrain;
        index = ap (λ (p : RoomPart). p.index) is.tick ∙ (tick_follows (lists k) part).index;
        rising = rested_rise mate.table.objects is.rising;
        follows = subst (Follows part) (sym part_is) (follows_trans part ticked (each rests ticked) (tick_follows (lists k) part) (follows_each rests ticked));
        keeps = subst (KeepsRoomRules players between) (sym part_is) (keeps_rest players ticked (tick_keeps players part (lists k) keeps));
      }

  at_follows : (k : ℕ) (was mate : Option Room) → slice_get stored.rooms k ≡ was → IsLeftAt (lists k) was mate → FollowsAt players between was (option_map rested_room mate)
  at_follows k None None at is = tt
  at_follows k None (Some mate) at is = absurd is
  at_follows k (Some was) None at is = absurd is
  at_follows k (Some was) (Some mate) at is = room_follows k was mate at is

  pub follow_left : FollowRooms players between stored (record stored { rooms = map rested_room left })
  follow_left k = subst (FollowsAt players between (slice_get stored.rooms k)) (sym (slice_get-map rested_room left k)) (at_follows k (slice_get stored.rooms k) (slice_get left k) refl (each_left k))
