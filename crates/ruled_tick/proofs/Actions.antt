-- The world after all entries, what they did to objects and what players gained are those after the entries in
-- their turn.
use Rattle.std.proofs.Common.{◌≡◌, ℕ, List, [], ◌∷◌, ◌++◌, map, Option, Some, None, option_map, option_and_then, refl, sym, ap, subst, ◌∙◌, append-nil}
use Rattle.std.specs.List.{flat_map}
use Rattle.std.specs.Option.{option_to_list}
use Rattle.game_tables.specs.declared.action.Action.{Action}
use Rattle.intent_book.specs.declared.intent.Intent.{Intent}
use Rattle.kept_entries.specs.Turns.{in_turn, placed_in}
use Rattle.object_store.specs.Stored.{Stored}
use Rattle.world_rules.specs.World.{World, world_of}
use Rattle.world_rules.specs.RuleBook.{Harm}
use Rattle.world_rules.specs.Sound.{IsSound}
use Rattle.world_rules.proofs.Orderly.{book_orderly}
use Rattle.room_commutes.specs.Running.{running_kind, running_actions}
use Rattle.room_commutes.specs.Serials.{AreSerialsUsed}
use Rattle.room_commutes.proofs.InTick.{at_start, in_tick_room}
use Rattle.room_commutes.proofs.Torn.{game_running}
use Rattle.world_rules.specs.RoomParts.{RoomPart, part_at}
use Rattle.world_rules.specs.Intents.{all_actions, room_of, kept, entries_of}
use Rattle.world_rules.specs.Tick.{Gain, Course, begun, harm_of, after_rule, acted, book}
use Rattle.ruled_tick.specs.inner.Entered.{entered_in, entered_all, gain_entered, gains_entered, harm_entered, harms_entered}

-- ---- entry by entry

pub entered_append : (world : World) (one other : List (Option ℕ × Intent)) → entered_all world (one ++ other) ≡ entered_all (entered_all world one) other
entered_append world [] other = refl
entered_append world (entry ∷ one) other = entered_append (entered_in entry.1 world entry.0) one other

appended : {A : Type 0} (one other more : List A) → (one ++ other) ++ more ≡ one ++ (other ++ more)
appended [] other more = refl
appended (x ∷ one) other more = ap (λ list. x ∷ list) (appended one other more)

pub harms_append : (world : World) (one other : List (Option ℕ × Intent)) → harms_entered world (one ++ other) ≡ harms_entered world one ++ harms_entered (entered_all world one) other
harms_append world [] other = refl
harms_append world (entry ∷ one) other =
    ap (λ (more : List (ℕ × Harm)). harm_entered entry.1 world entry.0 ++ more) (harms_append (entered_in entry.1 world entry.0) one other)
    ∙ sym (appended (harm_entered entry.1 world entry.0) (harms_entered (entered_in entry.1 world entry.0) one) (harms_entered (entered_all (entered_in entry.1 world entry.0) one) other))

pub gains_append : (world : World) (one other : List (Option ℕ × Intent)) → gains_entered world (one ++ other) ≡ gains_entered world one ++ gains_entered (entered_all world one) other
gains_append world [] other = refl
gains_append world (entry ∷ one) other =
    ap (λ (more : List Gain). gain_entered entry.1 world entry.0 ++ more) (gains_append (entered_in entry.1 world entry.0) one other)
    ∙ sym (appended (gain_entered entry.1 world entry.0) (gains_entered (entered_in entry.1 world entry.0) one) (gains_entered (entered_all (entered_in entry.1 world entry.0) one) other))

mapped_append : (before : World) (one other : List Intent) → map (placed_in before) (one ++ other) ≡ map (placed_in before) one ++ map (placed_in before) other
mapped_append before [] other = refl
mapped_append before (intent ∷ one) other = ap (λ (more : List (Option ℕ × Intent)). placed_in before intent ∷ more) (mapped_append before one other)

-- The course has the world, the harms and the gains of these entries, after those of another.
pub record HasEntered (course after : Course) (list : List (Option ℕ × Intent)) : Type 0 where
  pub world : after.world ≡ entered_all course.world list
  pub harms : after.harms ≡ course.harms ++ harms_entered course.world list
  pub gains : after.gains ≡ course.gains ++ gains_entered course.world list

module _ (before : World) where
  rule_world : (course : Course) (intent : Intent) (room : Option ℕ) → (after_rule book before course intent room).world ≡ entered_in intent course.world room
  rule_world course intent None = refl
  rule_world course intent (Some room) = refl

  rule_harms : (course : Course) (intent : Intent) (room : Option ℕ) → (after_rule book before course intent room).harms ≡ course.harms
  rule_harms course intent None = refl
  rule_harms course intent (Some room) = refl

  rule_gains : (course : Course) (intent : Intent) (room : Option ℕ) → (after_rule book before course intent room).gains ≡ course.gains ++ gain_entered intent course.world room
  rule_gains course intent None = sym (append-nil course.gains)
  rule_gains course intent (Some room) = refl

  harm_is : (world : World) (intent : Intent) (room : Option ℕ)
      → option_to_list (option_and_then (λ index. option_map (λ (part : RoomPart). (index, book.harm intent part)) (part_at world index)) room) ≡ harm_entered intent world room
  harm_is world intent None = refl
  harm_is world intent (Some room) = refl

  -- the entries of a kind, each doing its harm in its own turn
  kind_enters : (list : List Intent) (course : Course) → HasEntered course (running_kind book before list course) (map (placed_in before) list)
  kind_enters [] course = record { world = refl; harms = sym (append-nil course.harms); gains = sym (append-nil course.gains) }
  kind_enters (intent ∷ later) course =
      let room : Option ℕ = room_of before intent in
      let harm : List (ℕ × Harm) = option_to_list (harm_of book before course.world intent) in
      let harmed : Course = record course { harms = course.harms ++ harm } in
      let next : Course = after_rule book before harmed intent room in
      let rest = kind_enters later next in
      let world : next.world ≡ entered_in intent course.world room = rule_world harmed intent room in
      let others : List (Option ℕ × Intent) = map (placed_in before) later in
      record {
        world = rest.world ∙ ap (λ (w : World). entered_all w others) world;
        harms = rest.harms
            ∙ (λ i. rule_harms harmed intent room i ++ harms_entered (world i) others)
            ∙ appended course.harms harm (harms_entered (entered_in intent course.world room) others)
            ∙ ap (λ (one : List (ℕ × Harm)). course.harms ++ (one ++ harms_entered (entered_in intent course.world room) others)) (harm_is course.world intent room);
        gains = rest.gains
            ∙ (λ i. rule_gains harmed intent room i ++ gains_entered (world i) others)
            ∙ appended course.gains (gain_entered intent course.world room) (gains_entered (entered_in intent course.world room) others);
      }

  -- one course after another
  entered_then : (course middle after : Course) (one other : List (Option ℕ × Intent)) → HasEntered course middle one → HasEntered middle after other → HasEntered course after (one ++ other)
  entered_then course middle after one other first second = record {
    world = second.world ∙ ap (λ (w : World). entered_all w other) first.world ∙ sym (entered_append course.world one other);
    harms = second.harms
        ∙ (λ i. first.harms i ++ harms_entered (first.world i) other)
        ∙ appended course.harms (harms_entered course.world one) (harms_entered (entered_all course.world one) other)
        ∙ ap (λ (more : List (ℕ × Harm)). course.harms ++ more) (sym (harms_append course.world one other));
    gains = second.gains
        ∙ (λ i. first.gains i ++ gains_entered (first.world i) other)
        ∙ appended course.gains (gains_entered course.world one) (gains_entered (entered_all course.world one) other)
        ∙ ap (λ (more : List Gain). course.gains ++ more) (sym (gains_append course.world one other));
  }

  -- kind by kind is in turn
  actions_enter : (list : List Action) (entries : List Intent) (course : Course)
      → HasEntered course (running_actions book before list entries course) (map (placed_in before) (flat_map (λ action. entries_of action entries) list))
  actions_enter [] entries course = record { world = refl; harms = sym (append-nil course.harms); gains = sym (append-nil course.gains) }
  actions_enter (action ∷ later) entries course =
      let first : List Intent = entries_of action entries in
      let rest : List Intent = flat_map (λ action. entries_of action entries) later in
      let middle : Course = running_kind book before first course in
      let after : Course = running_actions book before later entries middle in
      subst (HasEntered course after) (sym (mapped_append before first rest))
      (entered_then course middle after (map (placed_in before) first) (map (placed_in before) rest) (kind_enters first course) (actions_enter later entries middle))

-- The world, the harms and the gains after all entries are those of the entries in their turn.
pub acted_enters : (stored : Stored) → IsSound stored → (list : List Intent)
    → HasEntered (begun (world_of stored)) (acted book (world_of stored) list) (map (placed_in (world_of stored)) (in_turn (kept (world_of stored) list)))
acted_enters stored sound list =
    let world : World = world_of stored in
    subst (λ (course : Course). HasEntered (begun world) course (map (placed_in world) (in_turn (kept world list)))) (game_running stored sound list)
    (actions_enter world all_actions (kept world list) (begun world))

-- Entries use up the serials of what they make.
entered_used : (world : World) → AreSerialsUsed world → (intent : Intent) (room : Option ℕ) → AreSerialsUsed (entered_in intent world room)
entered_used world used intent None = used
entered_used world used intent (Some room) = (in_tick_room world world (at_start world used) (λ part. (book.effect intent part).part) (book_orderly.effect intent) room).used

pub used_entered : (world : World) → AreSerialsUsed world → (list : List (Option ℕ × Intent)) → AreSerialsUsed (entered_all world list)
used_entered world used [] = used
used_entered world used (entry ∷ later) = used_entered (entered_in entry.1 world entry.0) (entered_used world used entry.1 entry.0) later
