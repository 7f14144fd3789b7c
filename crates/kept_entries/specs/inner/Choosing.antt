-- What each step of the choice makes of a list of entries.
use Rattle.std.specs.Prelude.{◌≡◌, ℕ, ◌==◌, ◌&&◌, Bool, false, not, if◌then◌else◌, List, [], ◌∷◌, map, Option}
use Rattle.std.specs.Prelude.{option_map}
use Rattle.std.specs.FinMap.{get}
use Rattle.std.specs.List.{AllByRecursion, filter, flat_map, list_any}
use Rattle.std.specs.declared.cmp.Ordering.{Ordering}
use Rattle.std.specs.Ordering.{nat_cmp, ordering_then, is_lt}
use Rattle.game_tables.specs.Actions.{action_number}
use Rattle.game_tables.specs.declared.action.Action.{Action}
use Rattle.room_table.specs.declared.object.Object.{Object}
use Rattle.intent_book.specs.declared.intent.Intent.{Intent}
use Rattle.world_rules.specs.World.{Objects}
use Rattle.world_rules.specs.Intents.{all_actions, overrules}
use Rattle.kept_entries.specs.declared.entries.Entry.{Entry}
use Rattle.kept_entries.specs.Turns.{placed}

-- ---- what entries stand for

-- an intent and what is told as its room
abbrev pub with_room : (Intent → Option ℕ) → Intent → Option ℕ × Intent
with_room room intent = (room intent, intent)

-- These are the entries of the intents, each with its room.
abbrev pub StandFor : (Intent → Option ℕ) → List Entry → List Intent → Type 0
StandFor room entries intents = map placed entries ≡ map (with_room room) intents

-- The step makes of the entries of any intents those of what the change leaves of them.
abbrev pub Makes : (List Intent → List Intent) → List Entry → List Entry → Type 0
Makes change before after =
    (room : Intent → Option ℕ) (intents : List Intent) → StandFor room before intents
    → StandFor room after (change intents)

-- ---- actors among objects

-- the object of an id, and its room
abbrev pub object_in : Objects → ℕ → Option Object
object_in objects id = option_map (λ placed. placed.object) (get objects id)

abbrev pub room_in : Objects → ℕ → Option ℕ
room_in objects id = option_map (λ placed. placed.room) (get objects id)

-- ---- by player, actor and action

abbrev pub Key : Type 0
Key = ℕ × ℕ × ℕ

abbrev pub key : Intent → Key
key intent = (intent.player, intent.actor, action_number intent.action)

abbrev pub key_cmp : Key → Key → Ordering
key_cmp one other =
    ordering_then (ordering_then (nat_cmp one.0 other.0) (nat_cmp one.1 other.1)) (nat_cmp one.2 other.2)

abbrev pub compared : Intent → Intent → Ordering
compared one other = key_cmp (key one) (key other)

abbrev pub entry_cmp : Entry → Entry → Ordering
entry_cmp one other = compared one.intent other.intent

abbrev pub put_by_actor : Intent → List Intent → List Intent
put_by_actor intent [] = intent ∷ []
put_by_actor intent (first ∷ later) =
    if is_lt (compared intent first) then intent ∷ first ∷ later else first ∷ put_by_actor intent later

abbrev pub by_actor : List Intent → List Intent
by_actor [] = []
by_actor (intent ∷ later) = put_by_actor intent (by_actor later)

-- ---- overruled ones

-- two entries of one player and actor
abbrev pub has_actor_of : Entry → Entry → Bool
has_actor_of entry other =
    (other.intent.player == entry.intent.player) && (other.intent.actor == entry.intent.actor)

-- An entry overrules the first one.
abbrev pub overrules_it : Entry → Entry → Bool
overrules_it entry other = overrules other.intent entry.intent

-- those that none of a list overrules
abbrev pub stays : List Entry → Entry → Bool
stays entries entry = not (list_any (overrules_it entry) entries)

-- Behind the first that fails the test none passes it.
abbrev pub Runs : (Entry → Bool) → List Entry → Type 0
Runs test [] = Unit {0}
Runs test (entry ∷ later) =
    (test entry ≡ false → AllByRecursion (λ other. test other ≡ false) later) × Runs test later

-- ---- by action

abbrev pub is_of : Action → Intent → Bool
is_of action intent = action_number intent.action == action_number action

-- the entries action by action, each action's as they stand
abbrev pub by_action : List Intent → List Intent
by_action list = flat_map (λ action. filter (is_of action) list) all_actions
