-- What players want of a tick, which of it counts, and in which order.
use Rattle.std.specs.Prelude.{ℕ, ◌/◌, ◌==◌, ◌&&◌, ◌||◌, not, Bool, true, false, nat_lt, if◌then◌else◌, List}
use Rattle.std.specs.Prelude.{[], ◌∷◌, Option, Some, None, option_map}
use Rattle.std.specs.List.{filter, list_any}
use Rattle.std.specs.FinMap.{get, contains_key}
use Rattle.game_tables.specs.Actions.{action_number, dominates}
use Rattle.game_tables.specs.declared.action.Action.{Action}
use Rattle.game_tables.specs.declared.action.Action.TheVariants as actions
use Rattle.game_tables.specs.declared.kind.Kind.{Kind}
use Rattle.game_tables.specs.declared.kind.Kind.TheVariants.{Creep, Spawn, Site}
use Rattle.room_table.specs.declared.object.Object.{Object}
use Rattle.intent_book.specs.declared.intent.Intent.{Intent}
use Rattle.world_rules.specs.World.{World}

-- all actions, in the order of a tick
abbrev pub all_actions : List Action
all_actions =
    actions.DropLoad ∷ actions.Transfer ∷ actions.Withdraw ∷ actions.Pickup ∷ actions.Heal
    ∷ actions.RangedHeal ∷ actions.Dismantle ∷ actions.Attack ∷ actions.Harvest ∷ actions.Repair
    ∷ actions.Build ∷ actions.RangedMassAttack ∷ actions.RangedAttack ∷ actions.Suicide
    ∷ actions.ClaimController
    ∷ actions.Upgrade ∷ actions.Reserve ∷ actions.AttackController ∷ actions.CreateSite ∷ actions.RemoveSite
    ∷ actions.SpawnCreep ∷ actions.Move ∷ []

-- ---- the room of an entry

-- The actor of a new site is a tile; tiles are numbered through all rooms.
abbrev pub names_tile : Action → Bool
names_tile actions.CreateSite = true
names_tile action = false

-- the room of an object, and the object, of an id
abbrev pub room_at : World → ℕ → Option ℕ
room_at world id = option_map (λ placed. placed.room) (get world.objects id)

abbrev pub object_at : World → ℕ → Option Object
object_at world id = option_map (λ placed. placed.object) (get world.objects id)

-- the room of an entry's actor
abbrev pub room_of : World → Intent → Option ℕ
room_of world entry =
    if names_tile entry.action then Some (entry.actor / 2500) else room_at world entry.actor

abbrev pub is_at : ℕ → Option ℕ → Bool
is_at room None = false
is_at room (Some index) = index == room

-- The actor of the entry is in this room.
abbrev pub is_in : World → ℕ → Intent → Bool
is_in world room entry = is_at room (room_of world entry)

-- the entries whose actor is in a room
abbrev pub those_in : World → ℕ → List Intent → List Intent
those_in world room list = filter (is_in world room) list

-- ---- which entries count

-- An object of this kind may be an actor of an action that objects have: a site of its removal, a spawn of
-- the making of a creep, and a creep of all others.
abbrev pub may_act : Action → Kind → Bool
may_act actions.RemoveSite Site = true
may_act actions.RemoveSite kind = false
may_act actions.SpawnCreep Spawn = true
may_act actions.SpawnCreep kind = false
may_act action Creep = true
may_act action kind = false

-- The object may be the entry's actor.
abbrev pub acts_for : Intent → Option Object → Bool
acts_for entry None = false
acts_for entry (Some object) = may_act entry.action object.kind && (object.owner == entry.player)

-- The actor is a tile of a room, or an object of the right kind that the player owns.
abbrev pub has_actor : World → Intent → Bool
has_actor world entry =
    if names_tile entry.action then contains_key world.rooms (entry.actor / 2500)
    else acts_for entry (object_at world entry.actor)

-- The entry fits the world.
abbrev pub fits : World → Intent → Bool
fits world entry = nat_lt 0 entry.player && has_actor world entry

-- two entries of one player, action and actor
abbrev pub same_entry : Intent → Intent → Bool
same_entry one other =
    (one.player == other.player)
    && (action_number one.action == action_number other.action)
    && (one.actor == other.actor)

-- of entries of one player, action and actor the last
abbrev pub last_of_each : List Intent → List Intent
last_of_each [] = []
last_of_each (entry ∷ later) =
    if list_any (same_entry entry) later then last_of_each later else entry ∷ last_of_each later

-- An entry overrules another of the same creep, which then does not count.
abbrev pub overrules : Intent → Intent → Bool
overrules one other =
    (one.player == other.player) && (one.actor == other.actor) && dominates one.action other.action

-- those that none of a list overrules
abbrev pub undropped : List Intent → List Intent
undropped standing = filter (λ entry. not (list_any (λ one. overrules one entry) standing)) standing

-- The entries that count: of those that fit the last of each player, action and actor, without those that
-- another of these overrules.
abbrev pub kept : World → List Intent → List Intent
kept world list = undropped (last_of_each (filter (fits world) list))

-- ---- in which order

-- by player, then by actor
abbrev pub comes_before : Intent → Intent → Bool
comes_before one other =
    nat_lt one.player other.player || ((one.player == other.player) && nat_lt one.actor other.actor)

abbrev pub put_in_order : Intent → List Intent → List Intent
put_in_order entry [] = entry ∷ []
put_in_order entry (first ∷ later) =
    if comes_before entry first then entry ∷ first ∷ later else first ∷ put_in_order entry later

abbrev pub in_order : List Intent → List Intent
in_order [] = []
in_order (entry ∷ later) = put_in_order entry (in_order later)

-- the entries of an action, in their order
abbrev pub entries_of : Action → List Intent → List Intent
entries_of action list = in_order (filter (λ entry. action_number entry.action == action_number action) list)
