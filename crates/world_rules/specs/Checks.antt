-- The checks of the actions of creeps, in their order, each with the code of a call that fails it. They stand
-- here once: the desk reads them of what a player sees before it records an action, and the rule of the
-- action reads them of the room.
use Rattle.std.specs.Prelude.{ℕ, ◌==◌, ◌&&◌, ◌||◌, not, max, nat_lt, nat_le, Bool, true, false, if◌then◌else◌}
use Rattle.std.specs.Prelude.{List, [], ◌∷◌, ◌++◌, Option, Some, None, option_map}
use Rattle.std.specs.Option.{is_some, unwrap_or}
use Rattle.std.specs.FinMap.{get, values}
use Rattle.game_tables.specs.Actions.{is_target, max_range, needed_part}
use Rattle.game_tables.specs.Bodies.{live_count}
use Rattle.game_tables.specs.Kinds.{is_creep, obstructs}
use Rattle.game_tables.specs.declared.action.Action.{Action}
use Rattle.game_tables.specs.declared.action.Action.TheVariants.{DropLoad, Transfer, Withdraw, Pickup, Heal}
use Rattle.game_tables.specs.declared.action.Action.TheVariants.{RangedHeal, Harvest, Repair, Build}
use Rattle.game_tables.specs.declared.action.Action.TheVariants.{ClaimController, Upgrade, Reserve}
use Rattle.game_tables.specs.declared.action.Action.TheVariants.{AttackController, Move}
use Rattle.game_tables.specs.declared.code.Code.{Code}
use Rattle.game_tables.specs.declared.code.Code.TheVariants.{Done, NotOwner, NotFound, NotEnoughResources}
use Rattle.game_tables.specs.declared.code.Code.TheVariants.{InvalidTarget, Full, NotInRange, InvalidArgs}
use Rattle.game_tables.specs.declared.code.Code.TheVariants.{Tired, NoBodypart, GlobalLevelNotEnough}
use Rattle.game_tables.specs.declared.kind.Kind.{Kind}
use Rattle.game_tables.specs.declared.kind.Kind.TheVariants.{Creep}
use Rattle.game_tables.specs.declared.kind.Part.{Part}
use Rattle.room_terrain.specs.Geometry.{distance}
use Rattle.room_table.specs.Controllers.{controller_among, is_anothers}
use Rattle.room_table.specs.Stores.{building_of, free_room}
use Rattle.room_table.specs.Tables.{first_on, is_barred}
use Rattle.room_table.specs.declared.object.Object.{Object}
use Rattle.intent_book.specs.declared.intent.Intent.{Intent}
use Rattle.world_rules.specs.World.{Placed}
use Rattle.world_rules.specs.RoomParts.{RoomPart}

-- ---- lists of checks

-- whether it holds, and the code where it doesn't
abbrev pub Check : Type 0
Check = Bool × Code

-- of checks in their order, the code of the first that fails, and Done where none does
abbrev pub first_failing : List Check → Code
first_failing [] = Done
first_failing (check ∷ later) = if check.0 then first_failing later else check.1

-- All checks hold.
abbrev pub all_hold : List Check → Bool
all_hold [] = true
all_hold (check ∷ later) = check.0 && all_hold later

-- ---- what a check reads

-- The player who acts, what stands under the ids of the actor and of the target, and all that stands in the
-- room of the actor, by rising id. The amount is none where it is negative; the least is how much there has
-- to be. Then how many controllers the player owns, with those that his other creeps are to claim, and his
-- global level.
pub record Scene : Type 0 where
  pub player : ℕ
  pub actor : Option Placed
  pub target : Option Placed
  pub around : List Object
  pub amount : Option ℕ
  pub least : ℕ
  pub claims : ℕ
  pub level : ℕ

-- the least that an amount wants: at least 1, where an amount of 0 wants all
abbrev pub least_of : Option ℕ → ℕ
least_of amount = max 1 (unwrap_or amount 0)

-- The object is there, and this holds of it.
abbrev pub holds_of : Option Placed → (Object → Bool) → Bool
holds_of None test = false
holds_of (Some placed) test = test placed.object

-- ---- the checks of all actions of creeps

-- The actor is a creep, and the player's.
abbrev pub creep_checks : Scene → List Check
creep_checks scene =
    (holds_of scene.actor (λ object. is_creep object.kind), NotFound)
    ∷ (holds_of scene.actor (λ object. object.owner == scene.player), NotOwner)
    ∷ []

-- The amount of a move is the number of its direction.
abbrev pub is_amount_of : Action → ℕ → Bool
is_amount_of Move direction = nat_le 1 direction && nat_le direction 8
is_amount_of action amount = true

abbrev pub is_amount : Action → Option ℕ → Bool
is_amount action None = false
is_amount action (Some amount) = is_amount_of action amount

-- An amount is not negative, and a direction one of the eight.
abbrev pub amount_checks : Action → Scene → List Check
amount_checks action scene = (is_amount action scene.amount, InvalidArgs) ∷ []

-- The creep has a live part of the kind that the action needs.
abbrev pub part_checks : Option Part → Scene → List Check
part_checks None scene = []
part_checks (Some part) scene =
    (holds_of scene.actor (λ creep. nat_lt 0 (live_count part creep.hits creep.body)), NoBodypart) ∷ []

-- The creep itself may be its target.
abbrev pub reaches_itself : Action → Bool
reaches_itself Heal = true
reaches_itself RangedHeal = true
reaches_itself _ = false

-- The object may be the target of the action.
abbrev pub may_be_target : Action → Scene → Object → Bool
may_be_target action scene target =
    is_target action target.kind
    && (reaches_itself action || holds_of scene.actor (λ creep. not (creep.id == target.id)))

-- Two objects stand in one room, and at most so far from each other.
abbrev pub is_near : ℕ → Placed → Placed → Bool
is_near range one other =
    (one.room == other.room) && nat_le (distance one.object.x other.object.x) range
    && nat_le (distance one.object.y other.object.y) range

abbrev pub are_near : ℕ → Option Placed → Option Placed → Bool
are_near range (Some one) (Some other) = is_near range one other
are_near range _ _ = false

-- The target is an object that may be it, and is within the range, where the action has one.
abbrev pub target_checks : Option ℕ → Action → Scene → List Check
target_checks None action scene = []
target_checks (Some range) action scene =
    (holds_of scene.target (may_be_target action scene), InvalidTarget)
    ∷ (are_near range scene.actor scene.target, NotInRange)
    ∷ []

-- ---- the further checks of each action that is in force

-- the controller of the room of the actor
abbrev pub controller_around : Scene → Option Object
controller_around scene = controller_among scene.around

-- The object holds at least so much.
abbrev pub holds_least : ℕ → Option Placed → Check
holds_least least holder = (holds_of holder (λ object. nat_le least object.energy), NotEnoughResources)

-- It takes at least so much more.
abbrev pub takes_least : ℕ → Option Placed → Scene → Check
takes_least least taker scene =
    (holds_of taker (λ object. nat_le least (free_room (controller_around scene) object)), Full)

-- The tile of the target is not barred to the player.
abbrev pub is_reachable : Scene → Object → Bool
is_reachable scene target = not (is_barred target.x target.y scene.player scene.around)

-- A building of this kind obstructs.
abbrev pub would_obstruct : Option Kind → Bool
would_obstruct None = false
would_obstruct (Some kind) = obstructs kind

-- A creep stands where the building of a site would obstruct it.
abbrev pub is_in_the_way : List Object → Object → Bool
is_in_the_way around site = would_obstruct (building_of site) && is_some (first_on site.x site.y Creep around)

-- Nobody owns the controller, and no other player reserves it.
abbrev pub is_free_for : ℕ → Object → Bool
is_free_for player controller =
    (controller.owner == 0) && ((controller.other == 0) || (controller.other == player))

abbrev pub further_checks : Action → Scene → List Check
further_checks DropLoad scene = holds_least scene.least scene.actor ∷ []
further_checks Transfer scene =
    holds_least scene.least scene.actor ∷ takes_least scene.least scene.target scene ∷ []
further_checks Withdraw scene =
    (holds_of scene.target (is_reachable scene), NotOwner)
    ∷ holds_least scene.least scene.target ∷ takes_least scene.least scene.actor scene ∷ []
further_checks Pickup scene = takes_least 1 scene.actor scene ∷ []
further_checks Harvest scene =
    (not (is_anothers scene.player (controller_around scene)), NotOwner) ∷ holds_least 1 scene.target ∷ []
further_checks Repair scene = holds_least 1 scene.actor ∷ []
further_checks Build scene =
    (holds_of scene.target (λ site. site.owner == scene.player), NotOwner)
    ∷ holds_least 1 scene.actor
    ∷ (holds_of scene.target (λ site. not (is_in_the_way scene.around site)), InvalidTarget) ∷ []
further_checks ClaimController scene =
    (holds_of scene.target (is_free_for scene.player), InvalidTarget)
    ∷ (nat_lt scene.claims scene.level, GlobalLevelNotEnough) ∷ []
further_checks Upgrade scene =
    (holds_of scene.target (λ controller. controller.owner == scene.player), NotOwner)
    ∷ holds_least 1 scene.actor ∷ []
further_checks Reserve scene = (holds_of scene.target (is_free_for scene.player), InvalidTarget) ∷ []
further_checks AttackController scene =
    (holds_of scene.target (λ controller. is_anothers scene.player (Some controller)), InvalidTarget) ∷ []
further_checks Move scene = (holds_of scene.actor (λ creep. creep.extra == 0), Tired) ∷ []
further_checks _ scene = []

abbrev pub checks : Action → Scene → List Check
checks action scene =
    creep_checks scene ++ amount_checks action scene ++ part_checks (needed_part action) scene
    ++ target_checks (max_range action) action scene ++ further_checks action scene

-- ---- in a rule

-- the object of an id that stands in a room, by the room's part
abbrev pub standing_at : RoomPart → ℕ → Option Placed
standing_at part id =
    option_map (λ object. record { room = part.index; object = object }) (get part.objects id)

-- What a rule reads, with all that stands in the room: at least 1 has to be there, whatever the amount. It
-- looks at its room alone, so it counts no controllers.
abbrev pub scene_of : Intent → List Object → Option Placed → Option Placed → Scene
scene_of entry around actor target = record {
  player = entry.player;
  actor = actor;
  target = target;
  around = around;
  amount = Some entry.amount;
  least = 1;
  claims = 0;
  level = 1;
}

-- The rule of an action does something with an entry, where this stands in the room, and these are its actor
-- and its target: the checks hold, and the actor has hits.
abbrev pub takes_effect : Action → Intent → List Object → Option Placed → Option Placed → Bool
takes_effect action entry around actor target =
    all_hold (checks action (scene_of entry around actor target))
    && holds_of actor (λ creep. nat_lt 0 creep.hits)

abbrev pub may_take_effect : Action → Intent → RoomPart → Bool
may_take_effect action entry part =
    takes_effect action entry (values part.objects)
    (standing_at part entry.actor) (standing_at part entry.target)

-- ---- the creep of an entry, and its target

-- the creep of an entry, where the rule of the action does something with it
abbrev pub acting : Action → Intent → RoomPart → Option Object
acting action entry part =
    if may_take_effect action entry part then get part.objects entry.actor else None

-- two objects, where both are there
abbrev pub both_of : Option Object → Option Object → Option (Object × Object)
both_of (Some creep) (Some target) = Some (creep, target)
both_of _ _ = None

-- the creep and the target of an entry, where the rule of the action does something with it
abbrev pub parties : Action → Intent → RoomPart → Option (Object × Object)
parties action entry part =
    if may_take_effect action entry part
    then both_of (get part.objects entry.actor) (get part.objects entry.target) else None

-- a change by a creep and its target, where they are there
abbrev pub between : (Object → Object → RoomPart → RoomPart) → Option (Object × Object) → RoomPart → RoomPart
between change None part = part
between change (Some found) part = change found.0 found.1 part

-- what the rule of an action makes of a part, by what it makes of it with the creep and the target
abbrev pub by_parties : Action → (Object → Object → RoomPart → RoomPart) → Intent → RoomPart → RoomPart
by_parties action change entry part = between change (parties action entry part) part
