-- What the single tests look at. For private clauses.
use Rattle.std.specs.Prelude.{◌≡◌, ◌≢◌, ℕ, ◌<◌, ◌≤◌, ◌/◌, ◌%◌, ◌^◌, ◌⊎◌, true, false, List, Option, Some}
use Rattle.std.specs.Prelude.{None, length, map, slice_get, min, sum_by}
use Rattle.std.specs.List.{flat_map, filter}
use Rattle.game_tables.specs.declared.kind.Kind.{Kind}
use Rattle.game_tables.specs.Kinds.{is_site_kind, build_total, is_controller, is_site, may_have_owner}
use Rattle.game_tables.specs.Limits.{most_rooms, most_objects, most_players}
use Rattle.game_tables.specs.Numbers.{kind_number}
use Rattle.room_terrain.specs.declared.name.RoomName.{RoomName}
use Rattle.room_table.specs.declared.object.Object.{Object}
use Rattle.object_store.specs.declared.account.Account.{Account}
use Rattle.world_rules.specs.Rules.{IsFrom1To, IsProgress, Broken, rule_place}
use Rattle.world_rules.specs.World.{Listing}
use Rattle.world_rules.specs.declared.rule.Rule.{Rule}
use Rattle.world_rules.specs.declared.rule.Rule.TheVariants.{IdTwice}
use Rattle.rule_check.specs.declared.view.RoomView.{RoomView}

-- The least number that is so, or nothing where none is.
abbrev pub IsLeast : (ℕ → Type 0) → Option ℕ → Type 0
IsLeast so None = (n : ℕ) → so n → ⊥
IsLeast so (Some n) = so n × ((m : ℕ) → m < n → so m → ⊥)

-- the lesser of two numbers, or the one that is there
abbrev pub lesser_of : Option ℕ → Option ℕ → Option ℕ
lesser_of None other = other
lesser_of (Some one) None = Some one
lesser_of (Some one) (Some other) = Some (min one other)

-- The room of this index is so.
pub record RoomAt (so : ℕ → RoomView → Type 0) (rooms : List RoomView) (index : ℕ) : Type 0 where
  pub room : RoomView
  pub place : slice_get rooms index ≡ Some room
  pub is : so index room

-- One of these is so at this number.
pub record AnyOf {A : Type 0} (so : A → ℕ → Type 0) (xs : List A) (n : ℕ) : Type 0 where
  pub index : ℕ
  pub one : A
  pub place : slice_get xs index ≡ Some one
  pub is : so one n

-- One of the objects has this id and is so.
pub record AnyObject (so : Object → Type 0) (objects : List Object) (n : ℕ) : Type 0 where
  pub index : ℕ
  pub object : Object
  pub place : slice_get objects index ≡ Some object
  pub id : object.id ≡ n
  pub is : so object

-- ---- single rules, in terms of the rooms and accounts

-- There is a room, and there are no more rooms, objects and players than may be.
abbrev pub AreWithinCounts : List RoomView → List Account → Type 0
AreWithinCounts rooms accounts =
    (1 ≤ length rooms) × (length rooms ≤ most_rooms) × (length accounts ≤ most_players)
    × (sum_by (λ room. length room.objects.now) rooms ≤ most_objects)

-- A room of a lesser index has this name.
pub record HasNameBefore (rooms : List RoomView) (index : ℕ) (name : RoomName) : Type 0 where
  pub earlier : ℕ
  pub room : RoomView
  pub before : earlier < index
  pub place : slice_get rooms earlier ≡ Some room
  pub named : room.name ≡ name

-- The id's room part is no room of these, or its serial is 0 or was not given yet.
abbrev pub IsUnborn : List RoomView → ℕ → Type 0
IsUnborn rooms id =
    ((room : RoomView) → slice_get rooms (id / 2 ^ 32) ≡ Some room → room.next ≤ id % 2 ^ 32)
    ⊎ (id % 2 ^ 32 ≡ 0)

-- the ids of all objects, room by room
abbrev pub ids_in : List RoomView → List ℕ
ids_in rooms = flat_map (λ room. map (λ object. object.id) room.objects.now) rooms

-- One of the accounts is this player's.
pub record IsListed (accounts : List Account) (player : ℕ) : Type 0 where
  pub index : ℕ
  pub account : Account
  pub place : slice_get accounts index ≡ Some account
  pub is : account.player ≡ player

-- An owner or reserver is not listed, or the kind may not have one.
abbrev pub HasWrongHolder : List Account → Object → Type 0
HasWrongHolder accounts object =
    ((object.owner ≢ 0) × ((IsListed accounts object.owner → ⊥) ⊎ (may_have_owner object.kind ≡ false)))
    ⊎ ((object.other ≢ 0) × ((IsListed accounts object.other → ⊥) ⊎ (is_controller object.kind ≡ false)))

-- the owners of the sites among these objects, and of those of all rooms
abbrev pub site_owners_of : List Object → List ℕ
site_owners_of objects = map (λ object. object.owner) (filter (λ object. is_site object.kind) objects)

abbrev pub owners_in : List RoomView → List ℕ
owners_in rooms = flat_map (λ room. site_owners_of room.objects.now) rooms

-- ---- parts of the ranges

-- The fields that most kinds don't use are 0.
pub record IsPlain (object : Object) : Type 0 where
  pub extra : object.extra ≡ 0
  pub progress : object.progress ≡ 0
  pub other : object.other ≡ 0
  pub other_ticks : object.other_ticks ≡ 0

-- Nobody reserves it, or it is at level 0 and reserved for some of these ticks.
pub record IsReservedFor (most : ℕ) (object : Object) : Type 0 where
  pub level : object.other ≢ 0 → object.extra ≡ 0
  pub unreserved : object.other ≡ 0 → object.other_ticks ≡ 0
  pub reserved : object.other ≢ 0 → IsFrom1To most object.other_ticks

-- The number is that of a kind that sites are for, and the progress is below its work.
abbrev pub IsBuilt : ℕ → ℕ → Type 0
IsBuilt number progress =
    (kind : Kind) × (is_site_kind kind 1 ≡ true) × (number ≡ kind_number kind)
    × IsProgress (build_total kind) progress

-- ---- the order of the rules

-- No rule of a lesser place is broken.
abbrev pub KeptBelow : ℕ → Listing → Type 0
KeptBelow place listing = (rule : Rule) (n : ℕ) → rule_place rule < place → Broken rule n listing → ⊥

-- Where the rule is tested after the one of ids, no id is there twice.
abbrev pub IsPastIds : Rule → Listing → Type 0
IsPastIds rule listing = 5 < rule_place rule → (n : ℕ) → Broken IdTwice n listing → ⊥
