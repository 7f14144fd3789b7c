-- The text that is written for a world.
use Rattle.std.specs.Prelude.{◌≡◌, ℕ, ◌^◌, ◌<◌, ◌≤◌, List, [], length, map, codes}
use Rattle.std.specs.List.{AllByRecursion}
use Rattle.serde_json.specs.Data.{Data, number, unsigned, string, array, object, no_members, member}
use Rattle.serde_json.specs.View.{items_of}
use Rattle.serde_json.specs.Written.{compact_text}
use Rattle.game_tables.specs.Texts.{kind_text, part_text}
use Rattle.room_terrain.specs.Names.{name_text, IsInRange}
use Rattle.room_table.specs.declared.object.Object.{Object}
use Rattle.object_store.specs.declared.account.Account.{Account}
use Rattle.object_store.specs.declared.world.Room.{Room}
use Rattle.object_store.specs.Stored.{Stored}
use Rattle.room_table.specs.Tables.{IsOnTile}
use Rattle.game_tables.specs.Limits.{most_limit, most_bucket, most_points, most_memory}
use Rattle.world_rules.specs.Sound.{IsSound}
use Rattle.world_rules.specs.World.{listed_room, listing_of}
use Rattle.world_form.specs.Digits.{ground_digit, hex}
use Rattle.world_form.specs.Facts.{Filed}
use Rattle.world_rules.specs.Rules.{KeepsRules}

abbrev pub whole_data : ℕ → Data
whole_data n = number (unsigned n)

abbrev pub list_data : {A : Type 0} → (A → Data) → List A → Data
list_data data_of xs = array (items_of (map data_of xs))

-- an object with all of its keys, in rising order
unfoldable pub object_data : Object → Data
object_data o = object (
    member (codes "body") (list_data (λ part. string (part_text part)) o.body) (
    member (codes "energy") (whole_data o.energy) (
    member (codes "extra") (whole_data o.extra) (
    member (codes "hits") (whole_data o.hits) (
    member (codes "id") (whole_data o.id) (
    member (codes "kind") (string (kind_text o.kind)) (
    member (codes "other") (whole_data o.other) (
    member (codes "other_ticks") (whole_data o.other_ticks) (
    member (codes "owner") (whole_data o.owner) (
    member (codes "progress") (whole_data o.progress) (
    member (codes "timer") (whole_data o.timer) (
    member (codes "x") (whole_data o.x) (
    member (codes "y") (whole_data o.y) no_members)))))))))))))

-- a room with its objects in rising id
unfoldable pub room_data : Room → Data
room_data room = object (
    member (codes "name") (string (name_text room.name)) (
    member (codes "next") (whole_data room.table.next) (
    member (codes "objects") (list_data object_data room.table.objects) (
    member (codes "terrain") (string (map ground_digit room.terrain)) no_members))))

-- an account, without the token, which no world has
unfoldable pub account_data : Account → Data
account_data account = object (
    member (codes "bucket") (whole_data account.bucket) (
    member (codes "limit") (whole_data account.limit) (
    member (codes "memory") (string (hex account.memory)) (
    member (codes "player") (whole_data account.player) (
    member (codes "points") (whole_data account.points) no_members)))))

-- the whole world, in version 1
unfoldable pub world_data : Stored → Data
world_data world = object (
    member (codes "players") (list_data account_data world.accounts) (
    member (codes "rooms") (list_data room_data world.rooms) (
    member (codes "tick") (whole_data world.tick) (
    member (codes "version") (whole_data 1) no_members))))

-- the text of a world: compact JSON, with the keys in rising order
abbrev pub written : Stored → List ℕ
written world = compact_text (world_data world)

-- ---- the worlds whose text is read back

-- The name, the serial and the tiles are in a file's ranges.
pub record IsWritableRoom (room : Room) : Type 0 where
  pub name : IsInRange room.name
  pub next : 1 ≤ room.table.next
  pub below : room.table.next < 2 ^ 32
  pub objects : AllByRecursion IsOnTile room.table.objects

-- The account's numbers and its memory text are in a file's ranges.
pub record IsWritableAccount (account : Account) : Type 0 where
  pub player : 1 ≤ account.player
  pub below : account.player < 2 ^ 32
  pub limit : account.limit ≤ most_limit
  pub bucket : account.bucket ≤ most_bucket
  pub points : account.points ≤ most_points
  pub memory : length account.memory ≤ most_memory

-- It keeps all rules, each table's index is its room's place, and its numbers are in a file's ranges.
pub record IsWritable (world : Stored) : Type 0 where
  pub tick : world.tick ≤ 2 ^ 53
  pub rooms : AllByRecursion IsWritableRoom world.rooms
  pub accounts : AllByRecursion IsWritableAccount world.accounts
  pub sound : IsSound world
  pub rules : KeepsRules (listing_of world)

-- What the types hold of every stored world: each room has 2,500 grounds, and memory texts are bytes.
pub record IsOfTypes (world : Stored) : Type 0 where
  pub grounds : AllByRecursion (λ room. length room.terrain ≡ 2500) world.rooms
  pub bytes : AllByRecursion (λ account. AllByRecursion (λ byte. byte < 2 ^ 8) account.memory) world.accounts

-- what its text says: the world, and players without tokens
abbrev pub filed_of : Stored → Filed
filed_of world = record {
  tick = world.tick;
  rooms = map listed_room world.rooms;
  players = map (λ account. record { account = account; token = [] }) world.accounts;
}
