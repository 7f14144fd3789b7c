-- What a world file says: one fact for each key of each part, as the table of keys has them.
use Rattle.std.specs.Prelude.{◌≡◌, ℕ, ◌-◌, ◌^◌, ◌≤◌, ◌<◌, ◌⊎◌, true, List, [], ◌∷◌, map, length, Some, None}
use Rattle.std.specs.List.{AllByRecursion}
use Rattle.serde_json.specs.Data.{Data, number, unsigned, string, array, Items, no_items, item}
use Rattle.serde_json.specs.Find.{get}
use Rattle.serde_json.specs.View.{items_of}
use Rattle.game_tables.specs.declared.kind.Kind.{Kind}
use Rattle.game_tables.specs.declared.kind.Part.{Part}
use Rattle.game_tables.specs.Bodies.{most_parts}
use Rattle.game_tables.specs.Kinds.{hits_max, is_in_rules}
use Rattle.game_tables.specs.Limits.{most_limit, most_bucket, most_points, most_memory}
use Rattle.game_tables.specs.Texts.{kind_text, part_text}
use Rattle.room_terrain.specs.declared.name.RoomName.{RoomName}
use Rattle.room_terrain.specs.declared.terrain.Ground.{Ground}
use Rattle.room_terrain.specs.Names.{Names}
use Rattle.room_table.specs.declared.object.Object.{Object}
use Rattle.object_store.specs.declared.account.Account.{Account}
use Rattle.world_rules.specs.World.{ListedRoom, Listing}
use Rattle.world_form.specs.declared.field.Field.{Field}
use Rattle.world_form.specs.declared.field.Field.TheVariants as fields
use Rattle.world_form.specs.Keys.{key}
use Rattle.world_form.specs.Digits.{ground_digit, hex}

-- ---- the forms of values

-- a whole number, not negative, in a range
abbrev pub IsWhole : ℕ → ℕ → Data → ℕ → Type 0
IsWhole low high value n = (value ≡ number (unsigned n)) × (low ≤ n) × (n ≤ high)

-- one that fits 32 bits
abbrev pub IsWhole32 : Data → ℕ → Type 0
IsWhole32 value n = IsWhole 0 (2 ^ 32 - 1) value n

-- one up to 2^53
abbrev pub IsWhole53 : Data → ℕ → Type 0
IsWhole53 value n = IsWhole 0 (2 ^ 53) value n

-- a list
abbrev pub IsList : Data → Items → Type 0
IsList value values = value ≡ array values

-- the text of a kind
abbrev pub IsKindText : Data → Kind → Type 0
IsKindText value kind = value ≡ string (kind_text kind)

-- a list of part texts, no more than a body may have
abbrev pub IsBodyList : Data → List Part → Type 0
IsBodyList value parts =
    (value ≡ array (items_of (map (λ part. string (part_text part)) parts))) × (length parts ≤ most_parts)

-- the name of a room: W or E, a number, N or S, a number
abbrev pub IsNameText : Data → RoomName → Type 0
IsNameText value name = (text : List ℕ) × (value ≡ string text) × Names text name

-- a text of 2,500 digits, row by row
abbrev pub IsTerrainText : Data → List Ground → Type 0
IsTerrainText value grounds = (value ≡ string (map ground_digit grounds)) × (length grounds ≡ 2500)

-- a text of at most 64 bytes, each from '!' to '~'
abbrev pub IsTokenText : Data → List ℕ → Type 0
IsTokenText value token =
    (value ≡ string token) × (length token ≤ 64) × AllByRecursion (λ byte. (33 ≤ byte) × (byte ≤ 126)) token

-- bytes in lower case hexadecimal, no more than a memory text may have
abbrev pub IsMemoryText : Data → List ℕ → Type 0
IsMemoryText value bytes =
    (value ≡ string (hex bytes)) × (length bytes ≤ most_memory) × AllByRecursion (λ byte. byte < 2 ^ 8) bytes

-- ---- keys

-- The key is there, and its value says this.
abbrev pub Requires : {A : Type 0} → Field → (Data → A → Type 0) → Data → A → Type 0
Requires field Form part said = (value : Data) × (get (key field) part ≡ Some value) × Form value said

-- The key is there, and its value says this, or it is absent, and this is the default.
abbrev pub Defaults : {A : Type 0} → Field → (Data → A → Type 0) → A → Data → A → Type 0
Defaults field Form default part said =
    Requires field Form part said ⊎ ((get (key field) part ≡ None) × (said ≡ default))

-- ---- objects

-- A part of the file says this object.
pub record SaysObject (part : Data) (object : Object) : Type 0 where
  pub id : Requires fields.Id (IsWhole 1 (2 ^ 53)) part object.id
  pub kind : Requires fields.Kind IsKindText part object.kind
  pub in_rules : is_in_rules object.kind 1 ≡ true
  pub x : Requires fields.X (IsWhole 0 49) part object.x
  pub y : Requires fields.Y (IsWhole 0 49) part object.y
  pub owner : Defaults fields.Owner IsWhole32 0 part object.owner
  pub body : Defaults fields.Body IsBodyList [] part object.body
  pub hits : Defaults fields.Hits IsWhole32 (hits_max object.kind object.body) part object.hits
  pub energy : Defaults fields.Energy IsWhole53 0 part object.energy
  pub timer : Defaults fields.Timer IsWhole32 0 part object.timer
  pub extra : Defaults fields.Extra IsWhole32 0 part object.extra
  pub progress : Defaults fields.Progress IsWhole53 0 part object.progress
  pub other : Defaults fields.Other IsWhole32 0 part object.other
  pub other_ticks : Defaults fields.OtherTicks IsWhole32 0 part object.other_ticks

-- The values of a list say these, one each.
abbrev pub SayEach : {A : Type 0} → (Data → A → Type 0) → Items → List A → Type 0
SayEach Says no_items [] = Unit {0}
SayEach Says no_items (said ∷ rest) = ⊥
SayEach Says (item value values) [] = ⊥
SayEach Says (item value values) (said ∷ rest) = Says value said × SayEach Says values rest

-- The value is a list that says these.
abbrev pub IsListOf : {A : Type 0} → (Data → A → Type 0) → Data → List A → Type 0
IsListOf Says value list = (values : Items) × IsList value values × SayEach Says values list

-- ---- rooms

-- A part of the file says this room.
pub record SaysRoom (part : Data) (room : ListedRoom) : Type 0 where
  pub name : Requires fields.Name IsNameText part room.frame.name
  pub terrain : Requires fields.Terrain IsTerrainText part room.frame.grounds
  pub next : Requires fields.Next (IsWhole 1 (2 ^ 32 - 1)) part room.frame.next
  pub objects : Requires fields.Objects (IsListOf SaysObject) part room.objects

-- ---- players

-- a player as a file lists him: his account, and the token with which he uploads
pub record Player : Type 0 where
  pub account : Account
  pub token : List ℕ

-- A part of the file says this player.
pub record SaysPlayer (part : Data) (player : Player) : Type 0 where
  pub number : Requires fields.Player (IsWhole 1 (2 ^ 32 - 1)) part player.account.player
  pub token : Defaults fields.Token IsTokenText [] part player.token
  pub limit : Requires fields.Limit (IsWhole 0 most_limit) part player.account.limit
  pub bucket : Defaults fields.Bucket (IsWhole 0 most_bucket) 0 part player.account.bucket
  pub points : Defaults fields.Points (IsWhole 0 most_points) 0 part player.account.points
  pub memory : Defaults fields.Memory IsMemoryText [] part player.account.memory

-- ---- the whole file

-- a world with its players, in the order of the file
pub record Filed : Type 0 where
  pub tick : ℕ
  pub rooms : List ListedRoom
  pub players : List Player

-- The file's value says this.
pub record SaysWorld (part : Data) (filed : Filed) : Type 0 where
  pub version : Requires fields.Version (IsWhole 1 1) part 1
  pub tick : Requires fields.Tick IsWhole53 part filed.tick
  pub rooms : Requires fields.Rooms (IsListOf SaysRoom) part filed.rooms
  pub players : Defaults fields.Players (IsListOf SaysPlayer) [] part filed.players

-- the world that it lists
abbrev pub filed_listing : Filed → Listing
filed_listing filed =
    record {
      rules = 1;
      tick = filed.tick;
      rooms = filed.rooms;
      accounts = map (λ player. player.account) filed.players;
    }
