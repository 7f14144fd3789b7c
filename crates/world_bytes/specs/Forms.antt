-- The byte forms of objects, rooms, accounts and intents. Numbers are little endian, and each value has one
-- spelling.
use Rattle.std.specs.Prelude.{◌≡◌, ℕ, ◌≤◌, ◌<◌, ◌^◌, true, List, ◌∷◌, ◌++◌, map, length}
use Rattle.std.specs.List.{AllByRecursion, flat_map}
use Rattle.byteorder.specs.Endian.{little_bytes}
use Rattle.game_tables.specs.Actions.{action_number}
use Rattle.game_tables.specs.Bodies.{most_parts}
use Rattle.game_tables.specs.Kinds.{is_in_rules}
use Rattle.game_tables.specs.Limits.{most_memory}
use Rattle.game_tables.specs.Numbers.{kind_number, part_number}
use Rattle.intent_book.specs.declared.intent.Intent.{Intent}
use Rattle.object_store.specs.declared.account.Account.{Account}
use Rattle.room_table.specs.declared.object.Object.{Object}
use Rattle.room_table.specs.Tables.{IsOnTile, IsRising, Table, without_spare}

-- ---- the bytes

-- 52 bytes and one for each part
unfoldable pub object_bytes : Object → List ℕ
object_bytes object =
    little_bytes 8 object.id
    ++ kind_number object.kind ∷ object.x ∷ object.y
    ∷ little_bytes 4 object.owner
    ++ little_bytes 4 object.hits
    ++ little_bytes 8 object.energy
    ++ little_bytes 4 object.timer
    ++ little_bytes 4 object.extra
    ++ little_bytes 8 object.progress
    ++ little_bytes 4 object.other
    ++ little_bytes 4 object.other_ticks
    ++ length object.body ∷ map part_number object.body

-- a room's index, the serial of its next new object, and its objects in rising id, behind their number
unfoldable pub room_bytes : Table → List ℕ
room_bytes table =
    little_bytes 4 table.index
    ++ little_bytes 4 table.next
    ++ little_bytes 4 (length table.objects)
    ++ flat_map object_bytes table.objects

-- an account, with the memory text behind its length
unfoldable pub account_bytes : Account → List ℕ
account_bytes account =
    little_bytes 4 account.player
    ++ little_bytes 4 account.limit
    ++ little_bytes 4 account.bucket
    ++ little_bytes 8 account.points
    ++ little_bytes 4 (length account.memory)
    ++ account.memory

-- an intent, without its player: 26 bytes and one for each part
unfoldable pub intent_bytes : Intent → List ℕ
intent_bytes intent =
    action_number intent.action
    ∷ little_bytes 8 intent.actor
    ++ little_bytes 8 intent.target
    ++ little_bytes 8 intent.amount
    ++ length intent.body ∷ map part_number intent.body

-- ---- which values have a form

-- The kind has a number here, the tile is in the room, and the body has no more parts than one may have. The
-- numbers fit their fields.
pub record HasObjectForm (object : Object) : Type 0 where
  pub kind : is_in_rules object.kind 1 ≡ true
  pub tile : IsOnTile object
  pub parts : length object.body ≤ most_parts
  pub id : object.id < 2 ^ 64
  pub owner : object.owner < 2 ^ 32
  pub hits : object.hits < 2 ^ 32
  pub energy : object.energy < 2 ^ 64
  pub timer : object.timer < 2 ^ 32
  pub extra : object.extra < 2 ^ 32
  pub progress : object.progress < 2 ^ 64
  pub other : object.other < 2 ^ 32
  pub other_ticks : object.other_ticks < 2 ^ 32

-- The serial is not 0, the ids rise, and each object has its form. The numbers fit their fields.
pub record HasRoomForm (table : Table) : Type 0 where
  pub some : 1 ≤ table.next
  pub rising : IsRising table.objects
  pub objects : AllByRecursion HasObjectForm table.objects
  pub index : table.index < 2 ^ 32
  pub next : table.next < 2 ^ 32
  pub count : length table.objects < 2 ^ 32

-- The memory text is no longer than one may be. The numbers fit their fields.
pub record HasAccountForm (account : Account) : Type 0 where
  pub memory : length account.memory ≤ most_memory
  pub bytes : AllByRecursion (λ byte. byte < 2 ^ 8) account.memory
  pub player : account.player < 2 ^ 32
  pub limit : account.limit < 2 ^ 32
  pub bucket : account.bucket < 2 ^ 32
  pub points : account.points < 2 ^ 64

-- The body has no more parts than one may have. The numbers fit their fields.
pub record HasIntentForm (intent : Intent) : Type 0 where
  pub parts : length intent.body ≤ most_parts
  pub player : intent.player < 2 ^ 32
  pub actor : intent.actor < 2 ^ 64
  pub target : intent.target < 2 ^ 64
  pub amount : intent.amount < 2 ^ 64

-- ---- what bytes spell

-- The bytes are the form of this table, as it is read: without room for more objects.
abbrev pub SpellsRoom : List ℕ → Table → Type 0
SpellsRoom bytes table =
    HasRoomForm table × (table ≡ without_spare table) × (bytes ≡ room_bytes table)

-- The bytes are the form of this account.
abbrev pub SpellsAccount : List ℕ → Account → Type 0
SpellsAccount bytes account = HasAccountForm account × (bytes ≡ account_bytes account)

-- The bytes are the form of this intent of a player.
abbrev pub SpellsIntent : ℕ → List ℕ → Intent → Type 0
SpellsIntent player bytes intent =
    HasIntentForm intent × (intent.player ≡ player) × (bytes ≡ intent_bytes intent)
