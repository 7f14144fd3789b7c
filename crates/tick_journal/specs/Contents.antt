-- The contents of the journal's frames: the world that it begins with, and what is recorded of each tick.
-- Numbers are little endian.
use Rattle.std.specs.Prelude.{ℕ, ℤ, List, [], ◌∷◌, ◌++◌, map, length}
use Rattle.std.specs.List.{flat_map}
use Rattle.std.specs.Int.{w32, cast_unsigned}
use Rattle.byteorder.specs.Endian.{little_bytes}
use Rattle.room_terrain.specs.Tiles.{ground_number}
use Rattle.object_store.specs.declared.world.Room.{Room}
use Rattle.object_store.specs.Stored.{Stored}
use Rattle.intent_book.specs.declared.player_run.PlayerRun.{PlayerRun}
use Rattle.intent_book.specs.declared.player_run.RunOutcome.{RunOutcome}
use Rattle.intent_book.specs.declared.player_run.RunOutcome.TheVariants.{Finished, Trapped, Spent}
use Rattle.world_bytes.specs.Forms.{account_bytes, intent_bytes, room_bytes}
use Rattle.tick_journal.specs.declared.entries.RunEntry.{RunEntry}
use Rattle.tick_journal.specs.declared.entries.UploadEntry.{UploadEntry}
use Rattle.tick_journal.specs.declared.tick_record.TickRecord.{TickRecord}

-- ---- the base

-- SWSJ
abbrev pub magic : List ℕ
magic = 0x53 ∷ 0x57 ∷ 0x53 ∷ 0x4A ∷ []

-- a column or a row, by two's complement
abbrev pub signed_bytes : ℤ → List ℕ
signed_bytes n = little_bytes 4 (cast_unsigned w32 n)

-- a room: its name's column and row, a byte for each tile row by row, and its objects
unfoldable pub base_room : Room → List ℕ
base_room room =
    signed_bytes room.name.column ++ signed_bytes room.name.row ++ map ground_number room.terrain
    ++ room_bytes room.table

-- the world that a journal begins with, in version 1
unfoldable pub base_content : Stored → List ℕ
base_content world =
    magic
    ++ little_bytes 4 1
    ++ little_bytes 8 world.tick
    ++ little_bytes 4 (length world.rooms)
    ++ flat_map base_room world.rooms
    ++ little_bytes 4 (length world.accounts)
    ++ flat_map account_bytes world.accounts

-- ---- a tick

-- an upload: its player, the number of its result, and its bytes behind their number
unfoldable pub upload_bytes : UploadEntry → List ℕ
upload_bytes entry =
    little_bytes 4 entry.player ++ entry.result_number ∷ little_bytes 4 (length entry.bytes) ++ entry.bytes

-- how a run ended, and the number of its trap or 0
abbrev pub outcome_bytes : RunOutcome → List ℕ
outcome_bytes Finished = 0 ∷ 0 ∷ []
outcome_bytes (Trapped trap) = 1 ∷ trap ∷ []
outcome_bytes Spent = 2 ∷ 0 ∷ []

-- a run: its player, its outcome, the instructions that it used, and what it wants behind its number; the
-- memory text stands in the account
unfoldable pub run_bytes : RunEntry → List ℕ
run_bytes run =
    little_bytes 4 run.player
    ++ outcome_bytes run.outcome
    ++ little_bytes 8 run.used
    ++ little_bytes 4 (length run.intents)
    ++ flat_map intent_bytes run.intents

-- a tick: the byte T, then all that is recorded of it
unfoldable pub tick_content : TickRecord → List ℕ
tick_content entry =
    0x54
    ∷ little_bytes 8 entry.tick
    ++ little_bytes 4 (length entry.uploads)
    ++ flat_map upload_bytes entry.uploads
    ++ little_bytes 4 (length entry.runs)
    ++ flat_map run_bytes entry.runs
    ++ little_bytes 4 (length entry.accounts)
    ++ flat_map account_bytes entry.accounts
    ++ little_bytes 4 (length entry.rooms)
    ++ flat_map room_bytes entry.rooms

-- what is recorded of a run: all but its memory text
abbrev pub run_entry : PlayerRun → RunEntry
run_entry run =
    record { player = run.player; outcome = run.outcome; used = run.used; intents = run.intents }
