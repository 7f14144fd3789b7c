-- Which records of ticks have a byte form, and what the bytes of a tick spell.
use Rattle.std.specs.Prelude.{◌≡◌, ℕ, ◌≤◌, ◌<◌, ◌^◌, List, [], ◌∷◌, map, length, IsSortedByKey}
use Rattle.std.specs.List.{AllByRecursion, IsDistinct}
use Rattle.intent_book.specs.Records.{AreOf, entries_bound, place, place_cmp, same_place}
use Rattle.intent_book.specs.Refusals.{refusal_number}
use Rattle.intent_book.specs.declared.intent.Intent.{Intent}
use Rattle.intent_book.specs.declared.player_run.RunOutcome.{RunOutcome}
use Rattle.intent_book.specs.declared.player_run.RunOutcome.TheVariants.{Finished, Trapped, Spent}
use Rattle.intent_book.specs.declared.refusal.Refusal.TheVariants as refusals
use Rattle.room_table.specs.Tables.{Table, without_spare}
use Rattle.world_bytes.specs.Forms.{HasIntentForm, HasRoomForm}
use Rattle.tick_journal.specs.Accounts.{HasAccountsForm}
use Rattle.tick_journal.specs.Contents.{tick_content}
use Rattle.tick_journal.specs.declared.entries.RunEntry.{RunEntry}
use Rattle.tick_journal.specs.declared.entries.UploadEntry.{UploadEntry}
use Rattle.tick_journal.specs.declared.tick_record.TickRecord.{TickRecord}

-- Each value's number is lower than those of all that stand behind it.
abbrev pub IsRisingBy : {V : Type 0} → (V → ℕ) → List V → Type 0
IsRisingBy number [] = Unit {0}
IsRisingBy number (value ∷ later) =
    AllByRecursion (λ other. number value < number other) later × IsRisingBy number later

-- ---- uploads

-- the most bytes of a module that are kept, 1 MiB
abbrev pub most_kept : ℕ
most_kept = 2 ^ 20

-- The number is 0, for a module that is accepted, or that of a refusal that lasts: want of memory and a wrong
-- token don't.
pub record IsLasting (number : ℕ) : Type 0 where
  pub most : number ≤ refusal_number refusals.Segment
  pub token : number ≡ refusal_number refusals.WrongToken → ⊥

-- The result lasts, and the module is no longer than one may be. The numbers fit their fields.
pub record HasUploadForm (entry : UploadEntry) : Type 0 where
  pub result : IsLasting entry.result_number
  pub most : length entry.bytes ≤ most_kept
  pub bytes : AllByRecursion (λ byte. byte < 2 ^ 8) entry.bytes
  pub player : entry.player < 2 ^ 32

-- ---- runs

-- A trap has one of the numbers 1 to 9.
abbrev pub IsOutcome : RunOutcome → Type 0
IsOutcome Finished = Unit {0}
IsOutcome (Trapped trap) = (1 ≤ trap) × (trap ≤ 9)
IsOutcome Spent = Unit {0}

-- The intents are the player's, no more than one may record, in canonical order, no two of one action and
-- actor. Each has its form.
pub record AreCanonicalOf (player : ℕ) (intents : List Intent) : Type 0 where
  pub own : AreOf player intents
  pub most : length intents ≤ entries_bound
  pub sorted : IsSortedByKey place place_cmp intents
  pub distinct : IsDistinct same_place intents
  pub forms : AllByRecursion HasIntentForm intents

-- The outcome is one, and the intents are a player's list. The numbers fit their fields.
pub record HasRunForm (run : RunEntry) : Type 0 where
  pub outcome : IsOutcome run.outcome
  pub intents : AreCanonicalOf run.player run.intents
  pub player : run.player < 2 ^ 32
  pub used : run.used < 2 ^ 64

-- ---- the record

-- Each upload, run, account and room has its form; runs and accounts stand in rising player, rooms in rising
-- index. The numbers fit their fields.
pub record HasTickForm (entry : TickRecord) : Type 0 where
  pub uploads : AllByRecursion HasUploadForm entry.uploads
  pub runs : AllByRecursion HasRunForm entry.runs
  pub runs_rising : IsRisingBy (λ (run : RunEntry). run.player) entry.runs
  pub accounts : HasAccountsForm entry.accounts
  pub rooms : AllByRecursion HasRoomForm entry.rooms
  pub rooms_rising : IsRisingBy (λ (room : Table). room.index) entry.rooms
  pub tick : entry.tick < 2 ^ 64
  pub uploads_count : length entry.uploads < 2 ^ 32
  pub runs_count : length entry.runs < 2 ^ 32
  pub rooms_count : length entry.rooms < 2 ^ 32

-- ---- what bytes spell

-- the record as it is read: its tables without room for more objects, and without what was done to objects
abbrev pub tick_as_read : TickRecord → TickRecord
tick_as_read entry = record entry { rooms = map without_spare entry.rooms }

-- The bytes are the content of this record, as it is read.
abbrev pub SpellsTick : List ℕ → TickRecord → Type 0
SpellsTick bytes entry = HasTickForm entry × (entry ≡ tick_as_read entry) × (bytes ≡ tick_content entry)
