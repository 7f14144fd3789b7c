-- What `replay JOURNAL` finds: whether the records of a journal are what the rules make.
use Rattle.std.specs.Prelude.{◌≡◌, ℕ, List, [], ◌∷◌, ◌++◌, length, map, take, slice_get, Option, Some, IfSome}
use Rattle.std.specs.Prelude.{codes, decimal}
use Rattle.std.specs.List.{flat_map}
use Rattle.std.specs.Io.KnownBytes.{Appends}
use Rattle.frame_log.specs.Frames.{IsEmpty}
use Rattle.intent_book.specs.declared.intent.Intent.{Intent}
use Rattle.object_store.specs.declared.world.Room.{Room}
use Rattle.object_store.specs.Stored.{Stored}
use Rattle.record_follows.specs.Courses.{world_after}
use Rattle.record_follows.specs.Follows.{after}
use Rattle.tick_journal.specs.declared.entries.RunEntry.{RunEntry}
use Rattle.tick_journal.specs.declared.tick_record.TickRecord.{TickRecord}
use Rattle.world_bytes.specs.Forms.{room_bytes}
use Rattle.world_io.specs.Causes.{Rose}
use Rattle.world_io.specs.Told.{AppendsPrefix}
use Rattle.world_journal.specs.Faults.{FailsAt}
use Rattle.world_journal.specs.Journals.{IsCourse, IsJournal}
use Rattle.world_rules.specs.Tick.{plain_world}
use Rattle.world_rules.specs.World.{World, world_of}
use Rattle.world_replay.specs.Listed.{listed}
use Rattle.world_replay.specs.Differing.{DifferAt}
use Rattle.world_replay.specs.Serials.{HasSerials, IsExhausted}
use Rattle.run_status.specs.declared.status.Status.{Status}
use Rattle.run_status.specs.declared.status.Status.TheVariants as statuses

-- ---- a record, and what the rules make

-- what all runs of a record want, in their order
abbrev pub wanted : TickRecord → List Intent
wanted entry = flat_map (λ (run : RunEntry). run.intents) entry.runs

-- the world that the rules make of the world before and of what is wanted
abbrev pub ruled_world : Stored → TickRecord → World
ruled_world before entry = plain_world (world_of before) (wanted entry)

-- the byte form of each room: its index, the serial of its next new object, and its objects
abbrev pub forms : List Room → List (List ℕ)
forms rooms = map (λ (room : Room). room_bytes room.table) rooms

-- the forms of the rooms after the record
abbrev pub recorded_forms : Stored → TickRecord → List (List ℕ)
recorded_forms before entry = forms (after before entry).rooms

-- the forms of the rooms that the rules make
abbrev pub ruled_forms : Stored → TickRecord → List (List ℕ)
ruled_forms before entry = forms (listed (ruled_world before entry)).rooms

-- All rooms after the record are those that the rules make.
abbrev pub AreRuled : Stored → TickRecord → Type 0
AreRuled before entry = recorded_forms before entry ≡ ruled_forms before entry

-- So it is after each record, and no room had used up its serials before it.
abbrev pub AllRuled : Stored → List TickRecord → Type 0
AllRuled before [] = Unit {0}
AllRuled before (entry ∷ later) =
    HasSerials (world_of before) × AreRuled before entry × AllRuled (after before entry) later

-- ---- the first record that is not ruled

-- The forms of this room are the first that differ: first at the place, where one has this byte and the other
-- that one, or none.
pub record DifferIn (room at : ℕ) (kept ruled : Option ℕ) (ones others : List (List ℕ)) : Type 0 where
  pub same : take room ones ≡ take room others
  pub one : List ℕ
  pub one_is : slice_get ones room ≡ Some one
  pub other : List ℕ
  pub other_is : slice_get others room ≡ Some other
  pub differ : DifferAt at kept ruled one other

-- The records before that of this tick are ruled. After it this is the first room that is not what the rules
-- make.
pub record DiffersAt (tick room at : ℕ) (kept ruled : Option ℕ) (base : Stored)
    (entries : List TickRecord) : Type 0 where
  pub earlier : List TickRecord
  pub entry : TickRecord
  pub later : List TickRecord
  pub ordered : entries ≡ earlier ++ entry ∷ later
  pub ruled_before : AllRuled base earlier
  pub tick_is : tick ≡ entry.tick
  pub serials : HasSerials (world_of (world_after base earlier))
  pub differ : DifferIn room at kept ruled
      (recorded_forms (world_after base earlier) entry) (ruled_forms (world_after base earlier) entry)

-- Some records are ruled. Before the next one this room is the first whose serials are used up.
pub record ExhaustedAt (index : ℕ) (base : Stored) (entries : List TickRecord) : Type 0 where
  pub earlier : List TickRecord
  pub entry : TickRecord
  pub later : List TickRecord
  pub ordered : entries ≡ earlier ++ entry ∷ later
  pub ruled_before : AllRuled base earlier
  pub exhausted : IsExhausted (world_of (world_after base earlier)) index

-- ---- how a replay ends, by its status

-- the line that is printed where so many records are ruled
abbrev pub replayed_line : ℕ → List ℕ
replayed_line count = codes "replayed " ++ decimal count ++ codes "\n"

-- Of the disk's bytes, and of the count of its failures before and after:
module _ (disk : Option (List ℕ)) (before now : ℕ) where
  -- Where the disk tells its bytes, they are a journal of a world and of records of which this is known.
  abbrev pub HasCourse : (Stored → List TickRecord → Type 0) → Type 0
  HasCourse Known = (base : Stored) × (entries : List TickRecord) × IsCourse base entries
      × IfSome disk (IsJournal base entries) × Known base entries

  -- All records of the journal, so many, are ruled.
  abbrev pub IsReplayed : ℕ → Type 0
  IsReplayed count = HasCourse (λ base entries. AllRuled base entries × (count ≡ length entries))

  -- Not all are, and this is why.
  abbrev pub IsNotReplayed : Status → Type 0
  -- A record is not what the rules make.
  IsNotReplayed (statuses.Differs tick room at kept ruled) = HasCourse (DiffersAt tick room at kept ruled)
  -- Before a record a room has used up its serials.
  IsNotReplayed (statuses.IdsExhausted index) = HasCourse (ExhaustedAt index)
  -- Where the disk tells its bytes, nothing was ever recorded;
  IsNotReplayed statuses.NoJournal = IfSome disk IsEmpty
  -- or they are no journal: the frame behind the gate at the place is the first that fails.
  IsNotReplayed (statuses.NotAJournal at) = IfSome disk (FailsAt at)
  -- The disk failed.
  IsNotReplayed statuses.DiskFault = Rose before now
  -- Memory was wanted.
  IsNotReplayed statuses.Memory = Unit {0}
  IsNotReplayed status = ⊥

  -- Of what the sink was given before and after it:
  abbrev pub EndsReplaying : Option (List ℕ) → Option (List ℕ) → Status → Type 0
  -- The line was written.
  EndsReplaying old new statuses.Done =
      (count : ℕ) × IsReplayed count × Appends old new (replayed_line count)
  -- A prefix of it was written.
  EndsReplaying old new statuses.WriteFault =
      (count : ℕ) × IsReplayed count × AppendsPrefix old new (replayed_line count)
  -- Else nothing was written.
  EndsReplaying old new status = IsNotReplayed status × (new ≡ old)
