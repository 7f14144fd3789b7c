-- What `show JOURNAL TICK` writes.
use Rattle.std.specs.Prelude.{◌≡◌, ℕ, List, ◌++◌, Option, IfSome, codes}
use Rattle.std.specs.Io.KnownBytes.{Appends}
use Rattle.frame_log.specs.Frames.{IsEmpty}
use Rattle.object_store.specs.Stored.{Stored}
use Rattle.record_follows.specs.Courses.{IsWorldAt}
use Rattle.tick_journal.specs.declared.tick_record.TickRecord.{TickRecord}
use Rattle.world_form.specs.Written.{written}
use Rattle.world_io.specs.Causes.{Rose}
use Rattle.world_io.specs.Told.{AppendsPrefix}
use Rattle.world_journal.specs.Faults.{FailsAt, HasNoWorld}
use Rattle.world_journal.specs.Journals.{IsCourse, IsJournal}
use Rattle.run_status.specs.declared.status.Status.{Status}
use Rattle.run_status.specs.declared.status.Status.TheVariants as statuses

-- Where the disk tells its bytes, they are a journal, and these bytes are the text of its world of the tick
-- and a line feed.
pub record IsShown (disk : Option (List ℕ)) (tick : ℕ) (bytes : List ℕ) : Type 0 where
  pub base : Stored
  pub entries : List TickRecord
  pub course : IsCourse base entries
  pub journal : IfSome disk (IsJournal base entries)
  pub world : Stored
  pub at_tick : IsWorldAt base entries tick world
  pub text : bytes ≡ written world ++ codes "\n"

-- ---- how a show ends, by its status

-- A command that keeps nothing can end so.
abbrev pub IsOfTool : Status → Type 0
IsOfTool statuses.Done = Unit {0}
IsOfTool statuses.Usage = Unit {0}
IsOfTool statuses.ReadFault = Unit {0}
IsOfTool statuses.WriteFault = Unit {0}
IsOfTool statuses.DiskFault = Unit {0}
IsOfTool (statuses.NotAJournal at) = Unit {0}
IsOfTool (statuses.IdsExhausted index) = Unit {0}
IsOfTool statuses.Memory = Unit {0}
IsOfTool (statuses.Refused refusal) = Unit {0}
IsOfTool (statuses.NoSuchTick first last) = Unit {0}
IsOfTool (statuses.Differs tick room at kept ruled) = Unit {0}
IsOfTool statuses.NoJournal = Unit {0}
IsOfTool status = ⊥

-- Of the tick that is asked for, of the disk's bytes, and of the count of its failures before and after:
module _ (tick : ℕ) (disk : Option (List ℕ)) (before now : ℕ) where
  -- There is no text, and this is why.
  abbrev pub IsNotShown : Status → Type 0
  -- Where the disk tells its bytes, nothing was ever recorded;
  IsNotShown statuses.NoJournal = IfSome disk IsEmpty
  -- or they are a journal with other ticks, from the first to the last;
  IsNotShown (statuses.NoSuchTick first last) = IfSome disk (HasNoWorld tick first last)
  -- or they are no journal: the frame behind the gate at the place is the first that fails.
  IsNotShown (statuses.NotAJournal at) = IfSome disk (FailsAt at)
  -- The disk failed.
  IsNotShown statuses.DiskFault = Rose before now
  -- Memory was wanted.
  IsNotShown statuses.Memory = Unit {0}
  IsNotShown status = ⊥

  -- Of what the sink was given before and after it:
  abbrev pub EndsShowing : Option (List ℕ) → Option (List ℕ) → Status → Type 0
  -- The text was written.
  EndsShowing old new statuses.Done = (bytes : List ℕ) × IsShown disk tick bytes × Appends old new bytes
  -- A prefix of it was written.
  EndsShowing old new statuses.WriteFault =
      (bytes : List ℕ) × IsShown disk tick bytes × AppendsPrefix old new bytes
  -- Else nothing was written.
  EndsShowing old new status = IsNotShown status × (new ≡ old)
