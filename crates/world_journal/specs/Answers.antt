-- When the calls on a journal answer which fault, and what they leave of the disk.
use Rattle.std.specs.Prelude.{◌≡◌, ℕ, ◌≤◌, List, Option, IfSome, Result, OnOk}
use Rattle.frame_log.specs.Frames.{IsEmpty}
use Rattle.world_io.specs.Causes.{Rose}
use Rattle.world_io.specs.Disk.{Same}
use Rattle.world_io.specs.Moments.{Moment}
use Rattle.world_journal.specs.Faults.{FailsAt}
use Rattle.world_journal.specs.declared.fault.AtFault.{AtFault}
use Rattle.world_journal.specs.declared.fault.AtFault.TheVariants as at_faults
use Rattle.world_journal.specs.declared.fault.RecoverFault.{RecoverFault}
use Rattle.world_journal.specs.declared.fault.RecoverFault.TheVariants as recover_faults

-- Where the disk tells its bytes: they are empty, or fail at the place; and a fault of the disk is answered
-- only where its count rose.
abbrev pub IsRecoverFaultOf : Option (List ℕ) → ℕ → ℕ → RecoverFault → Type 0
IsRecoverFaultOf seen before now recover_faults.Empty = IfSome seen IsEmpty
IsRecoverFaultOf seen before now recover_faults.DiskFault = Rose before now
IsRecoverFaultOf seen before now (recover_faults.NotAJournal at) = IfSome seen (FailsAt at)
IsRecoverFaultOf seen before now recover_faults.Memory = Unit {0}

-- The same of a call that looks for a tick; what it asks of bytes in which there is none comes first.
abbrev pub IsFaultOf : (ℕ → ℕ → List ℕ → Type 0) → Option (List ℕ) → ℕ → ℕ → AtFault → Type 0
IsFaultOf HasNone seen before now at_faults.NoJournal = IfSome seen IsEmpty
IsFaultOf HasNone seen before now (at_faults.NoSuchTick first last) = IfSome seen (HasNone first last)
IsFaultOf HasNone seen before now at_faults.DiskFault = Rose before now
IsFaultOf HasNone seen before now (at_faults.NotAJournal at) = IfSome seen (FailsAt at)
IsFaultOf HasNone seen before now at_faults.Memory = Unit {0}

-- What the disk tells is as it was, and its count of failures where there is a value.
pub record OnlyReads {T E : Type 0} (seen seen_after : Option (List ℕ)) (moments moments_after : List Moment)
    (faults faults_after : ℕ) (result : Result T E) : Type 0 where
  pub same : Same seen seen_after
  pub crash : moments_after ≡ moments
  pub steady : OnOk result (faults_after ≡ faults)
  pub later : faults ≤ faults_after
