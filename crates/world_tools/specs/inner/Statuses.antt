-- The status of a show where there is nothing to show.
use Rattle.world_journal.specs.declared.fault.AtFault.{AtFault}
use Rattle.world_journal.specs.declared.fault.AtFault.TheVariants as at_faults
use Rattle.run_status.specs.declared.status.Status.{Status}
use Rattle.run_status.specs.declared.status.Status.TheVariants as statuses

-- the status where the journal answers no world
abbrev pub status_of_at : AtFault → Status
status_of_at at_faults.NoJournal = statuses.NoJournal
status_of_at (at_faults.NoSuchTick first last) = statuses.NoSuchTick first last
status_of_at at_faults.DiskFault = statuses.DiskFault
status_of_at (at_faults.NotAJournal at) = statuses.NotAJournal at
status_of_at at_faults.Memory = statuses.Memory
