-- The status where the frames of a journal are not read.
use Rattle.world_journal.specs.declared.fault.RecoverFault.{RecoverFault}
use Rattle.world_journal.specs.declared.fault.RecoverFault.TheVariants as recover_faults
use Rattle.run_status.specs.declared.status.Status.{Status}
use Rattle.run_status.specs.declared.status.Status.TheVariants as statuses

abbrev pub status_unread : RecoverFault → Status
status_unread recover_faults.Empty = statuses.NoJournal
status_unread recover_faults.DiskFault = statuses.DiskFault
status_unread (recover_faults.NotAJournal at) = statuses.NotAJournal at
status_unread recover_faults.Memory = statuses.Memory
