-- Which fault a call of the disk or of a reading becomes.
use Rattle.frame_log.specs.declared.fault.AppendFault.{AppendFault as LogFault}
use Rattle.frame_log.specs.declared.fault.AppendFault.TheVariants as log_faults
use Rattle.frame_log.specs.declared.fault.ReadFault.{ReadFault}
use Rattle.frame_log.specs.declared.fault.ReadFault.TheVariants as read_faults
use Rattle.world_journal.specs.declared.fault.AppendFault.{AppendFault}
use Rattle.world_journal.specs.declared.fault.AppendFault.TheVariants as append_faults
use Rattle.world_journal.specs.declared.fault.AtFault.{AtFault}
use Rattle.world_journal.specs.declared.fault.AtFault.TheVariants as at_faults
use Rattle.world_journal.specs.declared.fault.RecoverFault.{RecoverFault}
use Rattle.world_journal.specs.declared.fault.RecoverFault.TheVariants as recover_faults

-- why nothing is recovered, where a frame can't be read
abbrev pub recover_fault : ReadFault → RecoverFault
recover_fault read_faults.DiskFault = recover_faults.DiskFault
recover_fault read_faults.Memory = recover_faults.Memory

-- why nothing is found, where a journal can't be read
abbrev pub at_fault : RecoverFault → AtFault
at_fault recover_faults.Empty = at_faults.NoJournal
at_fault recover_faults.DiskFault = at_faults.DiskFault
at_fault (recover_faults.NotAJournal gate) = at_faults.NotAJournal gate
at_fault recover_faults.Memory = at_faults.Memory

-- why nothing is added to a journal, where its log adds nothing
abbrev pub append_fault : LogFault → AppendFault
append_fault log_faults.DiskFault = append_faults.DiskFault
append_fault log_faults.Closed = append_faults.Closed
append_fault log_faults.Memory = append_faults.Memory
