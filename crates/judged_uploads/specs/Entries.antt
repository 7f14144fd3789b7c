-- An upload that was judged, as a journal has it.
use Rattle.tick_journal.specs.declared.entries.UploadEntry.{UploadEntry}
use Rattle.judged_uploads.specs.declared.judged.JudgedEntry.{JudgedEntry}

-- the entry that lends its bytes
abbrev pub entry_of : JudgedEntry → UploadEntry
entry_of lent = record { player = lent.player; result_number = lent.result_number; bytes = lent.bytes.now }
