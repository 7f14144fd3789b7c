use Rattle.upload_stream.specs.Entries.{upload_of}
use Rattle.upload_stream.proofs.Entries.{none_by_order, none_from}
use Rattle.upload_stream.proofs.uploads.next_upload.Goals as goal
use Rattle.upload_stream.proofs.uploads.next_upload.Goals.{in_default-via-in-Ok+else-least-upload, in_default-via-in_default}

pub returns-in_default-clause-bad : goal.returns-in_default-clause-bad
returns-in_default-clause-bad c =
    elim c.in_default.branch [
      | in_default-via-in-Ok+else-least-upload w ↦ (cc, none_by_order c.args.least c.args.from.now.0 (upload_of w.in-Ok.upload) c.entry_ahead.new.from.0 w.if-least-upload.false w.in-Ok.ensures.found)
      | in_default-via-in_default w ↦ (cc, none_from c.args.least c.args.from.now.0 w.in_default.ensures.none)
    ]
