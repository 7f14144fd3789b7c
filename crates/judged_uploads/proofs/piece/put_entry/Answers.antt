use Rattle.std.proofs.lemmas.Result.{on_ok_weaker}
use Rattle.world_bytes.proofs.Written.{extended}
use Rattle.tick_journal.proofs.Written.{upload_written}
use Rattle.judged_uploads.specs.Entries.{entry_of}
use Rattle.judged_uploads.proofs.piece.put_entry.Goals as goal

pub returns : goal.returns
returns c =
    on_ok_weaker c.extend_from_slice.result
    (upload_written (entry_of c.args.entry) c.args.out.now.items c.put_u32.new.out.items c.push.new.self.items c.put_length.new.out.items c.extend_from_slice.new.self.items
    c.in_ok-put_u32.ensures.written c.in_ok-push.ensures.items c.in_ok-put_length.ensures.written)
    (extended c.extend_from_slice.result c.put_length.new.out.items c.extend_from_slice.new.self.items c.args.entry.bytes.now c.extend_from_slice.ensures.items)
