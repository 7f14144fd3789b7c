use Rattle.std.proofs.Common.{arith, rules}
use Rattle.std.proofs.lemmas.Result.{on_ok_weaker}
use Rattle.world_bytes.proofs.Written.{extended, text_fits}
use Rattle.tick_journal.proofs.Written.{upload_written}
use Rattle.tick_journal.proofs.parts.put_upload.Goals as goal

pub returns-clause-written : goal.returns-clause-written
returns-clause-written c =
    on_ok_weaker c.extend_from_slice.result
    (upload_written c.args.entry.now c.args.out.now.items c.put_u32.new.out.items c.push.new.self.items c.put_length.new.out.items c.extend_from_slice.new.self.items
    c.in_ok-put_u32.ensures.written c.in_ok-push.ensures.items (rw c.len.ensures at c.in_ok-put_length.ensures.written))
    (extended c.extend_from_slice.result c.put_length.new.out.items c.extend_from_slice.new.self.items c.args.entry.now.bytes (rw c.as_slice.ensures at c.extend_from_slice.ensures.items))

pub returns-clause-fits : goal.returns-clause-fits
returns-clause-fits c =
    let entry = c.args.entry.now in
    on_ok_weaker c.extend_from_slice.result
    (λ written. record {
      player = search rules;
      count = omega (arith, c.len.ensures, c.in_ok-put_length.ensures.fits);
      bytes = text_fits c.put_length.new.out.items entry.bytes c.extend_from_slice.new.self.items written (λ i within. omega (arith, c.type_inv.out i 0 within));
    })
    (extended c.extend_from_slice.result c.put_length.new.out.items c.extend_from_slice.new.self.items entry.bytes (rw c.as_slice.ensures at c.extend_from_slice.ensures.items))
