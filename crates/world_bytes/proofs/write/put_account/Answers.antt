use Rattle.std.proofs.Common.{arith, rules}
use Rattle.std.proofs.lemmas.Result.{on_ok_weaker}
use Rattle.world_bytes.proofs.Written.{account_is_written, extended, text_fits}
use Rattle.world_bytes.proofs.write.put_account.Goals as goal

pub returns-clause-written : goal.returns-clause-written
returns-clause-written c =
    on_ok_weaker c.extend_from_slice.result
    (account_is_written c.args.account.now c.args.out.now.items c.put_u32.new.out.items c.put_u32-2.new.out.items c.put_u32-3.new.out.items c.put_u64.new.out.items c.put_length.new.out.items c.extend_from_slice.new.self.items
    c.in_ok-put_u32.ensures.written c.in_ok-put_u32-2.ensures.written c.in_ok-put_u32-3.ensures.written c.in_ok-put_u64.ensures.written (rw c.len.ensures at c.in_ok-put_length.ensures.written))
    (extended c.extend_from_slice.result c.put_length.new.out.items c.extend_from_slice.new.self.items c.args.account.now.memory (rw c.as_slice.ensures at c.extend_from_slice.ensures.items))

pub returns-clause-fits : goal.returns-clause-fits
returns-clause-fits c =
    let account = c.args.account.now in
    on_ok_weaker c.extend_from_slice.result
    (λ written. record {
      player = search rules;
      limit = search rules;
      bucket = search rules;
      points = search rules;
      count = omega (arith, c.len.ensures, c.in_ok-put_length.ensures.fits);
      bytes = text_fits c.put_length.new.out.items account.memory c.extend_from_slice.new.self.items written (λ i within. omega (arith, c.type_inv.out i 0 within));
    })
    (extended c.extend_from_slice.result c.put_length.new.out.items c.extend_from_slice.new.self.items account.memory (rw c.as_slice.ensures at c.extend_from_slice.ensures.items))
