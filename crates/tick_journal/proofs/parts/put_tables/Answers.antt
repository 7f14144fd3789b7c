use Rattle.std.proofs.Common.{length}
use Rattle.byteorder.specs.Endian.{little_bytes}
use Rattle.world_bytes.specs.Forms.{room_bytes}
use Rattle.tick_journal.proofs.Written.{list_none, list_whole}
use Rattle.tick_journal.proofs.parts.put_tables.Goals as goal

pub each-init : goal.each-init
each-init c = record {
  written =
      list_none c.args.out.now.items c.put_length.new.out.items (little_bytes 4 (length c.args.tables.now))
      c.in_ok-put_length.ensures.written;
  count = c.in_ok-put_length.ensures.fits;
  fits = tt;
}

pub returns-clause-written : goal.returns-clause-written
returns-clause-written c =
    list_whole room_bytes c.args.tables.now c.each.table-index c.args.out.now.items c.each.out.items c.each-test.false
    c.each.invariant.written
