use Rattle.std.proofs.Common.{length}
use Rattle.byteorder.specs.Endian.{little_bytes}
use Rattle.tick_journal.specs.Contents.{run_bytes}
use Rattle.tick_journal.proofs.Written.{list_none, list_whole}
use Rattle.tick_journal.proofs.parts.put_runs.Goals as goal

pub each-init : goal.each-init
each-init c = record {
  written =
      list_none c.args.out.now.items c.put_length.new.out.items (little_bytes 4 (length c.args.runs.now))
      c.in_ok-put_length.ensures.written;
  count = c.in_ok-put_length.ensures.fits;
  fits = tt;
}

pub returns-clause-written : goal.returns-clause-written
returns-clause-written c =
    list_whole run_bytes c.args.runs.now c.each.run-index c.args.out.now.items c.each.out.items c.each-test.false
    c.each.invariant.written
