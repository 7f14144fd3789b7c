use Rattle.std.proofs.Common.{length}
use Rattle.byteorder.specs.Endian.{little_bytes}
use Rattle.tick_journal.specs.Contents.{upload_bytes}
use Rattle.tick_journal.specs.Numbers.{UploadFits}
use Rattle.tick_journal.proofs.Written.{fits_next, list_next, list_none, list_whole}
use Rattle.tick_journal.proofs.parts.put_uploads.Goals as goal

pub each-init : goal.each-init
each-init c = record {
  written =
      list_none c.args.out.now.items c.put_length.new.out.items (little_bytes 4 (length c.args.uploads.now))
      c.in_ok-put_length.ensures.written;
  count = c.in_ok-put_length.ensures.fits;
  fits = tt;
}

pub each-preserved : goal.each-preserved
each-preserved c = record {
  written =
      list_next upload_bytes c.args.uploads.now c.each.entry-index c.entry-item.result c.entry-item.result c.args.out.now.items
      c.each.out.items c.put_upload.new.out.items c.each-test.true c.entry-item.is c.each.invariant.written
      c.in_ok-put_upload.ensures.written;
  count = c.each.invariant.count;
  fits =
      fits_next UploadFits c.args.uploads.now c.each.entry-index c.entry-item.result c.entry-item.result c.each-test.true
      c.entry-item.is c.each.invariant.fits c.in_ok-put_upload.ensures.fits;
}

pub returns-clause-written : goal.returns-clause-written
returns-clause-written c =
    list_whole upload_bytes c.args.uploads.now c.each.entry-index c.args.out.now.items c.each.out.items c.each-test.false
    c.each.invariant.written
