use Rattle.std.proofs.Common.{◌≡◌, ◌<◌, ◌^◌, ◌++◌, length, take}
use Rattle.std.specs.List.{AllByRecursion, flat_map}
use Rattle.byteorder.specs.Endian.{little_bytes}
use Rattle.tick_journal.specs.Contents.{upload_bytes}
use Rattle.tick_journal.specs.Numbers.{UploadFits}
use Rattle.tick_journal.proofs.parts.put_uploads.Given as goal

abbrev pub invariant-each : goal.invariant-each
invariant-each l = record {
  written : l.out.items ≡ l.fn.out.items ++ (little_bytes 4 (length l.uploads) ++ flat_map upload_bytes (take l.entry-index l.uploads));
  count : length l.uploads < 2 ^ 32;
  fits : AllByRecursion UploadFits (take l.entry-index l.uploads);
}
