use Rattle.std.proofs.Common.{◌≡◌, length, take}
use Rattle.std.specs.List.{filter}
use Rattle.counted_record.specs.inner.Planned.{is_apart, is_beside}
use Rattle.counted_record.proofs.counted.count_elsewhere.Given as goal

abbrev pub invariant-loop-site : goal.invariant-loop-site
invariant-loop-site l = record {
  in_all : l.found.in_all ≡ length (filter (is_apart l.tile) (take l.site-index l.planned));
  in_room : l.found.in_room ≡ length (filter (is_beside l.tile l.number) (take l.site-index l.planned));
}
