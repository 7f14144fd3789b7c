use Rattle.std.proofs.Common.{drop}
use Rattle.std.specs.List.{AllByRecursion}
use Rattle.record_follows.specs.Follows.{IsAdmitted}
use Rattle.record_follows.proofs.fitting.are_admitted.Given as goal

abbrev pub invariant-loop-upload : goal.invariant-loop-upload
invariant-loop-upload l = record {
  left : AllByRecursion (IsAdmitted l.before) (drop l.upload-index l.uploads) → AllByRecursion (IsAdmitted l.before) l.uploads;
  whole : AllByRecursion (IsAdmitted l.before) l.uploads → AllByRecursion (IsAdmitted l.before) (drop l.upload-index l.uploads);
}
