use Rattle.std.proofs.Common.{◌≤◌, ◌*◌, ◌^◌, take}
use Rattle.visible_view.specs.inner.Gathered.{IsGathered}
use Rattle.visible_view.proofs.gather.gather.Given as goal

abbrev pub invariant-loop-index : goal.invariant-loop-index
invariant-loop-index l = record {
  gathered : IsGathered l.player (take l.index l.rooms) l.gathered;
  few_sites : l.gathered.sites ≤ l.index * 2 ^ 32;
  few_controllers : l.gathered.controllers ≤ l.index * 2 ^ 32;
}
