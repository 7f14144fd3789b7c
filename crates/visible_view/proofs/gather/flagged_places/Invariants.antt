use Rattle.std.proofs.Common.{◌≡◌, ◌≤◌, length, take}
use Rattle.std.specs.Prelude.{vec_len, vec_capacity}
use Rattle.visible_view.specs.inner.Places.{flagged_from}
use Rattle.visible_view.proofs.gather.flagged_places.Given as goal

abbrev pub invariant-loop-place : goal.invariant-loop-place
invariant-loop-place l = record {
  listed : l.places.items ≡ flagged_from l.flags 0 (take l.place l.all);
  few : vec_len l.places ≤ l.place;
  room : length l.all ≤ vec_capacity l.places;
}
