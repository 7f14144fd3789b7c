use Rattle.std.proofs.Common.{◌≡◌, ◌<◌, ℕ, true}
use Rattle.std.specs.Prelude.{nat_eq}
use Rattle.std.specs.List.{AllByRecursion, IsDistinct}
use Rattle.changed_rules.specs.Counts.{is_among}
use Rattle.changed_rules.proofs.places.all_places.Given as goal

abbrev pub invariant-loop-place : goal.invariant-loop-place
invariant-loop-place l = record {
  all : (index : ℕ) → index < l.place → is_among index l.places.items ≡ true;
  within : AllByRecursion (λ place. place < l.place) l.places.items;
  once : IsDistinct nat_eq l.places.items;
}
