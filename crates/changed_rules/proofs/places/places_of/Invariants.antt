use Rattle.std.proofs.Common.{◌≡◌, ℕ, take}
use Rattle.std.specs.Prelude.{nat_eq}
use Rattle.std.specs.List.{IsDistinct}
use Rattle.std.specs.BTreeSet.{contains}
use Rattle.std.specs.Ordering.{nat_cmp}
use Rattle.changed_rules.specs.Census.{indices}
use Rattle.changed_rules.specs.Counts.{is_among}
use Rattle.changed_rules.proofs.places.places_of.Given as goal

abbrev pub invariant-loop-table : goal.invariant-loop-table
invariant-loop-table l = record {
  seen : (index : ℕ) → contains nat_cmp l.seen index ≡ is_among index l.places.items;
  same : (index : ℕ) → is_among index l.places.items ≡ is_among index (indices (take l.table-index l.tables));
  once : IsDistinct nat_eq l.places.items;
}
