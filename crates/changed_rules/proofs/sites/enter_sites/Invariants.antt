use Rattle.std.proofs.Common.{◌≡◌, ℕ, ◌+◌}
use Rattle.changed_rules.specs.declared.counted.Counted.TheVariants.{SiteOwners}
use Rattle.changed_rules.specs.Counts.{tallied, times_in}
use Rattle.changed_rules.specs.inner.Parts.{AreFew}
use Rattle.changed_rules.proofs.sites.enter_sites.Given as goal

abbrev pub invariant-loop-object : goal.invariant-loop-object
invariant-loop-object l = record {
  few : AreFew SiteOwners l.owners;
  counts : (n : ℕ) → tallied l.owners n + times_in SiteOwners n l.object-iterator ≡ tallied l.initial.owners n + times_in SiteOwners n l.fn.table.objects;
}
