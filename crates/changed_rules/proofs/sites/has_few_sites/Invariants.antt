use Rattle.std.proofs.Common.{◌≡◌, ℕ, ◌+◌, drop}
use Rattle.changed_rules.specs.declared.counted.Counted.TheVariants.{SiteOwners}
use Rattle.changed_rules.specs.Counts.{tallied, times}
use Rattle.changed_rules.specs.inner.Parts.{AreFew}
use Rattle.changed_rules.proofs.sites.has_few_sites.Given as goal

abbrev pub invariant-loop-room : goal.invariant-loop-room
invariant-loop-room l = record {
  few : AreFew SiteOwners l.owners;
  counts : (n : ℕ) → tallied l.owners n + times SiteOwners n (drop l.room-index l.rooms) ≡ times SiteOwners n l.rooms;
}
