use Rattle.std.proofs.Common.{◌≡◌, ◌++◌, take}
use Rattle.rule_check.specs.inner.Checks.{site_owners_of}
use Rattle.rule_check.proofs.counts.list_owners.Given as goal

abbrev pub invariant-loop-object : goal.invariant-loop-object
invariant-loop-object l = l.owners.items ≡ l.fn.owners.items ++ site_owners_of (take l.object-index l.objects)
