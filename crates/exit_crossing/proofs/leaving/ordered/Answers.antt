use Rattle.std.proofs.Common.{List, rules, subst}
use Rattle.std.specs.List.Sorted.{IsPermutation}
use Rattle.std.proofs.lemmas.List.Sorted.{IsNonDecreasingBy-from_sort_by_key}
use Rattle.exit_crossing.specs.declared.leaving.Crosser.{Crosser}
use Rattle.exit_crossing.specs.inner.Leaving.{id_of}
use Rattle.exit_crossing.proofs.leaving.ordered.Goals as goal

pub returns-clause-same : goal.returns-clause-same
returns-clause-same c =
    subst (λ (cs : List Crosser). IsPermutation cs c.sort_unstable_by_key.new.self.items) c.in_ok-all.ensures.list c.sort_unstable_by_key.ensures.permutation

pub returns-clause-order : goal.returns-clause-order
returns-clause-order c =
    IsNonDecreasingBy-from_sort_by_key id_of c.sort_unstable_by_key.new.self.items c.sort_unstable_by_key.ensures.sorted (λ a r q k. search rules)
