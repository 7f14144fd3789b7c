use Rattle.std.proofs.lemmas.List.Sorted.{IsNonDecreasingBy-from_sort}
use Rattle.rule_check.proofs.Twice.{least_permuted}
use Rattle.rule_check.proofs.ids.least_repeated.Goals as goal

pub first_pair-requires : goal.first_pair-requires
first_pair-requires c = rw c.deref.ensures.value (IsNonDecreasingBy-from_sort (λ x. x) c.sort_unstable.new.self.items c.sort_unstable.ensures.sorted)

pub returns : goal.returns
returns c =
    least_permuted c.args.numbers.items c.sort_unstable.new.self.items c.first_pair.result c.sort_unstable.ensures.permutation
    (rw c.deref.ensures.value at c.first_pair.ensures)
