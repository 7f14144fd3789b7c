use Rattle.std.proofs.Common.{sym, subst, rules, IsPermutation, IsSortedByKey}
use Rattle.std.proofs.lemmas.List.Sorted.{answers_always}
use Rattle.intent_book.specs.Records.{place, place_cmp}
use Rattle.intent_book.proofs.entries.arranged.Goals as goal

pub returns-clause-same : goal.returns-clause-same
returns-clause-same c =
    let list = c.sort_unstable_by_key.new.self.items in
    rw c.of.ensures (subst (λ l. IsPermutation l list) c.pour.ensures.items c.sort_unstable_by_key.ensures.permutation)

pub returns-clause-sorted : goal.returns-clause-sorted
returns-clause-sorted c =
    subst (IsSortedByKey place place_cmp) (sym c.of.ensures) (c.sort_unstable_by_key.ensures.sorted place (answers_always _ _ _ (λ f a r g h. search rules)))
