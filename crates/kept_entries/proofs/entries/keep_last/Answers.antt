use Rattle.std.proofs.Common.{◌≡◌, List, rules, subst, sym, IsSortedByKey, IsPermutation}
use Rattle.std.specs.List.{dedup}
use Rattle.std.specs.List.Sorted.{IsStableByKey, IsStrictlySortedBy}
use Rattle.std.proofs.lemmas.Fn.{dedup_same}
use Rattle.std.proofs.lemmas.Cmp.{on_total}
use Rattle.std.proofs.lemmas.List.Kept.{IsStrictlySortedBy-dedup}
use Rattle.std.proofs.lemmas.List.Sorted.{answers_always}
use Rattle.kept_entries.specs.declared.entries.Entry.{Entry}
use Rattle.kept_entries.specs.inner.Choosing.{key_cmp, entry_cmp}
use Rattle.kept_entries.proofs.Keys.{key_ties, total}
use Rattle.kept_entries.proofs.Standing.{intent_of, same_entry_key}
use Rattle.kept_entries.proofs.Steps.{entry_key, makes_last}
use Rattle.kept_entries.proofs.entries.keep_last.Goals as goal

pub returns : goal.returns
returns c =
    let old = c.args.entries.now.items in
    let turned = c.reverse.new.self.items in
    let sorted = c.sort_by_key.new.self.items in
    let left = c.dedup_by_key.new.self.items in
    let up : IsSortedByKey entry_key key_cmp sorted = c.in_ok-sort_by_key.ensures.sorted entry_key (answers_always _ _ _ (λ f a r g h. search rules)) in
    let stable : IsStableByKey entry_key key_cmp turned sorted = c.sort_by_key.ensures.stable entry_key (answers_always _ _ _ (λ f a r g h. search rules)) in
    let is : left ≡ dedup same_entry_key sorted = dedup_same _ same_entry_key _ (λ x y b f' x' y' k. search rules) sorted left c.dedup_by_key.ensures.filtered in
    let strict : IsStrictlySortedBy entry_cmp left = subst (IsStrictlySortedBy entry_cmp) (sym is) (IsStrictlySortedBy-dedup (on_total intent_of total) (λ x y. key_ties (entry_key x) (entry_key y)) sorted up) in
    record {
      last = makes_last old sorted left is strict
          (subst (λ (before : List Entry). IsPermutation before sorted) c.reverse.ensures.items c.sort_by_key.ensures.permutation)
          (subst (λ (before : List Entry). IsStableByKey entry_key key_cmp before sorted) c.reverse.ensures.items stable);
      order = strict;
    }
