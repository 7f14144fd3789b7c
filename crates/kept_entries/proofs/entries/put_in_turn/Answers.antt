use Rattle.std.proofs.Common.{rules, IsSortedByKey}
use Rattle.std.specs.Ordering.{nat_cmp}
use Rattle.std.specs.List.Sorted.{IsStableByKey}
use Rattle.std.proofs.lemmas.List.Sorted.{answers_always}
use Rattle.kept_entries.proofs.Steps.{entry_number, makes_by_action}
use Rattle.kept_entries.proofs.entries.put_in_turn.Goals as goal

pub returns : goal.returns
returns c =
    let old = c.args.entries.now.items in
    let sorted = c.sort_by_key.new.self.items in
    let up : IsSortedByKey entry_number nat_cmp sorted = c.in_ok-sort_by_key.ensures.sorted entry_number (answers_always _ _ _ (λ f a r g h. search rules)) in
    let stable : IsStableByKey entry_number nat_cmp old sorted = c.sort_by_key.ensures.stable entry_number (answers_always _ _ _ (λ f a r g h. search rules)) in
    makes_by_action old sorted c.sort_by_key.ensures.permutation up stable
