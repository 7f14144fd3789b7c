use Rattle.std.proofs.Common.{◌∙◌, ◌++◌, ◌∷◌, [], List, ℕ, ap, subst, sym, append_assoc}
use Rattle.std.specs.Cmp.{nat_cmp_total}
use Rattle.std.specs.List.Sorted.{IsStrictlySortedBy}
use Rattle.std.specs.Map.{keys_of}
use Rattle.std.specs.Ordering.{nat_cmp}
use Rattle.std.specs.FinMap.{empty, find, get-from_entries, insert}
use Rattle.std.proofs.lemmas.List.{append-nil}
use Rattle.hosted_tick.specs.Next.{Modules}
use Rattle.hosted_tick.proofs.Restored.{found_middle, inserted, inserted_more, inserted_sorted}
use Rattle.hosted_tick.proofs.restore.link_all.Goals as goal

pub each-preserved : goal.each-preserved
each-preserved c = record {
  kept = c.in_ok-add.ensures.kept ∙ (ap (λ (m : Modules). insert m c.in-Some.player c.in-Some.bytes) c.each.invariant.kept ∙ sym (inserted_more _ c.each.yielded c.in-Some.player c.in-Some.bytes));
  linked = c.in_ok-add.ensures.linked;
  all = c.each.invariant.all ∙ (ap (λ (l : List (ℕ × List ℕ)). c.each.yielded ++ l) c.in-Some.ensures.steps ∙ sym (append_assoc c.each.yielded ((c.in-Some.player, c.in-Some.bytes) ∷ []) c.next.new.self));
}

pub returns-clause-same : goal.returns-clause-same
returns-clause-same c =
    let all = c.each.invariant.all ∙ (ap (λ (l : List (ℕ × List ℕ)). c.each.yielded ++ l) c.in-None.ensures.steps.0 ∙ append-nil c.each.yielded) in
    c.each.invariant.kept ∙ (ap (inserted empty) (sym all) ∙ inserted_sorted c.args.modules.entries c.into_iter-player-iterator.ensures.into_iter_gives.5)

pub add-requires-clause-accepted : goal.add-requires-clause-accepted
add-requires-clause-accepted c =
    let all = c.each.invariant.all ∙ ap (λ (l : List (ℕ × List ℕ)). c.each.yielded ++ l) c.in-Some.ensures.steps in
    let sorted = subst (λ (es : List (ℕ × List ℕ)). IsStrictlySortedBy nat_cmp (keys_of es)) all c.into_iter-player-iterator.ensures.into_iter_gives.5 in
    c.requires.accepted c.in-Some.player c.in-Some.bytes
    (get-from_entries nat_cmp_total c.args.modules.entries c.in-Some.player ∙ ap (find nat_cmp c.in-Some.player) all ∙ found_middle c.each.yielded c.next.new.self c.in-Some.player c.in-Some.bytes sorted)
