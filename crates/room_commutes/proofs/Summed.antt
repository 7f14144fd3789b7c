-- Sums do not depend on the order.
use Rattle.std.proofs.Common.{◌≡◌, ℕ, ◌+◌, ◌==◌, if◌then◌else◌, min, List, [], ◌∷◌, refl, sym, ap, ◌∙◌, IsPermutation}
use Rattle.std.specs.List.{flat_map, sum_by}
use Rattle.std.proofs.lemmas.List.Sums.{sum_by-cons, sum_by-append}
use Rattle.std.proofs.lemmas.List.Sorted.{sum_by-IsPermutation}
use Rattle.world_rules.specs.RuleBook.{Harm}
use Rattle.room_table.specs.Tallies.{most_sum}
use Rattle.world_rules.specs.Tick.{total_for, sums_of}

module _ (part : Harm → List (ℕ × ℕ)) (id : ℕ) where
  abbrev of_harm : Harm → ℕ
  of_harm harm = total_for (part harm) id

  by_harm : (harms : List Harm) → total_for (flat_map part harms) id ≡ sum_by of_harm harms
  by_harm [] = refl
  by_harm (harm ∷ harms) =
      sum_by-append (λ (entry : ℕ × ℕ). if entry.0 == id then entry.1 else 0) (part harm) (flat_map part harms)
      ∙ ap (λ n. of_harm harm + n) (by_harm harms)
      ∙ sym (sum_by-cons of_harm harm harms)

  total_same : (one other : List Harm) → IsPermutation one other → total_for (flat_map part one) id ≡ total_for (flat_map part other) id
  total_same one other same = by_harm one ∙ sym (sum_by-IsPermutation of_harm one other same) ∙ sym (by_harm other)

pub sums_same : (one other : List Harm) → IsPermutation one other → sums_of one ≡ sums_of other
sums_same one other same = λ i. record {
  damage = λ id. min most_sum (total_same (λ harm. harm.damage) id one other same i);
  healing = λ id. min most_sum (total_same (λ harm. harm.healing) id one other same i);
}
