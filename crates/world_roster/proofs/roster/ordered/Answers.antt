use Rattle.std.proofs.Common.{ℕ, List, map, rules, subst}
use Rattle.std.specs.List.Sorted.{IsPermutation}
use Rattle.std.proofs.lemmas.List.Sorted.{IsNonDecreasingBy-from_sort_by_key, IsPermutation-map}
use Rattle.world_rules.specs.World.{Placed}
use Rattle.world_roster.specs.Rosters.{id_in, shown_entry}
use Rattle.world_roster.proofs.roster.ordered.Goals as goal

pub returns-clause-same : goal.returns-clause-same
returns-clause-same c =
    let all = c.in_ok-all.all.items in
    let sorted = c.sort_unstable_by_key.new.self.items in
    subst (λ (es : List (ℕ × Placed)). IsPermutation es (map shown_entry sorted)) c.in_ok-all.ensures (IsPermutation-map shown_entry all sorted c.sort_unstable_by_key.ensures.permutation)

pub returns-clause-order : goal.returns-clause-order
returns-clause-order c =
    IsNonDecreasingBy-from_sort_by_key id_in c.sort_unstable_by_key.new.self.items c.sort_unstable_by_key.ensures.sorted (λ a r q k. search rules)
