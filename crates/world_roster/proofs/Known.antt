-- Objects in rising id are those of the world.
use Rattle.std.proofs.Common.{Less, ◌≡◌, ℕ, ◌+◌, ◌<◌, ◌≤◌, ◌==◌, Bool, true, false, cond, T, List, [], ◌∷◌, map, Some, option_map, refl, sym, ap, subst, ◌∙◌}
use Rattle.std.specs.List as lists
use Rattle.std.specs.List.{AllByRecursion, count_by}
use Rattle.std.specs.List.Sorted.{IsPermutation, IsNonDecreasingBy}
use Rattle.std.specs.Ordering.{nat_cmp, eq_by_cmp, is_lt}
use Rattle.std.specs.Cmp.{nat_cmp_is, nat_cmp_total, unsigned_tied}
use Rattle.std.specs.FinMap.{find, from_entries, entries, get-from_entries, is_sorted, same_map, nat_cmp-IsAntisymmetric}
use Rattle.std.specs.FinMap.Entries.{below_all}
use Rattle.std.proofs.lemmas.Bool.{eq-eqb, eqb-true, eqb-false, ne_eqb}
use Rattle.std.proofs.lemmas.List.Sums.{sum_by-cons}
use Rattle.std.proofs.lemmas.List.Sorted.{sum_by-IsPermutation}
use Rattle.room_table.specs.declared.standing.Standing.{Standing}
use Rattle.object_store.specs.Stored.{Stored}
use Rattle.room_table.proofs.Rising.{Rises}
use Rattle.room_table.proofs.Moved.{find_moved, strictly}
use Rattle.world_rules.specs.World.{Objects, Placed, shown, world_of}
use Rattle.world_rules.specs.Sound.{IsSound}
use Rattle.world_rules.proofs.Entries.{Entries, times}
use Rattle.world_rules.proofs.Keys.{joined, entries_of_sorted}
use Rattle.world_rules.proofs.Same.{once}
use Rattle.world_roster.specs.Rosters.{id_in, shown_entry}
use Rattle.world_roster.specs.inner.Listed.{placed_among, standing_at}

pub flipped : (m n : ℕ) → (m == n) ≡ (n == m)
flipped m n = elim (m == n) as (λ b. (m == n) ≡ b → b ≡ (n == m)) [
  | true ↦ λ is. sym (eq-eqb n m (sym (eqb-true m n is)))
  | false ↦ λ is. sym (ne_eqb n m (λ same. eqb-false m n is (sym same)))
] refl

-- ---- what is found under an id

pub find_as : (id : ℕ) (es : Entries) → find nat_cmp id es ≡ option_map (λ (e : ℕ × Placed). e.1) (lists.find (λ (e : ℕ × Placed). e.0 == id) es)
find_as id [] = refl
find_as id (e ∷ es) =
    ap (λ (b : Bool). cond b (Some e.1) (find nat_cmp id es)) (unsigned_tied id e.0 ∙ flipped id e.0)
    ∙ ap (cond (e.0 == id) (Some e.1)) (find_as id es)
    ∙ elim (e.0 == id) as (λ b. cond b (Some e.1) (option_map (λ (f : ℕ × Placed). f.1) (lists.find (λ (f : ℕ × Placed). f.0 == id) es)) ≡ option_map (λ (f : ℕ × Placed). f.1) (cond b (Some e) (lists.find (λ (f : ℕ × Placed). f.0 == id) es))) [ true ↦ refl | false ↦ refl ]

pub shown_found : (id : ℕ) (all : List Standing) → standing_at id all ≡ find nat_cmp id (map shown_entry all)
shown_found id [] = refl
shown_found id (first ∷ all) =
    let rest = shown_found id all in
    ap (λ (b : Bool). option_map shown (cond b (Some first) (lists.find (λ standing. id_in standing == id) all))) (flipped (id_in first) id ∙ sym (unsigned_tied id (id_in first)))
    ∙ elim (eq_by_cmp nat_cmp id (id_in first)) as (λ b. option_map shown (cond b (Some first) (lists.find (λ standing. id_in standing == id) all)) ≡ cond b (Some (shown first)) (find nat_cmp id (map shown_entry all))) [ true ↦ refl | false ↦ rest ]

-- entries whose ids stand once make the same map in any order
same_made : (es fs : Entries) → IsPermutation es fs → ((id : ℕ) → times id fs ≤ 1) → ◌≡◌ {A = Objects} (from_entries es) (from_entries fs)
same_made es fs moved few = same_map nat_cmp_total nat_cmp-IsAntisymmetric (from_entries es) (from_entries fs) (λ id.
    get-from_entries nat_cmp_total es id
    ∙ find_as id es
    ∙ ap (option_map (λ (e : ℕ × Placed). e.1)) (find_moved (λ (e : ℕ × Placed). e.0 == id) es fs moved (few id))
    ∙ sym (find_as id fs)
    ∙ sym (get-from_entries nat_cmp_total fs id))

-- ---- objects in rising id

shown_times : (id : ℕ) (all : List Standing) → count_by (λ standing. id_in standing == id) all ≡ times id (map shown_entry all)
shown_times id [] = refl
shown_times id (first ∷ all) =
    sum_by-cons (λ (standing : Standing). cond {A = ℕ} (id_in standing == id) 1 0) first all
    ∙ ap (λ (n : ℕ). cond {A = ℕ} (id_in first == id) 1 0 + n) (shown_times id all)
    ∙ sym (sum_by-cons (λ (e : ℕ × Placed). cond {A = ℕ} (e.0 == id) 1 0) (shown_entry first) (map shown_entry all))

shown_below : (id : ℕ) (all : List Standing) → AllByRecursion (λ later. id < id_in later) all → T (below_all nat_cmp id (map shown_entry all))
shown_below id [] below = tt
shown_below id (first ∷ all) below = joined _ _ (subst (λ r. T (is_lt r)) (nat_cmp_is id (id_in first) Less below.0) tt) (shown_below id all below.1)

shown_sorted : (all : List Standing) → Rises id_in all → T (is_sorted nat_cmp (map shown_entry all))
shown_sorted [] rises = tt
shown_sorted (first ∷ all) rises = joined _ _ (shown_below (id_in first) all rises.0) (shown_sorted all rises.1)

-- the entries of their map
pub listed : (all : List Standing) → Rises id_in all → entries {R = nat_cmp} (from_entries (map shown_entry all)) ≡ map shown_entry all
listed all rises = entries_of_sorted (map shown_entry all) (shown_sorted all rises)

-- ---- of a sound world

module _ (stored : Stored) (sound : IsSound stored) (all : List Standing) (moved : IsPermutation (placed_among stored.rooms) (map shown_entry all)) where
  few : (id : ℕ) → times id (map shown_entry all) ≤ 1
  few id = subst (λ (n : ℕ). n ≤ 1) (sym (sum_by-IsPermutation (λ (e : ℕ × Placed). cond {A = ℕ} (e.0 == id) 1 0) (placed_among stored.rooms) (map shown_entry all) moved)) (once stored sound id)

  pub rising : IsNonDecreasingBy id_in all → Rises id_in all
  rising order = strictly id_in all order (λ id. subst (λ (n : ℕ). n ≤ 1) (sym (shown_times id all)) (few id))

  pub same_objects : ◌≡◌ {A = Objects} (from_entries (map shown_entry all)) (world_of stored).objects
  same_objects = sym (same_made (placed_among stored.rooms) (map shown_entry all) moved few)
