-- The walk back from each creep that stays.
use Rattle.std.proofs.Common.{◌≡◌, ◌≢◌, ◌⊎◌, ◌≤◌, ℕ, ◌<◌, Bool, false, true, not, cond, List, length, get_or, set, inl, inr, sym, ap, subst, ◌∙◌, arith, get_or-set_other, get_or-set_same, length-set}
use Rattle.std.proofs.lemmas.Bool.{cases_eq}
use Rattle.std.specs.List.{count_by}
use Rattle.std.proofs.lemmas.List.Sums.{sum_by-set}
use Rattle.creep_move.specs.inner.Walk.{IsClosed, Stuck, here, behind}

-- what is held so far where the tiles from this one on have not been walked from
pub record Kept (comes : List ℕ) (first held : List Bool) (next : ℕ) : Type 0 where
  pub long : length held ≡ length first
  pub kept : (t : ℕ) → get_or first t false ≡ true → get_or held t false ≡ true
  pub stuck : (t : ℕ) → get_or held t false ≡ true → Stuck comes first t
  pub closed : (t : ℕ) → get_or held t false ≡ true → IsClosed comes held t ⊎ (next ≤ t)

pub hold_one : (held : List Bool) (i : ℕ) → i < length held → get_or (set held i true) i false ≡ true
hold_one held i low = get_or-set_same held i true false low

pub hold_kept : (held : List Bool) (i t : ℕ) → i < length held → get_or held t false ≡ true → get_or (set held i true) t false ≡ true
hold_kept held i t low h = elim (cases_eq t i) [
  | inl e ↦ ap (λ j. get_or (set held i true) j false) e ∙ hold_one held i low
  | inr other ↦ get_or-set_other held i t true false other ∙ h
]

pub hold_cases : (held : List Bool) (i t : ℕ) → get_or (set held i true) t false ≡ true → (t ≡ i) ⊎ (get_or held t false ≡ true)
hold_cases held i t h = elim (cases_eq t i) [
  | inl e ↦ inl e
  | inr other ↦ inr (sym (get_or-set_other held i t true false other) ∙ h)
]

-- what is stuck where some more stuck creeps are held is stuck
pub stuck_back : (comes : List ℕ) (first held : List Bool) (t : ℕ) → length held ≡ length first → ((k : ℕ) → get_or held k false ≡ true → Stuck comes first k) → Stuck comes held t → Stuck comes first t
stuck_back comes first held t same so_far (here h) = so_far t h
stuck_back comes first held t same so_far (behind {t = s} st e low) = behind (stuck_back comes first held s same so_far st) e (omega (arith, low, same))

-- where each held tile is closed, all that is stuck is held
pub stuck_held : (comes : List ℕ) (first held : List Bool) (t : ℕ) → length held ≡ length first → ((k : ℕ) → get_or first k false ≡ true → get_or held k false ≡ true)
    → ((k : ℕ) → get_or held k false ≡ true → IsClosed comes held k) → Stuck comes first t → get_or held t false ≡ true
stuck_held comes first held t same kept closed (here h) = kept t h
stuck_held comes first held t same kept closed (behind {t = s} st e low) =
    let stays = stuck_held comes first held s same kept closed st in
    let is = closed s stays in
    subst (λ u. get_or held u false ≡ true) e (is (omega (arith, low, same, e)))

-- one tile less is free
pub free_falls : (held : List Bool) (i : ℕ) → i < length held → get_or held i false ≡ false → count_by (λ b. not b) (set held i true) < count_by (λ b. not b) held
free_falls held i low free =
    let f : Bool → ℕ = λ b. cond (not b) 1 0 in
    let h = sum_by-set f held i true false low in
    let one : f (get_or held i false) ≡ 1 = ap f free in
    omega (arith, h, one)

module _ (comes : List ℕ) (first held : List Bool) (from tile : ℕ) (low : from < length held) where
  -- the tiles held after one more, but for the creep that would go to the last
  pub closed_more : (t : ℕ) → (get_or held t false ≡ true → IsClosed comes held t ⊎ ((get_or comes t 0 ≡ from) ⊎ (get_or first t false ≡ true) × (t ≢ tile)))
      → get_or (set held from true) t false ≡ true → IsClosed comes (set held from true) t ⊎ ((get_or comes t 0 ≡ get_or comes from 0) ⊎ (get_or first t false ≡ true) × (t ≢ tile))
  closed_more t so_far h = elim (hold_cases held from t h) [
    | inl e ↦ inr (inl (ap (λ j. get_or comes j 0) e))
    | inr old ↦ elim (so_far old) [
      | inl closed ↦ inl (λ short. hold_kept held from (get_or comes t 0) low (closed (subst (λ n. get_or comes t 0 < n) (length-set held from true) short)))
      | inr rest ↦ elim rest [
        | inl e ↦ inl (λ _. ap (λ j. get_or (set held from true) j false) e ∙ hold_one held from low)
        | inr same ↦ inr (inr same)
      ]
    ]
  ]
