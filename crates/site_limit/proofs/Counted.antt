-- How many entries of a list have a key among others.
use Rattle.std.proofs.Common.{◌≡◌, ℕ, ◌==◌, ◌≤◌, Bool, true, false, cond, List, [], ◌∷◌, length, map, Option, Some, None, inl, inr, refl, sym, ap, ◌∙◌, arith, nat_eq}
use Rattle.std.specs.List.{AllByRecursion, IsDistinct, count_by, filter}
use Rattle.std.specs.Ordering.{nat_cmp, eq_by_cmp}
use Rattle.std.specs.Cmp.{nat_cmp_total, nat_eq_equiv, unsigned_tied}
use Rattle.std.specs.FinMap.{FinMap, entries, entries_sorted, find, from_entries, get-entries, get-from_entries}
use Rattle.std.proofs.lemmas.Bool.{eq-eqb, eqb-true}
use Rattle.std.proofs.lemmas.List.{length-map}
use Rattle.std.proofs.lemmas.List.Sums.{length-filter, sum_by-cons}
use Rattle.std.proofs.lemmas.Map.Made.{length-le_from_is_member}
use Rattle.world_rules.proofs.Keys.{AreKeysOnce, once_of_sorted}
use Rattle.room_commutes.proofs.Members.{Has, any_has, filter_has, has_any, has_filter, has_found, has_map, map_has}

module _ {A : Type 0} where
  -- What is found by a key stands in the list with it.
  pub found_pair : (es : List (ℕ × A)) (key : ℕ) (x : A) → find nat_cmp key es ≡ Some x → Has es (key, x)
  found_pair [] key x is = absurd (cc)
  found_pair (e ∷ es) key x is =
      elim (eq_by_cmp nat_cmp key e.0) as (λ b. eq_by_cmp nat_cmp key e.0 ≡ b → cond b (Some e.1) (find nat_cmp key es) ≡ Some x → Has (e ∷ es) (key, x)) [
        | true ↦ λ tied got.
            let same : e.1 ≡ x = cc in
            let at : key ≡ e.0 = eqb-true key e.0 (sym (unsigned_tied key e.0) ∙ tied) in
            inl (λ i. (sym at i, same i))
        | false ↦ λ untied got. inr (found_pair es key x got)
      ] refl is

  counted_once : (test : ℕ × A → Bool) (es : List (ℕ × A)) (e : ℕ × A) → Has es e → test e ≡ true → 1 ≤ count_by test es
  counted_once test [] e has is = absurd has
  counted_once test (first ∷ later) e (inl same) is =
      let step = sum_by-cons (λ (x : ℕ × A). cond (test x) 1 0) first later in
      let one : ◌≡◌ {A = ℕ} (cond (test first) 1 0) 1 = ap (λ (b : Bool). cond b 1 0) (ap test same ∙ is) in
      omega (arith, step, one)
  counted_once test (first ∷ later) e (inr has) is =
      let step = sum_by-cons (λ (x : ℕ × A). cond (test x) 1 0) first later in
      let rest = counted_once test later e has is in
      omega (arith, step, rest)

  more_counted : (test : ℕ × A → Bool) (first : ℕ × A) (later : List (ℕ × A)) → count_by test later ≤ count_by test (first ∷ later)
  more_counted test first later = let step = sum_by-cons (λ (x : ℕ × A). cond (test x) 1 0) first later in omega (arith, step)

  -- Where no key stands twice, each stands once.
  pub once_where : (es : List (ℕ × A)) → ((n : ℕ) → 2 ≤ count_by (λ e. e.0 == n) es → ⊥) → AreKeysOnce es
  once_where [] never = tt
  once_where (e ∷ es) never = (
    elim (find nat_cmp e.0 es) as (λ found. find nat_cmp e.0 es ≡ found → found ≡ None) [
      | None ↦ λ is. refl
      | Some x ↦ λ is. absurd (never e.0
          (let rest = counted_once (λ f. f.0 == e.0) es (e.0, x) (found_pair es e.0 x is) (eq-eqb e.0 e.0 refl) in
          let step = sum_by-cons (λ (f : ℕ × A). cond (f.0 == e.0) 1 0) e es in
          let one : ◌≡◌ {A = ℕ} (cond (e.0 == e.0) 1 0) 1 = ap (λ (b : Bool). cond b 1 0) (eq-eqb e.0 e.0 refl) in
          omega (arith, rest, step, one)))
    ] refl,
    once_where es (λ n twice. never n (let more = more_counted (λ f. f.0 == n) e es in omega (arith, twice, more))),
  )

  -- ---- keys of those that pass

  module _ (test : ℕ × A → Bool) where
    not_found : (b : Bool) (x : A) (rest : Option A) → cond b (Some x) rest ≡ None → (b ≡ false) × (rest ≡ None)
    not_found true x rest is = absurd (cc)
    not_found false x rest is = (refl, is)

    none_left : (key : ℕ) (es : List (ℕ × A)) → find nat_cmp key es ≡ None → AllByRecursion (λ other. nat_eq key other ≡ false) (map (λ e. e.0) (filter test es))
    none_left key [] none = tt
    none_left key (e ∷ es) none =
        let both = not_found (eq_by_cmp nat_cmp key e.0) e.1 (find nat_cmp key es) none in
        let rest = none_left key es both.1 in
        elim (test e) as (λ b. AllByRecursion (λ other. nat_eq key other ≡ false) (map (λ f. f.0) (cond b (e ∷ filter test es) (filter test es)))) [
          | true ↦ (sym (unsigned_tied key e.0) ∙ both.0, rest)
          | false ↦ rest
        ]

    distinct_keys : (es : List (ℕ × A)) → AreKeysOnce es → IsDistinct nat_eq (map (λ e. e.0) (filter test es))
    unfolding IsDistinct
    distinct_keys [] once = tt
    distinct_keys (e ∷ es) once =
        let rest = distinct_keys es once.1 in
        elim (test e) as (λ b. IsDistinct nat_eq (map (λ f. f.0) (cond b (e ∷ filter test es) (filter test es)))) [
          | true ↦ (none_left e.0 es once.0, rest)
          | false ↦ rest
        ]

    pub length_keys : (es : List (ℕ × A)) → length (map (λ e. e.0) (filter test es)) ≡ count_by test es
    length_keys es = length-map (filter test es) (λ e. e.0) ∙ length-filter test es

    -- No more of them pass than there are keys of such.
    pub few_keys : (es : List (ℕ × A)) (places : List ℕ) → AreKeysOnce es → ((e : ℕ × A) → Has es e → test e ≡ true → Has places e.0) → count_by test es ≤ length places
    few_keys es places once each =
        let less : length (map (λ e. e.0) (filter test es)) ≤ length places =
        length-le_from_is_member nat_eq_equiv (map (λ e. e.0) (filter test es)) places (distinct_keys es once) (λ q member.
        let found = any_has (nat_eq q) (map (λ e. e.0) (filter test es)) member in
        let entry = map_has (λ (e : ℕ × A). e.0) (filter test es) found.0 found.1 in
        let parts = has_filter test es entry.0 entry.1 in
        has_any (nat_eq q) places entry.0.0 (each entry.0 parts.0 parts.1) (ap (nat_eq q) entry.2 ∙ found.2)) in
        let same = length_keys es in
        omega (arith, less, same)

    -- A map has no more that pass than the list that it is made of.
    pub map_at_most : (list : List (ℕ × A)) → count_by test (entries (from_entries {R = nat_cmp} list)) ≤ count_by test list
    map_at_most list =
        let made : FinMap nat_cmp A = from_entries list in
        let once = once_of_sorted (entries made) (entries_sorted made) in
        let few = few_keys (entries made) (map (λ e. e.0) (filter test list)) once (λ e has is.
        let found = sym (get-from_entries nat_cmp_total list e.0) ∙ get-entries made e.0 ∙ has_found (entries made) once e has in
        has_map (λ (f : ℕ × A). f.0) (filter test list) e (filter_has test list e (found_pair list e.0 e.1 found) is)) in
        let same = length_keys list in
        omega (arith, few, same)
