-- The members of a list, by recursion on it.
use Rattle.std.proofs.Common.{◌≡◌, ◌⊎◌, inl, inr, ℕ, zero, suc, ◌<◌, Bool, true, false, cond, List, [], ◌∷◌, ◌++◌, map, length, get_or, Some, None, refl, sym, ap, subst, ◌∙◌, arith}
use Rattle.std.specs.List.{AllByRecursion, AllPairs, Contains, filter, list_any, list_all}
use Rattle.std.specs.Ordering.{nat_cmp, eq_by_cmp}
use Rattle.std.specs.Cmp.{unsigned_tied}
use Rattle.std.specs.FinMap.{find}
use Rattle.std.proofs.lemmas.Bool.{eqb-true, eq-eqb, and_from, and_parts, or_cases, or_left, or_right}
use Rattle.std.proofs.lemmas.List.Elements.{recursion_from_All}
use Rattle.world_rules.proofs.Keys.{AreKeysOnce}

module _ {A : Type 0} where
  abbrev pub Has : List A → A → Type 0
  Has [] x = ⊥
  Has (first ∷ later) x = (first ≡ x) ⊎ Has later x

  -- ---- between this and std's word

  pub has_contained : (list : List A) (x : A) → Has list x → Contains list x
  has_contained [] x has = absurd has
  has_contained (first ∷ later) x (inl is) = (0, omega arith, is)
  has_contained (first ∷ later) x (inr has) = let rest = has_contained later x has in let less : rest.0 < length later = rest.1 in (suc rest.0, omega arith, rest.2)

  contained_at : (list : List A) (x : A) (k : ℕ) → k < length list → get_or list k x ≡ x → Has list x
  contained_at [] x k less is = absurd (omega arith)
  contained_at (first ∷ later) x zero less is = inl is
  contained_at (first ∷ later) x (suc k) less is = inr (contained_at later x k (omega arith) is)

  pub contains_has : (list : List A) (x : A) → Contains list x → Has list x
  contains_has list x at = contained_at list x at.0 at.1 at.2

  -- ---- tests

  pub any_has : (test : A → Bool) (list : List A) → list_any test list ≡ true → (x : A) × Has list x × (test x ≡ true)
  any_has test [] is = absurd (cc)
  any_has test (first ∷ later) is = elim (or_cases (test first) (list_any test later) is) [
    | inl passes ↦ (first, inl refl, passes)
    | inr more ↦ let rest = any_has test later more in (rest.0, inr rest.1, rest.2)
  ]

  pub has_any : (test : A → Bool) (list : List A) (x : A) → Has list x → test x ≡ true → list_any test list ≡ true
  has_any test [] x has passes = absurd has
  has_any test (first ∷ later) x (inl is) passes = or_left (test first) (list_any test later) (ap test is ∙ passes)
  has_any test (first ∷ later) x (inr has) passes = or_right (test first) (list_any test later) (has_any test later x has passes)

  pub all_has : (test : A → Bool) (list : List A) (x : A) → list_all test list ≡ true → Has list x → test x ≡ true
  all_has test [] x all has = absurd has
  all_has test (first ∷ later) x all (inl is) = ap test (sym is) ∙ (and_parts (test first) (list_all test later) all).0
  all_has test (first ∷ later) x all (inr has) = all_has test later x (and_parts (test first) (list_all test later) all).1 has

  pub has_all : (test : A → Bool) (list : List A) → ((x : A) → Has list x → test x ≡ true) → list_all test list ≡ true
  has_all test [] each = refl
  has_all test (first ∷ later) each = and_from (test first) (list_all test later) (each first (inl refl)) (has_all test later (λ x has. each x (inr has)))

  -- ---- filters

  pub filter_has : (test : A → Bool) (list : List A) (x : A) → Has list x → test x ≡ true → Has (filter test list) x
  filter_has test [] x has passes = absurd has
  filter_has test (first ∷ later) x (inl is) passes = subst (λ (b : Bool). Has (cond b (first ∷ filter test later) (filter test later)) x) (sym (ap test is ∙ passes)) (inl is)
  filter_has test (first ∷ later) x (inr has) passes =
      let rest = filter_has test later x has passes in
      elim (test first) as (λ b. Has (cond b (first ∷ filter test later) (filter test later)) x) [ true ↦ inr rest | false ↦ rest ]

  pub has_filter : (test : A → Bool) (list : List A) (x : A) → Has (filter test list) x → Has list x × (test x ≡ true)
  has_filter test [] x has = absurd has
  has_filter test (first ∷ later) x has = elim (test first) as (λ b. test first ≡ b → Has (cond b (first ∷ filter test later) (filter test later)) x → Has (first ∷ later) x × (test x ≡ true)) [
    | true ↦ λ passes h. elim h [
      | inl is ↦ (inl is, ap test (sym is) ∙ passes)
      | inr more ↦ let rest = has_filter test later x more in (inr rest.0, rest.1)
    ]
    | false ↦ λ fails h. let rest = has_filter test later x h in (inr rest.0, rest.1)
  ] refl has

  -- ---- lists of two

  pub append_left : (one other : List A) (x : A) → Has one x → Has (one ++ other) x
  append_left [] other x has = absurd has
  append_left (first ∷ later) other x (inl is) = inl is
  append_left (first ∷ later) other x (inr has) = inr (append_left later other x has)

  pub append_right : (one other : List A) (x : A) → Has other x → Has (one ++ other) x
  append_right [] other x has = has
  append_right (first ∷ later) other x has = inr (append_right later other x has)

  pub append_cases : (one other : List A) (x : A) → Has (one ++ other) x → Has one x ⊎ Has other x
  append_cases [] other x has = inr has
  append_cases (first ∷ later) other x (inl is) = inl (inl is)
  append_cases (first ∷ later) other x (inr has) = elim (append_cases later other x has) [ inl left ↦ inl (inr left) | inr right ↦ inr right ]

  -- ---- pairs

  pub all_of_has : (P : A → Type 0) (list : List A) (x : A) → AllByRecursion P list → Has list x → P x
  all_of_has P [] x all has = absurd has
  all_of_has P (first ∷ later) x all (inl is) = subst P is all.0
  all_of_has P (first ∷ later) x all (inr has) = all_of_has P later x all.1 has

  pub pairs_first : (R : A → A → Type 0) (first : A) (later : List A) → AllPairs R (first ∷ later) → AllByRecursion (R first) later
  pairs_first R first later pairs = recursion_from_All (R first) later (λ k d within. pairs zero (suc k) d (omega arith) (omega arith))

  pub pairs_later : (R : A → A → Type 0) (first : A) (later : List A) → AllPairs R (first ∷ later) → AllPairs R later
  pairs_later R first later pairs = λ i j d less within. pairs (suc i) (suc j) d (omega arith) (omega arith)

pub has_map : {A B : Type 0} (f : A → B) (list : List A) (x : A) → Has list x → Has (map f list) (f x)
has_map f [] x has = absurd has
has_map f (first ∷ later) x (inl is) = inl (ap f is)
has_map f (first ∷ later) x (inr has) = inr (has_map f later x has)

pub map_has : {A B : Type 0} (f : A → B) (list : List A) (y : B) → Has (map f list) y → (x : A) × Has list x × (f x ≡ y)
map_has f [] y has = absurd has
map_has f (first ∷ later) y (inl is) = (first, inl refl, is)
map_has f (first ∷ later) y (inr has) = let rest = map_has f later y has in (rest.0, inr rest.1, rest.2)

-- what is found by a key is a value of the list
pub found_has : {A : Type 0} (es : List (ℕ × A)) (key : ℕ) (x : A) → find nat_cmp key es ≡ Some x → Has (map (λ e. e.1) es) x
found_has [] key x is = absurd (cc)
found_has (e ∷ es) key x is = elim (eq_by_cmp nat_cmp key e.0) as (λ b. cond b (Some e.1) (find nat_cmp key es) ≡ Some x → Has (e.1 ∷ map (λ e. e.1) es) x) [
  | true ↦ λ got. let same : e.1 ≡ x = cc in inl same
  | false ↦ λ got. inr (found_has es key x got)
] is

-- what a list has whose keys stand once is found by its key
pub has_found : {A : Type 0} (es : List (ℕ × A)) → AreKeysOnce es → (x : ℕ × A) → Has es x → find nat_cmp x.0 es ≡ Some x.1
has_found [] once x has = absurd has
has_found {A} (e ∷ es) once x (inl is) =
    subst (λ (f : ℕ × A). find nat_cmp f.0 (e ∷ es) ≡ Some f.1) is (ap (λ (b : Bool). cond b (Some e.1) (find nat_cmp e.0 es)) (unsigned_tied e.0 e.0 ∙ eq-eqb e.0 e.0 refl))
has_found {A} (e ∷ es) once x (inr has) =
    let rest = has_found es once.1 x has in
    elim (eq_by_cmp nat_cmp x.0 e.0) as (λ b. eq_by_cmp nat_cmp x.0 e.0 ≡ b → cond b (Some e.1) (find nat_cmp x.0 es) ≡ Some x.1) [
      | true ↦ λ tied.
          let same : x.0 ≡ e.0 = eqb-true x.0 e.0 (sym (unsigned_tied x.0 e.0) ∙ tied) in
          let none : find nat_cmp x.0 es ≡ None = subst (λ (n : ℕ). find nat_cmp n es ≡ None) (sym same) once.0 in
          absurd (cc)
      | false ↦ λ untied. rest
    ] refl
