-- Lists by key: what is found in them, and the finite maps of them.
use Rattle.std.proofs.Common.{Less, Equal, Greater, ◌≡◌, ℕ, ◌<◌, ◌&&◌, Bool, true, false, cond, T, List, [], ◌∷◌, ◌++◌, map, Option, Some, None, option_map, option_and_then, refl, sym, ap, subst, ◌∙◌}
use Rattle.std.specs.List.{AllByRecursion, cons_option, filter, filter_map}
use Rattle.std.specs.Option.{option_or}
use Rattle.std.specs.declared.cmp.Ordering.{Ordering}
use Rattle.std.specs.Ordering.{nat_cmp, eq_by_cmp, is_lt, is_eq}
use Rattle.std.specs.Cmp.{nat_cmp_is, nat_cmp_total, unsigned_tied}
use Rattle.std.specs.FinMap.{FinMap, find, get, entries, entries_sorted, get-entries, from_entries, get-from_entries, is_sorted, nat_cmp-IsAntisymmetric}
use Rattle.std.specs.FinMap.Entries.{below_all, same_entries}
use Rattle.std.proofs.lemmas.Bool.{eqb-true}
use Rattle.room_table.specs.declared.object.Object.{Object}
use Rattle.object_store.specs.declared.account.Account.{Account}
use Rattle.room_table.specs.Tables.{IsRising}
use Rattle.object_store.specs.Stored.{AreRising}

-- ---- lists whose keys rise

abbrev pub keyed : {X : Type 0} → (X → ℕ) → List X → List (ℕ × X)
keyed key xs = map (λ x. (key x, x)) xs

pub joined : (a b : Bool) → T a → T b → T (a && b)
joined true b one other = other
joined false b one other = absurd one

below_sorted : {X : Type 0} (key : X → ℕ) (n : ℕ) (xs : List X) → AllByRecursion (λ later. n < key later) xs → T (below_all nat_cmp n (keyed key xs))
below_sorted key n [] rise = tt
below_sorted key n (x ∷ xs) rise = joined _ _ (subst (λ r. T (is_lt r)) (nat_cmp_is n (key x) Less rise.0) tt) (below_sorted key n xs rise.1)

pub table_sorted : (objects : List Object) → IsRising objects → T (is_sorted nat_cmp (keyed (λ object. object.id) objects))
table_sorted [] rise = tt
table_sorted (object ∷ objects) rise = joined _ _ (below_sorted (λ object. object.id) object.id objects rise.0) (table_sorted objects rise.1)

pub accounts_sorted : (accounts : List Account) → AreRising accounts → T (is_sorted nat_cmp (keyed (λ account. account.player) accounts))
accounts_sorted [] rise = tt
accounts_sorted (account ∷ accounts) rise = joined _ _ (below_sorted (λ account. account.player) account.player accounts rise.0) (accounts_sorted accounts rise.1)

pub values_of : {X : Type 0} (key : X → ℕ) (xs : List X) → map (λ (e : ℕ × X). e.1) (keyed key xs) ≡ xs
values_of key [] = refl
values_of key (x ∷ xs) = ap (λ rest. x ∷ rest) (values_of key xs)

-- such lists are equal where the same is found in them
pub same_list : {X : Type 0} (key : X → ℕ) (xs ys : List X) → T (is_sorted nat_cmp (keyed key xs)) → T (is_sorted nat_cmp (keyed key ys)) → ((q : ℕ) → find nat_cmp q (keyed key xs) ≡ find nat_cmp q (keyed key ys)) → xs ≡ ys
same_list {X} key xs ys one other same =
    sym (values_of key xs) ∙ ap (map (λ (e : ℕ × X). e.1)) (same_entries nat_cmp nat_cmp_total nat_cmp-IsAntisymmetric (keyed key xs) (keyed key ys) one other same) ∙ values_of key ys

pub same_find : {X : Type 0} (es fs : List (ℕ × X)) → from_entries {R = nat_cmp} es ≡ from_entries fs → (q : ℕ) → find nat_cmp q es ≡ find nat_cmp q fs
same_find {X} es fs same q = sym (get-from_entries nat_cmp_total es q) ∙ ap (λ (m : FinMap nat_cmp X). get m q) same ∙ get-from_entries nat_cmp_total fs q

-- such a list is what its map has
pub entries_of_sorted : {X : Type 0} (es : List (ℕ × X)) → T (is_sorted nat_cmp es) → entries (from_entries {R = nat_cmp} es) ≡ es
entries_of_sorted {X} es rise =
    let m : FinMap nat_cmp X = from_entries es in
    same_entries nat_cmp nat_cmp_total nat_cmp-IsAntisymmetric (entries m) es (entries_sorted m) rise (λ q. sym (get-entries m q) ∙ get-from_entries nat_cmp_total es q)

-- ---- lists in which each key stands once

abbrev pub AreKeysOnce : {X : Type 0} → List (ℕ × X) → Type 0
AreKeysOnce [] = Unit {0}
AreKeysOnce (e ∷ es) = (find nat_cmp e.0 es ≡ None) × AreKeysOnce es

parts : (a b : Bool) → T (a && b) → T a × T b
parts true b h = (tt, h)
parts false b h = absurd h

untied : (r : Ordering) → T (is_lt r) → is_eq r ≡ false
untied Less h = refl
untied Equal h = absurd h
untied Greater h = absurd h

none_below : {X : Type 0} (k : ℕ) (es : List (ℕ × X)) → T (below_all nat_cmp k es) → find nat_cmp k es ≡ None
none_below k [] h = refl
none_below k (e ∷ es) h =
    let both = parts _ _ h in
    ap (λ (b : Bool). cond b (Some e.1) (find nat_cmp k es)) (untied (nat_cmp k e.0) both.0) ∙ none_below k es both.1

pub once_of_sorted : {X : Type 0} (es : List (ℕ × X)) → T (is_sorted nat_cmp es) → AreKeysOnce es
once_of_sorted [] rise = tt
once_of_sorted (e ∷ es) rise = let both = parts _ _ rise in (none_below e.0 es both.0, once_of_sorted es both.1)

-- ---- what is found in a list that is made of another

pub find_append : {X : Type 0} (q : ℕ) (es fs : List (ℕ × X)) → find nat_cmp q (es ++ fs) ≡ option_or (find nat_cmp q es) (find nat_cmp q fs)
find_append q [] fs = refl
find_append q (e ∷ es) fs =
    let rest = find_append q es fs in
    elim (eq_by_cmp nat_cmp q e.0) as (λ b. cond b (Some e.1) (find nat_cmp q (es ++ fs)) ≡ option_or (cond b (Some e.1) (find nat_cmp q es)) (find nat_cmp q fs)) [ true ↦ refl | false ↦ rest ]

pub find_mapped : {X Y : Type 0} (f : X → Y) (q : ℕ) (es : List (ℕ × X)) → find nat_cmp q (map (λ (e : ℕ × X). (e.0, f e.1)) es) ≡ option_map f (find nat_cmp q es)
find_mapped f q [] = refl
find_mapped {X = X} f q (e ∷ es) =
    let rest = find_mapped f q es in
    elim (eq_by_cmp nat_cmp q e.0) as (λ b. cond b (Some (f e.1)) (find nat_cmp q (map (λ (e : ℕ × X). (e.0, f e.1)) es)) ≡ option_map f (cond b (Some e.1) (find nat_cmp q es))) [ true ↦ refl | false ↦ rest ]

module _ {X Y : Type 0} (f : X → Option Y) where
  -- an entry as it is left
  abbrev pub left_of : ℕ × X → Option (ℕ × Y)
  left_of e = option_map (λ y. (e.0, y)) (f e.1)

  abbrev before : ℕ → Option Y → List (ℕ × Y) → List (ℕ × Y)
  before key left rest = cons_option (option_map (λ y. (key, y)) left) rest

  find_apart : (q key : ℕ) (left : Option Y) (rest : List (ℕ × Y)) → eq_by_cmp nat_cmp q key ≡ false → find nat_cmp q (before key left rest) ≡ find nat_cmp q rest
  find_apart q key None rest is = refl
  find_apart q key (Some y) rest is = ap (λ (b : Bool). cond b (Some y) (find nat_cmp q rest)) is

  find_here : (q key : ℕ) (left : Option Y) (rest : List (ℕ × Y)) → eq_by_cmp nat_cmp q key ≡ true → find nat_cmp q rest ≡ None → find nat_cmp q (before key left rest) ≡ left
  find_here q key None rest is none = none
  find_here q key (Some y) rest is none = ap (λ (b : Bool). cond b (Some y) (find nat_cmp q rest)) is

  find_none : (q : ℕ) (es : List (ℕ × X)) → find nat_cmp q es ≡ None → find nat_cmp q (filter_map left_of es) ≡ None
  find_none q [] none = refl
  find_none q (e ∷ es) none =
      elim (eq_by_cmp nat_cmp q e.0) as (λ b. eq_by_cmp nat_cmp q e.0 ≡ b → cond b (Some e.1) (find nat_cmp q es) ≡ None → find nat_cmp q (before e.0 (f e.1) (filter_map left_of es)) ≡ None) [
        | true ↦ λ t is. absurd (cc)
        | false ↦ λ t is. find_apart q e.0 (f e.1) (filter_map left_of es) t ∙ find_none q es is
      ] refl none

  pub find_left : (q : ℕ) (es : List (ℕ × X)) → AreKeysOnce es → find nat_cmp q (filter_map left_of es) ≡ option_and_then f (find nat_cmp q es)
  find_left q [] once = refl
  find_left q (e ∷ es) once =
      elim (eq_by_cmp nat_cmp q e.0) as (λ b. eq_by_cmp nat_cmp q e.0 ≡ b → find nat_cmp q (before e.0 (f e.1) (filter_map left_of es)) ≡ option_and_then f (cond b (Some e.1) (find nat_cmp q es))) [
        | true ↦ λ t.
            let same : q ≡ e.0 = eqb-true q e.0 (sym (unsigned_tied q e.0) ∙ t) in
            find_here q e.0 (f e.1) (filter_map left_of es) t (find_none q es (subst (λ (n : ℕ). find nat_cmp n es ≡ None) (sym same) once.0))
        | false ↦ λ t. find_apart q e.0 (f e.1) (filter_map left_of es) t ∙ find_left q es once.1
      ] refl

pub filter_map_alike : {A B : Type 0} (g h : A → Option B) → ((a : A) → g a ≡ h a) → (xs : List A) → filter_map g xs ≡ filter_map h xs
filter_map_alike g h alike xs = λ i. filter_map (λ a. alike a i) xs

pub filter_as_map : {A : Type 0} (test : A → Bool) (xs : List A) → filter test xs ≡ filter_map (λ a. cond (test a) (Some a) None) xs
filter_as_map test [] = refl
filter_as_map test (x ∷ xs) =
    let rest = filter_as_map test xs in
    elim (test x) as (λ b. cond b (x ∷ filter test xs) (filter test xs) ≡ cons_option (cond b (Some x) None) (filter_map (λ a. cond (test a) (Some a) None) xs)) [ true ↦ ap (λ more. x ∷ more) rest | false ↦ rest ]
