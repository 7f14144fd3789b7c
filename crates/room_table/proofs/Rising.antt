-- Lists that rise by a key: where a key is found in them, and what they are once an entry is replaced, added or taken out.
use Rattle.std.proofs.Common.{◌≡◌, ◌≢◌, ℕ, zero, suc, ◌<◌, ◌≤◌, Bool, true, false, not, cond, eqb, ltb, List, [], ◌∷◌, ◌++◌, length, get_or, set, map, Some, None, refl, sym, ap, subst, ◌∙◌, inl, inr, arith, eq-eqb}
use Rattle.std.proofs.lemmas.Bool.{lt-ltb, le-ltb, ltb-true, ltb-false, ne_eqb, cases_eq}
use Rattle.std.proofs.lemmas.List.Elements.{All-from_recursion, recursion_from_All}
use Rattle.std.specs.List.{AllByRecursion, HoldsAt, find, filter, insert, remove}
use Rattle.std.specs.List.Sorted.{IsPartitionPoint, IsNonDecreasingBy}
pub use Rattle.room_table.specs.inner.Ordered.{Rises}

-- The keys before the place are below the number, and those from there on are not.
abbrev pub Parted : {X : Type 0} → (X → ℕ) → ℕ → List X → ℕ → Type 0
Parted key n [] zero = Unit {0}
Parted key n [] (suc i) = ⊥
Parted key n (x ∷ xs) zero = AllByRecursion (λ y. n ≤ key y) (x ∷ xs)
Parted key n (x ∷ xs) (suc i) = (key x < n) × Parted key n xs i

pub parted : {X : Type 0} (key : X → ℕ) (n : ℕ) (xs : List X) (i : ℕ) → i ≤ length xs → IsPartitionPoint (λ y. key y < n) (λ y. n ≤ key y) xs i → Parted key n xs i
parted key n [] zero within point = tt
parted key n [] (suc i) within point = absurd (omega arith)
parted key n (x ∷ xs) zero within point =
    recursion_from_All (λ y. n ≤ key y) (x ∷ xs) (λ k d lt. point.1 k d (omega arith) lt)
parted key n (x ∷ xs) (suc i) within point = (
  point.0 0 x (omega arith) (omega arith),
  parted key n xs i (omega arith) (
    (λ k d low lt. point.0 (suc k) d (omega arith) (omega arith)),
    (λ k d low lt. point.1 (suc k) d (omega arith) (omega arith)),
  ),
)

pub all_weaker : {X : Type 0} (P Q : X → Type 0) → ((x : X) → P x → Q x) → (xs : List X) → AllByRecursion P xs → AllByRecursion Q xs
all_weaker P Q weaker [] all = tt
all_weaker P Q weaker (x ∷ xs) all = (weaker x all.0, all_weaker P Q weaker xs all.1)

pub all_filter : {X : Type 0} (P : X → Type 0) (p : X → Bool) (xs : List X) → AllByRecursion P xs → AllByRecursion P (filter p xs)
all_filter P p [] all = tt
all_filter P p (x ∷ xs) all =
    elim (p x) as (λ b. AllByRecursion P (cond b (x ∷ filter p xs) (filter p xs))) [
      | true ↦ (all.0, all_filter P p xs all.1)
      | false ↦ all_filter P p xs all.1
    ]

pub all_insert : {X : Type 0} (P : X → Type 0) (y : X) (xs : List X) (i : ℕ) → AllByRecursion P xs → P y → AllByRecursion P (insert xs i y)
all_insert P y [] zero all here = (here, tt)
all_insert P y [] (suc i) all here = (here, tt)
all_insert P y (x ∷ xs) zero all here = (here, all)
all_insert P y (x ∷ xs) (suc i) all here = (all.0, all_insert P y xs i all.1 here)

filter_all : {X : Type 0} (p : X → Bool) (xs : List X) → AllByRecursion (λ x. p x ≡ true) xs → filter p xs ≡ xs
filter_all p [] all = refl
filter_all p (x ∷ xs) all = rw (all.0) (ap (λ ys. x ∷ ys) (filter_all p xs all.1))

filter_none : {X : Type 0} (p : X → Bool) (xs : List X) → AllByRecursion (λ x. p x ≡ false) xs → filter p xs ≡ []
filter_none p [] all = refl
filter_none p (x ∷ xs) all = rw (all.0) (filter_none p xs all.1)

-- an entry in the place of that of its key
abbrev pub replaced : {X : Type 0} → (X → ℕ) → X → X → X
replaced key y x = cond (eqb (key x) (key y)) y x

map_replaced-above : {X : Type 0} (key : X → ℕ) (y : X) (xs : List X) → AllByRecursion (λ x. key y < key x) xs → map (replaced key y) xs ≡ xs
map_replaced-above key y [] all = refl
map_replaced-above key y (x ∷ xs) all =
    let above : key y < key x = all.0 in
    let other : key x ≢ key y = λ e. omega arith in
    rw (ne_eqb (key x) (key y) other) (ap (λ ys. x ∷ ys) (map_replaced-above key y xs all.1))

pub find-above : {X : Type 0} (key : X → ℕ) (n : ℕ) (xs : List X) → AllByRecursion (λ x. n < key x) xs → find (λ x. eqb (key x) n) xs ≡ None
find-above key n [] all = refl
find-above key n (x ∷ xs) all =
    let above : n < key x = all.0 in
    let other : key x ≢ n = λ e. omega arith in
    rw (ne_eqb (key x) n other) (find-above key n xs all.1)

-- the entries behind one whose key is at least a number are above that number
above_first : {X : Type 0} (key : X → ℕ) (n : ℕ) (x : X) (xs : List X) → n ≤ key x → AllByRecursion (λ later. key x < key later) xs → AllByRecursion (λ later. n < key later) xs
above_first key n x xs least all =
    all_weaker (λ later. key x < key later) (λ later. n < key later) (λ later lt. omega arith) xs all

-- the entry at a place behind the first has a greater key
first_below : {X : Type 0} (key : X → ℕ) (x : X) (xs : List X) (i : ℕ) (d : X) → AllByRecursion (λ later. key x < key later) xs → i < length xs → key x < key (get_or xs i d)
first_below key x xs i d all lt = All-from_recursion (λ later. key x < key later) xs all i d lt

pub find-at : {X : Type 0} (key : X → ℕ) (n : ℕ) (xs : List X) (i : ℕ) (d : X) → Rises key xs → i < length xs → key (get_or xs i d) ≡ n → find (λ x. eqb (key x) n) xs ≡ Some (get_or xs i d)
find-at key n [] i d rises within here = absurd (omega arith)
find-at key n (x ∷ xs) zero d rises within here = rw (eq-eqb (key x) n here) refl
find-at key n (x ∷ xs) (suc i) d rises within here =
    let lower : i < length xs = omega arith in
    let below : key x < key (get_or xs i d) = first_below key x xs i d rises.0 lower in
    let other : key x ≢ n = λ e. omega arith in
    rw (ne_eqb (key x) n other) (find-at key n xs i d rises.1 lower here)

find-absent : {X : Type 0} (key : X → ℕ) (n : ℕ) (xs : List X) (i : ℕ) → Rises key xs → Parted key n xs i → ((d : X) → i < length xs → key (get_or xs i d) ≢ n) → find (λ x. eqb (key x) n) xs ≡ None
find-absent key n [] i rises parts other = refl
find-absent key n (x ∷ xs) zero rises parts other =
    let least : n ≤ key x = parts.0 in
    let not_here : key x ≢ n = other x (omega arith) in
    find-above key n (x ∷ xs) (omega arith, above_first key n x xs least rises.0)
find-absent key n (x ∷ xs) (suc i) rises parts other =
    let below : key x < n = parts.0 in
    let not_here : key x ≢ n = λ e. omega arith in
    rw (ne_eqb (key x) n not_here) (find-absent key n xs i rises.1 parts.1 (λ d lt. other d (omega arith)))

pub some_none : {X : Type 0} {x : X} → Some x ≡ None → ⊥
some_none e = cc

none_some : {X : Type 0} {x : X} → None ≡ Some x → ⊥
none_some e = cc

pub place_of : {X : Type 0} (key : X → ℕ) (n : ℕ) (xs : List X) (i : ℕ) (found : X) → Rises key xs → Parted key n xs i → find (λ x. eqb (key x) n) xs ≡ Some found → (i < length xs) × HoldsAt (λ x. key x ≡ n) xs i
place_of key n [] i found rises parts there = absurd (none_some there)
place_of key n (x ∷ xs) zero found rises parts there =
    let least : n ≤ key x = parts.0 in
    let above : AllByRecursion (λ later. n < key later) xs = above_first key n x xs least rises.0 in
    elim (cases_eq (key x) n) [
      | inl same ↦ (omega arith, λ d. same)
      | inr other ↦ absurd (none_some (sym (find-above key n (x ∷ xs) (omega arith, above)) ∙ there))
    ]
place_of key n (x ∷ xs) (suc i) found rises parts there =
    let below : key x < n = parts.0 in
    let other : key x ≢ n = λ e. omega arith in
    let rest : (i < length xs) × HoldsAt (λ x. key x ≡ n) xs i = place_of key n xs i found rises.1 parts.1 (rw (ne_eqb (key x) n other) at there) in
    (omega (arith, rest.0), λ d. rest.1 d)

pub all_remove : {X : Type 0} (P : X → Type 0) (xs : List X) (i : ℕ) → AllByRecursion P xs → AllByRecursion P (remove xs i)
all_remove P [] zero all = tt
all_remove P [] (suc i) all = tt
all_remove P (x ∷ xs) zero all = all.1
all_remove P (x ∷ xs) (suc i) all = (all.0, all_remove P xs i all.1)

pub all_both : {X : Type 0} (P Q R : X → Type 0) → ((x : X) → P x → Q x → R x) → (xs : List X) → AllByRecursion P xs → AllByRecursion Q xs → AllByRecursion R xs
all_both P Q R both [] first second = tt
all_both P Q R both (x ∷ xs) first second = (both x first.0 second.0, all_both P Q R both xs first.1 second.1)

-- a list rises by another key that is the same for its entries
pub rises_by_same : {X : Type 0} (key other : X → ℕ) (xs : List X) → AllByRecursion (λ x. other x ≡ key x) xs → Rises key xs → Rises other xs
rises_by_same key other [] same rises = tt
rises_by_same key other (x ∷ xs) same rises = (
  all_both (λ y. other y ≡ key y) (λ y. key x < key y) (λ y. other x < other y) (λ y e lt. let here = same.0 in omega arith) xs same.1 rises.0,
  rises_by_same key other xs same.1 rises.1,
)

-- the list with an entry replaced
pub set-at : {X : Type 0} (key : X → ℕ) (y : X) (xs : List X) (i : ℕ) (d : X) → Rises key xs → i < length xs → key (get_or xs i d) ≡ key y → set xs i y ≡ map (replaced key y) xs
set-at key y [] i d rises within here = absurd (omega arith)
set-at key y (x ∷ xs) zero d rises within here =
    let above : AllByRecursion (λ later. key y < key later) xs = all_weaker (λ later. key x < key later) (λ later. key y < key later) (λ later lt. omega arith) xs rises.0 in
    rw (eq-eqb (key x) (key y) here) (ap (λ ys. y ∷ ys) (sym (map_replaced-above key y xs above)))
set-at key y (x ∷ xs) (suc i) d rises within here =
    let lower : i < length xs = omega arith in
    let below : key x < key (get_or xs i d) = first_below key x xs i d rises.0 lower in
    let other : key x ≢ key y = λ e. omega arith in
    rw (ne_eqb (key x) (key y) other) (ap (λ ys. x ∷ ys) (set-at key y xs i d rises.1 lower here))

pub key_replaced : {X : Type 0} (key : X → ℕ) (y x : X) → key (replaced key y x) ≡ key x
key_replaced key y x =
    elim (cases_eq (key x) (key y)) [
      | inl same ↦ rw (eq-eqb (key x) (key y) same) (sym same)
      | inr other ↦ rw (ne_eqb (key x) (key y) other) refl
    ]

all_replaced : {X : Type 0} (key : X → ℕ) (y : X) (n : ℕ) (xs : List X) → AllByRecursion (λ later. n < key later) xs → AllByRecursion (λ later. n < key later) (map (replaced key y) xs)
all_replaced key y n [] all = tt
all_replaced key y n (x ∷ xs) all =
    let same = key_replaced key y x in
    let lt : n < key x = all.0 in
    (omega (arith, same), all_replaced key y n xs all.1)

pub rises-replaced : {X : Type 0} (key : X → ℕ) (y : X) (xs : List X) → Rises key xs → Rises key (map (replaced key y) xs)
rises-replaced key y [] rises = tt
rises-replaced key y (x ∷ xs) rises = (
  subst (λ n. AllByRecursion (λ later. n < key later) (map (replaced key y) xs)) (sym (key_replaced key y x)) (all_replaced key y (key x) xs rises.0),
  rises-replaced key y xs rises.1,
)

-- the list with an entry taken out
abbrev pub is_other : {X : Type 0} → (X → ℕ) → ℕ → X → Bool
is_other key n x = not (eqb (key x) n)

above_others : {X : Type 0} (key : X → ℕ) (n : ℕ) (xs : List X) → AllByRecursion (λ x. n < key x) xs → AllByRecursion (λ x. is_other key n x ≡ true) xs
above_others key n xs all = all_weaker (λ x. n < key x) (λ x. is_other key n x ≡ true) (λ x lt. rw (ne_eqb (key x) n (λ e. omega arith)) refl) xs all

pub remove-at : {X : Type 0} (key : X → ℕ) (n : ℕ) (xs : List X) (i : ℕ) (d : X) → Rises key xs → i < length xs → key (get_or xs i d) ≡ n → remove xs i ≡ filter (is_other key n) xs
remove-at key n [] i d rises within here = absurd (omega arith)
remove-at key n (x ∷ xs) zero d rises within here =
    let above : AllByRecursion (λ later. n < key later) xs = all_weaker (λ later. key x < key later) (λ later. n < key later) (λ later lt. omega arith) xs rises.0 in
    rw (eq-eqb (key x) n here) (sym (filter_all (is_other key n) xs (above_others key n xs above)))
remove-at key n (x ∷ xs) (suc i) d rises within here =
    let lower : i < length xs = omega arith in
    let below : key x < key (get_or xs i d) = first_below key x xs i d rises.0 lower in
    let other : key x ≢ n = λ e. omega arith in
    rw (ne_eqb (key x) n other) (ap (λ ys. x ∷ ys) (remove-at key n xs i d rises.1 lower here))

pub others-absent : {X : Type 0} (key : X → ℕ) (n : ℕ) (xs : List X) → find (λ x. eqb (key x) n) xs ≡ None → filter (is_other key n) xs ≡ xs
others-absent key n [] absent = refl
others-absent key n (x ∷ xs) absent =
    elim (cases_eq (key x) n) [
      | inl same ↦ absurd (some_none (rw (eq-eqb (key x) n same) at absent))
      | inr other ↦ rw (ne_eqb (key x) n other) (ap (λ ys. x ∷ ys) (others-absent key n xs (rw (ne_eqb (key x) n other) at absent)))
    ]

pub rises-filter : {X : Type 0} (key : X → ℕ) (p : X → Bool) (xs : List X) → Rises key xs → Rises key (filter p xs)
rises-filter key p [] rises = tt
rises-filter key p (x ∷ xs) rises =
    elim (p x) as (λ b. Rises key (cond b (x ∷ filter p xs) (filter p xs))) [
      | true ↦ (all_filter (λ later. key x < key later) p xs rises.0, rises-filter key p xs rises.1)
      | false ↦ rises-filter key p xs rises.1
    ]

-- the list with an entry added
all_above : {X : Type 0} (key : X → ℕ) (y x : X) (xs : List X) → Rises key (x ∷ xs) → AllByRecursion (λ x. key y ≤ key x) (x ∷ xs) → find (λ x. eqb (key x) (key y)) (x ∷ xs) ≡ None → AllByRecursion (λ later. key y < key later) (x ∷ xs)
all_above key y x xs rises parts absent =
    let least : key y ≤ key x = parts.0 in
    let other : key x ≢ key y = λ same. some_none (rw (eq-eqb (key x) (key y) same) at absent) in
    (omega arith, above_first key (key y) x xs least rises.0)

insert-at : {X : Type 0} (key : X → ℕ) (y : X) (xs : List X) (i : ℕ) → Rises key xs → Parted key (key y) xs i → find (λ x. eqb (key x) (key y)) xs ≡ None → insert xs i y ≡ filter (λ x. ltb (key x) (key y)) xs ++ y ∷ filter (λ x. ltb (key y) (key x)) xs
insert-at key y [] zero rises parts absent = refl
insert-at key y [] (suc i) rises parts absent = absurd parts
insert-at key y (x ∷ xs) zero rises parts absent =
    let above : AllByRecursion (λ later. key y < key later) (x ∷ xs) = all_above key y x xs rises parts absent in
    let before : AllByRecursion (λ later. ltb (key later) (key y) ≡ false) (x ∷ xs) = all_weaker (λ later. key y < key later) (λ later. ltb (key later) (key y) ≡ false) (λ later lt. le-ltb (key later) (key y) (omega arith)) (x ∷ xs) above in
    let behind : AllByRecursion (λ later. ltb (key y) (key later) ≡ true) (x ∷ xs) = all_weaker (λ later. key y < key later) (λ later. ltb (key y) (key later) ≡ true) (λ later lt. lt-ltb (key y) (key later) lt) (x ∷ xs) above in
    sym (ap (λ front. front ++ y ∷ filter (λ x. ltb (key y) (key x)) (x ∷ xs)) (filter_none (λ x. ltb (key x) (key y)) (x ∷ xs) before) ∙ ap (λ back. y ∷ back) (filter_all (λ x. ltb (key y) (key x)) (x ∷ xs) behind))
insert-at key y (x ∷ xs) (suc i) rises parts absent =
    let below : key x < key y = parts.0 in
    let other : key x ≢ key y = λ e. omega arith in
    rw (lt-ltb (key x) (key y) below, le-ltb (key y) (key x) (omega arith)) (ap (λ ys. x ∷ ys) (insert-at key y xs i rises.1 parts.1 (rw (ne_eqb (key x) (key y) other) at absent)))

pub rises-insert : {X : Type 0} (key : X → ℕ) (y : X) (xs : List X) (i : ℕ) → Rises key xs → Parted key (key y) xs i → find (λ x. eqb (key x) (key y)) xs ≡ None → Rises key (insert xs i y)
rises-insert key y [] zero rises parts absent = (tt, tt)
rises-insert key y [] (suc i) rises parts absent = absurd parts
rises-insert key y (x ∷ xs) zero rises parts absent = (all_above key y x xs rises parts absent, rises)
rises-insert key y (x ∷ xs) (suc i) rises parts absent =
    let below : key x < key y = parts.0 in
    let other : key x ≢ key y = λ e. omega arith in (
      all_insert (λ later. key x < key later) y xs i rises.0 below,
      rises-insert key y xs i rises.1 parts.1 (rw (ne_eqb (key x) (key y) other) at absent),
    )

-- what a search by halving finds
pub non_decreasing : {X : Type 0} (key : X → ℕ) (xs : List X) → Rises key xs → IsNonDecreasingBy key xs
non_decreasing key [] rises i j d order within = absurd (omega arith)
non_decreasing key (x ∷ xs) rises zero zero d order within = omega arith
non_decreasing key (x ∷ xs) rises zero (suc j) d order within =
    let below = first_below key x xs j d rises.0 (omega arith) in
    omega (arith, below)
non_decreasing key (x ∷ xs) rises (suc i) zero d order within = absurd (omega arith)
non_decreasing key (x ∷ xs) rises (suc i) (suc j) d order within =
    non_decreasing key xs rises.1 i j d (omega arith) (omega arith)

pub increasing : {X : Type 0} (key : X → ℕ) (xs : List X) → Rises key xs → (i j : ℕ) (d : X) → i < j → j < length xs → key (get_or xs i d) < key (get_or xs j d)
increasing key [] rises i j d order within = absurd (omega arith)
increasing key (x ∷ xs) rises zero zero d order within = absurd (omega arith)
increasing key (x ∷ xs) rises zero (suc j) d order within = first_below key x xs j d rises.0 (omega arith)
increasing key (x ∷ xs) rises (suc i) zero d order within = absurd (omega arith)
increasing key (x ∷ xs) rises (suc i) (suc j) d order within = increasing key xs rises.1 i j d (omega arith) (omega arith)

pub place_from_tests : {X : Type 0} (key : X → ℕ) (n : ℕ) (xs : List X) (i : ℕ) → IsPartitionPoint (λ y. ltb (key y) n ≡ true) (λ y. ltb (key y) n ≡ false) xs i → IsPartitionPoint (λ y. key y < n) (λ y. n ≤ key y) xs i
place_from_tests key n xs i point = (
  (λ k d low lt. ltb-true (key (get_or xs k d)) n (point.0 k d low lt)),
  (λ k d low lt. ltb-false (key (get_or xs k d)) n (point.1 k d low lt)),
)

-- A search by halving of `seen`, which is `xs`, gave the place. There an entry replaces that of its key.
pub replaced_there : {X : Type 0} (key : X → ℕ) (y : X) (seen xs : List X) (place : ℕ) → seen ≡ xs → Rises key xs → place ≤ length seen → IsPartitionPoint (λ x. key x < key y) (λ x. key y ≤ key x) seen place → (found : X) → find (λ x. eqb (key x) (key y)) xs ≡ Some found → (place < length xs) × (set xs place y ≡ map (replaced key y) xs)
replaced_there {X} key y seen xs place same rises within point found there =
    let parts = subst (λ (zs : List X). Parted key (key y) zs place) same (parted key (key y) seen place within point) in
    let at = place_of key (key y) xs place found rises parts there in
    (at.0, set-at key y xs place y rises at.0 (at.1 y))

-- There an entry of another key goes in.
pub added_there : {X : Type 0} (key : X → ℕ) (y : X) (seen xs : List X) (place : ℕ) → seen ≡ xs → Rises key xs → place ≤ length seen → IsPartitionPoint (λ x. key x < key y) (λ x. key y ≤ key x) seen place → find (λ x. eqb (key x) (key y)) xs ≡ None → (place ≤ length xs) × Rises key (insert xs place y) × (insert xs place y ≡ filter (λ x. ltb (key x) (key y)) xs ++ y ∷ filter (λ x. ltb (key y) (key x)) xs)
added_there {X} key y seen xs place same rises within point absent =
    let parts = subst (λ (zs : List X). Parted key (key y) zs place) same (parted key (key y) seen place within point) in (
      subst (λ (zs : List X). place ≤ length zs) same within,
      rises-insert key y xs place rises parts absent,
      insert-at key y xs place rises parts absent,
    )

-- There no entry of the key stands, if that at the place is none.
pub absent_there : {X : Type 0} (key : X → ℕ) (n : ℕ) (seen xs : List X) (place : ℕ) → seen ≡ xs → Rises key xs → place ≤ length seen → IsPartitionPoint (λ x. key x < n) (λ x. n ≤ key x) seen place → ((d : X) → place < length xs → key (get_or xs place d) ≢ n) → find (λ x. eqb (key x) n) xs ≡ None
absent_there {X} key n seen xs place same rises within point other =
    find-absent key n xs place rises (subst (λ (zs : List X). Parted key n zs place) same (parted key n seen place within point)) other
