-- What stands before and behind an id, once an object is put among others.
use Rattle.std.proofs.Common.{◌≡◌, ℕ, zero, suc, ◌⊎◌, ◌+◌, ◌<◌, ◌≤◌, ◌==◌, Bool, true, false, cond, if◌then◌else◌, nat_lt, List, [], ◌∷◌, ◌++◌, length, map, take, drop, Option, Some, None, slice_get, refl, sym, ap, subst, ◌∙◌, inl, inr, arith, append_assoc}
use Rattle.std.specs.List.{AllByRecursion, filter}
use Rattle.std.proofs.lemmas.Bool.{cases_eq, eq-eqb, eqb-true, ne_eqb, lt-ltb, lt-leb, le-ltb, le-leb, ltb-true}
use Rattle.std.proofs.lemmas.List.{append-nil, length-append}
use Rattle.std.proofs.lemmas.List.Elements.{filter-append}
use Rattle.room_table.specs.declared.object.Object.{Object}
use Rattle.room_table.specs.Tables.{IsRising, HasNoId, find_object, with_object, with_new}
use Rattle.room_table.proofs.Keyed.{objects_from_rises, rises_from_objects}
use Rattle.room_table.proofs.Rising.{all_both, all_filter, all_weaker, rises-filter}
use Rattle.upkeep_rules.specs.inner.Worn.{place_past, place_behind}

abbrev id_of : Object → ℕ
id_of object = object.id

-- ---- lists

pub drop_at : {A : Type 0} (xs : List A) (i : ℕ) (x : A) → slice_get xs i ≡ Some x → drop i xs ≡ x ∷ drop (suc i) xs
drop_at [] i x at = absurd (cc)
drop_at {A} (first ∷ xs) zero x at = let same : first ≡ x = cc in ap (λ (y : A). y ∷ xs) same
drop_at (first ∷ xs) (suc i) x at = drop_at xs i x at

pub cut_at : {A : Type 0} (xs : List A) (i : ℕ) (x : A) → slice_get xs i ≡ Some x → xs ≡ take i xs ++ x ∷ drop (suc i) xs
cut_at [] i x at = absurd (cc)
cut_at {A} (first ∷ xs) zero x at = let same : first ≡ x = cc in ap (λ (y : A). y ∷ xs) same
cut_at {A} (first ∷ xs) (suc i) x at = ap (λ (more : List A). first ∷ more) (cut_at xs i x at)

pub front_long : {A : Type 0} (xs : List A) (i : ℕ) (x : A) → slice_get xs i ≡ Some x → length (take i xs) ≡ i
front_long [] i x at = absurd (cc)
front_long (first ∷ xs) zero x at = refl
front_long (first ∷ xs) (suc i) x at = ap suc (front_long xs i x at)

pub drop_front : {A : Type 0} (front back : List A) → drop (length front) (front ++ back) ≡ back
drop_front [] back = refl
drop_front (x ∷ front) back = drop_front front back

at_end : {A : Type 0} (front back : List A) → slice_get (front ++ back) (length front) ≡ slice_get back 0
at_end [] back = refl
at_end (x ∷ front) back = at_end front back

pub all_front : {A : Type 0} (P : A → Type 0) (xs ys : List A) → AllByRecursion P (xs ++ ys) → AllByRecursion P xs
all_front P [] ys all = tt
all_front P (x ∷ xs) ys all = (all.0, all_front P xs ys all.1)

pub all_back : {A : Type 0} (P : A → Type 0) (xs ys : List A) → AllByRecursion P (xs ++ ys) → AllByRecursion P ys
all_back P [] ys all = all
all_back P (x ∷ xs) ys all = all_back P xs ys all.1

pub all_joined : {A : Type 0} (P : A → Type 0) (xs ys : List A) → AllByRecursion P xs → AllByRecursion P ys → AllByRecursion P (xs ++ ys)
all_joined P [] ys one other = other
all_joined P (x ∷ xs) ys one other = (one.0, all_joined P xs ys one.1 other)

filter_all : {A : Type 0} (test : A → Bool) (xs : List A) → AllByRecursion (λ x. test x ≡ true) xs → filter test xs ≡ xs
filter_all test [] all = refl
filter_all {A} test (x ∷ xs) all = ap (λ (b : Bool). cond b (x ∷ filter test xs) (filter test xs)) all.0 ∙ ap (λ (more : List A). x ∷ more) (filter_all test xs all.1)

filter_none : {A : Type 0} (test : A → Bool) (xs : List A) → AllByRecursion (λ x. test x ≡ false) xs → filter test xs ≡ []
filter_none test [] all = refl
filter_none test (x ∷ xs) all = ap (λ (b : Bool). cond b (x ∷ filter test xs) (filter test xs)) all.0 ∙ filter_none test xs all.1

map_joined : {A B : Type 0} (f : A → B) (xs ys : List A) → map f (xs ++ ys) ≡ map f xs ++ map f ys
map_joined f [] ys = refl
map_joined {B = B} f (x ∷ xs) ys = ap (λ (more : List B). f x ∷ more) (map_joined f xs ys)

long_map : {A B : Type 0} (f : A → B) (xs : List A) → length (map f xs) ≡ length xs
long_map f [] = refl
long_map f (x ∷ xs) = ap suc (long_map f xs)

-- ---- rising lists

abbrev pub AreBelow : ℕ → List Object → Type 0
AreBelow id objects = AllByRecursion (λ object. object.id < id) objects

abbrev pub AreUpTo : ℕ → List Object → Type 0
AreUpTo id objects = AllByRecursion (λ object. object.id ≤ id) objects

abbrev pub AreAbove : ℕ → List Object → Type 0
AreAbove id objects = AllByRecursion (λ object. id < object.id) objects

abbrev pub AreOthers : ℕ → List Object → Type 0
AreOthers id objects = AllByRecursion (λ object. object.id ≡ id → ⊥) objects

pub rising_below : (before : List Object) (object : Object) (after : List Object) → IsRising (before ++ object ∷ after) → AreBelow object.id before
rising_below [] object after rise = tt
rising_below (first ∷ before) object after rise = ((all_back (λ o. first.id < o.id) before (object ∷ after) rise.0).0, rising_below before object after rise.1)

pub rising_back : (before after : List Object) → IsRising (before ++ after) → IsRising after
rising_back [] after rise = rise
rising_back (first ∷ before) after rise = rising_back before after rise.1

rising_front : (before after : List Object) → IsRising (before ++ after) → IsRising before
rising_front [] after rise = tt
rising_front (first ∷ before) after rise = (all_front (λ o. first.id < o.id) before after rise.0, rising_front before after rise.1)

pub rising_without : (test : Object → Bool) (objects : List Object) → IsRising objects → IsRising (filter test objects)
rising_without test objects rise = objects_from_rises (filter test objects) (rises-filter id_of test objects (rises_from_objects objects rise))

-- each object of a rising list is found by its id
pub own_found : (objects : List Object) → IsRising objects → AllByRecursion (λ object. find_object object.id objects ≡ Some object) objects
own_found [] rise = tt
own_found (first ∷ objects) rise = (
  ap (λ (b : Bool). cond b (Some first) (find_object first.id objects)) (eq-eqb first.id first.id refl),
  all_both (λ o. find_object o.id objects ≡ Some o) (λ o. first.id < o.id) (λ o. find_object o.id (first ∷ objects) ≡ Some o)
      (λ o found above. ap (λ (b : Bool). cond b (Some first) (find_object o.id objects)) (ne_eqb first.id o.id (λ e. omega (arith, e, above))) ∙ found)
      objects (own_found objects rise.1) rise.0,
)

pub others : (id : ℕ) (objects : List Object) → HasNoId id objects → AreOthers id objects
others id [] absent = tt
others id (object ∷ objects) absent =
    elim (cases_eq object.id id) [
      | inl same ↦ absurd (let some : ◌≡◌ {A = Option Object} (Some object) None = sym (ap (λ (b : Bool). cond b (Some object) (find_object id objects)) (eq-eqb object.id id same)) ∙ absent in cc)
      | inr other ↦ (other, others id objects (sym (ap (λ (b : Bool). cond b (Some object) (find_object id objects)) (ne_eqb object.id id other)) ∙ absent))
    ]

-- ---- an object is put among others

abbrev lesser : ℕ → List Object → List Object
lesser id objects = filter (λ o. nat_lt o.id id) objects

abbrev greater : ℕ → List Object → List Object
greater id objects = filter (λ o. nat_lt id o.id) objects

lesser_below : (id : ℕ) (objects : List Object) → AreBelow id (lesser id objects)
lesser_below id [] = tt
lesser_below id (object ∷ objects) =
    elim (nat_lt object.id id) as (λ b. nat_lt object.id id ≡ b → AreBelow id (cond b (object ∷ lesser id objects) (lesser id objects))) [
      | true ↦ λ is. (ltb-true object.id id is, lesser_below id objects)
      | false ↦ λ is. lesser_below id objects
    ] refl

greater_above : (id : ℕ) (objects : List Object) → AreAbove id (greater id objects)
greater_above id [] = tt
greater_above id (object ∷ objects) =
    elim (nat_lt id object.id) as (λ b. nat_lt id object.id ≡ b → AreAbove id (cond b (object ∷ greater id objects) (greater id objects))) [
      | true ↦ λ is. (ltb-true id object.id is, greater_above id objects)
      | false ↦ λ is. greater_above id objects
    ] refl

all_lesser : (id : ℕ) (objects : List Object) → AreBelow id objects → lesser id objects ≡ objects
all_lesser id objects below = filter_all (λ o. nat_lt o.id id) objects (all_weaker (λ o. o.id < id) (λ o. nat_lt o.id id ≡ true) (λ o lt. lt-ltb o.id id lt) objects below)

none_lesser : (id : ℕ) (objects : List Object) → AreAbove id objects → lesser id objects ≡ []
none_lesser id objects above = filter_none (λ o. nat_lt o.id id) objects (all_weaker (λ o. id < o.id) (λ o. nat_lt o.id id ≡ false) (λ o lt. le-ltb o.id id (omega arith)) objects above)

all_greater : (id : ℕ) (objects : List Object) → AreAbove id objects → greater id objects ≡ objects
all_greater id objects above = filter_all (λ o. nat_lt id o.id) objects (all_weaker (λ o. id < o.id) (λ o. nat_lt id o.id ≡ true) (λ o lt. lt-ltb id o.id lt) objects above)

none_greater : (id : ℕ) (objects : List Object) → AreBelow id objects → greater id objects ≡ []
none_greater id objects below = filter_none (λ o. nat_lt id o.id) objects (all_weaker (λ o. o.id < id) (λ o. nat_lt id o.id ≡ false) (λ o lt. le-ltb id o.id (omega arith)) objects below)

around : (a b : ℕ) → (a ≡ b → ⊥) → (a < b) ⊎ (b < a)
around a b other =
    elim (nat_lt a b) as (λ t. nat_lt a b ≡ t → (a < b) ⊎ (b < a)) [
      | true ↦ λ is. inl (ltb-true a b is)
      | false ↦ λ is. inr (grind (arith, other))
    ] refl

-- the lesser and the greater ones are all
both_are_all : (id : ℕ) (objects : List Object) → IsRising objects → AreOthers id objects → lesser id objects ++ greater id objects ≡ objects
both_are_all id [] rise other = refl
both_are_all id (object ∷ objects) rise other =
    elim (around object.id id other.0) as (λ c. lesser id (object ∷ objects) ++ greater id (object ∷ objects) ≡ object ∷ objects) [
      | inl below ↦
          let low = lt-ltb object.id id below in
          let high = le-ltb id object.id (omega arith) in
          rw (low, high) (ap (λ (more : List Object). object ∷ more) (both_are_all id objects rise.1 other.1))
      | inr above ↦
          let all : AreAbove id (object ∷ objects) = (above, all_weaker (λ o. object.id < o.id) (λ o. id < o.id) (λ o lt. omega (arith, above)) objects rise.0) in
          (λ i. none_lesser id (object ∷ objects) all i ++ all_greater id (object ∷ objects) all i)
    ]

module _ (test : Object → Bool) (pile : Object) (calm : test pile ≡ false) where
  -- a new one that does not pass a test is none of those that do
  pub filter_new : (objects : List Object) → IsRising objects → AreOthers pile.id objects → filter test (with_new pile objects) ≡ filter test objects
  filter_new objects rise other =
      filter-append test (lesser pile.id objects) (pile ∷ greater pile.id objects)
      ∙ ap (λ (b : Bool). filter test (lesser pile.id objects) ++ cond b (pile ∷ filter test (greater pile.id objects)) (filter test (greater pile.id objects))) calm
      ∙ sym (filter-append test (lesser pile.id objects) (greater pile.id objects))
      ∙ ap (filter test) (both_are_all pile.id objects rise other)

  pub filter_set : (objects : List Object) → AllByRecursion (λ o. o.id ≡ pile.id → test o ≡ false) objects → filter test (with_object pile objects) ≡ filter test objects
  filter_set [] all = refl
  filter_set (object ∷ objects) all =
      let rest = filter_set objects all.1 in
      elim (cases_eq object.id pile.id) as (λ c. filter test (with_object pile (object ∷ objects)) ≡ filter test (object ∷ objects)) [
        | inl same ↦ rw (eq-eqb object.id pile.id same, calm, all.0 same) rest
        | inr other ↦ rw (ne_eqb object.id pile.id other) (elim (test object) as (λ b. cond b (object ∷ filter test (with_object pile objects)) (filter test (with_object pile objects)) ≡ cond b (object ∷ filter test objects) (filter test objects)) [ true ↦ ap (λ (more : List Object). object ∷ more) rest | false ↦ rest ])
      ]

long_new : (pile : Object) (objects : List Object) → IsRising objects → AreOthers pile.id objects → length (with_new pile objects) ≡ length objects + 1
long_new pile objects rise other =
    let whole = ap length (both_are_all pile.id objects rise other) in
    omega (arith, whole, length-append (lesser pile.id objects) (pile ∷ greater pile.id objects), length-append (lesser pile.id objects) (greater pile.id objects))

ids_set : (Q : ℕ → Type 0) (pile : Object) (objects : List Object) → AllByRecursion (λ o. Q o.id) objects → AllByRecursion (λ o. Q o.id) (with_object pile objects)
ids_set Q pile [] all = tt
ids_set Q pile (object ∷ objects) all = (
  elim (object.id == pile.id) as (λ b. (object.id == pile.id) ≡ b → Q (if b then pile else object).id) [
    | true ↦ λ is. subst Q (eqb-true object.id pile.id is) all.0
    | false ↦ λ is. all.0
  ] refl,
  ids_set Q pile objects all.1,
)

rising_joined : (xs : List Object) (pile : Object) (ys : List Object) → IsRising xs → AreBelow pile.id xs → IsRising ys → AreAbove pile.id ys → IsRising (xs ++ pile ∷ ys)
rising_joined [] pile ys rise below rest above = (above, rest)
rising_joined (x ∷ xs) pile ys rise below rest above = (
  all_joined (λ o. x.id < o.id) xs (pile ∷ ys) rise.0 (below.0, all_weaker (λ o. pile.id < o.id) (λ o. x.id < o.id) (λ o lt. omega (arith, below.0)) ys above),
  rising_joined xs pile ys rise.1 below.1 rest above,
)

pub rising_new : (pile : Object) (objects : List Object) → IsRising objects → IsRising (with_new pile objects)
rising_new pile objects rise =
    rising_joined (lesser pile.id objects) pile (greater pile.id objects) (rising_without (λ o. nat_lt o.id pile.id) objects rise) (lesser_below pile.id objects) (rising_without (λ o. nat_lt pile.id o.id) objects rise) (greater_above pile.id objects)

-- ---- before and behind an id

-- those that have the id of one that does not pass a test do not
pub set_quiet : (test : Object → Bool) (pile : Object) (objects : List Object) → IsRising objects → (old : Object) → find_object pile.id objects ≡ Some old → test old ≡ false
    → AllByRecursion (λ o. o.id ≡ pile.id → test o ≡ false) objects
set_quiet test pile objects rise old found quiet =
    all_weaker (λ o. find_object o.id objects ≡ Some o) (λ o. o.id ≡ pile.id → test o ≡ false) (λ o own same. let here : Some o ≡ Some old = sym own ∙ ap (λ (n : ℕ). find_object n objects) same ∙ found in let one : o ≡ old = cc in ap test one ∙ quiet) objects (own_found objects rise)

-- The objects of no greater ids stand up to a place or the next, and behind them pass a test those of the rest that do.
pub record IsSplit (test : Object → Bool) (id place : ℕ) (rest objects : List Object) : Type 0 where
  pub front : List Object
  pub back : List Object
  pub whole : objects ≡ front ++ back
  pub below : AllByRecursion (λ object. object.id ≤ id) front
  pub above : AllByRecursion (λ object. id < object.id) back
  pub same : filter test back ≡ filter test rest
  pub many : (length front ≡ place) ⊎ (length front ≡ place + 1)
  pub fewer : length back ≤ length rest + 1

behind_back : (id place : ℕ) (back : List Object) → AreAbove id back → place_past id place (slice_get back 0) ≡ place
behind_back id place [] above = refl
behind_back id place (object ∷ back) above = ap (λ (b : Bool). if b then place + 1 else place) (lt-leb object.id id (omega (arith, above.0)))

last_below : (id place : ℕ) (front back : List Object) → length front ≡ place + 1 → AreUpTo id front → place_past id place (slice_get (front ++ back) place) ≡ place + 1
last_below id place front back long below = let found = read front place long below in ap (place_past id place) found.1 ∙ ap (λ (b : Bool). if b then place + 1 else place) (le-leb found.0.id id found.2)
  where
    read : (xs : List Object) (i : ℕ) → length xs ≡ i + 1 → AreUpTo id xs → (object : Object) × (slice_get (xs ++ back) i ≡ Some object) × (object.id ≤ id)
    read [] i long below = absurd (omega (arith, long))
    read (x ∷ xs) zero long below = (x, refl, below.0)
    read (x ∷ xs) (suc i) long below = read xs i (omega (arith, long)) below.1

pub behind_here : (id : ℕ) (before after : List Object) → AreAbove id after → place_behind id (length before) (before ++ after) ≡ length before
behind_here id before after above = ap (place_past id (length before)) (at_end before after) ∙ behind_back id (length before) after above

module _ (test : Object → Bool) (id place : ℕ) (rest objects : List Object) (split : IsSplit test id place rest objects) where
  split_place : place_behind id place objects ≡ length split.front
  split_place =
      ap (λ (xs : List Object). place_past id place (slice_get xs place)) split.whole
      ∙ elim split.many as (λ m. place_past id place (slice_get (split.front ++ split.back) place) ≡ length split.front) [
        | inl here ↦ ap (λ (n : ℕ). place_past id place (slice_get (split.front ++ split.back) n)) (sym here) ∙ ap (place_past id place) (at_end split.front split.back) ∙ behind_back id place split.back split.above ∙ sym here
        | inr later ↦ last_below id place split.front split.back later split.below ∙ sym later
      ]

  pub split_ahead : drop (place_behind id place objects) objects ≡ split.back
  split_ahead = ap (λ (n : ℕ). drop n objects) split_place ∙ ap (drop (length split.front)) split.whole ∙ drop_front split.front split.back

module _ (test : Object → Bool) (id place : ℕ) (before after : List Object) (long : length before ≡ place) (below : AllByRecursion (λ o. o.id ≤ id) before) (above : AllByRecursion (λ o. id < o.id) after) where
  module _ (rise : IsRising (before ++ after)) (pile : Object) (calm : test pile ≡ false) where
    module _ (absent : HasNoId pile.id (before ++ after)) where
      abbrev p : ℕ
      p = pile.id

      other : AreOthers p (before ++ after)
      other = others p (before ++ after) absent

      whole_new : with_new pile (before ++ after) ≡ (lesser p before ++ lesser p after) ++ pile ∷ (greater p before ++ greater p after)
      whole_new = λ i. filter-append (λ o. nat_lt o.id p) before after i ++ pile ∷ filter-append (λ o. nat_lt p o.id) before after i

      split_low : p < id → IsSplit test id place after (with_new pile (before ++ after))
      split_low low =
          let past : AreAbove p after = all_weaker (λ o. id < o.id) (λ o. p < o.id) (λ o lt. omega (arith, low)) after above in
          let least : p ≤ id = omega (arith, low) in
          record {
            front = with_new pile before;
            back = after;
            whole =
                whole_new
                ∙ (λ i. (lesser p before ++ none_lesser p after past i) ++ pile ∷ (greater p before ++ all_greater p after past i))
                ∙ ap (λ (front : List Object). front ++ pile ∷ (greater p before ++ after)) (append-nil (lesser p before))
                ∙ sym (append_assoc (lesser p before) (pile ∷ greater p before) after);
            below = all_joined (λ o. o.id ≤ id) (lesser p before) (pile ∷ greater p before) (all_filter (λ o. o.id ≤ id) (λ o. nat_lt o.id p) before below) (least, all_filter (λ o. o.id ≤ id) (λ o. nat_lt p o.id) before below);
            above = above;
            same = refl;
            many = inr (long_new pile before (rising_front before after rise) (all_front (λ o. o.id ≡ p → ⊥) before after other) ∙ ap (λ (n : ℕ). n + 1) long);
            fewer = omega arith;
          }

      split_high : id < p → IsSplit test id place after (with_new pile (before ++ after))
      split_high high =
          let past : AreBelow p before = all_weaker (λ o. o.id ≤ id) (λ o. o.id < p) (λ o lt. omega (arith, high)) before below in
          let rest = rising_back before after rise in
          let apart = all_back (λ o. o.id ≡ p → ⊥) before after other in
          let more = long_new pile after rest apart in
          record {
            front = before;
            back = with_new pile after;
            whole =
                whole_new
                ∙ (λ i. (all_lesser p before past i ++ lesser p after) ++ pile ∷ (none_greater p before past i ++ greater p after))
                ∙ append_assoc before (lesser p after) (pile ∷ greater p after);
            below = below;
            above = all_joined (λ o. id < o.id) (lesser p after) (pile ∷ greater p after) (all_filter (λ o. id < o.id) (λ o. nat_lt o.id p) after above) (high, all_filter (λ o. id < o.id) (λ o. nat_lt p o.id) after above);
            same = filter_new test pile calm after rest apart;
            many = inl long;
            fewer = omega (arith, more);
          }

      -- once a pile is made
      pub split_new : (p ≡ id → ⊥) → IsSplit test id place after (with_new pile (before ++ after))
      split_new apart = elim (around p id apart) [ inl low ↦ split_low low | inr high ↦ split_high high ]

    -- once a pile has grown
    pub split_set : (old : Object) → find_object pile.id (before ++ after) ≡ Some old → test old ≡ false → IsSplit test id place after (with_object pile (before ++ after))
    split_set old found quiet =
        let all = set_quiet test pile (before ++ after) rise old found quiet in
        let long_back = long_map (λ (o : Object). if o.id == pile.id then pile else o) after in
        record {
          front = with_object pile before;
          back = with_object pile after;
          whole = map_joined (λ (o : Object). if o.id == pile.id then pile else o) before after;
          below = ids_set (λ n. n ≤ id) pile before below;
          above = ids_set (λ n. id < n) pile after above;
          same = filter_set test pile calm after (all_back (λ o. o.id ≡ pile.id → test o ≡ false) before after all);
          many = inl (long_map (λ (o : Object). if o.id == pile.id then pile else o) before ∙ long);
          fewer = omega (arith, long_back);
        }
