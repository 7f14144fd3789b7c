-- What is found among the tallies of objects.
use Rattle.std.proofs.Common.{◌≡◌, ◌≢◌, ℕ, zero, suc, ◌<◌, ◌==◌, true, false, cond, List, [], ◌∷◌, length, get_or, Option, Some, None, refl, sym, ap, subst, ◌∙◌, inl, inr, arith, eq-eqb, eqb-true, ne_eqb, le-ltb, lt-ltb}
use Rattle.std.specs.FinMap.{find, get, get-from_entries}
use Rattle.std.specs.List.{AllByRecursion, insert, remove}
use Rattle.std.specs.Option.{unwrap_or}
use Rattle.std.specs.Ordering.{eq_by_cmp, nat_cmp}
use Rattle.std.specs.Cmp.{nat_cmp_total}
use Rattle.std.proofs.lemmas.Bool.{and_parts, cases_eq, cases_lt, cases_Bool}
use Rattle.std.proofs.lemmas.List.{get_or_past}
use Rattle.std.proofs.lemmas.List.Elements.{All-from_recursion}
use Rattle.room_table.specs.declared.object.Object.{Object}
use Rattle.room_table.specs.declared.tally.Tally.{Tally}
use Rattle.room_table.specs.Tables.{HasNoId, with_object, without, AreTalliesOf}
use Rattle.room_table.specs.Tallies.{is_no_tally, no_tally, tally_of}
use Rattle.room_table.specs.inner.Placed.{object_in, standing}
use Rattle.room_table.specs.inner.Tallied.{done_to, tallied, tallies_in, tally_in, IsCapped}
use Rattle.room_table.proofs.Keyed.{id_of}
use Rattle.room_table.proofs.Rising.{Rises, find-above, key_replaced, some_none}

-- the keys of a map
pub same_key : (q k : ℕ) → q ≡ k → eq_by_cmp nat_cmp q k ≡ true
same_key q k same = rw (le-ltb q k (omega arith), eq-eqb q k same) refl

pub other_key : (q k : ℕ) → q ≢ k → eq_by_cmp nat_cmp q k ≡ false
other_key q k other = elim (cases_lt q k) [
  | inl below ↦ rw (lt-ltb q k below) refl
  | inr above ↦ rw (le-ltb q k above, ne_eqb q k other) refl
]

-- what is kept of a tally
abbrev pub kept_of : Tally → Option Tally
kept_of tally = cond (is_no_tally tally) None (Some tally)

pub is_none : (tally : Tally) → is_no_tally tally ≡ true → tally ≡ no_tally
is_none tally none =
    let parts = and_parts (tally.damage == 0) (tally.healing == 0) none in
    let damage = eqb-true tally.damage 0 parts.0 in
    let healing = eqb-true tally.healing 0 parts.1 in
    λ i. record { damage = damage i; healing = healing i }

pub unwrap_kept : (tally : Tally) → unwrap_or (kept_of tally) no_tally ≡ tally
unwrap_kept tally = elim (cases_Bool (is_no_tally tally)) [
  | inl none ↦ rw none (sym (is_none tally none))
  | inr some ↦ rw some refl
]

-- what is found at an id among the tallies of objects
abbrev pub look : ℕ → List Object → List Tally → Option Tally
look q objects tallies = find nat_cmp q (done_to objects tallies)

-- with one object before
abbrev pub with_first : ℕ → ℕ → Tally → Option Tally → Option Tally
with_first q k tally rest = cond (is_no_tally tally) rest (cond (eq_by_cmp nat_cmp q k) (Some tally) rest)

pub look_first : (q : ℕ) (o : Object) (tally : Tally) (objects : List Object) (tallies : List Tally) → look q (o ∷ objects) (tally ∷ tallies) ≡ with_first q o.id tally (look q objects tallies)
look_first q o tally objects tallies =
    elim (is_no_tally tally) as (λ b. find nat_cmp q (cond b (done_to objects tallies) ((o.id, tally) ∷ done_to objects tallies)) ≡ cond b (look q objects tallies) (cond (eq_by_cmp nat_cmp q o.id) (Some tally) (look q objects tallies))) [
      | true ↦ refl
      | false ↦ refl
    ]

first_other : (q k : ℕ) (tally : Tally) (rest : Option Tally) → q ≢ k → with_first q k tally rest ≡ rest
first_other q k tally rest other =
    rw (other_key q k other) (elim (is_no_tally tally) as (λ b. cond b rest rest ≡ rest) [ true ↦ refl | false ↦ refl ])

first_same : (q k : ℕ) (tally : Tally) → q ≡ k → with_first q k tally None ≡ kept_of tally
first_same q k tally same = rw (same_key q k same) refl

pub look_absent : (q : ℕ) (objects : List Object) (tallies : List Tally) → HasNoId q objects → look q objects tallies ≡ None
look_absent q [] tallies none = refl
look_absent q (o ∷ objects) [] none = refl
look_absent q (o ∷ objects) (tally ∷ tallies) none = elim (cases_eq o.id q) [
  | inl same ↦ absurd (some_none (rw (eq-eqb o.id q same) at none))
  | inr other ↦
      look_first q o tally objects tallies ∙ first_other q o.id tally (look q objects tallies) (λ e. other (sym e)) ∙ look_absent q objects tallies (rw (ne_eqb o.id q other) at none)
]

pub look_at : (q : ℕ) (objects : List Object) (tallies : List Tally) (i : ℕ) (d : Object) (e : Tally) → Rises id_of objects → i < length objects → length tallies ≡ length objects → id_of (get_or objects i d) ≡ q → look q objects tallies ≡ kept_of (get_or tallies i e)
look_at q [] tallies i d e rises within long here = absurd (omega arith)
look_at q (o ∷ objects) [] i d e rises within long here = absurd (omega arith)
look_at q (o ∷ objects) (tally ∷ tallies) zero d e rises within long here =
    let none = find-above id_of q objects (subst (λ n. AllByRecursion (λ later. n < id_of later) objects) here rises.0) in
    look_first q o tally objects tallies ∙ ap (with_first q o.id tally) (look_absent q objects tallies none) ∙ first_same q o.id tally (sym here)
look_at q (o ∷ objects) (tally ∷ tallies) (suc i) d e rises within long here =
    let lower : i < length objects = omega arith in
    let below : id_of o < id_of (get_or objects i d) = All-from_recursion (λ later. id_of o < id_of later) objects rises.0 i d lower in
    look_first q o tally objects tallies ∙ first_other q o.id tally (look q objects tallies) (λ same. omega arith) ∙ look_at q objects tallies i d e rises.1 lower (omega arith) here

-- among the same objects, with other tallies
pub look_alike : (q : ℕ) (slots : List Object) (old new : List Tally) (order : List ℕ) → ((slot : ℕ) → id_of (object_in slots slot) ≡ q → tally_in new slot ≡ tally_in old slot) → look q (standing slots order) (tallies_in new order) ≡ look q (standing slots order) (tallies_in old order)
look_alike q slots old new [] alike = refl
look_alike q slots old new (slot ∷ order) alike =
    let rest = look_alike q slots old new order alike in
    let o = object_in slots slot in
    look_first q o (tally_in new slot) (standing slots order) (tallies_in new order) ∙ (elim (cases_eq (id_of o) q) [
      | inl same ↦ ap (λ t. with_first q o.id t (look q (standing slots order) (tallies_in new order))) (alike slot same) ∙ ap (with_first q o.id (tally_in old slot)) rest
      | inr other ↦ first_other q o.id (tally_in new slot) (look q (standing slots order) (tallies_in new order)) (λ e. other (sym e)) ∙ rest ∙ sym (first_other q o.id (tally_in old slot) (look q (standing slots order) (tallies_in old order)) (λ e. other (sym e)))
    ]) ∙ sym (look_first q o (tally_in old slot) (standing slots order) (tallies_in old order))

-- without one that has another id
pub look_less : (q : ℕ) (slots : List Object) (tallies : List Tally) (order : List ℕ) (place : ℕ) → (place < length order → q ≢ id_of (object_in slots (get_or order place 0))) → look q (standing slots (remove order place)) (tallies_in tallies (remove order place)) ≡ look q (standing slots order) (tallies_in tallies order)
look_less q slots tallies [] zero other = refl
look_less q slots tallies [] (suc place) other = refl
look_less q slots tallies (slot ∷ order) zero other =
    sym (look_first q (object_in slots slot) (tally_in tallies slot) (standing slots order) (tallies_in tallies order) ∙ first_other q (id_of (object_in slots slot)) (tally_in tallies slot) (look q (standing slots order) (tallies_in tallies order)) (other (omega arith)))
look_less q slots tallies (slot ∷ order) (suc place) other =
    look_first q (object_in slots slot) (tally_in tallies slot) (standing slots (remove order place)) (tallies_in tallies (remove order place))
    ∙ ap (with_first q (id_of (object_in slots slot)) (tally_in tallies slot)) (look_less q slots tallies order place (λ lt. other (omega arith)))
    ∙ sym (look_first q (object_in slots slot) (tally_in tallies slot) (standing slots order) (tallies_in tallies order))

pub none_without : (q : ℕ) (objects : List Object) → HasNoId q (without q objects)
none_without q [] = refl
none_without q (o ∷ objects) = elim (cases_eq o.id q) [
  | inl same ↦ rw (eq-eqb o.id q same) (none_without q objects)
  | inr other ↦ rw (ne_eqb o.id q other) (rw (ne_eqb o.id q other) (none_without q objects))
]

-- the ids alone count
pub done_with : (object : Object) (objects : List Object) (tallies : List Tally) → done_to (with_object object objects) tallies ≡ done_to objects tallies
done_with object [] tallies = refl
done_with object (o ∷ objects) [] = refl
done_with object (o ∷ objects) (tally ∷ tallies) =
    let rest = done_with object objects tallies in
    let key = key_replaced id_of object o in
    λ i. cond (is_no_tally tally) (rest i) ((key i, tally) ∷ rest i)

-- one more to which nothing was done
pub done_insert : (objects : List Object) (tallies : List Tally) (place : ℕ) (object : Object) → length tallies ≡ length objects → done_to (insert objects place object) (insert tallies place no_tally) ≡ done_to objects tallies
done_insert [] [] zero object long = refl
done_insert [] [] (suc place) object long = refl
done_insert [] (tally ∷ tallies) place object long = absurd (omega arith)
done_insert (o ∷ objects) [] place object long = absurd (omega arith)
done_insert (o ∷ objects) (tally ∷ tallies) zero object long = refl
done_insert (o ∷ objects) (tally ∷ tallies) (suc place) object long =
    ap (λ rest. cond (is_no_tally tally) rest ((o.id, tally) ∷ rest)) (done_insert objects tallies place object (omega arith))

-- nothing was done to any
pub done_none : (objects : List Object) (tallies : List Tally) (order : List ℕ) → ((slot : ℕ) → tally_in tallies slot ≡ no_tally) → done_to objects (tallies_in tallies order) ≡ []
done_none [] tallies order none = refl
done_none (o ∷ objects) tallies [] none = refl
done_none (o ∷ objects) tallies (slot ∷ order) none =
    ap (λ t. cond (is_no_tally t) (done_to objects (tallies_in tallies order)) ((o.id, t) ∷ done_to objects (tallies_in tallies order))) (none slot) ∙ done_none objects tallies order none

-- no sum passes its most
pub none_capped : IsCapped no_tally
none_capped = record { damage = omega arith; healing = omega arith }

pub look_capped : (q : ℕ) (objects : List Object) (tallies : List Tally) → AllByRecursion IsCapped tallies → IsCapped (unwrap_or (look q objects tallies) no_tally)
look_capped q [] tallies capped = none_capped
look_capped q (o ∷ objects) [] capped = none_capped
look_capped q (o ∷ objects) (tally ∷ tallies) capped =
    let rest = look_capped q objects tallies capped.1 in
    subst (λ r. IsCapped (unwrap_or r no_tally)) (sym (look_first q o tally objects tallies)) (elim (is_no_tally tally) as (λ b. IsCapped (unwrap_or (cond b (look q objects tallies) (cond (eq_by_cmp nat_cmp q o.id) (Some tally) (look q objects tallies))) no_tally)) [
      | true ↦ rest
      | false ↦ elim (eq_by_cmp nat_cmp q o.id) as (λ b. IsCapped (unwrap_or (cond b (Some tally) (look q objects tallies)) no_tally)) [
        | true ↦ capped.0
        | false ↦ rest
      ]
    ])

pub capped_in : (tallies : List Tally) (slot : ℕ) → AllByRecursion IsCapped tallies → IsCapped (tally_in tallies slot)
capped_in tallies slot capped = elim (cases_lt slot (length tallies)) [
  | inl within ↦ All-from_recursion IsCapped tallies capped slot no_tally within
  | inr past ↦ subst IsCapped (sym (get_or_past tallies slot no_tally past)) none_capped
]

pub all_capped_in : (tallies : List Tally) (order : List ℕ) → AllByRecursion IsCapped tallies → AllByRecursion IsCapped (tallies_in tallies order)
all_capped_in tallies [] capped = tt
all_capped_in tallies (slot ∷ order) capped = (capped_in tallies slot capped, all_capped_in tallies order capped)

-- what a table answers
pub get_tallied : (q : ℕ) (slots : List Object) (tallies : List Tally) (order : List ℕ) → get (tallied slots tallies order) q ≡ look q (standing slots order) (tallies_in tallies order)
get_tallied q slots tallies order = get-from_entries nat_cmp_total (done_to (standing slots order) (tallies_in tallies order)) q

pub are_tallies : (slots : List Object) (tallies : List Tally) (order : List ℕ) → AllByRecursion IsCapped tallies → AreTalliesOf (standing slots order) (tallied slots tallies order)
are_tallies slots tallies order capped =
    let low : (q : ℕ) → IsCapped (tally_of q (tallied slots tallies order)) = λ q. subst (λ r. IsCapped (unwrap_or r no_tally)) (sym (get_tallied q slots tallies order)) (look_capped q (standing slots order) (tallies_in tallies order) (all_capped_in tallies order capped)) in record {
      absent = λ id none. ap (λ r. unwrap_or r no_tally) (get_tallied id slots tallies order ∙ look_absent id (standing slots order) (tallies_in tallies order) none);
      damage = λ id. (low id).damage;
      healing = λ id. (low id).healing;
    }
