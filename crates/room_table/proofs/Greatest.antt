-- The greatest id of objects.
use Rattle.std.proofs.Common.{◌≡◌, ℕ, suc, ◌-◌, ◌<◌, ◌≤◌, List, [], ◌∷◌, length, Some, None, slice_get, refl, sym, ap, ◌∙◌, arith}
use Rattle.std.specs.List.{AllByRecursion}
use Rattle.room_table.specs.declared.object.Object.{Object}
use Rattle.room_table.specs.Tables.{IsRising, greatest_id}

-- In a rising list it is that of the last.
last_of : (first : Object) (objects : List Object) (last : Object) → IsRising (first ∷ objects) → slice_get (first ∷ objects) (length objects) ≡ Some last → (greatest_id (first ∷ objects) ≡ last.id) × (first.id ≤ last.id)
last_of first [] last rise is = let same : first ≡ last = cc in let ids = ap (λ (o : Object). o.id) same in (omega (arith, ids), omega (arith, ids))
last_of first (second ∷ objects) last rise is =
    let rest = last_of second objects last rise.1 is in
    let above : first.id < second.id = rise.0.0 in
    (omega (arith, rest.0, rest.1, above), omega (arith, rest.1, above))

pub greatest_last : (objects : List Object) (last : Object) → IsRising objects → slice_get objects (length objects - 1) ≡ Some last → last.id ≡ greatest_id objects
greatest_last [] last rise is = absurd cc
greatest_last (first ∷ objects) last rise is =
    let place : length objects ≡ suc (length objects) - 1 = omega arith in
    let found = last_of first objects last rise (ap (slice_get (first ∷ objects)) place ∙ is) in
    sym found.0

has_last : (first : Object) (objects : List Object) → slice_get (first ∷ objects) (length objects) ≡ None → ⊥
has_last first [] is = cc
has_last first (second ∷ objects) is = has_last second objects is

pub greatest_none : (objects : List Object) → slice_get objects (length objects - 1) ≡ None → 0 ≡ greatest_id objects
greatest_none [] is = refl
greatest_none (first ∷ objects) is =
    let place : length objects ≡ suc (length objects) - 1 = omega arith in
    absurd (has_last first objects (ap (slice_get (first ∷ objects)) place ∙ is))

-- All ids are below what the greatest is below.
pub all_under : (bound : ℕ) (objects : List Object) → greatest_id objects < bound → AllByRecursion (λ o. o.id < bound) objects
all_under bound [] below = tt
all_under bound (object ∷ objects) below = (omega (arith, below), all_under bound objects (omega (arith, below)))
