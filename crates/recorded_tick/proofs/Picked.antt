-- Of a list, the values that are not as before: they are among it, in its order, and put in the place of those before they make it.
use Rattle.std.proofs.Common.{◌≡◌, ℕ, ◌<◌, ◌==◌, ◌⊎◌, Bool, cond, List, [], ◌∷◌, map, Option, Some, None, unwrap_or, inl, inr, refl, sym, ap, subst, ◌∙◌, arith}
use Rattle.std.specs.List.{AllByRecursion, find}
use Rattle.std.proofs.lemmas.Bool.{eq-eqb, ne_eqb}
use Rattle.room_table.proofs.Rising.{Rises}
use Rattle.room_table.specs.Tables.{Table, without_spare}
use Rattle.object_store.specs.declared.account.Account.{Account}
use Rattle.object_store.specs.declared.world.Room.{Room}
use Rattle.tick_journal.specs.TickForms.{IsRisingBy}
use Rattle.recorded_tick.specs.Recording.{AreChangedAccounts, AreChangedRooms}

-- The picked ones are those of the second list that are not as in the first, in their order.
abbrev pub ArePicked : {V : Type 0} → List V → List V → List V → Type 0
ArePicked [] ys picked = picked ≡ []
ArePicked (x ∷ xs) [] picked = picked ≡ []
ArePicked {V} (x ∷ xs) (y ∷ ys) picked =
    ((x ≡ y) × ArePicked xs ys picked) ⊎ ((later : List V) × (picked ≡ y ∷ later) × ArePicked xs ys later)

pub picked_all : {V : Type 0} (P : V → Type 0) (xs ys picked : List V) → ArePicked xs ys picked → AllByRecursion P ys → AllByRecursion P picked
picked_all P [] ys picked so all = subst (AllByRecursion P) (sym so) tt
picked_all P (x ∷ xs) [] picked so all = subst (AllByRecursion P) (sym so) tt
picked_all P (x ∷ xs) (y ∷ ys) picked so all = elim so [
  | inl kept ↦ picked_all P xs ys picked kept.1 all.1
  | inr put ↦ subst (AllByRecursion P) (sym put.1) (all.0, picked_all P xs ys put.0 put.2 all.1)
]

pub picked_rises : {V : Type 0} (number : V → ℕ) (xs ys picked : List V) → ArePicked xs ys picked → Rises number ys → Rises number picked
picked_rises number [] ys picked so rising = subst (Rises number) (sym so) tt
picked_rises number (x ∷ xs) [] picked so rising = subst (Rises number) (sym so) tt
picked_rises {V} number (x ∷ xs) (y ∷ ys) picked so rising = elim so [
  | inl kept ↦ picked_rises number xs ys picked kept.1 rising.1
  | inr put ↦ subst (Rises number) (sym put.1) (picked_all (λ (other : V). number y < number other) xs ys put.0 put.2 rising.0, picked_rises number xs ys put.0 put.2 rising.1)
]

pub rises_by : {V : Type 0} (number : V → ℕ) (list : List V) → Rises number list → IsRisingBy number list
rises_by number [] rising = tt
rises_by number (x ∷ list) rising = (rising.0, rises_by number list rising.1)

-- ---- put in the place of those before

module _ {V : Type 0} (number : V → ℕ) where
  abbrev at_number : ℕ → List V → Option V
  at_number n list = find (λ v. number v == n) list

  -- the one with the number of a value, where there is one, and else the value
  abbrev pub put : List V → V → V
  put list x = unwrap_or (at_number (number x) list) x

  none_above : (n : ℕ) (list : List V) → AllByRecursion (λ v. n < number v) list → at_number n list ≡ None
  none_above n [] all = refl
  none_above n (v ∷ list) all =
      let above : n < number v = all.0 in
      ap (λ (b : Bool). cond b (Some v) (at_number n list)) (ne_eqb (number v) n (λ same. omega (arith, above, same))) ∙ none_above n list all.1

  own_first : (v : V) (list : List V) → at_number (number v) (v ∷ list) ≡ Some v
  own_first v list = ap (λ (b : Bool). cond b (Some v) (at_number (number v) list)) (eq-eqb (number v) (number v) refl)

  past_first : (v : V) (n : ℕ) (list : List V) → number v < n → at_number n (v ∷ list) ≡ at_number n list
  past_first v n list less = ap (λ (b : Bool). cond b (Some v) (at_number n list)) (ne_eqb (number v) n (λ same. omega (arith, less, same)))

  -- What is found by the numbers of these values in the one list is found in the other.
  abbrev Agree : List V → List V → List V → Type 0
  Agree whole picked ys = AllByRecursion (λ y. at_number (number y) whole ≡ at_number (number y) picked) ys

  agree_later : (whole picked later : List V) (first : V) (ys : List V) → picked ≡ first ∷ later → AllByRecursion (λ y. number first < number y) ys → Agree whole picked ys → Agree whole later ys
  agree_later whole picked later first [] is above agree = tt
  agree_later whole picked later first (y ∷ ys) is above agree = (
    agree.0 ∙ ap (at_number (number y)) is ∙ past_first first (number y) later above.0,
    agree_later whole picked later first ys is above.1 agree.1,
  )

  put_from : (xs ys picked whole : List V) → map number xs ≡ map number ys → Rises number ys → ArePicked xs ys picked → Agree whole picked ys → map (put whole) xs ≡ ys
  put_from [] [] picked whole same rising so agree = refl
  put_from [] (y ∷ ys) picked whole same rising so agree = absurd (cc)
  put_from (x ∷ xs) [] picked whole same rising so agree = absurd (cc)
  put_from (x ∷ xs) (y ∷ ys) picked whole same rising so agree =
      let own : number x ≡ number y = cc in
      let others : map number xs ≡ map number ys = cc in
      elim so [
        | inl kept ↦
            let none : at_number (number y) picked ≡ None = none_above (number y) picked (picked_all (λ (v : V). number y < number v) xs ys picked kept.1 rising.0) in
            let first : put whole x ≡ y = ap (λ (found : Option V). unwrap_or found x) (ap (λ (n : ℕ). at_number n whole) own ∙ agree.0 ∙ none) ∙ kept.0 in
            let rest = put_from xs ys picked whole others rising.1 kept.1 agree.1 in
            λ i. first i ∷ rest i
        | inr changed ↦
            let found : at_number (number y) picked ≡ Some y = ap (at_number (number y)) changed.1 ∙ own_first y changed.0 in
            let first : put whole x ≡ y = ap (λ (found : Option V). unwrap_or found x) (ap (λ (n : ℕ). at_number n whole) own ∙ agree.0 ∙ found) in
            let rest = put_from xs ys changed.0 whole others rising.1 changed.2 (agree_later whole picked changed.0 y ys changed.1 rising.0 agree.1) in
            λ i. first i ∷ rest i
      ]

  agree_all : (list ys : List V) → Agree list list ys
  agree_all list [] = tt
  agree_all list (y ∷ ys) = (refl, agree_all list ys)

  pub picked_put : (xs ys picked : List V) → map number xs ≡ map number ys → Rises number ys → ArePicked xs ys picked → map (put picked) xs ≡ ys
  picked_put xs ys picked same rising so = put_from xs ys picked picked same rising so (agree_all picked ys)

-- ---- what is recorded

pub accounts_picked : (before after accounts : List Account) → AreChangedAccounts before after accounts → ArePicked before after accounts
accounts_picked [] after accounts so = so
accounts_picked (one ∷ before) [] accounts so = so
accounts_picked (one ∷ before) (other ∷ after) accounts so = elim so [
  | inl kept ↦ inl (kept.0, accounts_picked before after accounts kept.1)
  | inr changed ↦ inr (changed.1, changed.2, accounts_picked before after changed.1 changed.3)
]

-- the table of a room as it is read
abbrev pub bare_table : Room → Table
bare_table room = without_spare room.table

pub rooms_picked : (before after : List Room) (tables : List Table) → AreChangedRooms before after tables → ArePicked (map bare_table before) (map bare_table after) (map without_spare tables)
rooms_picked [] after tables so = ap (map without_spare) so
rooms_picked (one ∷ before) [] tables so = ap (map without_spare) so
rooms_picked (one ∷ before) (other ∷ after) tables so = elim so [
  | inl kept ↦ inl (kept.0, rooms_picked before after tables kept.1)
  | inr changed ↦ inr (
    map without_spare changed.2,
    ap (map without_spare) changed.3 ∙ ap (λ (table : Table). table ∷ map without_spare changed.2) changed.4,
    rooms_picked before after changed.2 changed.5,
  )
]
