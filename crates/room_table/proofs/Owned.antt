-- Whose remainders are among those of a room's owners.
use Rattle.std.proofs.Common.{◌≡◌, ℕ, zero, suc, ◌==◌, ◌||◌, Bool, true, false, List, [], ◌∷◌, set, subst, refl}
use Rattle.std.specs.List.{AllByRecursion, filter, insert, list_any}
use Rattle.std.proofs.lemmas.Bool.{eqb-true}
use Rattle.room_table.specs.declared.object.Object.{Object}
use Rattle.room_table.specs.inner.Owners.{Covers, MayOwn}
use Rattle.room_table.proofs.Rising.{all_weaker, all_filter, all_insert}

-- a room that has one object in the place of another
all_set : {X : Type 0} (P : X → Type 0) (y : X) (xs : List X) (i : ℕ) → AllByRecursion P xs → P y → AllByRecursion P (set xs i y)
all_set P y [] i all here = tt
all_set P y (x ∷ xs) zero all here = (here, all.1)
all_set P y (x ∷ xs) (suc i) all here = (all.0, all_set P y xs i all.1 here)

-- the remainders once an owner was added to them
module _ (old new : List Bool) (object : Object) (added : MayOwn new object.owner) (kept : (owner : ℕ) → MayOwn old owner → MayOwn new owner) (objects : List Object) (covers : Covers old objects) where
  more : Covers new objects
  more = all_weaker (λ (o : Object). MayOwn old o.owner) (λ (o : Object). MayOwn new o.owner) (λ o. kept o.owner) objects covers

  pub covers_set : (place : ℕ) → Covers new (set objects place object)
  covers_set place = all_set (λ (o : Object). MayOwn new o.owner) object objects place more added

  pub covers_insert : (place : ℕ) → Covers new (insert objects place object)
  covers_insert place = all_insert (λ (o : Object). MayOwn new o.owner) object objects place more added

pub covers_filter : (remainders : List Bool) (keep : Object → Bool) (objects : List Object) → Covers remainders objects → Covers remainders (filter keep objects)
covers_filter remainders keep objects covers = all_filter (λ (o : Object). MayOwn remainders o.owner) keep objects covers

-- one whose remainder is not among them owns nothing there
pub none_owned : (remainders : List Bool) (player : ℕ) (objects : List Object) → Covers remainders objects → (MayOwn remainders player → ⊥) → list_any (λ (o : Object). o.owner == player) objects ≡ false
none_owned remainders player [] covers apart = refl
none_owned remainders player (o ∷ objects) covers apart =
    let rest = none_owned remainders player objects covers.1 apart in
    elim (o.owner == player) as (λ b. (o.owner == player) ≡ b → (b || list_any (λ (p : Object). p.owner == player) objects) ≡ false) [
      | true ↦ λ same. absurd (apart (subst (MayOwn remainders) (eqb-true o.owner player same) covers.0))
      | false ↦ λ other. rest
    ] refl
