-- What holds of all of a list holds of what is found in it.
use Rattle.std.proofs.Common.{◌≡◌, Bool, true, false, cond, List, [], ◌∷◌, Option, Some, subst}
use Rattle.std.specs.List.{AllByRecursion, find}
use Rattle.std.specs.Option.{IfSome}

pub holds_if_found : {A : Type 0} (P : A → Type 0) (test : A → Bool) (xs : List A) → AllByRecursion P xs → IfSome (find test xs) P
holds_if_found P test [] all = tt
holds_if_found P test (x ∷ xs) all =
    let rest = holds_if_found P test xs all.1 in
    elim (test x) as (λ b. IfSome (cond b (Some x) (find test xs)) P) [ true ↦ all.0 | false ↦ rest ]

pub holds_of_found : {A : Type 0} (P : A → Type 0) (test : A → Bool) (xs : List A) (x : A) → AllByRecursion P xs → find test xs ≡ Some x → P x
holds_of_found {A} P test xs x all found = subst (λ (o : Option A). IfSome o P) found (holds_if_found P test xs all)
