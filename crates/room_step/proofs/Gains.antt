-- The points of a room, as they are added up.
use Rattle.std.proofs.Common.{◌≡◌, ◌⊎◌, inl, inr, ℕ, ◌+◌, ◌≤◌, ◌==◌, if◌then◌else◌, Bool, true, false, List, [], ◌∷◌, ◌++◌, refl, sym, ap, ◌∙◌, arith}
use Rattle.std.specs.List.{AllByRecursion, sum_by}
use Rattle.std.proofs.lemmas.List.{length_push}
use Rattle.std.proofs.lemmas.List.Sums.{sum_by-append, sum_by-cons}
use Rattle.world_rules.specs.Tick.{total_for}
use Rattle.room_step.specs.Stepping.{AreOf}
use Rattle.room_step.specs.inner.Course.{HasGained}

-- All points are one player's.
abbrev AreGainedBy : ℕ → List (ℕ × ℕ) → Type 0
AreGainedBy player list = AllByRecursion (λ gain. (gain.1 ≡ 0) ⊎ (gain.0 ≡ player)) list

pub gained_first : HasGained [] 0 0
gained_first = record { all = refl; few = omega arith; own = λ one all. inl refl; nobody = λ none. refl }

front_of : (player : ℕ) (list : List (ℕ × ℕ)) (gain : ℕ × ℕ) → AreGainedBy player (list ++ gain ∷ []) → AreGainedBy player list × ((gain.1 ≡ 0) ⊎ (gain.0 ≡ player))
front_of player [] gain all = (tt, all.0)
front_of player (first ∷ list) gain all = let rest = front_of player list gain all.1 in ((all.0, rest.0), rest.1)

sum_push : (list : List (ℕ × ℕ)) (gain : ℕ × ℕ) → sum_by (λ (g : ℕ × ℕ). g.1) (list ++ gain ∷ []) ≡ sum_by (λ (g : ℕ × ℕ). g.1) list + gain.1
sum_push list gain =
    let points : ℕ × ℕ → ℕ = λ g. g.1 in
    let none : sum_by points [] ≡ 0 = refl in
    omega (arith, sum_by-append points list (gain ∷ []), sum_by-cons points gain [], none)

-- an entry that gives nothing
pub gained_none : (list : List (ℕ × ℕ)) (player points other given : ℕ) → given ≡ 0 → HasGained list player points → HasGained (list ++ (other, given) ∷ []) player points
gained_none list player points other given none has = record {
  all = (let sum = sum_push list (other, given) in let all = has.all in omega (arith, sum, all, none));
  few = omega (arith, has.few, length_push list (other, given));
  own = λ one all. has.own one (front_of one list (other, given) all).0;
  nobody = has.nobody;
}

-- and one that gives some
pub gained_some : (list : List (ℕ × ℕ)) (player points other given : ℕ) → 1 ≤ given → given ≤ 50 → HasGained list player points → HasGained (list ++ (other, given) ∷ []) other (points + given)
gained_some list player points other given some few has = record {
  all = (let sum = sum_push list (other, given) in let all = has.all in omega (arith, sum, all));
  few = omega (arith, has.few, few, length_push list (other, given));
  own = λ one all. elim ((front_of one list (other, given) all).1) [ inl none ↦ absurd (omega (arith, some, none)) | inr is ↦ inr is ];
  nobody = λ none. absurd (omega (arith, some, none));
}

-- ---- all points

-- Where there are none, it is all the same whose they are.
nothing : (b c : Bool) → (n : ℕ) → n ≡ 0 → (if b then n else 0) ≡ (if c then n else 0)
nothing true true n none = refl
nothing true false n none = none
nothing false true n none = sym none
nothing false false n none = refl

only_of : (player other : ℕ) (list : List (ℕ × ℕ)) → AreGainedBy player list → total_for list other ≡ (if player == other then sum_by (λ (g : ℕ × ℕ). g.1) list else 0)
only_of player other [] all = elim (player == other) as (λ b. ◌≡◌ {A = ℕ} 0 (if b then 0 else 0)) [ true ↦ refl | false ↦ refl ]
only_of player other (gain ∷ list) all =
    let rest = only_of player other list all.1 in
    let amount : ℕ × ℕ → ℕ = λ g. if g.0 == other then g.1 else 0 in
    let points : ℕ × ℕ → ℕ = λ g. g.1 in
    let here : amount gain ≡ (if player == other then gain.1 else 0) = one_of all.0 in
    elim (player == other) as (λ b. total_for list other ≡ (if b then sum_by points list else 0) → amount gain ≡ (if b then gain.1 else 0) → total_for (gain ∷ list) other ≡ (if b then sum_by points (gain ∷ list) else 0)) [
      | true ↦ λ more one. omega (arith, sum_by-cons amount gain list, sum_by-cons points gain list, more, one)
      | false ↦ λ more one. omega (arith, sum_by-cons amount gain list, more, one)
    ] rest here
  where
    one_of : (gain.1 ≡ 0) ⊎ (gain.0 ≡ player) → (if gain.0 == other then gain.1 else 0) ≡ (if player == other then gain.1 else 0)
    one_of (inl none) = nothing (gain.0 == other) (player == other) gain.1 none
    one_of (inr own) = ap (λ (n : ℕ). if n == other then gain.1 else 0) own

-- They are all that one player's who gained some.
pub gained_all : (list : List (ℕ × ℕ)) (player points : ℕ) → (one : ℕ) → AreGainedBy one list → HasGained list player points → AreOf player points list
gained_all list player points one all has = record {
  gained = λ other. only_of one other list all ∙ ap (λ (n : ℕ). if one == other then n else 0) (sym has.all) ∙ told other (has.own one all);
  nobody = has.nobody;
}
  where
    told : (other : ℕ) → (points ≡ 0) ⊎ (player ≡ one) → (if one == other then points else 0) ≡ (if player == other then points else 0)
    told other (inl none) = nothing (one == other) (player == other) points none
    told other (inr same) = ap (λ (n : ℕ). if n == other then points else 0) (sym same)
