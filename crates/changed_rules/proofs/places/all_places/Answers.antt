use Rattle.std.proofs.Common.{◌≡◌, ◌+◌, ◌<◌, ℕ, true, List, [], ◌∷◌, ◌++◌, sym, subst, ◌∙◌, inl, inr, arith}
use Rattle.std.specs.Prelude.{nat_eq}
use Rattle.std.specs.List.{AllByRecursion, IsDistinct}
use Rattle.std.specs.Cmp.{nat_eq_equiv}
use Rattle.std.proofs.lemmas.Bool.{cases_lt, or_left}
use Rattle.std.proofs.lemmas.Map.Keys.{IsDistinct-push}
use Rattle.changed_rules.specs.Counts.{is_among}
use Rattle.changed_rules.proofs.Lists.{above_all, all_push, all_weaker, among_last, among_push}
use Rattle.changed_rules.proofs.places.all_places.Goals as goal

-- the indices of the first rooms, so many, each once
record AreFirst (count : ℕ) (places : List ℕ) : Type 0 where
  all : (index : ℕ) → index < count → is_among index places ≡ true
  within : AllByRecursion (λ place. place < count) places
  once : IsDistinct nat_eq places

one_more : (count : ℕ) (places : List ℕ) → AreFirst count places → AreFirst (count + 1) (places ++ count ∷ [])
one_more count places first = record {
  all = λ index less.
      elim (cases_lt index count) [
        | inl below ↦ among_push index places count ∙ or_left (is_among index places) (nat_eq index count) (first.all index below)
        | inr above ↦ (let same : count ≡ index = omega arith in subst (λ (n : ℕ). is_among n (places ++ count ∷ []) ≡ true) same (among_last count places))
      ];
  within = all_push (λ (place : ℕ). place < count + 1) places count (all_weaker (λ (place : ℕ). place < count) (λ (place : ℕ). place < count + 1) places (λ place less. omega arith) first.within) (omega arith);
  once = IsDistinct-push nat_eq_equiv places count first.once (above_all count places first.within);
}

pub loop-place-init : goal.loop-place-init
unfolding IsDistinct
loop-place-init c = record { all = λ index less. absurd (omega arith); within = rw c.in_ok-places.ensures.items tt; once = rw c.in_ok-places.ensures.items tt }

pub loop-place-preserved : goal.loop-place-preserved
loop-place-preserved c =
    let more = subst (AreFirst (c.loop-place.place + 1)) (sym c.in_ok-push.ensures.items) (one_more c.loop-place.place c.loop-place.places.items (record { all = c.loop-place.invariant.all; within = c.loop-place.invariant.within; once = c.loop-place.invariant.once })) in
    record { all = more.all; within = more.within; once = more.once }

pub returns-clause-within : goal.returns-clause-within
returns-clause-within c = all_weaker (λ (place : ℕ). place < c.loop-place.place) (λ (place : ℕ). place < c.args.rooms) c.loop-place.places.items (λ place less. omega (arith, c.loop-place.auto.place-end)) c.loop-place.invariant.within
