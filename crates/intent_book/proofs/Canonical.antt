-- Entries of which no two have one place have one canonical list.
use Rattle.std.proofs.Common.{◌≡◌, ℕ, zero, suc, ◌+◌, ◌&&◌, true, false, ◌⊎◌, inl, inr, List, [], ◌∷◌, get_or, Contains, refl, sym, ap, subst, ◌∙◌, arith, IsSortedByKey}
use Rattle.std.specs.declared.cmp.Ordering.{Ordering}
use Rattle.std.specs.declared.cmp.Ordering.TheVariants.{Less, Equal, Greater}
use Rattle.std.specs.Ordering.{nat_cmp, is_lt, ordering_reverse}
use Rattle.std.specs.Cmp.{IsTotalOrder}
use Rattle.std.specs.List.{IsDistinct}
use Rattle.std.specs.List.Sorted.{IsStrictlySortedBy}
use Rattle.std.proofs.lemmas.Bool.{true≢false}
use Rattle.std.proofs.lemmas.Cmp.{nat_cmp_total, nat_eq_equiv, on_total, then_total, tied_itself}
use Rattle.std.proofs.lemmas.List.Elements.{All-from_recursion, All-contains}
use Rattle.std.proofs.lemmas.List.Sorted.{IsPermutation-sym, Contains-permutation}
use Rattle.std.proofs.lemmas.Map.Keys.{IsDistinct-IsPermutation, apart_from_distinct, sorted_from_all_adjacent, sorted_head, sorted_tail}
use Rattle.std.proofs.lemmas.Map.Lookups.{exact_pairs, exact_unsigned}
use Rattle.intent_book.specs.declared.intent.Intent.{Intent}
use Rattle.intent_book.specs.Records.{IsCanonical, place, place_cmp, place_eq, same_place}
use Rattle.intent_book.proofs.Orders.{place_symm}

places_total : IsTotalOrder place_cmp
places_total = then_total (on_total (λ (p : ℕ × ℕ). p.0) nat_cmp_total) (on_total (λ (p : ℕ × ℕ). p.1) nat_cmp_total)

-- how two intents compare
abbrev compared : Intent → Intent → Ordering
compared a b = place_cmp (place a) (place b)

total : IsTotalOrder compared
total = on_total place places_total

-- each before all later ones
abbrev IsRising : List Intent → Type 0
IsRising xs = IsStrictlySortedBy compared xs

not_both : {P : Type 0} (x y : Intent) → compared x y ≡ Less → compared y x ≡ Less → P
not_both x y p q = let turned : Less ≡ Greater = sym p ∙ total.antisymm x y ∙ ap ordering_reverse q in absurd (apart turned)
  where
    apart : Less ≡ Greater → ⊥
    apart h = cc

not_itself : {P : Type 0} (x y : Intent) → x ≡ y → compared x y ≡ Less → P
not_itself x y same p = absurd (apart (sym p ∙ sym (ap (compared x) same) ∙ tied_itself total x))
  where
    apart : Less ≡ Equal → ⊥
    apart h = cc

-- ---- elements

cases : (x : Intent) (xs : List Intent) (z : Intent) → Contains (x ∷ xs) z → (x ≡ z) ⊎ Contains xs z
cases x xs z (zero, _, is) = inl is
cases x xs z (suc k, within, is) = inr (k, omega arith, is)

first : (x : Intent) (xs : List Intent) → Contains (x ∷ xs) x
first x xs = (zero, omega arith, refl)

later : (x : Intent) (xs : List Intent) (z : Intent) → Contains xs z → Contains (x ∷ xs) z
later x xs z (k, within, is) = (suc k, omega arith, is)

none : {P : Type 0} (z : Intent) → Contains [] z → P
none z (k, within, is) = absurd (omega arith)

abbrev HasAll : List Intent → List Intent → Type 0
HasAll ys xs = (z : Intent) → Contains xs z → Contains ys z

after : (x : Intent) (xs : List Intent) (z : Intent) → IsRising (x ∷ xs) → Contains xs z → compared x z ≡ Less
after x xs z up in' = All-contains (λ y. compared x y ≡ Less) xs z (All-from_recursion (λ y. compared x y ≡ Less) xs (sorted_head compared x xs up)) in'

heads : (x y : Intent) (xs ys : List Intent) → IsRising (x ∷ xs) → IsRising (y ∷ ys) → HasAll (y ∷ ys) (x ∷ xs) → HasAll (x ∷ xs) (y ∷ ys) → x ≡ y
heads x y xs ys up vp there back =
    elim (cases y ys x (there x (first x xs))) [
      | inl same ↦ sym same
      | inr in-ys ↦ elim (cases x xs y (back y (first y ys))) [
        | inl same ↦ same
        | inr in-xs ↦ not_both x y (after x xs y up in-xs) (after y ys x vp in-ys)
      ]
    ]

tails : (x y : Intent) (xs ys : List Intent) → x ≡ y → IsRising (x ∷ xs) → HasAll (y ∷ ys) (x ∷ xs) → HasAll ys xs
tails x y xs ys same up there z in-xs =
    elim (cases y ys z (there z (later x xs z in-xs))) [
      | inl is ↦ not_itself x z (same ∙ is) (after x xs z up in-xs)
      | inr in-ys ↦ in-ys
    ]

one_rising : (xs ys : List Intent) → IsRising xs → IsRising ys → HasAll ys xs → HasAll xs ys → xs ≡ ys
one_rising [] [] up vp there back = refl
one_rising [] (y ∷ ys) up vp there back = none y (back y (first y ys))
one_rising (x ∷ xs) [] up vp there back = none x (there x (first x xs))
one_rising (x ∷ xs) (y ∷ ys) up vp there back =
    let same = heads x y xs ys up vp there back in
    let rest = one_rising xs ys (sorted_tail compared x xs up) (sorted_tail compared y ys vp) (tails x y xs ys same up there) (tails y x ys xs (sym same) vp back) in
    λ j. same j ∷ rest j

-- ---- a sorted list is rising

equal_places : (p q : ℕ × ℕ) → place_cmp p q ≡ Equal → place_eq p q ≡ true
equal_places p q h = subst (λ r. place_eq p r ≡ true) (exact_pairs nat_cmp nat_cmp exact_unsigned exact_unsigned p q h) (λ j. nat_eq_equiv.refl p.0 j && nat_eq_equiv.refl p.1 j)

less : (x y : Intent) → is_lt (compared y x) ≡ false → same_place x y ≡ false → compared x y ≡ Less
less x y up apart = by_case (compared x y) refl
  where
    by_case : (o : Ordering) → compared x y ≡ o → o ≡ Less
    by_case Less h = refl
    by_case Equal h = absurd (true≢false (sym (equal_places (place x) (place y) h) ∙ apart))
    by_case Greater h = absurd (true≢false (sym (ap is_lt (total.antisymm y x ∙ ap ordering_reverse h)) ∙ up))

rising : (xs : List Intent) → IsSortedByKey place place_cmp xs → IsDistinct same_place xs → IsRising xs
unfolding IsStrictlySortedBy
rising [] up apart = tt
rising (x ∷ xs) up apart =
    sorted_from_all_adjacent total (x ∷ xs) x (λ k within. less (get_or (x ∷ xs) k x) (get_or (x ∷ xs) (k + 1) x) (up k x (omega arith) within) (apart_from_distinct same_place (x ∷ xs) k (k + 1) x apart (omega arith) within))

canonical-rising : (entries list : List Intent) → IsDistinct same_place entries → IsCanonical entries list → IsRising list
canonical-rising entries list apart is =
    rising list is.1 (IsDistinct-IsPermutation same_place (λ a b. place_symm (place a) (place b)) entries list is.0 apart)

pub one_canonical : (entries one other : List Intent) → IsDistinct same_place entries → IsCanonical entries one → IsCanonical entries other → one ≡ other
one_canonical entries one other apart is also =
    one_rising one other (canonical-rising entries one apart is) (canonical-rising entries other apart also)
    (λ z h. Contains-permutation entries other z also.0 (Contains-permutation one entries z (IsPermutation-sym entries one is.0) h))
    (λ z h. Contains-permutation entries one z is.0 (Contains-permutation other entries z (IsPermutation-sym entries other also.0) h))
