-- The entries that count.
use Rattle.std.proofs.Common.{◌≡◌, ◌↔◌, inl, inr, not, if◌then◌else◌, Bool, true, false, cond, List, [], ◌∷◌, ◌++◌, refl, sym, ap, subst}
use Rattle.std.specs.List.{Contains, filter, list_any}
use Rattle.std.proofs.lemmas.Bool.{not_from_true, false_from_ne_true}
use Rattle.intent_book.specs.declared.intent.Intent.{Intent}
use Rattle.world_rules.specs.World.{World}
use Rattle.world_rules.specs.Intents.{fits, same_entry, last_of_each, overrules, kept}
use Rattle.room_commutes.specs.Counting.{IsLast, Counts}
use Rattle.room_commutes.proofs.Members.{Has, has_contained, contains_has, any_has, has_any, filter_has, has_filter}

module _ (world : World) where
  abbrev fitting : List Intent → List Intent
  fitting list = filter (fits world) list

  abbrev lasts : List Intent → List Intent
  lasts list = last_of_each (fitting list)

  more_before : (first : Intent) (list : List Intent) (entry : Intent) → IsLast world list entry → IsLast world (first ∷ list) entry
  more_before first list entry is = record { before = first ∷ is.before; later = is.later; stands = ap (λ rest. first ∷ rest) is.stands; good = is.good; last = is.last }

  is_first : (first : Intent) (list : List Intent) → fits world first ≡ true → list_any (same_entry first) (fitting list) ≡ false → IsLast world (first ∷ list) first
  is_first first list good none = record {
    before = [];
    later = list;
    stands = refl;
    good = good;
    last = λ other there fine. false_from_ne_true (same_entry first other) (λ same.
        let found : list_any (same_entry first) (fitting list) ≡ true = has_any (same_entry first) (fitting list) other (filter_has (fits world) list other (contains_has list other there) fine) same in
        absurd (cc));
  }

  last_is : (list : List Intent) (entry : Intent) → Has (lasts list) entry → IsLast world list entry
  last_is [] entry has = absurd has
  last_is (first ∷ list) entry has = elim (fits world first) as (λ b. fits world first ≡ b → Has (last_of_each (cond b (first ∷ fitting list) (fitting list))) entry → IsLast world (first ∷ list) entry) [
    | true ↦ λ good h. elim (list_any (same_entry first) (fitting list)) as (λ b. list_any (same_entry first) (fitting list) ≡ b → Has (if b then lasts list else first ∷ lasts list) entry → IsLast world (first ∷ list) entry) [
      | true ↦ λ again more. more_before first list entry (last_is list entry more)
      | false ↦ λ none more. elim more [
        | inl is ↦ subst (IsLast world (first ∷ list)) is (is_first first list good none)
        | inr later ↦ more_before first list entry (last_is list entry later)
      ]
    ] refl h
    | false ↦ λ bad h. more_before first list entry (last_is list entry h)
  ] refl has

  last_has : (before later : List Intent) (entry : Intent) → fits world entry ≡ true → ((other : Intent) → Contains later other → fits world other ≡ true → same_entry entry other ≡ false) → Has (lasts (before ++ entry ∷ later)) entry
  last_has [] later entry good last =
      let none : list_any (same_entry entry) (fitting later) ≡ false = false_from_ne_true (list_any (same_entry entry) (fitting later)) (λ again.
      let found = any_has (same_entry entry) (fitting later) again in
      let there = has_filter (fits world) later found.0 found.1 in
      let apart : same_entry entry found.0 ≡ false = last found.0 (has_contained later found.0 there.0) there.1 in
      absurd (cc (apart, found.2))) in
      subst (λ b. Has (last_of_each (cond b (entry ∷ fitting later) (fitting later))) entry) (sym good)
      (subst (λ b. Has (if b then lasts later else entry ∷ lasts later) entry) (sym none) (inl refl))
  last_has (first ∷ before) later entry good last =
      let rest = last_has before later entry good last in
      elim (fits world first) as (λ b. Has (last_of_each (cond b (first ∷ fitting (before ++ entry ∷ later)) (fitting (before ++ entry ∷ later)))) entry) [
        | true ↦ elim (list_any (same_entry first) (fitting (before ++ entry ∷ later))) as (λ b. Has (if b then lasts (before ++ entry ∷ later) else first ∷ lasts (before ++ entry ∷ later)) entry) [ true ↦ rest | false ↦ inr rest ]
        | false ↦ rest
      ]

  is_last_has : (list : List Intent) (entry : Intent) → IsLast world list entry → Has (lasts list) entry
  is_last_has list entry is = subst (λ l. Has (lasts l) entry) (sym is.stands) (last_has is.before is.later entry is.good is.last)

  module _ (list : List Intent) (entry : Intent) where
    abbrev is_left : Intent → Bool
    is_left one = not (list_any (λ other. overrules other one) (lasts list))

    counts : Contains (kept world list) entry → Counts world list entry
    counts contained =
        let left = has_filter is_left (lasts list) entry (contains_has (kept world list) entry contained) in
        record {
          last = last_is list entry left.0;
          undropped = λ other is. false_from_ne_true (overrules other entry) (λ drops.
              let found = has_any (λ one. overrules one entry) (lasts list) other (is_last_has list other is) drops in
              let fails = not_from_true (list_any (λ one. overrules one entry) (lasts list)) found in
              absurd (cc (fails, left.1)));
        }

    counted : Counts world list entry → Contains (kept world list) entry
    counted is =
        let none : list_any (λ one. overrules one entry) (lasts list) ≡ false = false_from_ne_true (list_any (λ one. overrules one entry) (lasts list)) (λ drops.
        let found = any_has (λ one. overrules one entry) (lasts list) drops in
        let fails = is.undropped found.0 (last_is list found.0 found.1) in
        absurd (cc (fails, found.2))) in
        has_contained (kept world list) entry (filter_has is_left (lasts list) entry (is_last_has list entry is.last) (ap not none))

    pub kept_counts : Contains (kept world list) entry ↔ Counts world list entry
    kept_counts = (counts, counted)
