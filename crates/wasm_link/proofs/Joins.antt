-- Stretches in their order, and the one that an entry is of.
use Rattle.std.proofs.Common.{◌≡◌, ℕ, ◌+◌, ◌-◌, ◌<◌, ◌≤◌, ◌⊎◌, inl, inr, List, ◌++◌, [], ◌∷◌, length, get_or, take, ap, sym, ◌∙◌, subst, arith, leb, true, false, Some, slice_get}
use Rattle.std.specs.Prelude.{All, AllPairs, Any}
use Rattle.std.specs.List.Sorted.{IsNonDecreasingBy, IsPartitionPoint}
use Rattle.std.proofs.lemmas.Bool.{cases_lt}
use Rattle.std.proofs.lemmas.List.{take_all, get_or_default}
use Rattle.std.proofs.lemmas.Option.{slice_get_within, get_or_from_slice_get}
use Rattle.std.proofs.lemmas.List.Elements.{All-push, All-more, All-weaker, All-nil}
use Rattle.std.proofs.lemmas.List.Quantifiers.{all_pairs_push, Any-push}
use Rattle.wasm_link.specs.declared.image.Interval.{Interval}
use Rattle.wasm_link.specs.declared.image.Stretch.{Stretch}
use Rattle.wasm_link.specs.inner.Images.{IsHeld, IsBefore, IsAt, Ends, EndsIn, Holds, IsLow, Valued, start_in, IsCovered, IsOf}
use Rattle.wasm_link.specs.Linking.{Span, Fits}
use Rattle.wasm_link.proofs.Images.{any_more}

-- ---- the stretch of an entry

abbrev pub starts_in : Stretch → ℕ
starts_in stretch = stretch.start

rising_at : (stretches : List Stretch) → AllPairs IsBefore stretches → (i j : ℕ) (d : Stretch) → i ≤ j → j < length stretches → (i < j) ⊎ (j ≤ i) → (get_or stretches i d).start ≤ (get_or stretches j d).start
rising_at stretches apart i j d upto below (inl less) = let h = apart i j d less below in omega (arith, h.entries)
rising_at stretches apart i j d upto below (inr least) =
    let same : i ≡ j = omega (arith, upto, least) in
    let e = ap (λ z. (get_or stretches z d).start) same in
    omega (arith, e)

pub begin_rising : (stretches : List Stretch) → AllPairs IsBefore stretches → IsNonDecreasingBy starts_in stretches
begin_rising stretches apart = λ i j d upto below. rising_at stretches apart i j d upto below (cases_lt i j)

-- It is the one before the first that begins behind the entry.
module _ (stretches : List Stretch) (apart : AllPairs IsBefore stretches) (entry past : ℕ) (bound : past ≤ length stretches) (point : IsPartitionPoint (λ y. leb (starts_in y) entry ≡ true) (λ y. leb (starts_in y) entry ≡ false) stretches past)
    (k : ℕ) (d : Stretch) (below : k < length stretches) (at : IsAt entry (get_or stretches k d)) where
  not_behind : (k < past) ⊎ (past ≤ k) → k < past
  not_behind (inl h) = h
  not_behind (inr h) = let no = point.1 k d h below in absurd (grind (arith, no, at.from))

  not_before : (k + 1 < past) ⊎ (past ≤ k + 1) → past ≤ k + 1
  not_before (inl h) =
      let yes = point.0 (k + 1) d (omega arith) h in
      let next = apart k (k + 1) d (omega arith) (omega (arith, h, bound)) in
      absurd (grind (arith, yes, next.entries, at.below))
  not_before (inr h) = h

  pub past_is : past ≡ k + 1
  past_is = let one = not_behind (cases_lt k past) in let two = not_before (cases_lt (k + 1) past) in omega (arith, one, two)

-- ---- how many values there are

valued_at : (stretches : List Stretch) (last : Stretch) → AllPairs IsBefore stretches → slice_get stretches (length stretches - 1) ≡ Some last → (k : ℕ) (d : Stretch) → k < length stretches → (k < length stretches - 1) ⊎ (length stretches - 1 ≤ k)
    → Valued (last.base + last.len) (get_or stretches k d)
valued_at stretches last apart is k d below (inl less) =
    let h = apart k (length stretches - 1) d less (omega (arith, below)) in
    let e = ap (λ (z : Stretch). z.base) (get_or_from_slice_get stretches (length stretches - 1) last d is) in
    omega (arith, h.values, e)
valued_at stretches last apart is k d below (inr least) =
    let same : k ≡ length stretches - 1 = omega (arith, below, least) in
    subst (λ (z : Stretch). z.base + z.len ≤ last.base + last.len) (sym (ap (λ z. get_or stretches z d) same ∙ get_or_from_slice_get stretches (length stretches - 1) last d is)) (omega arith)

pub all_valued : (stretches : List Stretch) (last : Stretch) → AllPairs IsBefore stretches → slice_get stretches (length stretches - 1) ≡ Some last → All (Valued (last.base + last.len)) stretches
all_valued stretches last apart is = λ k d below. valued_at stretches last apart is k d below (cases_lt k (length stretches - 1))

-- ---- the stretches of intervals

abbrev IsHeldOr : List Stretch → Stretch → Interval → Type 0
IsHeldOr stretches last interval = IsHeld stretches interval ⊎ Holds last interval

-- So many of the intervals are within the stretches and the last one, which still grows.
pub record AreJoined (intervals : List Interval) (at : ℕ) (stretches : List Stretch) (last : Stretch) : Type 0 where
  pub within : at ≤ length intervals
  pub apart : AllPairs IsBefore stretches
  pub before : All (λ stretch. IsBefore stretch last) stretches
  pub low : All IsLow stretches
  pub low_last : last.base ≤ last.start
  pub rising : (k : ℕ) (d : Interval) → at ≤ k → k < length intervals → last.start ≤ (get_or intervals k d).start
  pub size : (size : ℕ) → All (EndsIn size) intervals → All (Ends size) stretches
  pub size_last : (size : ℕ) → All (EndsIn size) intervals → last.start + last.len ≤ size
  pub held : All (λ interval. IsHeld stretches interval ⊎ Holds last interval) (take at intervals)

module _ (intervals : List Interval) (x : Interval) (rises : IsNonDecreasingBy start_in intervals) (first : slice_get intervals 0 ≡ Some x) where
  some : 0 < length intervals
  some = slice_get_within intervals 0 x first

  is_first : get_or intervals 0 x ≡ x
  is_first = get_or_from_slice_get intervals 0 x x first

  pub joined_none : AreJoined intervals 0 [] (record { start = x.start; len = 0; base = 0 })
  joined_none = record {
    within = omega arith;
    apart = λ i j d less below. absurd (omega (arith, below));
    before = All-nil (λ stretch. IsBefore stretch (record { start = x.start; len = 0; base = 0 }));
    low = All-nil IsLow;
    low_last = omega arith;
    rising = λ k d from below.
        let h : (get_or intervals 0 x).start ≤ (get_or intervals k x).start = rises 0 k x from below in
        let e = ap start_in is_first in
        let f = ap start_in (get_or_default intervals k x d below) in
        omega (arith, h, e, f);
    size = λ size all. All-nil (Ends size);
    size_last = λ size all.
        let h : (get_or intervals 0 x).start + (get_or intervals 0 x).len ≤ size = all 0 x some in
        let e = ap start_in is_first in
        omega (arith, h, e);
    held = All-nil (IsHeldOr [] (record { start = x.start; len = 0; base = 0 }));
  }

pub held_push : (stretches : List Stretch) (last : Stretch) (interval : Interval) → IsHeldOr stretches last interval → IsHeld (stretches ++ last ∷ []) interval
held_push stretches last interval (inl h) = any_more (λ stretch. Holds stretch interval) stretches last h
held_push stretches last interval (inr h) = Any-push (λ stretch. Holds stretch interval) stretches last h

module _ (intervals : List Interval) (at : ℕ) (stretches : List Stretch) (last : Stretch) (h : AreJoined intervals at stretches last) where
  all_held : length intervals ≤ at → All (IsHeldOr stretches last) intervals
  all_held past = subst (λ (z : List Interval). All (IsHeldOr stretches last) z) (take_all at intervals past) h.held

  pub apart_end : AllPairs IsBefore (stretches ++ last ∷ [])
  apart_end = all_pairs_push IsBefore stretches last h.apart h.before

  pub held_end : length intervals ≤ at → All (IsHeld (stretches ++ last ∷ [])) intervals
  held_end past = All-weaker (IsHeldOr stretches last) (IsHeld (stretches ++ last ∷ [])) (held_push stretches last) intervals (all_held past)

  module _ (x : Interval) (below : at < length intervals) (is : x ≡ get_or intervals at x) where
    x_ends : (size : ℕ) → All (EndsIn size) intervals → x.start + x.len ≤ size
    x_ends size all = subst (λ (z : Interval). z.start + z.len ≤ size) (sym is) (all at x below)

    pub x_rises : last.start ≤ x.start
    x_rises = subst (λ (z : Interval). last.start ≤ z.start) (sym is) (h.rising at x (omega arith) below)

    wider : (len : ℕ) → last.len ≤ len → (interval : Interval) → IsHeldOr stretches last interval → IsHeldOr stretches (record { start = last.start; len = len; base = last.base }) interval
    wider len more interval (inl k) = inl k
    wider len more interval (inr k) = inr (record { from = k.from; to = let t = k.to in omega (arith, t, more) })

    pub joined_grown : (len : ℕ) → last.len ≤ len → x.start + x.len ≤ last.start + len → ((size : ℕ) → last.start + last.len ≤ size → x.start + x.len ≤ size → last.start + len ≤ size)
        → AreJoined intervals (at + 1) stretches (record { start = last.start; len = len; base = last.base })
    joined_grown len more reaches least = record {
      within = omega (arith, below);
      apart = h.apart;
      before = All-weaker (λ stretch. IsBefore stretch last) (λ stretch. IsBefore stretch (record { start = last.start; len = len; base = last.base })) (λ s b. record { entries = b.entries; values = b.values }) stretches h.before;
      low = h.low;
      low_last = h.low_last;
      rising = λ k d from small. h.rising k d (omega (arith, from)) small;
      size = h.size;
      size_last = λ size all. least size (h.size_last size all) (x_ends size all);
      held = All-more (IsHeldOr stretches (record { start = last.start; len = len; base = last.base })) intervals at x below
          (All-weaker (IsHeldOr stretches last) (IsHeldOr stretches (record { start = last.start; len = len; base = last.base })) (wider len more) (take at intervals) h.held)
          (subst (λ (z : Interval). IsHeldOr stretches (record { start = last.start; len = len; base = last.base }) z) is (inr (record { from = x_rises; to = reaches })));
    }

    pub joined_next : IsNonDecreasingBy start_in intervals → last.start + last.len ≤ x.start → AreJoined intervals (at + 1) (stretches ++ last ∷ []) (record { start = x.start; len = x.len; base = last.base + last.len })
    joined_next rises past = record {
      within = omega (arith, below);
      apart = apart_end;
      before = All-push (λ stretch. IsBefore stretch (record { start = x.start; len = x.len; base = last.base + last.len })) stretches last
          (All-weaker (λ stretch. IsBefore stretch last) (λ stretch. IsBefore stretch (record { start = x.start; len = x.len; base = last.base + last.len }))
          (λ s b. record { entries = let e = b.entries in omega (arith, e, past); values = let e = b.values in omega (arith, e) }) stretches h.before)
          (record { entries = past; values = omega arith });
      low = All-push IsLow stretches last h.low h.low_last;
      low_last = omega (arith, h.low_last, past);
      rising = λ k d from small.
          let r : (get_or intervals at x).start ≤ (get_or intervals k x).start = rises at k x (omega (arith, from)) small in
          let e = ap start_in is in
          let f = ap start_in (get_or_default intervals k x d small) in
          omega (arith, r, e, f);
      size = λ size all. All-push (Ends size) stretches last (h.size size all) (h.size_last size all);
      size_last = x_ends;
      held = All-more (IsHeldOr (stretches ++ last ∷ []) (record { start = x.start; len = x.len; base = last.base + last.len })) intervals at x below
          (All-weaker (IsHeldOr stretches last) (IsHeldOr (stretches ++ last ∷ []) (record { start = x.start; len = x.len; base = last.base + last.len })) (λ i k. inl (held_push stretches last i k)) (take at intervals) h.held)
          (subst (λ (z : Interval). IsHeldOr (stretches ++ last ∷ []) (record { start = x.start; len = x.len; base = last.base + last.len }) z) is (inr (record { from = omega arith; to = omega arith })));
    }

-- ---- the stretches of segments

abbrev pub HasInterval : List Interval → Span → Type 0
HasInterval intervals span = 0 < span.count → Any (IsOf span) intervals

covering : (span : Span) (interval : Interval) (stretch : Stretch) → IsOf span interval → Holds stretch interval → Holds stretch (record { start = span.offset; len = span.count })
covering span interval stretch is h = record {
  from = let one = h.from in let two = is.start in omega (arith, one, two);
  to = let one = h.to in let two = is.start in let three = is.len in omega (arith, one, two, three);
}

-- an interval that a segment has is within a stretch
pub covered_by : (intervals : List Interval) (stretches : List Stretch) (span : Span) → All (IsHeld stretches) intervals → HasInterval intervals span → IsCovered stretches span
covered_by intervals stretches span held has = λ some.
    let i = has some in
    let h = held i.0 i.1 i.2 in
    (h.0, h.1, h.2, h.3, covering span i.1 h.1 i.4 (subst (λ (z : Interval). Holds h.1 z) i.3 h.4))

valued_low : (size : ℕ) (stretch : Stretch) → IsLow stretch → Ends size stretch → Valued size stretch
valued_low size stretch low ends = omega (arith, low, ends)

pub all_low_valued : (size : ℕ) (stretches : List Stretch) → All IsLow stretches → All (Ends size) stretches → All (Valued size) stretches
all_low_valued size stretches low ends = λ k d below. valued_low size (get_or stretches k d) (low k d below) (ends k d below)

-- ---- the intervals of segments

module _ {A : Type 0} (span : ℕ → A → Span) (segments : List A) (at : ℕ) (s : A) (x : Interval) (old : List Interval) (below : at < length segments) (here : s ≡ get_or segments at s) (is : (size : ℕ) → IsOf (span size s) x)
    (each : All (λ segment. (size : ℕ) → HasInterval old (span size segment)) (take at segments)) where
  pub ends_more : (size : ℕ) → (span size s).size ≡ size → All (λ segment. Fits (span size segment)) segments → EndsIn size x
  ends_more size sized fit =
      let fits : (span size s).offset + (span size s).count ≤ (span size s).size = subst (λ (z : A). (span size z).offset + (span size z).count ≤ (span size z).size) (sym here) (fit at s below) in
      let one = (is size).start in
      let two = (is size).len in
      omega (arith, fits, one, two, sized)

  pub each_pushed : All (λ segment. (size : ℕ) → HasInterval (old ++ x ∷ []) (span size segment)) (take (at + 1) segments)
  each_pushed =
      All-more (λ segment. (size : ℕ) → HasInterval (old ++ x ∷ []) (span size segment)) segments at s below
      (All-weaker (λ segment. (size : ℕ) → HasInterval old (span size segment)) (λ segment. (size : ℕ) → HasInterval (old ++ x ∷ []) (span size segment)) (λ segment h size some. any_more (IsOf (span size segment)) old x (h size some)) (take at segments) each)
      (subst (λ (z : A). (size : ℕ) → HasInterval (old ++ x ∷ []) (span size z)) here (λ size some. Any-push (IsOf (span size s)) old x (is size)))

  -- a segment of no entry needs none
  pub each_empty : x.len ≤ 0 → All (λ segment. (size : ℕ) → HasInterval old (span size segment)) (take (at + 1) segments)
  each_empty none =
      All-more (λ segment. (size : ℕ) → HasInterval old (span size segment)) segments at s below each
      (subst (λ (z : A). (size : ℕ) → HasInterval old (span size z)) here (λ size some. absurd (let two = (is size).len in omega (arith, two, some, none))))
