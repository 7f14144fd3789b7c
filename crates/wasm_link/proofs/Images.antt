-- Writing into an image is writing into what it stands for.
use Rattle.std.proofs.Common.{◌≡◌, ℕ, ◌+◌, ◌-◌, ◌<◌, ◌≤◌, ◌⊎◌, inl, inr, List, [], ◌∷◌, ◌++◌, length, get_or, take, drop, refl, ap, sym, ◌∙◌, subst, arith, length-append, length-drop, map, Option, Some}
use Rattle.std.specs.Prelude.{All, AllPairs, Any, replicate}
use Rattle.std.proofs.lemmas.Bool.{cases_lt}
use Rattle.std.proofs.lemmas.List.{same_lists, take_all, take_at, drop-drop, length-map, length_push, length-take-le, length-replicate, get_or-replicate, get_or_default, get_or_append_left, get_or-append_right, get_or-take, get_or-drop, take-append-drop}
use Rattle.std.proofs.lemmas.List.Elements.{All-more}
use Rattle.wasm_link.specs.declared.image.Stretch.{Stretch}
use Rattle.wasm_link.specs.inner.Images.{put, IsBefore, Ends, Valued, HasValues, IsOutside, Stands, IsAsLaid, IsLaid, IsAt, IsIn, Holds}
use borrow.Rule.Slice.PartMut.{put_mid}

-- ---- a list with entries put into it

module _ {A : Type 0} (xs ys : List A) (at : ℕ) (fits : at + length ys ≤ length xs) where
  front : length (take at xs) ≡ at
  front = length-take-le at xs (omega (arith, fits))

  pub put_length : length (put xs at ys) ≡ length xs
  put_length =
      let last = length-drop (at + length ys) xs in
      let both = length-append ys (drop (at + length ys) xs) in
      let all = length-append (take at xs) (ys ++ drop (at + length ys) xs) in
      omega (arith, front, last, both, all, fits)

  pub put_before : (place : ℕ) (d : A) → place < at → get_or (put xs at ys) place d ≡ get_or xs place d
  put_before place d below =
      get_or_append_left (take at xs) (ys ++ drop (at + length ys) xs) d place (omega (arith, front, below)) ∙ get_or-take at xs place d below

  pub put_within : (place : ℕ) (d : A) → place < length ys → get_or (put xs at ys) (at + place) d ≡ get_or ys place d
  put_within place d below =
      let less : (at + place) - at ≡ place = omega arith in
      get_or-append_right (take at xs) (ys ++ drop (at + length ys) xs) at (at + place) d front (omega arith) ∙ ap (λ z. get_or (ys ++ drop (at + length ys) xs) z d) less
      ∙ get_or_append_left ys (drop (at + length ys) xs) d place below

  pub put_after : (place : ℕ) (d : A) → at + length ys ≤ place → get_or (put xs at ys) place d ≡ get_or xs place d
  put_after place d past =
      let more : (at + length ys) + ((place - at) - length ys) ≡ place = omega (arith, past) in
      get_or-append_right (take at xs) (ys ++ drop (at + length ys) xs) at place d front (omega (arith, past))
      ∙ get_or-append_right ys (drop (at + length ys) xs) (length ys) (place - at) d refl (omega (arith, past))
      ∙ get_or-drop (at + length ys) xs ((place - at) - length ys) d ∙ ap (λ z. get_or xs z d) more

  -- an entry before those or behind them
  pub put_outside : (place : ℕ) (d : A) → (place < at) ⊎ (at + length ys ≤ place) → get_or (put xs at ys) place d ≡ get_or xs place d
  put_outside place d (inl below) = put_before place d below
  put_outside place d (inr past) = put_after place d past

pub put_none : {A : Type 0} (xs ys : List A) (at : ℕ) → length ys ≡ 0 → put xs at ys ≡ xs
put_none xs [] at none =
    let same : at + 0 ≡ at = omega arith in
    ap (λ z. take at xs ++ drop z xs) same ∙ take-append-drop at xs
put_none xs (y ∷ ys) at none = absurd (omega (arith, none))

pub any_more : {A : Type 0} (P : A → Type 0) (xs : List A) (y : A) → Any P xs → Any P (xs ++ y ∷ [])
any_more P xs y (k, x, below, is, h) = (k, x, (let more = length_push xs y in omega (arith, more, below)), get_or_append_left xs (y ∷ []) x k below ∙ is, h)

-- a place is before some entries, one of them or behind them
abbrev Position : ℕ → ℕ → ℕ → Type 0
Position place at count = ((place < at) ⊎ (at + count ≤ place)) ⊎ ((step : ℕ) × (step < count) × (place ≡ at + step))

position_by : (place at count : ℕ) → (place < at) ⊎ (at ≤ place) → (place < at + count) ⊎ (at + count ≤ place) → Position place at count
position_by place at count (inl below) _ = inl (inl below)
position_by place at count (inr from) (inr past) = inl (inr past)
position_by place at count (inr from) (inl below) = inr (place - at, omega (arith, from, below), omega (arith, from))

position : (place at count : ℕ) → Position place at count
position place at count = position_by place at count (cases_lt place at) (cases_lt place (at + count))

at_other : {A : Type 0} (xs : List A) (one other : ℕ) (d : A) → one ≡ other → get_or xs one d ≡ get_or xs other d
at_other xs one other d e = ap (λ z. get_or xs z d) e

-- ---- a write into the values of one stretch

module _ {A : Type 0} (blank : A) (stretches : List Stretch) (apart : AllPairs IsBefore stretches) (values content ys : List A) (k : ℕ) (s : Stretch) (below : k < length stretches) (is : get_or stretches k s ≡ s)
    (stands : Stands blank stretches values content) (offset base : ℕ) (from : s.start ≤ offset) (to : offset + length ys ≤ s.start + s.len) (base_is : base ≡ s.base + (offset - s.start)) where
  s_ends : s.start + s.len ≤ length content
  s_ends = subst (λ (z : Stretch). z.start + z.len ≤ length content) is (stands.ends k s below)

  s_valued : s.base + s.len ≤ length values
  s_valued = subst (λ (z : Stretch). z.base + z.len ≤ length values) is (stands.valued k s below)

  s_inside : HasValues values content s
  s_inside = subst (λ (z : Stretch). HasValues values content z) is (stands.inside k s below)

  pub put_fits : offset + length ys ≤ length content
  put_fits = omega (arith, s_ends, to)

  values_fit : base + length ys ≤ length values
  values_fit = omega (arith, s_valued, from, to, base_is)

  own_at : (place : ℕ) (d : A) → place < s.len → Position (s.start + place) offset (length ys) → get_or (put content offset ys) (s.start + place) d ≡ get_or (put values base ys) (s.base + place) d
  own_at place d less (inl (inl before)) =
      put_before content ys offset put_fits (s.start + place) d before ∙ s_inside place d less ∙ sym (put_before values ys base values_fit (s.base + place) d (omega (arith, before, from, base_is)))
  own_at place d less (inl (inr past)) =
      put_after content ys offset put_fits (s.start + place) d past ∙ s_inside place d less ∙ sym (put_after values ys base values_fit (s.base + place) d (omega (arith, past, from, base_is)))
  own_at place d less (inr (step, small, e)) =
      at_other (put content offset ys) (s.start + place) (offset + step) d e ∙ put_within content ys offset put_fits step d small
      ∙ sym (at_other (put values base ys) (s.base + place) (base + step) d (omega (arith, e, from, base_is)) ∙ put_within values ys base values_fit step d small)

  -- the values of another stretch
  other_at : (t : Stretch) → HasValues values content t → IsBefore t s ⊎ IsBefore s t → HasValues (put values base ys) (put content offset ys) t
  other_at t has (inl h) = λ place d less. put_before content ys offset put_fits (t.start + place) d (omega (arith, less, h.entries, from)) ∙ has place d less ∙ sym (put_before values ys base values_fit (t.base + place) d (omega (arith, less, h.values, base_is)))
  other_at t has (inr h) = λ place d less. put_after content ys offset put_fits (t.start + place) d (omega (arith, h.entries, to)) ∙ has place d less ∙ sym (put_after values ys base values_fit (t.base + place) d (omega (arith, h.values, base_is, from, to)))

  each_at : (j : ℕ) → j < length stretches → (j < k) ⊎ (k ≤ j) → (k < j) ⊎ (j ≤ k) → HasValues (put values base ys) (put content offset ys) (get_or stretches j s)
  each_at j small (inl before) _ = other_at (get_or stretches j s) (stands.inside j s small) (inl (subst (λ (z : Stretch). IsBefore (get_or stretches j s) z) is (apart j k s before below)))
  each_at j small (inr upto) (inl behind) = other_at (get_or stretches j s) (stands.inside j s small) (inr (subst (λ (z : Stretch). IsBefore z (get_or stretches j s)) is (apart k j s behind small)))
  each_at j small (inr upto) (inr least) =
      let same : k ≡ j = omega (arith, upto, least) in
      let here : s ≡ get_or stretches j s = sym is ∙ ap (λ z. get_or stretches z s) same in
      subst (λ (z : Stretch). HasValues (put values base ys) (put content offset ys) z) here (λ place d less. own_at place d less (position (s.start + place) offset (length ys)))

  outside_at : (entry : ℕ) → IsOutside entry s → (entry < offset) ⊎ (offset + length ys ≤ entry)
  outside_at entry (inl before) = inl (omega (arith, before, from))
  outside_at entry (inr past) = inr (omega (arith, past, to))

  pub stands_put : Stands blank stretches (put values base ys) (put content offset ys)
  stands_put = record {
    ends = subst (λ (z : ℕ). All (Ends z) stretches) (sym (put_length content ys offset put_fits)) stands.ends;
    valued = subst (λ (z : ℕ). All (Valued z) stretches) (sym (put_length values ys base values_fit)) stands.valued;
    inside = λ j d small. subst (λ (z : Stretch). HasValues (put values base ys) (put content offset ys) z) (get_or_default stretches j s d small) (each_at j small (cases_lt j k) (cases_lt k j));
    outside = λ entry d small all.
        let one : IsOutside entry s = subst (λ (z : Stretch). IsOutside entry z) is (all k s below) in
        put_outside content ys offset put_fits entry d (outside_at entry one) ∙ stands.outside entry d (let size = put_length content ys offset put_fits in omega (arith, small, size)) all;
  }

-- a write where the first of some entries has its value
module _ {A : Type 0} (blank : A) (stretches : List Stretch) (apart : AllPairs IsBefore stretches) (values content ys : List A) (offset at : ℕ) (held : IsIn stretches offset (length ys)) (some : 0 < length ys)
    (is : All (λ stretch. IsAt offset stretch → at ≡ stretch.base + (offset - stretch.start)) stretches) (stands : Stands blank stretches values content) where
  place_is : (s : Stretch) → Holds s (record { start = offset; len = length ys }) → (IsAt offset s → at ≡ s.base + (offset - s.start)) → at ≡ s.base + (offset - s.start)
  place_is s h e = e (record { from = h.from; below = let to = h.to in omega (arith, to, some) })

  pub written_stands : Stands blank stretches (put values at ys) (put content offset ys)
  written_stands =
      let h = held some in
      stands_put blank stretches apart values content ys h.0 h.1 h.2 h.3 stands offset at h.4.from h.4.to
      (place_is h.1 h.4 (subst (λ (z : Stretch). IsAt offset z → at ≡ z.base + (offset - z.start)) h.3 (is h.0 h.1 h.2)))

pub no_write : {A : Type 0} (blank : A) (stretches : List Stretch) (values content ys : List A) (offset : ℕ) → length ys ≡ 0 → Stands blank stretches values content → Stands blank stretches values (put content offset ys)
no_write blank stretches values content ys offset none stands = subst (λ z. Stands blank stretches values z) (sym (put_none content ys offset none)) stands

-- what is left of a write into a part
pub put_part : {A : Type 0} (xs ys new : List A) (at count : ℕ) → count ≡ length ys → new ≡ ys → put_mid at count xs new ≡ put xs at ys
put_part xs ys new at count size is =
    ap (λ z. put_mid at count xs z) is ∙ ap (λ z. take at xs ++ (ys ++ z)) (drop-drop count at xs ∙ ap (λ z. drop (at + z) xs) size)

pub put_some : (xs : List (Option ℕ)) (at : ℕ) (funcs : List ℕ) → take at xs ++ (map Some funcs ++ drop (at + length funcs) xs) ≡ put xs at (map Some funcs)
put_some xs at funcs = ap (λ z. take at xs ++ (map Some funcs ++ drop (at + z) xs)) (sym (length-map funcs (λ (z : ℕ). Some z)))

pub in_some : (stretches : List Stretch) (offset : ℕ) (funcs : List ℕ) → IsIn stretches offset (length funcs) → IsIn stretches offset (length (map (λ (z : ℕ). Some z) funcs))
in_some stretches offset funcs held = subst (λ (z : ℕ). IsIn stretches offset z) (sym (length-map funcs (λ (z : ℕ). Some z))) held

-- ---- at first

pub stands_blank : {A : Type 0} (blank : A) (stretches : List Stretch) (count size : ℕ) → All (Ends size) stretches → All (Valued count) stretches → Stands blank stretches (replicate count blank) (replicate size blank)
stands_blank blank stretches count size ends valued = record {
  ends = subst (λ (z : ℕ). All (Ends z) stretches) (sym (length-replicate size blank)) ends;
  valued = subst (λ (z : ℕ). All (Valued z) stretches) (sym (length-replicate count blank)) valued;
  inside = λ k e small place d less.
      let s = get_or stretches k e in
      let one : s.start + s.len ≤ size = ends k e small in
      let two : s.base + s.len ≤ count = valued k e small in
      get_or-replicate size (s.start + place) blank d (omega (arith, one, less)) ∙ sym (get_or-replicate count (s.base + place) blank d (omega (arith, two, less)));
  outside = λ entry d small all. get_or-replicate size entry blank d (let e = length-replicate size blank in omega (arith, small, e));
}

pub resized : {A : Type 0} (old new : List A) (count len : ℕ) (blank : A) → old ≡ [] → len ≡ 0 → new ≡ take count old ++ replicate (count - len) blank → new ≡ replicate count blank
resized old new count len blank e f made =
    let less : count - len ≡ count = omega (arith, f) in
    made ∙ ap (λ z. take count z ++ replicate (count - len) blank) e ∙ ap (λ z. z ++ replicate (count - len) blank) (take_all count [] (omega arith)) ∙ ap (λ z. replicate z blank) less

-- before the first write, and after the last
pub image_starts : {A : Type 0} (blank : A) (stretches one other : List Stretch) (count : ℕ) (values content : List A) → one ≡ stretches → other ≡ stretches → All (Valued count) one → All (Ends (length content)) stretches
    → values ≡ replicate count blank → content ≡ replicate (length content) blank → Stands blank other values content
image_starts blank stretches one other count values content e f valued ends v c =
    let first : Stands blank stretches (replicate count blank) (replicate (length content) blank) = stands_blank blank stretches count (length content) ends (subst (λ (z : List Stretch). All (Valued count) z) e valued) in
    subst (λ (z : List Stretch). Stands blank z values content) (sym f) (subst (λ z. Stands blank stretches z content) (sym v) (subst (λ z. Stands blank stretches (replicate count blank) z) (sym c) first))

pub image_ends : {A : Type 0} (blank : A) (stretches other : List Stretch) (new rest content : List A) (count : ℕ) → other ≡ stretches → length new ≡ count → Stands blank other new content → Stands blank stretches (take count (new ++ rest)) content
image_ends blank stretches other new rest content count e size stands =
    subst (λ (z : List Stretch). Stands blank z (take count (new ++ rest)) content) e (subst (λ z. Stands blank other z content) (sym (take_at new rest count size)) stands)

-- ---- what is laid in blank entries

module _ {A : Type 0} (blank : A) (stretches : List Stretch) (values content now : List A) (k : ℕ) (s : Stretch) (below : k < length stretches) (is : s ≡ get_or stretches k s)
    (stands : Stands blank stretches values content) (laid : IsLaid blank (take k stretches) content now) where
  l_ends : s.start + s.len ≤ length content
  l_ends = subst (λ (z : Stretch). z.start + z.len ≤ length content) (sym is) (stands.ends k s below)

  l_valued : s.base + s.len ≤ length values
  l_valued = subst (λ (z : Stretch). z.base + z.len ≤ length values) (sym is) (stands.valued k s below)

  l_inside : HasValues values content s
  l_inside = subst (λ (z : Stretch). HasValues values content z) (sym is) (stands.inside k s below)

  abbrev part : List A
  part = take s.len (drop s.base values)

  part_length : length part ≡ s.len
  part_length = let rest = length-drop s.base values in length-take-le s.len (drop s.base values) (omega (arith, rest, l_valued))

  part_fits : s.start + length part ≤ length now
  part_fits = omega (arith, part_length, laid.size, l_ends)

  part_at : (step : ℕ) (d : A) → step < s.len → get_or part step d ≡ get_or content (s.start + step) d
  part_at step d less = get_or-take s.len (drop s.base values) step d less ∙ get_or-drop s.base values step d ∙ sym (l_inside step d less)

  laid_length : length (put now s.start part) ≡ length content
  laid_length = put_length now part s.start part_fits ∙ laid.size

  laid_here : (entry step : ℕ) → step < s.len → entry ≡ s.start + step → (d : A) → get_or (put now s.start part) entry d ≡ get_or content entry d
  laid_here entry step less e d =
      at_other (put now s.start part) entry (s.start + step) d e ∙ put_within now part s.start part_fits step d (omega (arith, less, part_length)) ∙ part_at step d less ∙ sym (at_other content entry (s.start + step) d e)

  around : (entry : ℕ) → IsOutside entry s → (entry < s.start) ⊎ (s.start + length part ≤ entry)
  around entry (inl before) = inl before
  around entry (inr past) = inr (omega (arith, past, part_length))

  laid_around : (entry : ℕ) → IsOutside entry s → IsAsLaid blank (take k stretches) content now entry → IsAsLaid blank (take (k + 1) stretches) content (put now s.start part) entry
  laid_around entry out (inl same) = inl (λ d. put_outside now part s.start part_fits entry d (around entry out) ∙ same d)
  laid_around entry out (inr (empty, all)) = inr (
    (λ d. put_outside now part s.start part_fits entry d (around entry out) ∙ empty d),
    All-more (IsOutside entry) stretches k s below all (subst (λ (z : Stretch). IsOutside entry z) is out),
  )

  laid_at : (entry : ℕ) → entry < length content → Position entry s.start s.len → IsAsLaid blank (take (k + 1) stretches) content (put now s.start part) entry
  laid_at entry small (inl out) = laid_around entry out (laid.each entry small)
  laid_at entry small (inr (step, less, e)) = inl (laid_here entry step less e)

  pub laid_more : IsLaid blank (take (k + 1) stretches) content (put now s.start part)
  laid_more = record { size = laid_length; each = λ entry small. laid_at entry small (position entry s.start s.len) }

pub part_size : {A : Type 0} (values : List A) (base len : ℕ) {count : ℕ} → base + len ≤ length values → count ≡ len → length (take count (drop base values)) ≡ len
part_size values base len fits is =
    let rest = length-drop base values in
    ap (λ z. length (take z (drop base values))) is ∙ length-take-le len (drop base values) (omega (arith, rest, fits))

pub laid_step : {A : Type 0} (blank : A) (stretches : List Stretch) (values content now new part : List A) (k : ℕ) (s : Stretch) → k < length stretches → s ≡ get_or stretches k s → Stands blank stretches values content
    → IsLaid blank (take k stretches) content now → part ≡ take s.len (drop s.base values) → new ≡ put now s.start part → IsLaid blank (take (k + 1) stretches) content new
laid_step blank stretches values content now new piece k s below is stands laid p made =
    subst (λ z. IsLaid blank (take (k + 1) stretches) content z) (sym (made ∙ ap (λ z. put now s.start z) p)) (laid_more blank stretches values content now k s below is stands laid)

module _ {A : Type 0} (blank : A) (stretches : List Stretch) (values content now : List A) (stands : Stands blank stretches values content) (laid : IsLaid blank stretches content now) where
  whole_at : (entry : ℕ) (d : A) → entry < length content → IsAsLaid blank stretches content now entry → get_or now entry d ≡ get_or content entry d
  whole_at entry d small (inl same) = same d
  whole_at entry d small (inr (empty, all)) = empty d ∙ sym (stands.outside entry d small all)

  pub laid_all : now ≡ content
  laid_all = same_lists now content laid.size (λ entry d small. whole_at entry d (omega (arith, small, laid.size)) (laid.each entry (omega (arith, small, laid.size))))
