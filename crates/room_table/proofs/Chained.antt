-- What stays of the chains of the tiles when a slot is added, taken off its tile, or put on one.
use Rattle.std.proofs.Common.{◌≡◌, ◌≢◌, ℕ, ◌+◌, ◌-◌, ◌^◌, ◌<◌, ◌≤◌, cond, eqb, List, [], ◌∷◌, ◌++◌, length, get_or, set, sym, ap, subst, ◌∙◌, refl, inl, inr, arith, eq-eqb, length-set, get_or-set_other, get_or-set_same}
use Rattle.std.proofs.lemmas.Bool.{ne_eqb, cases_eq, cases_lt, cases_order}
use Rattle.std.proofs.lemmas.List.{get_or_append_left, get_or_at, length_push}
use Rattle.room_table.specs.inner.Chains.{IsChained, IsNewest, IsNextNewer, tile_at}

-- what is newest is seen by the slots below the end alone
pub newest_same : (tile : ℕ) (old new : List ℕ) (end number : ℕ) → ((slot : ℕ) → slot < end → tile_at new slot ≡ tile_at old slot) → IsNewest tile old end number → IsNewest tile new end number
newest_same tile old new end number same newest = record {
  within = newest.within;
  on = λ some. same (number - 1) (let within = newest.within in omega arith) ∙ newest.on some;
  above = λ slot low high on. newest.above slot low high (sym (same slot high) ∙ on);
}

-- The tile of one slot is another from now on.
module _ (tiles : List ℕ) (slot other : ℕ) (within : slot < length tiles) where
  abbrev after : List ℕ
  after = set tiles slot other

  at_it : tile_at after slot ≡ other
  at_it = get_or-set_same tiles slot other 2500 within

  at_another : (k : ℕ) → k ≢ slot → tile_at after k ≡ tile_at tiles k
  at_another k apart = get_or-set_other tiles slot k other 2500 apart

  -- a chain in which it was not, and is not
  pub newest_apart : (tile end number : ℕ) → other ≢ tile → number ≢ slot + 1 → IsNewest tile tiles end number → IsNewest tile after end number
  newest_apart tile end number off apart newest = record {
    within = newest.within;
    on = λ some. at_another (number - 1) (λ same. apart (omega arith)) ∙ newest.on some;
    above = λ k low high on. elim (cases_eq k slot) [
      | inl here ↦ off (sym at_it ∙ ap (tile_at after) (sym here) ∙ on)
      | inr there ↦ newest.above k low high (sym (at_another k there) ∙ on)
    ];
  }

  -- only the next newer slot of its tile is linked to it
  pub not_linked : (tile place end number : ℕ) → IsNextNewer tile tiles slot place → end ≢ place → end ≤ length tiles → (end < length tiles → tile_at tiles end ≡ tile) → IsNewest tile tiles end number → number ≢ slot + 1
  not_linked tile place end number next apart end_within on newest same =
      let low = newest.within in
      elim (cases_order end place) [
        | inl here ↦ apart here
        | inr (inl below) ↦ let place_within = next.within in next.between end (omega arith) below (on (omega arith))
        | inr (inr above) ↦ let after = next.after in newest.above place (omega arith) above (next.on (omega arith))
      ]

  -- that slot is linked to the next older one, once it is off the tile
  pub newest_without : (tile place older : ℕ) → other ≢ tile → IsNextNewer tile tiles slot place → IsNewest tile tiles slot older → IsNewest tile after place older
  newest_without tile place older off next newest = record {
    within = let low = newest.within in let high = next.after in omega arith;
    on = λ some. let low = newest.within in at_another (older - 1) (λ same. omega arith) ∙ newest.on some;
    above = λ k low high on. elim (cases_order k slot) [
      | inl here ↦ off (sym at_it ∙ ap (tile_at after) (sym here) ∙ on)
      | inr (inl below) ↦ newest.above k low below (sym (at_another k (λ same. omega arith)) ∙ on)
      | inr (inr above) ↦ next.between k above high (sym (at_another k (λ same. omega arith)) ∙ on)
    ];
  }

  -- the slot comes into a chain below the next newer one
  pub older_below : (tile place older : ℕ) → tile_at tiles slot ≢ tile → IsNextNewer tile tiles slot place → IsNewest tile tiles place older → older ≤ slot
  older_below tile place older off next newest = elim (cases_lt slot older) [
    | inl above ↦
        let high = newest.within in
        let on : tile_at tiles (older - 1) ≡ tile = newest.on (omega arith) in
        elim (cases_eq slot (older - 1)) [
          | inl here ↦ absurd (off (ap (tile_at tiles) here ∙ on))
          | inr there ↦ absurd (next.between (older - 1) (omega arith) (omega arith) on)
        ]
    | inr below ↦ below
  ]

  pub newest_here : (place : ℕ) → IsNextNewer other tiles slot place → IsNewest other after place (slot + 1)
  newest_here place next = record {
    within = let after = next.after in omega arith;
    on = λ some. ap (tile_at after) (let same : slot + 1 - 1 ≡ slot = omega arith in same) ∙ at_it;
    above = λ k low high on. next.between k (omega arith) high (sym (at_another k (λ same. omega arith)) ∙ on);
  }

  pub newest_below : (place older : ℕ) → tile_at tiles slot ≢ other → IsNextNewer other tiles slot place → IsNewest other tiles place older → IsNewest other after slot older
  newest_below place older off next newest =
      let low : older ≤ slot = older_below other place older off next newest in
      let high = next.after in record {
        within = low;
        on = λ some. at_another (older - 1) (λ same. omega arith) ∙ newest.on some;
        above = λ k least below on. newest.above k least (omega arith) (sym (at_another k (λ same. omega arith)) ∙ on);
      }

  -- the other links of its new chain stay
  pub newest_beside : (place end number : ℕ) → IsNextNewer other tiles slot place → end ≢ place → end ≢ slot → end ≤ length tiles → (end < length tiles → tile_at tiles end ≡ other) → IsNewest other tiles end number → IsNewest other after end number
  newest_beside place end number next apart not_it end_within on newest = elim (cases_lt end slot) [
    | inl below ↦ newest_same other tiles after end number (λ k lt. at_another k (λ same. omega arith)) newest
    | inr least ↦ elim (cases_order end place) [
      | inl here ↦ absurd (apart here)
      | inr (inl lower) ↦ let place_within = next.within in absurd (next.between end (omega arith) lower (on (omega arith)))
      | inr (inr upper) ↦ elim (cases_lt place number) [
        | inl above ↦
            let high = next.after in record {
              within = newest.within;
              on = λ some. at_another (number - 1) (λ same. omega arith) ∙ newest.on some;
              above = λ k low lt now. newest.above k low lt (sym (at_another k (λ same. omega arith)) ∙ now);
            }
        | inr low ↦ absurd (newest.above place low upper (next.on (omega arith)))
      ]
    ]
  ]

-- A slot is added.
module _ (tiles : List ℕ) (added : ℕ) where
  abbrev more : List ℕ
  more = tiles ++ added ∷ []

  before_it : (k : ℕ) → k < length tiles → tile_at more k ≡ tile_at tiles k
  before_it k lt = get_or_append_left tiles (added ∷ []) 2500 k lt

  at_added : tile_at more (length tiles) ≡ added
  at_added = get_or_at tiles added [] 2500 (length tiles) refl

  pub newest_before : (tile end number : ℕ) → end ≤ length tiles → IsNewest tile tiles end number → IsNewest tile more end number
  newest_before tile end number within newest = newest_same tile tiles more end number (λ k lt. before_it k (omega arith)) newest

  pub newest_elsewhere : (tile number : ℕ) → tile ≢ added → IsNewest tile tiles (length tiles) number → IsNewest tile more (length more) number
  newest_elsewhere tile number apart newest =
      let count : length more ≡ length tiles + 1 = length_push tiles added in
      let low = newest.within in record {
        within = omega arith;
        on = λ some. before_it (number - 1) (omega arith) ∙ newest.on some;
        above = λ k least below on. elim (cases_eq k (length tiles)) [
          | inl here ↦ apart (sym on ∙ ap (tile_at more) here ∙ at_added)
          | inr there ↦ newest.above k least (omega arith) (sym (before_it k (omega arith)) ∙ on)
        ];
      }

  pub newest_added : IsNewest added more (length more) (length tiles + 1)
  newest_added =
      let count : length more ≡ length tiles + 1 = length_push tiles added in record {
        within = omega arith;
        on = λ some. ap (tile_at more) (let same : length tiles + 1 - 1 ≡ length tiles = omega arith in same) ∙ at_added;
        above = λ k least below on. omega arith;
      }

-- The head of one tile, or the link of one slot, is another number from now on.
abbrev pub heads_after : List ℕ → List ℕ → ℕ → ℕ → ℕ → List ℕ
heads_after heads links tile place number = cond (eqb place (length links)) (set heads tile number) heads

pub length_heads : (heads links : List ℕ) (tile place number : ℕ) → length (heads_after heads links tile place number) ≡ length heads
length_heads heads links tile place number = elim (cases_eq place (length links)) [
  | inl here ↦ rw (eq-eqb place (length links) here) (length-set heads tile number)
  | inr there ↦ rw (ne_eqb place (length links) there) refl
]

head_there : (heads links : List ℕ) (tile place number : ℕ) → tile < length heads → place ≡ length links → get_or (heads_after heads links tile place number) tile 0 ≡ number
head_there heads links tile place number within here = rw (eq-eqb place (length links) here) (get_or-set_same heads tile number 0 within)

head_beside : (heads links : List ℕ) (tile place number t : ℕ) → (t ≡ tile → place ≢ length links) → get_or (heads_after heads links tile place number) t 0 ≡ get_or heads t 0
head_beside heads links tile place number t apart = elim (cases_eq place (length links)) [
  | inl here ↦ rw (eq-eqb place (length links) here) (get_or-set_other heads tile t number 0 (λ same. apart same here))
  | inr there ↦ rw (ne_eqb place (length links) there) refl
]

-- a slot of another tile is not what is newest on this
other_tile : (tiles : List ℕ) (slot tile end number : ℕ) → tile_at tiles slot ≢ tile → IsNewest tile tiles end number → number ≢ slot + 1
other_tile tiles slot tile end number off newest same =
    let place : number - 1 ≡ slot = omega arith in
    off (ap (tile_at tiles) (sym place) ∙ newest.on (omega arith))

-- a slot is taken out of the chain of its tile
module _ (heads links tiles : List ℕ) (slot place : ℕ) (chained : IsChained heads links tiles) (within : slot < length tiles) (on : tile_at tiles slot < 2500) (next : IsNextNewer (tile_at tiles slot) tiles slot place) where
  abbrev its_tile : ℕ
  its_tile = tile_at tiles slot

  abbrev its_link : ℕ
  its_link = get_or links slot 0

  abbrev without_it : List ℕ
  without_it = set tiles slot 2500

  still_without : (tile end number : ℕ) → tile < 2500 → end ≤ length tiles → (end < length tiles → tile_at tiles end ≡ tile) → (tile ≡ its_tile → end ≢ place) → IsNewest tile tiles end number → IsNewest tile without_it end number
  still_without tile end number low end_within on_end apart newest =
      newest_apart tiles slot 2500 within tile end number (λ same. omega arith) (elim (cases_eq tile its_tile) [
        | inl here ↦ not_linked tiles slot 2500 within tile place end number (subst (λ t. IsNextNewer t tiles slot place) (sym here) next) (apart here) end_within on_end newest
        | inr there ↦ other_tile tiles slot tile end number (λ same. there (sym same)) newest
      ]) newest

  relinked : IsNewest its_tile without_it place its_link
  relinked = newest_without tiles slot 2500 within its_tile place its_link (λ same. omega arith) next (chained.older slot within on)

  head_without : (tile : ℕ) → tile < 2500 → IsNewest tile without_it (length tiles) (get_or (heads_after heads links its_tile place its_link) tile 0)
  head_without tile low =
      let linked = chained.linked in
      let wide : its_tile < length heads = let w = chained.wide in let n = chained.needed in omega arith in
      let still : (tile ≡ its_tile → place ≢ length links) → IsNewest tile without_it (length tiles) (get_or (heads_after heads links its_tile place its_link) tile 0) = λ apart. subst (λ n. IsNewest tile without_it (length tiles) n) (sym (head_beside heads links its_tile place its_link tile apart)) (still_without tile (length tiles) _ low (omega arith) (λ lt. absurd (omega arith)) (λ same here. apart same (omega arith)) (chained.newest tile low)) in
      elim (cases_eq tile its_tile) [
        | inl same ↦ elim (cases_eq place (length links)) [
          | inl here ↦
              let count : length tiles ≡ place = omega arith in
              subst (λ t. IsNewest t without_it (length tiles) (get_or (heads_after heads links its_tile place its_link) t 0)) (sym same) (subst (λ n. IsNewest its_tile without_it (length tiles) n) (sym (head_there heads links its_tile place its_link wide here)) (subst (λ n. IsNewest its_tile without_it n its_link) (sym count) relinked))
          | inr there ↦ still (λ _. there)
        ]
        | inr apart ↦ still (λ same. absurd (apart same))
      ]

  link_without : (k : ℕ) → k < length tiles → tile_at without_it k < 2500 → IsNewest (tile_at without_it k) without_it k (get_or (set links place its_link) k 0)
  link_without k lt low =
      let linked = chained.linked in
      let apart : k ≢ slot = λ same. let there : tile_at without_it k ≡ 2500 = ap (tile_at without_it) same ∙ at_it tiles slot 2500 within in omega arith in
      let stays : tile_at without_it k ≡ tile_at tiles k = at_another tiles slot 2500 within k apart in
      subst (λ t. IsNewest t without_it k (get_or (set links place its_link) k 0)) (sym stays) (elim (cases_eq k place) [
        | inl here ↦
            let its : tile_at tiles k ≡ its_tile = ap (tile_at tiles) here ∙ next.on (omega arith) in
            let number : get_or (set links place its_link) k 0 ≡ its_link = ap (λ n. get_or (set links place its_link) n 0) here ∙ get_or-set_same links place its_link 0 (omega arith) in
            subst (λ t. IsNewest t without_it k (get_or (set links place its_link) k 0)) (sym its) (subst (λ n. IsNewest its_tile without_it k n) (sym number) (subst (λ n. IsNewest its_tile without_it n its_link) (sym here) relinked))
        | inr there ↦
            subst (λ n. IsNewest (tile_at tiles k) without_it k n) (sym (get_or-set_other links place k its_link 0 there)) (still_without (tile_at tiles k) k _ (omega arith) (omega arith) (λ _. refl) (λ _. there) (chained.older k lt (omega arith)))
      ])

  pub chained_without : IsChained (heads_after heads links its_tile place its_link) (set links place its_link) without_it
  chained_without =
      let count : length without_it ≡ length tiles = length-set tiles slot 2500 in
      let heads_count = length_heads heads links its_tile place its_link in record {
        wide = let w = chained.wide in omega arith;
        needed = let n = chained.needed in omega arith;
        count = let n = chained.count in omega arith;
        linked = length-set links place its_link ∙ chained.linked ∙ sym count;
        newest = λ tile low. subst (λ n. IsNewest tile without_it n (get_or (heads_after heads links its_tile place its_link) tile 0)) (sym count) (head_without tile low);
        older = λ k lt low. link_without k (omega arith) low;
      }

-- what the next newer slot is linked to, or the head
pub pointed_newest : (heads links tiles : List ℕ) (slot tile place : ℕ) → IsChained heads links tiles → tile < 2500 → IsNextNewer tile tiles slot place → IsNewest tile tiles place (cond (eqb place (length links)) (get_or heads tile 0) (get_or links place 0))
pointed_newest heads links tiles slot tile place chained low next =
    let linked = chained.linked in
    let place_within = next.within in
    elim (cases_eq place (length links)) [
      | inl here ↦
          let count : length tiles ≡ place = omega arith in
          rw (eq-eqb place (length links) here) (subst (λ n. IsNewest tile tiles n (get_or heads tile 0)) count (chained.newest tile low))
      | inr there ↦
          let its : tile_at tiles place ≡ tile = next.on (omega arith) in
          rw (ne_eqb place (length links) there) (subst (λ t. IsNewest t tiles place (get_or links place 0)) its (chained.older place (omega arith) (omega arith)))
    ]

-- a slot that is on no tile is put into the chain of one
module _ (heads links tiles : List ℕ) (slot tile place older : ℕ) (chained : IsChained heads links tiles) (within : slot < length tiles) (low : tile < 2500) (off : tile_at tiles slot ≡ 2500) (next : IsNextNewer tile tiles slot place) (newest : IsNewest tile tiles place older) where
  abbrev with_it : List ℕ
  with_it = set tiles slot tile

  not_there : tile_at tiles slot ≢ tile
  not_there same = omega arith

  still_with : (t end number : ℕ) → end ≤ length tiles → (end < length tiles → tile_at tiles end ≡ t) → end ≢ slot → (t ≡ tile → end ≢ place) → t < 2500 → IsNewest t tiles end number → IsNewest t with_it end number
  still_with t end number end_within on_end not_it apart t_low was = elim (cases_eq t tile) [
    | inl here ↦
        subst (λ u. IsNewest u with_it end number) (sym here) (newest_beside tiles slot tile within place end number next (apart here) not_it end_within (λ lt. on_end lt ∙ here) (subst (λ u. IsNewest u tiles end number) here was))
    | inr there ↦
        newest_apart tiles slot tile within t end number (λ same. there (sym same)) (other_tile tiles slot t end number (λ same. omega arith) was) was
  ]

  head_with : (t : ℕ) → t < 2500 → IsNewest t with_it (length tiles) (get_or (heads_after heads links tile place (slot + 1)) t 0)
  head_with t t_low =
      let linked = chained.linked in
      let wide : tile < length heads = let w = chained.wide in let n = chained.needed in omega arith in
      let still : (t ≡ tile → place ≢ length links) → IsNewest t with_it (length tiles) (get_or (heads_after heads links tile place (slot + 1)) t 0) = λ apart. subst (λ n. IsNewest t with_it (length tiles) n) (sym (head_beside heads links tile place (slot + 1) t apart)) (still_with t (length tiles) _ (omega arith) (λ lt. absurd (omega arith)) (λ same. omega arith) (λ same here. apart same (omega arith)) t_low (chained.newest t t_low)) in
      elim (cases_eq t tile) [
        | inl same ↦ elim (cases_eq place (length links)) [
          | inl here ↦
              let count : length tiles ≡ place = omega arith in
              subst (λ u. IsNewest u with_it (length tiles) (get_or (heads_after heads links tile place (slot + 1)) u 0)) (sym same) (subst (λ n. IsNewest tile with_it (length tiles) n) (sym (head_there heads links tile place (slot + 1) wide here)) (subst (λ n. IsNewest tile with_it n (slot + 1)) (sym count) (newest_here tiles slot tile within place next)))
          | inr there ↦ still (λ _. there)
        ]
        | inr apart ↦ still (λ same. absurd (apart same))
      ]

  abbrev links_with : List ℕ
  links_with = set (set links place (slot + 1)) slot older

  link_elsewhere : (k : ℕ) → k < length tiles → k ≢ slot → tile_at tiles k < 2500 → IsNewest (tile_at tiles k) with_it k (get_or (set links place (slot + 1)) k 0)
  link_elsewhere k lt apart k_low = let linked = chained.linked in elim (cases_eq k place) [
    | inl here ↦
        let its : tile_at tiles k ≡ tile = ap (tile_at tiles) here ∙ next.on (omega arith) in
        let number : get_or (set links place (slot + 1)) k 0 ≡ slot + 1 = ap (λ n. get_or (set links place (slot + 1)) n 0) here ∙ get_or-set_same links place (slot + 1) 0 (omega arith) in
        subst (λ t. IsNewest t with_it k (get_or (set links place (slot + 1)) k 0)) (sym its) (subst (λ n. IsNewest tile with_it k n) (sym number) (subst (λ n. IsNewest tile with_it n (slot + 1)) (sym here) (newest_here tiles slot tile within place next)))
    | inr there ↦
        subst (λ n. IsNewest (tile_at tiles k) with_it k n) (sym (get_or-set_other links place k (slot + 1) 0 there)) (still_with (tile_at tiles k) k _ (omega arith) (λ _. refl) apart (λ _. there) k_low (chained.older k lt k_low))
  ]

  link_with : (k : ℕ) → k < length tiles → tile_at with_it k < 2500 → IsNewest (tile_at with_it k) with_it k (get_or links_with k 0)
  link_with k lt k_low =
      let linked = chained.linked in elim (cases_eq k slot) [
        | inl here ↦
            let its : tile_at with_it k ≡ tile = ap (tile_at with_it) here ∙ at_it tiles slot tile within in
            let count = length-set links place (slot + 1) in
            let number : get_or links_with k 0 ≡ older = ap (λ n. get_or links_with n 0) here ∙ get_or-set_same (set links place (slot + 1)) slot older 0 (omega arith) in
            subst (λ t. IsNewest t with_it k (get_or links_with k 0)) (sym its) (subst (λ n. IsNewest tile with_it k n) (sym number) (subst (λ n. IsNewest tile with_it n older) (sym here) (newest_below tiles slot tile within place older not_there next newest)))
        | inr there ↦
            let stays : tile_at with_it k ≡ tile_at tiles k = at_another tiles slot tile within k there in
            subst (λ t. IsNewest t with_it k (get_or links_with k 0)) (sym stays) (subst (λ n. IsNewest (tile_at tiles k) with_it k n) (sym (get_or-set_other (set links place (slot + 1)) slot k older 0 there)) (link_elsewhere k lt there (omega arith)))
      ]

  pub chained_with : IsChained (heads_after heads links tile place (slot + 1)) links_with with_it
  chained_with =
      let count : length with_it ≡ length tiles = length-set tiles slot tile in
      let heads_count = length_heads heads links tile place (slot + 1) in record {
        wide = let w = chained.wide in omega arith;
        needed = let n = chained.needed in omega arith;
        count = let n = chained.count in omega arith;
        linked = length-set (set links place (slot + 1)) slot older ∙ length-set links place (slot + 1) ∙ chained.linked ∙ sym count;
        newest = λ t t_low. subst (λ n. IsNewest t with_it n (get_or (heads_after heads links tile place (slot + 1)) t 0)) (sym count) (head_with t t_low);
        older = λ k lt k_low. link_with k (omega arith) k_low;
      }

-- a slot is added
module _ (heads links tiles : List ℕ) (added : ℕ) (chained : IsChained heads links tiles) (wide : length heads ≡ 2500) (room : length tiles + 1 < 2 ^ 32) where
  abbrev heads_more : List ℕ
  heads_more = set heads added (length tiles + 1)

  abbrev links_more : List ℕ
  links_more = links ++ get_or heads added 0 ∷ []

  head_more : (t : ℕ) → t < 2500 → IsNewest t (tiles ++ added ∷ []) (length (tiles ++ added ∷ [])) (get_or heads_more t 0)
  head_more t low = elim (cases_eq t added) [
    | inl here ↦
        let number : get_or heads_more t 0 ≡ length tiles + 1 = ap (λ n. get_or heads_more n 0) here ∙ get_or-set_same heads added (length tiles + 1) 0 (omega arith) in
        subst (λ n. IsNewest t (tiles ++ added ∷ []) (length (tiles ++ added ∷ [])) n) (sym number) (subst (λ u. IsNewest u (tiles ++ added ∷ []) (length (tiles ++ added ∷ [])) (length tiles + 1)) (sym here) (newest_added tiles added))
    | inr there ↦
        subst (λ n. IsNewest t (tiles ++ added ∷ []) (length (tiles ++ added ∷ [])) n) (sym (get_or-set_other heads added t (length tiles + 1) 0 there)) (newest_elsewhere tiles added t _ there (chained.newest t low))
  ]

  link_more : (k : ℕ) → k < length tiles + 1 → tile_at (tiles ++ added ∷ []) k < 2500 → IsNewest (tile_at (tiles ++ added ∷ []) k) (tiles ++ added ∷ []) k (get_or links_more k 0)
  link_more k lt low = elim (cases_lt k (length tiles)) [
    | inl below ↦
        let linked = chained.linked in
        let stays : tile_at (tiles ++ added ∷ []) k ≡ tile_at tiles k = before_it tiles added k below in
        subst (λ t. IsNewest t (tiles ++ added ∷ []) k (get_or links_more k 0)) (sym stays) (subst (λ n. IsNewest (tile_at tiles k) (tiles ++ added ∷ []) k n) (sym (get_or_append_left links (get_or heads added 0 ∷ []) 0 k (omega arith))) (newest_before tiles added (tile_at tiles k) k _ (omega arith) (chained.older k below (omega arith))))
    | inr last ↦
        let linked = chained.linked in
        let same : k ≡ length tiles = omega arith in
        let its : tile_at (tiles ++ added ∷ []) k ≡ added = ap (tile_at (tiles ++ added ∷ [])) same ∙ at_added tiles added in
        let number : get_or links_more k 0 ≡ get_or heads added 0 = get_or_at links (get_or heads added 0) [] 0 k (omega arith) in
        subst (λ t. IsNewest t (tiles ++ added ∷ []) k (get_or links_more k 0)) (sym its) (subst (λ n. IsNewest added (tiles ++ added ∷ []) k n) (sym number) (newest_before tiles added added k _ (omega arith) (subst (λ n. IsNewest added tiles n (get_or heads added 0)) (sym same) (chained.newest added (omega arith)))))
  ]

  pub chained_more : IsChained heads_more links_more (tiles ++ added ∷ [])
  chained_more =
      let count : length (tiles ++ added ∷ []) ≡ length tiles + 1 = length_push tiles added in
      let heads_count = length-set heads added (length tiles + 1) in record {
        wide = omega arith;
        needed = omega arith;
        count = omega arith;
        linked = let linked = chained.linked in let more = length_push links (get_or heads added 0) in omega arith;
        newest = head_more;
        older = λ k lt low. link_more k (omega arith) low;
      }

pub chained_same : (heads links : List ℕ) {new_heads new_links tiles : List ℕ} → new_heads ≡ heads → new_links ≡ links → IsChained heads links tiles → IsChained new_heads new_links tiles
chained_same heads links {new_heads = new_heads} {new_links = new_links} {tiles = tiles} same_heads same_links chained =
    subst (λ hs. IsChained hs new_links tiles) (sym same_heads) (subst (λ ls. IsChained heads ls tiles) (sym same_links) chained)
