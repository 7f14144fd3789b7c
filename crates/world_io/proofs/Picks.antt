-- The image of a pick, one range after another.
use Rattle.std.proofs.Common.{◌≡◌, ◌⊎◌, inl, inr, ℕ, zero, suc, ◌+◌, ◌<◌, ◌≤◌, ◌%◌, List, [], ◌∷◌, ◌++◌, length, get_or, take, Some, refl, sym, ap, ◌∙◌, arith}
use Rattle.std.proofs.lemmas.Bool.{cases_lt}
use Rattle.std.proofs.lemmas.List.{take_more}
use Rattle.world_io.specs.Moments.{Moment, IsOutside, IsImage, IsLeftNow}
use Rattle.world_io.specs.Changes.{latest}
use Rattle.world_io.specs.Picks.{IsFilled, IsPicked}

-- ---- outside of one range more

abbrev pub IsBeside : ℕ → ℕ → ℕ → Type 0
IsBeside place at count = (place < at) ⊎ (at + count ≤ place)

outside_push : (place : ℕ) (ranges : List (ℕ × ℕ)) (at count : ℕ) → IsOutside place ranges
    → IsBeside place at count → IsOutside place (ranges ++ (at, count) ∷ [])
outside_push place [] at count outside here = (here, tt)
outside_push place (range ∷ ranges) at count outside here =
    (outside.0, outside_push place ranges at count outside.1 here)

outside_both : (place : ℕ) (ranges : List (ℕ × ℕ)) (at count : ℕ) → IsOutside place (ranges ++ (at, count) ∷ [])
    → IsOutside place ranges × IsBeside place at count
outside_both place [] at count outside = (tt, outside.0)
outside_both place (range ∷ ranges) at count outside = let rest =
    outside_both place ranges at count outside.1 in ((outside.0, rest.0), rest.1)

-- Each place is beside a range or in it.
beside_or_in : (place at count : ℕ) → IsBeside place at count ⊎ ((at ≤ place) × (place < at + count))
beside_or_in place at count =
    elim (cases_lt place at) [
      | inl low ↦ inl (inl low)
      | inr high ↦ elim (cases_lt place (at + count))
          [ inl within ↦ inr (high, within) | inr past ↦ inl (inr past) ]
    ]

-- ---- bytes after some of the ranges

abbrev pub Frees : List (ℕ × ℕ) → ℕ → List ℕ → Type 0
Frees ranges byte bytes = (place : ℕ) → place < length bytes → ¬ IsOutside place ranges
    → get_or bytes place 0 ≡ byte

abbrev pub Keeps : List (ℕ × ℕ) → List ℕ → List ℕ → Type 0
Keeps ranges old bytes = (place : ℕ) → IsOutside place ranges → get_or bytes place 0 ≡ get_or old place 0

-- one range more
module _ (ranges : List (ℕ × ℕ)) (k at count : ℕ) (old so_far bytes : List ℕ) (within : k < length ranges)
    (is : (at, count) ≡ get_or ranges k (0, 0))
    (outside : (place : ℕ) → IsBeside place at count → get_or bytes place 0 ≡ get_or so_far place 0) where
  next_ranges : take (k + 1) ranges ≡ take k ranges ++ (at, count) ∷ []
  next_ranges = take_more ranges k (0, 0) within ∙ ap (λ (range : ℕ × ℕ). take k ranges ++ range ∷ []) (sym is)

  pub keeps_more : Keeps (take k ranges) old so_far → Keeps (take (k + 1) ranges) old bytes
  keeps_more keeps place beyond =
      let both = outside_both place (take k ranges) at count (rw next_ranges at beyond) in
      outside place both.1 ∙ keeps place both.0

  pub frees_more : (byte : ℕ) → length bytes ≡ length so_far
      → ((place : ℕ) → place < length so_far → at ≤ place → place < at + count → get_or bytes place 0 ≡ byte)
      → Frees (take k ranges) byte so_far → Frees (take (k + 1) ranges) byte bytes
  frees_more byte same filled frees place lt in_range =
      elim (beside_or_in place at count) [
        | inl beside ↦ outside place beside
            ∙ frees place (omega (arith, same))
            (λ out. in_range (rw next_ranges (outside_push place (take k ranges) at count out beside)))
        | inr within ↦ filled place (omega (arith, same)) within.0 within.1
      ]

-- ---- Each pick takes an image.

filled_image : (moment : Moment) (len byte : ℕ) (image : List ℕ) → moment.least ≤ len → len ≤ moment.greatest
    → IsFilled moment len byte image → IsImage moment image
filled_image moment len byte image low high filled = record {
  no_shorter = omega (arith, filled.size);
  no_longer = omega (arith, filled.size);
  stays = λ place lt inside outside. filled.stays place (omega (arith, filled.size)) inside outside;
}

picked_image : (pick : ℕ) (moment : Moment) (read image : List ℕ) → IsImage moment read
    → IsPicked pick moment read image → IsImage moment image
picked_image zero moment read image left picked =
    filled_image moment moment.least 0 image (omega arith) (omega (arith, left.no_shorter, left.no_longer))
    (picked.least refl)
picked_image (suc zero) moment read image left picked = rw (picked.now refl) left
picked_image (suc (suc pick)) moment read image left picked =
    filled_image moment moment.greatest (suc (suc pick) % 256) image
    (omega (arith, left.no_shorter, left.no_longer)) (omega arith) (picked.greatest (omega arith))

pub picked_left : (pick : ℕ) (moments : List Moment) (read image : List ℕ) → IsLeftNow (Some read) moments
    → IsPicked pick (latest moments) read image → IsLeftNow (Some image) moments
picked_left pick [] read image left picked = absurd left
picked_left pick (now ∷ past) read image left picked = picked_image pick now read image left picked

-- what a crash may leave now, by the latest moment
pub image_now : (bytes : List ℕ) (moments : List Moment) → IsLeftNow (Some bytes) moments
    → IsImage (latest moments) bytes
image_now bytes [] left = absurd left
image_now bytes (now ∷ past) left = left
