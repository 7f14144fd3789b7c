use Rattle.std.proofs.Common.{◌≡◌, ℕ, suc, ◌<◌, List, [], ◌∷◌, length, slice_get, refl, arith}
use Rattle.recorded_tick.proofs.changes.have_same_objects.Goals as goal

-- Lists of one length that are the same at each place are the same.
same_by_places : {A : Type 0} (xs ys : List A) → length xs ≡ length ys → ((k : ℕ) → k < length xs → slice_get xs k ≡ slice_get ys k) → xs ≡ ys
same_by_places [] [] many alike = refl
same_by_places [] (y ∷ ys) many alike = absurd (omega (arith, many))
same_by_places (x ∷ xs) [] many alike = absurd (omega (arith, many))
same_by_places (x ∷ xs) (y ∷ ys) many alike =
    let first = alike 0 (omega arith) in
    let head : x ≡ y = cc in
    let rest = same_by_places xs ys (omega (arith, many)) (λ k within. alike (suc k) (omega (arith, within))) in
    λ i. head i ∷ rest i

pub returns : goal.returns
returns c =
    let many = c.loop-place.invariant.many in
    (λ yes. same_by_places c.args.one.now.objects c.args.other.now.objects many (λ k within. c.loop-place.invariant.alike k (omega (arith, within))), λ same. refl)
