-- Lines that are read byte by byte, and lists that are looked through entry by entry.
use Rattle.std.proofs.Common.{◌≡◌, ℕ, zero, suc, ◌+◌, ◌<◌, List, [], ◌∷◌, ◌++◌, length, take, set, refl, ap, arith}
use Rattle.status_session.specs.Words.{Each}

pub take_set : (l : List ℕ) (at x : ℕ) → at < length l → take (suc at) (set l at x) ≡ take at l ++ x ∷ []
take_set [] at x h = absurd (omega (arith, h))
take_set (y ∷ l) zero x h = refl
take_set (y ∷ l) (suc at) x h = ap (λ m. y ∷ m) (take_set l at x (omega (arith, h)))

pub each_more : (P : ℕ → Type 0) (l : List ℕ) (x : ℕ) → Each P l → P x → Each P (l ++ x ∷ [])
each_more P [] x all one zero h = one
each_more P [] x all one (suc k) h = absurd (omega (arith, h))
each_more P (y ∷ l) x all one zero h = all 0 (omega arith)
each_more P (y ∷ l) x all one (suc k) h = each_more P l x (λ j lt. all (suc j) (omega (arith, lt))) one k (omega (arith, h))

-- what holds below a number and of it holds below the next
pub one_more : (P : ℕ → Type 0) (at : ℕ) → ((k : ℕ) → k < at → P k) → P at → (k : ℕ) → k < at + 1 → P k
one_more P zero all here zero h = here
one_more P zero all here (suc k) h = absurd (omega (arith, h))
one_more P (suc at) all here zero h = all 0 (omega arith)
one_more P (suc at) all here (suc k) h = one_more (λ j. P (suc j)) at (λ j lt. all (suc j) (omega (arith, lt))) here k (omega (arith, h))
