-- Draws behind others.
use Rattle.std.proofs.Common.{◌≡◌, ℕ, zero, suc, ◌+◌, ◌*◌, ◌/◌, ◌^◌, refl, ap, sym, ◌∙◌, add-zero, add-suc, add-one, arith}
use Rattle.world_gen.specs.Generator.{after_draw, draw, state_after}

pub state_none : (s : ℕ) → state_after s 0 ≡ s
unfolding state_after
state_none s = refl

pub state_more : (s n : ℕ) → state_after s (n + 1) ≡ after_draw (state_after s n)
unfolding state_after
state_more s n = rw add-one refl

-- so many draws, and so many more
pub state_behind : (s m n : ℕ) → state_after (state_after s m) n ≡ state_after s (m + n)
unfolding state_after
state_behind s m zero = sym (ap (λ k. state_after s k) (add-zero m))
state_behind s m (suc n) = ap after_draw (state_behind s m n) ∙ sym (ap (λ k. state_after s k) (add-suc m n))

pub draw_is : (s n : ℕ) → draw s n ≡ after_draw (state_after s n) / 2 ^ 33
unfolding draw
draw_is s n = refl

pub draw_behind : (s m n : ℕ) → draw (state_after s m) n ≡ draw s (m + n)
unfolding draw
draw_behind s m n = ap (λ t. after_draw t / 2 ^ 33) (state_behind s m n)

pub first_draw : (s : ℕ) → draw s 0 ≡ after_draw s / 2 ^ 33
unfolding draw state_after
first_draw s = refl

pub second_draw : (s : ℕ) → draw s 1 ≡ after_draw (after_draw s) / 2 ^ 33
unfolding draw state_after
second_draw s = refl

pub behind_two : (s : ℕ) → state_after s 2 ≡ after_draw (after_draw s)
unfolding state_after
behind_two s = refl

pub ruleset two_draws = (first_draw, second_draw, behind_two)

-- a loop's step: one more draw, or so many more
pub state_next : (s t u n : ℕ) → t ≡ state_after s n → u ≡ after_draw t → u ≡ state_after s (n + 1)
state_next s t u n e h = h ∙ ap after_draw e ∙ sym (state_more s n)

pub state_next_by : (k s t u n : ℕ) → t ≡ state_after s (k * n) → u ≡ state_after t k → u ≡ state_after s (k * (n + 1))
state_next_by k s t u n e h =
    let on : k * n + k ≡ k * (n + 1) = omega arith in
    h ∙ ap (λ v. state_after v k) e ∙ state_behind s (k * n) k ∙ ap (λ v. state_after s v) on
