-- The live parts of a creep are its last ones.
use Rattle.std.proofs.Common.{◌≡◌, ℕ, ◌+◌, ◌-◌, ◌*◌, ◌<◌, ◌≤◌, suc, List, [], ◌∷◌, length, drop, sym, ap, ◌∙◌, refl, inl, inr, arith}
use Rattle.std.proofs.lemmas.Bool.{cases_lt, cond_below, cond_above}
use Rattle.std.proofs.Math.Seq.{drop-nil}
use Rattle.game_tables.specs.Bodies.{live_parts, part_hits}
use Rattle.game_tables.specs.declared.kind.Part.{Part}

pub live_is : (hits live : ℕ) (parts : List Part) → hits ≤ 100 * live → 100 * live < hits + 100 → live_parts hits parts ≡ drop (length parts - live) parts
live_is hits live [] most least = sym (drop-nil (0 - live))
live_is hits live (part ∷ rest) most least =
    elim (cases_lt (length rest) live) [
      | inl below ↦
          let none : length rest - live ≡ 0 = omega arith in
          let none' : suc (length rest) - live ≡ 0 = omega arith in
          let has : 0 < part_hits hits (length rest) = omega arith in
          sym (cond_below 0 (part_hits hits (length rest)) (part ∷ live_parts hits rest) (live_parts hits rest) has)
          ∙ ap (λ (t : List Part). part ∷ t) (live_is hits live rest most least ∙ ap (λ (k : ℕ). drop k rest) none)
          ∙ ap (λ (k : ℕ). drop k (part ∷ rest)) (sym none')
      | inr above ↦
          let one : suc (length rest - live) ≡ suc (length rest) - live = omega arith in
          let gone : part_hits hits (length rest) ≤ 0 = omega arith in
          sym (cond_above 0 (part_hits hits (length rest)) (part ∷ live_parts hits rest) (live_parts hits rest) (live_parts hits rest) gone refl)
          ∙ live_is hits live rest most least ∙ ap (λ (k : ℕ). drop k (part ∷ rest)) one
    ]
