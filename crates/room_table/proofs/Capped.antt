-- What a building holds at a level that is cut to a byte.
use Rattle.std.proofs.Common.{◌≡◌, ℕ, ◌==◌, min, cond, refl, sym, ap, ◌∙◌, inl, inr, arith}
use Rattle.std.proofs.lemmas.Bool.{cases_lt, ne_eqb}
use Rattle.game_tables.specs.Kinds.{store_capacity, extension_capacity}
use Rattle.game_tables.specs.declared.kind.Kind.{Kind}
use Rattle.game_tables.specs.declared.kind.Kind.TheVariants.{Extension}

-- a level past 8 is as one below 7
extension_capped : (level : ℕ) → extension_capacity (min level 255) ≡ extension_capacity level
extension_capped level =
    elim (cases_lt level 256) [
      | inl less ↦ ap extension_capacity (let same : min level 255 ≡ level = omega arith in same)
      | inr more ↦
          let capped : min level 255 ≡ 255 = omega arith in
          ap extension_capacity capped ∙ sym (ap (λ b. cond {A = ℕ} b 200 (cond (level == 7) 100 50)) (ne_eqb level 8 (λ same. omega arith)) ∙ ap (λ b. cond {A = ℕ} b 100 50) (ne_eqb level 7 (λ same. omega arith)))
    ]

pub capped_level : (kind : Kind) (level : ℕ) → store_capacity kind (min level 255) ≡ store_capacity kind level
capped_level Extension level = extension_capped level
capped_level _ level = refl
