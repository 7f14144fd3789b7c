-- The numbers of buildings that a level allows, of a level that is cut to a byte.
use Rattle.std.proofs.Common.{◌≡◌, ℕ, ◌≤◌, min, length, sym, ap, ◌∙◌, inl, inr, arith}
use Rattle.std.proofs.lemmas.Bool.{cases_lt}
use Rattle.std.proofs.lemmas.List.{get_or_past}
use Rattle.game_tables.specs.Levels.{allowed, counts}
use Rattle.game_tables.specs.declared.kind.Kind.{Kind}
use Rattle.game_tables.specs.declared.kind.Kind.TheVariants.{Spawn, Extension, Storage, Container, Road}

counts_most : (kind : Kind) → length (counts kind) ≤ 9
counts_most Spawn = omega arith
counts_most Extension = omega arith
counts_most Storage = omega arith
counts_most Container = omega arith
counts_most Road = omega arith
counts_most kind = omega arith

pub allowed_capped : (kind : Kind) (level : ℕ) → allowed kind (min level 255) ≡ allowed kind level
allowed_capped kind level =
    let few = counts_most kind in
    elim (cases_lt level 256) [
      | inl less ↦ ap (allowed kind) (let same : min level 255 ≡ level = omega arith in same)
      | inr more ↦ get_or_past (counts kind) (min level 255) 0 (omega (arith, few, more)) ∙ sym (get_or_past (counts kind) level 0 (omega (arith, few, more)))
    ]
