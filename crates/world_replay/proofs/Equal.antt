-- Bytes that differ are not the same.
use Rattle.std.proofs.Common.{◌≡◌, ℕ, List, Option, sym, ap, ◌∙◌}
use Rattle.std.specs.Prelude.{slice_get}
use Rattle.world_replay.specs.Differing.{DifferAt}

-- Equal contents don't differ.
pub same_differ : (at : ℕ) (kept given : Option ℕ) (one other : List ℕ) → one ≡ other → DifferAt at kept given one other → ⊥
same_differ at kept given one other same d = d.differ (sym d.kept_is ∙ (ap (λ (l : List ℕ). slice_get l at) same ∙ d.given_is))
