use Rattle.std.proofs.Common.{◌≡◌, ℕ, ◌<◌, get_or}
use Rattle.rule_check.specs.inner.Taken.{nothing}
use Rattle.rule_check.specs.declared.shared.Taken.{Taken}
use Rattle.rule_check.proofs.shared.clear.Given as goal

abbrev pub invariant-loop-tile : goal.invariant-loop-tile
invariant-loop-tile l = (k : ℕ) (d : Taken) → k < l.tile-index → get_or l.tiles k d ≡ nothing
