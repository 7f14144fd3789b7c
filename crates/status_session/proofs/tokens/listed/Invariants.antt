use Rattle.std.proofs.Common.{ℕ, ◌<◌, List, get_or}
use Rattle.status_session.specs.Session.{IsNamed}
use Rattle.status_session.proofs.tokens.listed.Given as goal

abbrev pub invariant-loop-at : goal.invariant-loop-at
invariant-loop-at l = (k : ℕ) → k < l.at → (d : ℕ × List ℕ) → ¬ IsNamed l.digits (get_or l.tokens k d)
