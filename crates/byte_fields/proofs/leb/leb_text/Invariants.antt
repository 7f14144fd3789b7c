use Rattle.std.proofs.Common.{ℕ, ◌<◌, ◌≤◌, get_or}
use Rattle.byte_fields.proofs.leb.leb_text.Given as goal

-- no byte so far ends a number
abbrev pub invariant-loop-last : goal.invariant-loop-last
invariant-loop-last l = (k : ℕ) → k < l.last → 128 ≤ get_or l.bytes k 0
