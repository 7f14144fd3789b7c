use Rattle.std.proofs.Common.{ℕ, List, sym, subst}
use Rattle.wasm_link.specs.Kept.{link_view}
use Rattle.player_run.specs.Admission.{Accepts}
use Rattle.hosted_tick.proofs.judge.keep.Goals as goal

pub put-requires-clause-accepted : goal.put-requires-clause-accepted
put-requires-clause-accepted c = subst (λ (bytes : List ℕ). Accepts bytes (link_view c.args.linked)) (sym c.in_ok-bytes.ensures) c.requires.accepted
