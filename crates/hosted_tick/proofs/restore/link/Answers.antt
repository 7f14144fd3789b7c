use Rattle.std.proofs.Common.{sym, subst}
use Rattle.player_run.specs.Admission.{Accepts}
use Rattle.hosted_tick.proofs.restore.link.Goals as goal

pub unreachable-requires : goal.unreachable-requires
unreachable-requires c =
    c.in-Err.ensures.complete c.in_ok-unless_memory-in-Err.ensures.1 c.requires.0 (subst (λ bytes. Accepts bytes c.requires.0) (sym c.as_slice.ensures) c.requires.1)
