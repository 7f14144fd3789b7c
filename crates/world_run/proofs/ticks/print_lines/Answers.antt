use Rattle.std.proofs.lemmas.Result.{err_from_is_err_and, on_err_weaker}
use Rattle.run_lines.proofs.Giving.{prefix_behind, prefix_longer}
use Rattle.world_run.proofs.ticks.print_lines.Goals as goal

pub returns-in_err-print_uploads-clause-cut : goal.returns-in_err-print_uploads-clause-cut
returns-in_err-print_uploads-clause-cut g c =
    let p = err_from_is_err_and c.from_residual.result c.from_residual.ensures.1 in
    rw p.1 (prefix_longer _ _ _ _ c.in_err-print_uploads.ensures.cut)

pub returns-clause-cut : goal.returns-clause-cut
returns-clause-cut g c =
    on_err_weaker c.write_all.result (λ part. prefix_behind _ _ _ _ _ c.in_ok-print_uploads.ensures.whole part) c.write_all.ensures.prefix
