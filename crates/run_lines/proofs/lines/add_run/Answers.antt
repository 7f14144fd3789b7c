use Rattle.std.proofs.Common.{refl}
use Rattle.std.proofs.lemmas.Result.{on_ok_weaker}
use Rattle.run_lines.proofs.LinesTexts.{run_text}
use Rattle.run_lines.proofs.lines.add_run.Goals as goal

pub returns : goal.returns
returns c =
    on_ok_weaker c.write.result
    (λ joined. run_text c.args.run.now _ _ _ _ _ joined refl c.outcome_text-outcome.ensures refl)
    c.write.ensures.bytes
