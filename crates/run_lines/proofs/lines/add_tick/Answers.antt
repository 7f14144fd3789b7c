use Rattle.std.proofs.lemmas.Result.{on_ok_weaker}
use Rattle.run_lines.proofs.LinesTexts.{tick_text}
use Rattle.run_lines.proofs.lines.add_tick.Goals as goal

pub returns : goal.returns
returns c =
    on_ok_weaker c.write.result
    (λ joined. tick_text c.args.world.now _ _ _ _ _ _ joined c.tick-tick.ensures c.object_count-objects.ensures c.total_energy-energy.ensures)
    c.write.ensures.bytes
