use Rattle.run_lines.proofs.LinesTexts.{start_text}
use Rattle.run_lines.proofs.lines.start_line.Goals as goal

pub returns : goal.returns
returns c = rw c.into_bytes.ensures.value
    (start_text c.args.world.now _ _ _ _ _ c.in_ok-line.ensures.ok c.tick-tick.ensures c.rooms-rooms.ensures c.object_count-objects.ensures c.accounts-players.ensures)
