use Rattle.std.proofs.Common.{◌∙◌, [], length, ap, sym, arith}
use Rattle.std.proofs.lemmas.List.{append-nil}
use Rattle.tick_journal.specs.Contents.{tick_content}
use Rattle.tick_journal.proofs.Ticks.{tick_one}
use Rattle.tick_journal.proofs.tick_reader.read_tick.Goals as goal

pub returns-then-left-gt0-clause-malformed : goal.returns-then-left-gt0-clause-malformed
returns-then-left-gt0-clause-malformed c = λ _ entry spells.
    let found = rw c.over-from.ensures at c.in_ok-entry.ensures.found in
    let one = tick_one c.in_ok-entry.entry entry c.args.content.now c.read_record.new.from.0 [] found.0 (record { form = spells.0; full = spells.1 }) found.1 (spells.2 ∙ sym (append-nil (tick_content entry))) in
    omega (arith, ap length one.1, c.left.ensures)
