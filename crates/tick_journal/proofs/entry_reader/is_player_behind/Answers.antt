use Rattle.tick_journal.specs.declared.entries.RunEntry.{RunEntry}
use Rattle.tick_journal.proofs.Rising.{behind_last_test}
use Rattle.tick_journal.proofs.entry_reader.is_player_behind.Goals as goal

pub returns-in-Some : goal.returns-in-Some
returns-in-Some c =
    behind_last_test (λ (run : RunEntry). run.player) c.args.runs.now c.in-Some.last.now c.args.player c.requires c.in-Some.ensures.value
