use Rattle.tick_journal.specs.inner.Reading.{rank}
use Rattle.tick_journal.proofs.Rising.{behind_last}
use Rattle.tick_journal.proofs.entry_reader.is_intent_behind.Goals as goal

pub returns-in-Some : goal.returns-in-Some
returns-in-Some c =
    let both = behind_last rank c.args.intents.now c.in-Some.last.now (rank c.args.intent.now) c.requires c.in-Some.ensures.value in
    (λ is. both.0 (c.comes_before.ensures.0 is), λ all. c.comes_before.ensures.1 (both.1 all))
