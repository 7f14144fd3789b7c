-- Words of a run by at most so many workers.
use Rattle.std.proofs.Common.{ℕ, List}
use Rattle.clap.specs.Walk.{Text}
use Rattle.command_words.specs.Words.{AreRun, AreRunBy}

-- They are those of a run.
pub are_run : (most : ℕ) (words : List Text) → AreRunBy most words → AreRun words
are_run most words are = (are.1.0, are.1.1, are.1.2, are.0, are.1.3, are.1.4)
