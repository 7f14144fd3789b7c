-- What a command says, and which words say none.
use Rattle.std.specs.Prelude.{◌≢◌, List, string_bytes}
use Rattle.clap.specs.Walk.{Text}
use Rattle.command_words.specs.Choices.{Choice, run, check, replay, show, gen, demo, serve}
use Rattle.command_words.specs.Words.{AreCheck, AreDemo, AreGen, AreReplay, AreRun, AreServe, AreShow}
use Rattle.command_words.specs.Words.{IsCheck, IsDemo, IsGen, IsReplay, IsRun, IsServe, IsShow}
use Rattle.command_words.specs.declared.command.Command.{Command}
use Rattle.command_words.specs.declared.command.Command.TheVariants as commands

-- The command is the one that the words say.
abbrev pub Words : List Text → Command → Type 0
Words words (commands.Run world uploads journal ticks workers) =
    IsRun words (string_bytes world) (string_bytes uploads) (string_bytes journal) ticks workers
Words words (commands.Check path) = IsCheck words (string_bytes path)
Words words (commands.Replay path) = IsReplay words (string_bytes path)
Words words (commands.Show path tick) = IsShow words (string_bytes path) tick
Words words (commands.Gen seed rooms part) = IsGen words seed rooms part
Words words (commands.Demo seed rooms ticks) = IsDemo words seed rooms ticks
Words words (commands.Serve world journal ticks links port workers pace) =
    IsServe words (string_bytes world) (string_bytes journal) ticks links port workers pace

-- the choices
pub data Kind : Type 0 where
  a_run : Kind
  a_check : Kind
  a_replay : Kind
  a_show : Kind
  a_gen : Kind
  a_demo : Kind
  a_serve : Kind

abbrev pub choice_of : Kind → Choice
choice_of a_run = run
choice_of a_check = check
choice_of a_replay = replay
choice_of a_show = show
choice_of a_gen = gen
choice_of a_demo = demo
choice_of a_serve = serve

-- The words are those of a command of this choice.
abbrev pub AreOf : Kind → List Text → Type 0
AreOf a_run words = AreRun words
AreOf a_check words = AreCheck words
AreOf a_replay words = AreReplay words
AreOf a_show words = AreShow words
AreOf a_gen words = AreGen words
AreOf a_demo words = AreDemo words
AreOf a_serve words = AreServe words

-- the choice of a command
abbrev pub kind_of : Command → Kind
kind_of (commands.Run world uploads journal ticks workers) = a_run
kind_of (commands.Check path) = a_check
kind_of (commands.Replay path) = a_replay
kind_of (commands.Show path tick) = a_show
kind_of (commands.Gen seed rooms part) = a_gen
kind_of (commands.Demo seed rooms ticks) = a_demo
kind_of (commands.Serve world journal ticks links port workers pace) = a_serve

-- The words are those of no other choice.
abbrev pub IsAlone : List Text → Command → Type 0
IsAlone words command = (other : Kind) → other ≢ kind_of command → AreOf other words → ⊥

-- The words are those of no command.
abbrev pub AreNone : List Text → Type 0
AreNone words = (kind : Kind) → AreOf kind words → ⊥
