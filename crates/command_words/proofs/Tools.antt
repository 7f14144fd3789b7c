-- Words of no command are those of none that keeps nothing.
use Rattle.std.proofs.Common.{List, inl, inr}
use Rattle.clap.specs.Walk.{Text}
use Rattle.command_words.specs.Commands.{AreNone, a_check, a_demo, a_gen, a_replay, a_show}
use Rattle.command_words.specs.Words.{AreOfTool}

pub none_of_tool : (words : List Text) → AreNone words → AreOfTool words → ⊥
none_of_tool words none are = elim are [
  | inl check ↦ none a_check check
  | inr (inl gen) ↦ none a_gen gen
  | inr (inr (inl demo)) ↦ none a_demo demo
  | inr (inr (inr (inl show))) ↦ none a_show show
  | inr (inr (inr (inr replay))) ↦ none a_replay replay
]
