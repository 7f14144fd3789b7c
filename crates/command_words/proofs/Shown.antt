-- Words in the order in which the choices are shown are taken.
use Rattle.std.proofs.Common.{List}
use Rattle.clap.specs.Walk.{Text}
use Rattle.command_words.specs.Shown.{TakesShown}
use Rattle.command_words.proofs.ShownRun.{run_shown}
use Rattle.command_words.proofs.ShownServe.{serve_shown}
use Rattle.command_words.proofs.ShownTools.{check_shown, demo_shown, gen_shown, replay_shown, show_shown}

pub takes_shown : (words : List Text) → TakesShown words
takes_shown words = record {
  run_taken = run_shown words;
  check_taken = check_shown words;
  replay_taken = replay_shown words;
  show_taken = show_shown words;
  gen_taken = gen_shown words;
  demo_taken = demo_shown words;
  serve_taken = serve_shown words;
}
