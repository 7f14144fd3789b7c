use Rattle.std.proofs.Common.{◌≡◌, ℕ, ◌+◌, List, length, take, Some, slice_get, refl, sym, ap, subst, ◌∙◌, arith}
use Rattle.std.proofs.lemmas.Option.{slice_get_read}
use Rattle.intent_book.specs.declared.player_run.PlayerRun.{PlayerRun}
use Rattle.player_runs.specs.declared.runs.PlayerModule.{PlayerModule}
use Rattle.player_runs.specs.PlayerRuns.{AreRunsOf, IsRunOf}
use Rattle.player_runs.proofs.Running.{all_taken, first_runs}
use Rattle.player_runs.proofs.runs.InTurnRunsPlayers.run_players.Goals as goal

pub run_player_in-requires-clause-memory : goal.run_player_in-requires-clause-memory
run_player_in-requires-clause-memory c =
    let players : List PlayerModule = c.args.players.now in
    let at : slice_get players c.loop-one.one-index ≡ Some c.one-item.result = slice_get_read players (length players) c.loop-one.one-index c.one-item.result refl (omega (arith, c.loop-one-test.true)) c.one-item.is in
    (c.requires.may.each c.loop-one.one-index c.one-item.result at).memory

pub loop-one-preserved : goal.loop-one-preserved
loop-one-preserved c =
    let players : List PlayerModule = c.args.players.now in
    let one : PlayerModule = c.one-item.result in
    let run : PlayerRun = c.in_ok-run.run' in
    let at : slice_get players c.loop-one.one-index ≡ Some one = slice_get_read players (length players) c.loop-one.one-index one refl (omega (arith, c.loop-one-test.true)) c.one-item.is in
    let emitted = c.in_ok-run.ensures.emitted in
    let is : IsRunOf c.args.world.now one run = record { account = emitted.0; found = emitted.1; emitted = emitted.2; used = emitted.3; few = c.in_ok-run.ensures.few; short = c.in_ok-run.ensures.short } in
    subst (AreRunsOf c.args.world.now (take (c.loop-one.one-index + 1) players)) (sym {A = List PlayerRun} c.in_ok-push.ensures.items) (first_runs c.args.world.now players c.loop-one.one-index c.loop-one.runs.items one run at c.loop-one.invariant is)

pub returns : goal.returns
returns c =
    let players : List PlayerModule = c.args.players.now in
    let all : c.loop-one.one-index ≡ length players = omega (arith, c.loop-one-test.false, c.loop-one.auto.one-index-end) in
    subst (λ (some : List PlayerModule). AreRunsOf c.args.world.now some c.loop-one.runs.items) (ap (λ (n : ℕ). take n players) all ∙ all_taken players) c.loop-one.invariant
