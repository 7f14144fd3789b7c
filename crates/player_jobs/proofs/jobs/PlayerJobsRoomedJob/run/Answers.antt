use Rattle.std.proofs.Common.{get_or, arith}
use Rattle.std.proofs.lemmas.Option.{slice_get-get_or}
use Rattle.player_jobs.proofs.Ran.{run_at}
use Rattle.player_jobs.proofs.jobs.PlayerJobsRoomedJob.run.Goals as goal

pub run_player_in-requires-clause-account : goal.run_player_in-requires-clause-account
run_player_in-requires-clause-account c =
    let players = c.args.self.now.players.now in
    (c.requires.ready.0.each c.args.k (get_or players c.args.k c.index-self-k.result) (slice_get-get_or players c.args.k c.index-self-k.result (omega (arith, c.requires.within, c.requires.ready.1)))).account

pub run_player_in-requires-clause-memory : goal.run_player_in-requires-clause-memory
run_player_in-requires-clause-memory c =
    let players = c.args.self.now.players.now in
    (c.requires.ready.0.each c.args.k (get_or players c.args.k c.index-self-k.result) (slice_get-get_or players c.args.k c.index-self-k.result (omega (arith, c.requires.within, c.requires.ready.1)))).memory

pub returns : goal.returns
returns c =
    let players = c.args.self.now.players.now in
    run_at c.args.self.now.world.now players c.args.k (get_or players c.args.k c.index-self-k.result) (slice_get-get_or players c.args.k c.index-self-k.result (omega (arith, c.requires.within, c.requires.ready.1)))
    c.run_player_in.result c.run_player_in.ensures.emitted c.run_player_in.ensures.few c.run_player_in.ensures.short
