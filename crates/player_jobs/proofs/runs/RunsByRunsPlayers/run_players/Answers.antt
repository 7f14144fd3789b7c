use Rattle.player_jobs.proofs.runs.RunsByRunsPlayers.run_players.Goals as goal

pub returns : goal.returns
returns g c = (c.requires.ready c.args.alloc c.args.world c.args.roster c.args.players c.requires.may).1 c.runs.result c.runs.ensures
