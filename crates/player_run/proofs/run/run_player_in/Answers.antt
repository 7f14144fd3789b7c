use Rattle.std.proofs.Common.{sym, ap, ◌∙◌}
use Rattle.visible_view.specs.Sights.{Sight}
use Rattle.visible_view.proofs.Told.{found_player}
use Rattle.player_run.proofs.run.run_player_in.Goals as goal

pub run_view-requires-clause-own : goal.run_view-requires-clause-own
run_view-requires-clause-own c =
    let seen = c.in_ok-view.ensures in
    sym (ap (λ (z : Sight). z.account.player) seen.2 ∙ found_player c.args.player c.args.world.now.accounts seen.0 seen.1)
