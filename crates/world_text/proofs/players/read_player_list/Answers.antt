use Rattle.std.proofs.Common.{◌∷◌, ◌++◌, []}
use Rattle.std.proofs.lemmas.Result.{err_from_is_err_and}
use Rattle.world_form.specs.Facts.{SaysPlayer}
use Rattle.world_form.specs.FirstFaults.{player_checks}
use Rattle.world_form.proofs.Said.{player_holds}
use Rattle.world_text.specs.inner.Readings.{player_of}
use Rattle.world_text.proofs.Parts.{players_more}
use Rattle.world_text.proofs.Turns.{said_more, first_here}
use Rattle.world_text.proofs.players.read_player_list.Goals as goal

pub returns-in_err-account-clause-err : goal.returns-in_err-account-clause-err
returns-in_err-account-clause-err c =
    let p = err_from_is_err_and c.from_residual-in_err-account.result c.from_residual-in_err-account.ensures.1 in
    rw (p.1, p.2) (λ other.
    first_here SaysPlayer player_checks player_holds c.args.values.now c.loop-place.place c.index-values-place.result c.loop-place.invariant.0 _ c.loop-place-test.true c.index-values-place.is c.loop-place.invariant.1 (c.in_err-account.ensures.err other))

pub loop-place-preserved : goal.loop-place-preserved
loop-place-preserved c =
    let so_far = c.loop-place.invariant in
    let player = player_of c.in_ok-account.field-0 in
    let more = players_more so_far.0 player c.loop-place.accounts.items _ c.loop-place.tokens.items _ so_far.2 so_far.3 c.in_ok-push-2.ensures.items c.in_ok-push.ensures.items in
    (so_far.0 ++ player ∷ [], said_more SaysPlayer c.args.values.now c.loop-place.place c.index-values-place.result so_far.0 player c.loop-place-test.true c.index-values-place.is so_far.1 c.in_ok-account.ensures.ok, more.0, more.1)
