use Rattle.std.proofs.Common.{[], inr}
use Rattle.std.proofs.lemmas.Result.{err_from_is_err_and}
use Rattle.serde_json.specs.View.{view}
use Rattle.world_form.specs.declared.field.Field.TheVariants as fields
use Rattle.world_form.specs.Facts.{IsTokenText}
use Rattle.world_form.proofs.Said.{default_holds}
use Rattle.world_text.proofs.players.read_player.Goals as goal

pub returns-in_err-account-clause-err : goal.returns-in_err-account-clause-err
returns-in_err-account-clause-err c =
    let p = err_from_is_err_and c.from_residual-in_err-account.result c.from_residual-in_err-account.ensures.1 in
    rw (p.1, p.2) (λ other.
    inr ((c.in_ok-player.player, c.in_ok-player.ensures.ok), inr (default_holds fields.Token IsTokenText [] (view c.args.part.now) c.in_ok-token.token c.in_ok-token.ensures.ok, c.in_err-account.ensures.err other)))
