use Rattle.std.proofs.Common.{◌≡◌, true, inl, inr, rules}
use Rattle.std.proofs.lemmas.Result.{err_from_is_err_and}
use Rattle.game_tables.specs.Kinds.{is_in_rules}
use Rattle.world_text.proofs.objects.read_identity.Goals as goal

pub returns-in_err-y-clause-err : goal.returns-in_err-y-clause-err
returns-in_err-y-clause-err c =
    let known : is_in_rules c.in_ok-kind.kind 1 ≡ true = search rules in
    let p = err_from_is_err_and c.from_residual-in_err-y.result c.from_residual-in_err-y.ensures.1 in
    rw (p.1, p.2) (
    inr (
      (c.in_ok-id.id, c.in_ok-id.ensures.ok),
      inr ((c.in_ok-kind.kind, c.in_ok-kind.ensures.ok), inr ((c.in_ok-kind.kind, c.in_ok-kind.ensures.ok, known), inr ((c.in_ok-x.x, c.in_ok-x.ensures.ok), inl c.in_err-y.ensures.err))),
    )
    )
