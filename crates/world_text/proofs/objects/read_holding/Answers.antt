use Rattle.std.proofs.Common.{[], inl, inr}
use Rattle.std.proofs.lemmas.Result.{err_from_is_err_and}
use Rattle.serde_json.specs.View.{view}
use Rattle.world_form.specs.declared.field.Field.TheVariants as fields
use Rattle.world_form.specs.Facts.{IsBodyList, IsWhole32}
use Rattle.world_form.proofs.Said.{default_holds}
use Rattle.world_text.proofs.objects.read_holding.Goals as goal

pub returns-in_err-owner-clause-err : goal.returns-in_err-owner-clause-err
returns-in_err-owner-clause-err c =
    let p = err_from_is_err_and c.from_residual.result c.from_residual.ensures.1 in
    rw (p.1, p.2) (inl c.in_err-owner.ensures.err)

pub returns-in_err-body-clause-err : goal.returns-in_err-body-clause-err
returns-in_err-body-clause-err c =
    let part = view c.args.part.now in
    let p = err_from_is_err_and c.from_residual-in_err-body.result c.from_residual-in_err-body.ensures.1 in
    rw (p.1, p.2) (
    inr (default_holds fields.Owner IsWhole32 0 part c.in_ok-owner.owner c.in_ok-owner.ensures.ok, inl c.in_err-body.ensures.err)
    )

pub returns-in_err-hits-clause-err : goal.returns-in_err-hits-clause-err
returns-in_err-hits-clause-err c =
    let part = view c.args.part.now in
    let p = err_from_is_err_and c.from_residual-in_err-hits.result c.from_residual-in_err-hits.ensures.1 in
    rw (p.1, p.2) (
    inr (
      default_holds fields.Owner IsWhole32 0 part c.in_ok-owner.owner c.in_ok-owner.ensures.ok,
      inr (default_holds fields.Body IsBodyList [] part c.in_ok-body.body c.in_ok-body.ensures.ok, inl c.in_err-hits.ensures.err),
    )
    )
