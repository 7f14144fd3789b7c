use Rattle.std.proofs.Common.{inl, inr}
use Rattle.std.proofs.lemmas.Result.{err_from_is_err_and}
use Rattle.serde_json.specs.View.{view}
use Rattle.game_tables.specs.Limits.{most_bucket, most_points}
use Rattle.world_form.specs.declared.field.Field.TheVariants as fields
use Rattle.world_form.specs.Facts.{IsWhole}
use Rattle.world_form.proofs.Said.{default_holds}
use Rattle.world_text.proofs.players.read_account.Goals as goal

pub returns-in_err-bucket-clause-err : goal.returns-in_err-bucket-clause-err
returns-in_err-bucket-clause-err c =
    let p = err_from_is_err_and c.from_residual-in_err-bucket.result c.from_residual-in_err-bucket.ensures.1 in
    let limit = rw c.most_limit.ensures at c.in_ok-limit.ensures.ok in
    let fails = rw c.most_bucket.ensures at c.in_err-bucket.ensures.err in
    rw (p.1, p.2) (λ other. inr ((c.in_ok-limit.limit, limit), inl fails))

pub returns-in_err-points-clause-err : goal.returns-in_err-points-clause-err
returns-in_err-points-clause-err c =
    let part = view c.args.part.now in
    let p = err_from_is_err_and c.from_residual-in_err-points.result c.from_residual-in_err-points.ensures.1 in
    let limit = rw c.most_limit.ensures at c.in_ok-limit.ensures.ok in
    let bucket = rw c.most_bucket.ensures at c.in_ok-bucket.ensures.ok in
    let fails = rw c.most_points.ensures at c.in_err-points.ensures.err in
    rw (p.1, p.2) (λ other. inr ((c.in_ok-limit.limit, limit), inr (default_holds fields.Bucket (IsWhole 0 most_bucket) 0 part c.in_ok-bucket.bucket bucket, inl fails)))

pub returns-in_err-memory-clause-err : goal.returns-in_err-memory-clause-err
returns-in_err-memory-clause-err c =
    let part = view c.args.part.now in
    let p = err_from_is_err_and c.from_residual-in_err-memory.result c.from_residual-in_err-memory.ensures.1 in
    let limit = rw c.most_limit.ensures at c.in_ok-limit.ensures.ok in
    let bucket = rw c.most_bucket.ensures at c.in_ok-bucket.ensures.ok in
    let points = rw c.most_points.ensures at c.in_ok-points.ensures.ok in
    rw (p.1, p.2) (λ other.
    inr (
      (c.in_ok-limit.limit, limit),
      inr (
        default_holds fields.Bucket (IsWhole 0 most_bucket) 0 part c.in_ok-bucket.bucket bucket,
        inr (default_holds fields.Points (IsWhole 0 most_points) 0 part c.in_ok-points.points points, inl (c.in_err-memory.ensures.err other)),
      ),
    ))
