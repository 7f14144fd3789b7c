use Rattle.std.proofs.Common.{◌+◌, ◌≡◌, ◌∙◌, length, ap, arith}
use Rattle.std.proofs.lemmas.Result.{err_from_is_err_and}
use Rattle.world_bytes.proofs.Fields.{head_form, object_parts, object_whole, object_behind_head, object_behind_counts, counts_short, head_length, counts_length, body_length}
use Rattle.world_bytes.proofs.object.read_object.Goals as goal

pub returns-in_err-head-clause-none : goal.returns-in_err-head-clause-none
returns-in_err-head-clause-none c =
    let p = err_from_is_err_and c.from_residual.result c.from_residual.ensures.1 in
    rw p.1 (λ object rest form e. c.in_err-head.ensures.none _ _ (head_form object form) (e ∙ object_parts object rest))

pub returns-in_err-counts-clause-none : goal.returns-in_err-counts-clause-none
returns-in_err-counts-clause-none c =
    let p = err_from_is_err_and c.from_residual-in_err-counts.result c.from_residual-in_err-counts.ensures.1 in
    rw p.1 (λ object rest form e.
    let one = object_behind_head object c.in_ok-head.head c.args.from.now.0 c.read_head.new.from.0 rest form c.in_ok-head.ensures.found e in
    counts_short _ c.read_head.new.from.0 _ c.in_err-counts.ensures.short one.1)

pub returns-in_err-body-clause-none : goal.returns-in_err-body-clause-none
returns-in_err-body-clause-none c =
    let p = err_from_is_err_and c.from_residual-in_err-body.result c.from_residual-in_err-body.ensures.1 in
    rw p.1 (λ object rest form e.
    let two = object_behind_counts object c.in_ok-head.head c.in_ok-counts.counts c.args.from.now.0 c.read_head.new.from.0 c.read_counts.new.from.0 rest form c.in_ok-head.ensures.found c.in_ok-counts.ensures.found e in
    c.in_err-body.ensures.none object.body rest (record { parts = form.parts }) two.1)

pub returns-clause-found : goal.returns-clause-found
returns-clause-found c = object_whole _ c.args.from.now.0 c.read_head.new.from.0 c.read_counts.new.from.0 c.read_body.new.from.0 c.in_ok-head.ensures.found c.in_ok-counts.ensures.found c.in_ok-body.ensures.found

pub returns-clause-place : goal.returns-clause-place
returns-clause-place c =
    let one : length c.args.from.now.0 ≡ 15 + length c.read_head.new.from.0 = ap length c.in_ok-head.ensures.found.1 ∙ head_length _ _ in
    let two : length c.read_head.new.from.0 ≡ 36 + length c.read_counts.new.from.0 = ap length c.in_ok-counts.ensures.found.1 ∙ counts_length _ _ in
    let three : length c.read_counts.new.from.0 ≡ 1 + length c.in_ok-body.body + length c.read_body.new.from.0 = ap length c.in_ok-body.ensures.found.1 ∙ body_length _ _ in
    let p = c.in_ok-head.ensures.place in
    let q = c.in_ok-counts.ensures.place in
    let r = c.in_ok-body.ensures.place in
    omega (arith, p, q, r)
