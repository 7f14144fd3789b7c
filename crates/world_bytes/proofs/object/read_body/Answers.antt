use Rattle.std.proofs.Common.{arith}
use Rattle.std.proofs.lemmas.Result.{err_from_is_err_and}
use Rattle.world_bytes.proofs.Fields.{body_count, body_short, body_behind_short, body_whole, body_numbers}
use Rattle.world_bytes.proofs.object.read_body.Goals as goal

pub returns-in_err-count-clause-none : goal.returns-in_err-count-clause-none
returns-in_err-count-clause-none c =
    let p = err_from_is_err_and c.from_residual.result c.from_residual.ensures.1 in
    rw p.1 (λ body rest form e. body_short body rest c.args.from.now.0 c.in_err-count.ensures.short e)

pub returns-then-from-most_parts-clause-none : goal.returns-then-from-most_parts-clause-none
returns-then-from-most_parts-clause-none c = λ body rest form e.
    let one = body_count body rest c.in_ok-count.count c.args.from.now.0 c.u8.new.self.0 c.in_ok-count.ensures.found e in
    omega (arith, one.0)

pub returns-in_err-numbers-clause-none : goal.returns-in_err-numbers-clause-none
returns-in_err-numbers-clause-none c =
    let p = err_from_is_err_and c.from_residual-in_err-numbers.result c.from_residual-in_err-numbers.ensures.1 in
    rw p.1 (λ body rest form e. body_behind_short body rest c.in_ok-count.count c.args.from.now.0 c.u8.new.self.0 c.in_ok-count.ensures.found c.in_err-numbers.ensures.short e)

pub returns-in-Some-clause-found : goal.returns-in-Some-clause-found
returns-in-Some-clause-found c = body_whole _ _ _ _ _ _ c.in_ok-count.ensures.found c.in_ok-numbers.ensures.found c.in_ok-numbers.ensures.count c.in-Some.ensures.some (omega arith)

pub returns-in-None-clause-none : goal.returns-in-None-clause-none
returns-in-None-clause-none c = λ body rest form e.
    c.in-None.ensures.none body (body_numbers body rest _ _ _ _ _ c.in_ok-count.ensures.found c.in_ok-numbers.ensures.found c.in_ok-numbers.ensures.count e)
