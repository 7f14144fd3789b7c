use Rattle.std.proofs.Common.{ap, sym, ◌∙◌, length}
use Rattle.std.proofs.lemmas.List.{length-map}
use Rattle.std.proofs.lemmas.Result.{err_from_is_err_and}
use Rattle.wasm_module.proofs.parts.defined_in.Goals as goal

pub returns-in_err-globals-clause-malformed : goal.returns-in_err-globals-clause-malformed
returns-in_err-globals-clause-malformed g c = let p = err_from_is_err_and c.from_residual.result c.from_residual.ensures.1 in rw (p.1, p.2) (λ is m a n. c.in_err-globals.ensures.malformed is m.globals a.globals)

pub returns-in_err-exports-clause-malformed : goal.returns-in_err-exports-clause-malformed
returns-in_err-exports-clause-malformed g c = let p = err_from_is_err_and c.from_residual-in_err-exports.result c.from_residual-in_err-exports.ensures.1 in rw (p.1, p.2) (λ is m a n. c.in_err-exports.ensures.malformed is m.exports a.exports)

pub returns-in_err-start-clause-malformed : goal.returns-in_err-start-clause-malformed
returns-in_err-start-clause-malformed g c = let p = err_from_is_err_and c.from_residual-in_err-start.result c.from_residual-in_err-start.ensures.1 in rw (p.1, p.2) (λ is m a n. c.in_err-start.ensures.malformed is m.start a.start)

pub returns-in_err-elements-clause-malformed : goal.returns-in_err-elements-clause-malformed
returns-in_err-elements-clause-malformed g c = let p = err_from_is_err_and c.from_residual-in_err-elements.result c.from_residual-in_err-elements.ensures.1 in rw (p.1, p.2) (λ is m a n. c.in_err-elements.ensures.malformed is m.elements a.elements)

pub returns-in_err-codes-clause-malformed : goal.returns-in_err-codes-clause-malformed
returns-in_err-codes-clause-malformed g c = let p = err_from_is_err_and c.from_residual-in_err-codes.result c.from_residual-in_err-codes.ensures.1 in rw (p.1, p.2) (λ is m a n. c.in_err-codes.ensures.malformed is m.codes a.codes)

pub returns-in_err-segments-clause-malformed : goal.returns-in_err-segments-clause-malformed
returns-in_err-segments-clause-malformed g c = let p = err_from_is_err_and c.from_residual-in_err-segments.result c.from_residual-in_err-segments.ensures.1 in rw (p.1, p.2) (λ is m a n. c.in_err-segments.ensures.malformed is m.segments a.segments)

pub returns-then-len-count-clause-malformed : goal.returns-then-len-count-clause-malformed
returns-then-len-count-clause-malformed g c = λ is m a n.
    let codes = ap length (c.in_ok-codes.ensures.only m.codes a.codes) ∙ length-map c.in_ok-codes.codes _ in
    c.if-len-count.true (c.len.ensures ∙ sym codes ∙ n)
