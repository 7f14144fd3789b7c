use Rattle.std.proofs.Common.{◌≡◌, ◌<◌, ℕ, List, [], get_or, drop, length, sym, subst, arith}
use Rattle.std.proofs.lemmas.List.{drop_all}
use Rattle.wat_grammar.specs.Numbers.{GoesOn}
use Rattle.wat_grammar.proofs.Numbers.{digits_over, digits_over_here, first_alike}
use Rattle.wat_tokens.specs.inner.Naturals.{IsNatural}
use Rattle.wat_tokens.proofs.Scans.{first_of, not_empty}
use Rattle.wat_tokens.proofs.numbers.digits_of.Goals as goal

pub each-init : goal.each-init
each-init c =
    let text = c.args.text.now in
    let some : 0 < length text = not_empty text c.if-is_empty.ensures in
    (some, c.in-Some.first, sym c.from.ensures, λ total. first_alike c.args.base (get_or text 0 0) c.in-Some.first total text (drop 1 text) (first_of text 0 some) (sym c.in-Some.ensures.value))

pub returns-clause-found : goal.returns-clause-found
returns-clause-found c =
    let text = c.args.text.now in
    let number = c.each.invariant.1 in
    let end : drop c.each.at text ≡ [] = drop_all c.each.at text (omega arith) in
    (number, (c.each.invariant.3 number).1 (subst (λ (z : List ℕ). GoesOn c.args.base number z number) (sym end) (digits_over_here c.args.base number)), c.each.invariant.2)

pub returns-clause-only : goal.returns-clause-only
returns-clause-only c = λ total s.
    let text = c.args.text.now in
    let number = c.each.invariant.1 in
    let end : drop c.each.at text ≡ [] = drop_all c.each.at text (omega arith) in
    let same : total ≡ number = digits_over c.args.base number total (subst (λ (z : List ℕ). GoesOn c.args.base number z total) end ((c.each.invariant.3 total).0 s)) in
    subst (IsNatural c.each.natural) (sym same) c.each.invariant.2
