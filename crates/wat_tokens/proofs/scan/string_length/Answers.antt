use Rattle.std.proofs.Common.{◌≡◌, ◌≤◌, ◌+◌, List, ℕ, [], ◌∷◌, ◌++◌, get_or, drop, length, refl, sym, ◌∙◌, ap, subst, arith}
use Rattle.std.proofs.lemmas.List.{drop_all}
use Rattle.wat_grammar.specs.Tokens.{SpellsString, string_end, quote_byte}
use Rattle.wat_grammar.proofs.Strings.{string_behind, string_of_part, part_behind, at_quote, no_string, never_quoted}
use Rattle.wat_tokens.proofs.Scans.{first_of, take_more}
use Rattle.wat_tokens.proofs.scan.string_length.Goals as goal

pub each-init : goal.each-init
each-init c = (omega arith, [], string_end, λ content more q. (content, q, refl))

pub returns-then-rest-at-eq34-clause-found : goal.returns-then-rest-at-eq34-clause-found
returns-then-rest-at-eq34-clause-found c =
    let rest = c.args.rest.now in
    let at = c.each.at in
    let front = c.each.invariant.1 in
    let here : drop at rest ≡ quote_byte ∷ drop (at + 1) rest = first_of rest at (omega arith) ∙ ap (λ z. z ∷ drop (at + 1) rest) (omega arith) in
    (front, c.each.invariant.2, λ other more q. at_quote front (drop (at + 1) rest) (drop at rest) other more here (c.each.invariant.3 other more q))

pub returns-in_default-clause-none : goal.returns-in_default-clause-none
returns-in_default-clause-none c = λ content more q.
    let rest = c.args.rest.now in
    let at = c.each.at in
    let t = c.each.invariant.3 content more q in
    no_string (drop at rest) t.0 more c.in_default.ensures.none
    (λ behind e. let same : get_or rest at 0 ≡ quote_byte = let f = sym (first_of rest at (omega arith)) ∙ e in cc in omega (arith, same)) t.1

pub each-preserved : goal.each-preserved
each-preserved c =
    let rest = c.args.rest.now in
    let at = c.each.at in
    let count = c.in-Some.count in
    let value = c.in-Some.field-0-1 in
    let front = c.each.invariant.1 in
    let part = c.in-Some.ensures.found in
    let within : at + count ≤ length rest = c.in-Some.ensures.some.1 in (
      within,
      front ++ value ∷ [],
      subst (λ (z : List ℕ). SpellsString z (front ++ value ∷ [])) (take_more rest part.0 at count part.2 part.3 within) (string_behind c.each.invariant.2 (string_of_part part.1)),
      λ content more q. part_behind front part.0 (drop (at + count) rest) (drop at rest) content more value part.1 part.3 (c.each.invariant.3 content more q),
    )

pub returns-clause-none : goal.returns-clause-none
returns-clause-none c = λ content more q.
    let rest = c.args.rest.now in
    let t = c.each.invariant.3 content more q in
    never_quoted (drop c.each.at rest) t.0 more (drop_all c.each.at rest (omega arith)) t.1
