use Rattle.std.proofs.Common.{◌≡◌, ◌≤◌, ◌+◌, List, ℕ, [], ◌∷◌, ◌++◌, drop, length, refl, sym, ◌∙◌, ap, subst, arith}
use Rattle.std.proofs.lemmas.List.{append_assoc, append-nil}
use Rattle.wat_grammar.specs.Tokens.{SpellsString, string_end}
use Rattle.wat_grammar.proofs.Strings.{string_behind, string_of_part, whole_behind, part_is_there}
use Rattle.wat_tokens.proofs.Scans.{take_more, left_behind}
use Rattle.wat_tokens.proofs.strings.put_string.Goals as goal

pub each-init : goal.each-init
each-init c = (omega arith, [], string_end, sym (append-nil c.args.out.now.items), λ content s. (content, s, refl))

pub unreachable-requires : goal.unreachable-requires
unreachable-requires c =
    let inner = c.args.inner.now in
    let t = c.each.invariant.4 c.requires.0 c.requires.1 in
    let none : drop c.each.at inner ≡ [] = part_is_there (drop c.each.at inner) t.0 t.1 c.in_default.ensures.none in
    let size : length (drop c.each.at inner) ≡ 0 = ap length none in
    omega (arith, left_behind inner c.each.at, size)

pub each-preserved : goal.each-preserved
each-preserved c =
    let inner = c.args.inner.now in
    let at = c.each.at in
    let count = c.in-Some.count in
    let value = c.in-Some.byte in
    let front = c.each.invariant.1 in
    let part = c.in-Some.ensures.found in
    let within : at + count ≤ length inner = c.in-Some.ensures.some.1 in
    let written : c.push.new.self.items ≡ c.args.out.now.items ++ (front ++ value ∷ []) =
    c.in_ok-push.ensures.items ∙ ap (λ (z : List ℕ). z ++ value ∷ []) c.each.invariant.3 ∙ append_assoc c.args.out.now.items front (value ∷ []) in (
      within,
      front ++ value ∷ [],
      subst (λ (z : List ℕ). SpellsString z (front ++ value ∷ [])) (take_more inner part.0 at count part.2 part.3 within) (string_behind c.each.invariant.2 (string_of_part part.1)),
      written,
      λ content s. whole_behind front part.0 (drop (at + count) inner) (drop at inner) content value part.1 part.3 (c.each.invariant.4 content s),
    )
