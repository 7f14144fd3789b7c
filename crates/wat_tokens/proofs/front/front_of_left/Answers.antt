use Rattle.std.proofs.Common.{◌≡◌, ◌+◌, ◌≤◌, List, ℕ, drop, length, ◌∙◌, ap, subst, arith}
use Rattle.wat_grammar.specs.Tokens.{BeginsWithNo, left_byte, semicolon}
use Rattle.wat_grammar.specs.Fronts.{EndsBefore, PassesTo}
use Rattle.wat_grammar.proofs.Lexing.{opening_starts, comment_passes, comment_none}
use Rattle.wat_tokens.proofs.Scans.{behind, left_behind, drop_more, head_is, two_are, none_behind}
use Rattle.wat_tokens.proofs.front.front_of_left.Goals.{then-rest-lt2-via-then-rest-lt2, then-rest-lt2-via-else-rest-lt2+then-rest-ne59}
use Rattle.wat_tokens.proofs.front.front_of_left.Goals as goal

pub returns-then-rest-lt2 : goal.returns-then-rest-lt2
returns-then-rest-lt2 c =
    let rest = c.args.rest.now in
    let none : BeginsWithNo (λ next. next ≡ semicolon) (drop 1 rest) = elim c.then-rest-lt2.branch [
      | then-rest-lt2-via-then-rest-lt2 w ↦ none_behind (λ next. next ≡ semicolon) rest (λ more. absurd (omega arith))
      | then-rest-lt2-via-else-rest-lt2+then-rest-ne59 w ↦ none_behind (λ next. next ≡ semicolon) rest (λ more e. omega (arith, e))
    ] in
    (c.requires.some, opening_starts rest (drop 1 rest) (head_is rest left_byte c.requires.some c.requires.left) none)

pub returns-in-Some : goal.returns-in-Some
returns-in-Some c =
    let rest = c.args.rest.now in
    let count = c.in-Some.count in
    let inner = behind rest 2 in
    let found : EndsBefore 1 (drop 2 rest) (drop count (drop 2 rest)) = subst (λ (z : List ℕ). EndsBefore 1 z (drop count z)) inner c.in-Some.ensures.found in
    let only : (other : List ℕ) → EndsBefore 1 (drop 2 rest) other → other ≡ drop count (drop 2 rest) = subst (λ (z : List ℕ). (other : List ℕ) → EndsBefore 1 z other → other ≡ drop count z) inner c.in-Some.ensures.only in
    let passes = comment_passes rest (drop 2 rest) (drop count (drop 2 rest)) (two_are rest left_byte semicolon (omega arith) c.requires.left (omega arith)) found only in
    let place : drop count (drop 2 rest) ≡ drop (count + 2) rest = drop_more rest 2 count ∙ ap (λ n. drop n rest) (omega arith) in
    let small : count ≤ length (drop 2 rest) = subst (λ (z : List ℕ). count ≤ length z) inner c.in-Some.ensures.within in
    (omega arith, omega (arith, small, left_behind rest 2), subst (λ (z : List ℕ). PassesTo rest z) place passes)

pub returns-in-None : goal.returns-in-None
returns-in-None c =
    let rest = c.args.rest.now in
    let none : (other : List ℕ) → EndsBefore 1 (drop 2 rest) other → ⊥ = subst (λ (z : List ℕ). (other : List ℕ) → EndsBefore 1 z other → ⊥) (behind rest 2) c.in-None.ensures.none in
    comment_none rest (drop 2 rest) (two_are rest left_byte semicolon (omega arith) c.requires.left (omega arith)) none
