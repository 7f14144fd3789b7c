use Rattle.std.proofs.Common.{◌≡◌, ◌+◌, ◌≤◌, ◌<◌, ◌⊎◌, inl, inr, List, ℕ, [], ◌∷◌, ◌++◌, get_or, take, drop, length, sym, ◌∙◌, ap, subst, arith}
use Rattle.std.proofs.lemmas.List.{take-append-drop, drop_all}
use Rattle.wat_grammar.specs.Tokens.{IsInLine, semicolon, line_feed}
use Rattle.wat_grammar.specs.Fronts.{PassesTo}
use Rattle.wat_grammar.proofs.Lexing.{line_passes, last_line_passes}
use Rattle.wat_tokens.proofs.Scans.{behind, left_behind, drop_more, two_are, first_of, all_taken}
use Rattle.wat_tokens.proofs.front.front_of_semicolon.Goals as goal

pub returns-then-count-rest : goal.returns-then-count-rest
returns-then-count-rest c =
    let rest = c.args.rest.now in
    let count = c.line_length-count.result in
    let text = drop 2 rest in
    let inner = behind rest 2 in
    let line : IsInLine (take count text) = subst (λ (z : List ℕ). IsInLine (take count z)) inner c.line_length-count.ensures.line in
    let feed : (count ≡ length text) ⊎ (get_or text count 0 ≡ line_feed) = subst (λ (z : List ℕ). (count ≡ length z) ⊎ (get_or z count 0 ≡ line_feed)) inner c.line_length-count.ensures.end in
    let small : count < length text = omega (arith, left_behind rest 2) in
    let here : get_or text count 0 ≡ line_feed = elim feed [ inl e ↦ absurd (omega (arith, e, small)) | inr e ↦ e ] in
    let end : drop count text ≡ line_feed ∷ drop (count + 1) text = first_of text count small ∙ ap (λ z. z ∷ drop (count + 1) text) here in
    let whole : text ≡ take count text ++ line_feed ∷ drop (count + 1) text = sym (take-append-drop count text) ∙ ap (λ (z : List ℕ). take count text ++ z) end in
    let both = two_are rest semicolon semicolon (omega arith) c.requires.first (omega arith) ∙ ap (λ (z : List ℕ). semicolon ∷ semicolon ∷ z) whole in
    let place : drop (count + 1) text ≡ drop (count + 3) rest = drop_more rest 2 (count + 1) ∙ ap (λ n. drop n rest) (omega arith) in
    (omega arith, omega arith, subst (λ (z : List ℕ). PassesTo rest z) place (line_passes rest (take count text) (drop (count + 1) text) both line))

pub returns-else-count-rest : goal.returns-else-count-rest
returns-else-count-rest c =
    let rest = c.args.rest.now in
    let count = c.line_length-count.result in
    let text = drop 2 rest in
    let inner = behind rest 2 in
    let line : IsInLine (take count text) = subst (λ (z : List ℕ). IsInLine (take count z)) inner c.line_length-count.ensures.line in
    let within : count ≤ length text = subst (λ (z : List ℕ). count ≤ length z) inner c.line_length-count.ensures.within in
    let all : IsInLine text = all_taken (λ z. z ≡ line_feed → ⊥) text count (omega (arith, left_behind rest 2)) line in
    let none : drop (count + 2) rest ≡ [] = drop_all (count + 2) rest (omega arith) in
    (omega arith, omega (arith, within, left_behind rest 2), subst (λ (z : List ℕ). PassesTo rest z) (sym none) (last_line_passes rest text (two_are rest semicolon semicolon (omega arith) c.requires.first (omega arith)) all))
