use Rattle.std.proofs.Common.{◌≡◌, ◌+◌, ◌<◌, List, ℕ, ◌∷◌, ◌++◌, take, drop, length, sym, ◌∙◌, ap, subst, arith}
use Rattle.std.proofs.lemmas.List.{take-append-drop}
use Rattle.wat_grammar.specs.Tokens.{SpellsString, quoted, quote_byte}
use Rattle.wat_grammar.specs.Fronts.{IsQuotedBefore, Starts}
use Rattle.wat_grammar.proofs.Lexing.{quoted_starts, quoted_none}
use Rattle.wat_tokens.proofs.Scans.{behind, left_behind, drop_more, head_is}
use Rattle.wat_tokens.proofs.front.front_of_quote.Goals as goal

pub returns-in-Some : goal.returns-in-Some
returns-in-Some c =
    let rest = c.args.rest.now in
    let count = c.in-Some.count in
    let text = drop 1 rest in
    let inner = behind rest 1 in
    let within : count < length text = subst (λ (z : List ℕ). count < length z) inner c.in-Some.ensures.within in
    let t = subst (λ (z : List ℕ). (content : List ℕ) × SpellsString (take count z) content × ((other more : List ℕ) → IsQuotedBefore other z more → (other ≡ content) × (more ≡ drop (count + 1) z))) inner c.in-Some.ensures.found in
    let end : drop count text ≡ quote_byte ∷ drop (count + 1) text = subst (λ (z : List ℕ). drop count z ≡ quote_byte ∷ drop (count + 1) z) inner c.in-Some.ensures.end in
    let whole : text ≡ take count text ++ quote_byte ∷ drop (count + 1) text = sym (take-append-drop count text) ∙ ap (λ (z : List ℕ). take count text ++ z) end in
    let starts = quoted_starts rest text t.0 (drop (count + 1) text) (head_is rest quote_byte c.requires.some c.requires.left) (take count text, t.1, whole) t.2 in
    let place : drop (count + 1) text ≡ drop (count + 2) rest = drop_more rest 1 (count + 1) ∙ ap (λ n. drop n rest) (omega arith) in
    (omega (arith, within, left_behind rest 1), t.0, t.1, subst (λ (z : List ℕ). Starts (quoted t.0) rest z) place starts)

pub returns-in-None : goal.returns-in-None
returns-in-None c =
    let rest = c.args.rest.now in
    quoted_none rest (drop 1 rest) (head_is rest quote_byte c.requires.some c.requires.left)
    (subst (λ (z : List ℕ). (content more : List ℕ) → IsQuotedBefore content z more → ⊥) (behind rest 1) c.in-None.ensures.none)
