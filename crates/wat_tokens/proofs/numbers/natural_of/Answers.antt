use Rattle.std.proofs.Common.{◌≡◌, ◌∷◌, ℕ, List, drop, refl, sym, subst}
use Rattle.std.proofs.lemmas.Option.{IfSome_then}
use Rattle.wat_grammar.specs.Numbers.{SpellsDigits}
use Rattle.wat_grammar.proofs.Numbers.{hexadecimal_alike, decimal_alike}
use Rattle.wat_tokens.proofs.Scans.{behind, none_then}
use Rattle.wat_tokens.proofs.numbers.natural_of.Goals as goal

pub returns-then-is_hexadecimal-clause-found : goal.returns-then-is_hexadecimal-clause-found
returns-then-is_hexadecimal-clause-found c =
    let word = c.args.word.now in
    let whole = (c.if-is_hexadecimal.ensures.yes refl).1 in
    IfSome_then c.digits_of.result c.digits_of.ensures.found (λ natural (number, s, h).
    (number, (hexadecimal_alike number word (drop 2 word) whole).1 (subst (λ (z : List ℕ). SpellsDigits 16 z number) (behind word 2) s), h))

pub returns-then-is_hexadecimal-clause-only : goal.returns-then-is_hexadecimal-clause-only
returns-then-is_hexadecimal-clause-only c =
    let word = c.args.word.now in
    let whole = (c.if-is_hexadecimal.ensures.yes refl).1 in
    IfSome_then c.digits_of.result c.digits_of.ensures.only (λ natural only. λ number s.
    only number (subst (λ (z : List ℕ). SpellsDigits 16 z number) (sym (behind word 2)) ((hexadecimal_alike number word (drop 2 word) whole).0 s)))

pub returns-then-is_hexadecimal-clause-none : goal.returns-then-is_hexadecimal-clause-none
returns-then-is_hexadecimal-clause-none c =
    let word = c.args.word.now in
    let whole = (c.if-is_hexadecimal.ensures.yes refl).1 in
    none_then c.digits_of.result c.digits_of.ensures.none (λ none. λ number s.
    none number (subst (λ (z : List ℕ). SpellsDigits 16 z number) (sym (behind word 2)) ((hexadecimal_alike number word (drop 2 word) whole).0 s)))

pub returns-else-is_hexadecimal-clause-found : goal.returns-else-is_hexadecimal-clause-found
returns-else-is_hexadecimal-clause-found c =
    let word = c.args.word.now in
    let other : (text : List ℕ) → word ≡ 0x30 ∷ 0x78 ∷ text → ⊥ = λ text e. let bad = c.if-is_hexadecimal.ensures.no text e in cc in
    IfSome_then c.digits_of-else-is_hexadecimal.result c.digits_of-else-is_hexadecimal.ensures.found (λ natural (number, s, h). (number, (decimal_alike number word other).1 s, h))

pub returns-else-is_hexadecimal-clause-only : goal.returns-else-is_hexadecimal-clause-only
returns-else-is_hexadecimal-clause-only c =
    let word = c.args.word.now in
    let other : (text : List ℕ) → word ≡ 0x30 ∷ 0x78 ∷ text → ⊥ = λ text e. let bad = c.if-is_hexadecimal.ensures.no text e in cc in
    IfSome_then c.digits_of-else-is_hexadecimal.result c.digits_of-else-is_hexadecimal.ensures.only (λ natural only. λ number s. only number ((decimal_alike number word other).0 s))

pub returns-else-is_hexadecimal-clause-none : goal.returns-else-is_hexadecimal-clause-none
returns-else-is_hexadecimal-clause-none c =
    let word = c.args.word.now in
    let other : (text : List ℕ) → word ≡ 0x30 ∷ 0x78 ∷ text → ⊥ = λ text e. let bad = c.if-is_hexadecimal.ensures.no text e in cc in
    none_then c.digits_of-else-is_hexadecimal.result c.digits_of-else-is_hexadecimal.ensures.none (λ none. λ number s. none number ((decimal_alike number word other).0 s))
