use Rattle.std.proofs.Common.{◌≡◌, ◌+◌, ◌-◌, ℕ, List, take, drop, refl, sym, ap, subst, arith}
use Rattle.std.proofs.lemmas.List.{drop-drop}
use Rattle.wat_grammar.specs.Tokens.{opening, closing, quoted, SpellsString}
use Rattle.wat_grammar.specs.Fronts.{Starts}
use Rattle.wat_tokens.specs.declared.front.Front.{Front}
use Rattle.wat_tokens.specs.inner.Fronts.{IsFront, token_length}
use Rattle.wat_tokens.proofs.tokens.seen.Goals as goal

pub returns-in-Opening : goal.returns-in-Opening
returns-in-Opening c =
    let text = c.args.text.now in
    let rest = drop c.args.place text in
    let front = subst (λ (z : Front). IsFront rest z) c.in-Opening.is c.requires.front.1 in
    (opening, refl, 1, ap token_length c.in-Opening.is, subst (λ (z : List ℕ). Starts opening rest z) (drop-drop 1 c.args.place text) front.1)

pub returns-in-Closing : goal.returns-in-Closing
returns-in-Closing c =
    let text = c.args.text.now in
    let rest = drop c.args.place text in
    let front = subst (λ (z : Front). IsFront rest z) c.in-Closing.is c.requires.front.1 in
    (closing, refl, 1, ap token_length c.in-Closing.is, subst (λ (z : List ℕ). Starts closing rest z) (drop-drop 1 c.args.place text) front.1)

pub returns-in-Quoted : goal.returns-in-Quoted
returns-in-Quoted c =
    let text = c.args.text.now in
    let rest = drop c.args.place text in
    let count = c.in-Quoted.count in
    let front = subst (λ (z : Front). IsFront rest z) c.in-Quoted.is c.requires.front.1 in
    let inner : SpellsString (take count (drop (c.args.place + 1) text)) front.1 = subst (λ (z : List ℕ). SpellsString (take count z) front.1) (drop-drop 1 c.args.place text) front.2 in
    let size : c.args.place + 1 + count - (c.args.place + 1) ≡ count = omega arith in
    (quoted front.1, (front.1, subst (λ (n : ℕ). SpellsString (take n (drop (c.args.place + 1) text)) front.1) (sym size) inner, refl), count + 2, ap token_length c.in-Quoted.is, subst (λ (z : List ℕ). Starts (quoted front.1) rest z) (drop-drop (count + 2) c.args.place text) front.3)
