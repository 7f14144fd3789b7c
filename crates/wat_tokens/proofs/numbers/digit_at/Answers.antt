use Rattle.std.proofs.Common.{◌≡◌, ◌+◌, List, [], ◌∷◌, get_or, drop, sym, ◌∙◌, ap, arith}
use Rattle.std.proofs.lemmas.List.{drop_all}
use Rattle.wat_grammar.proofs.Numbers.{digit_alike, mark_alike, no_digit_there, no_digit_behind, no_digit_marked}
use Rattle.wat_tokens.proofs.Scans.{first_of, first_two}
use Rattle.wat_tokens.proofs.numbers.digit_at.Goals as goal

pub returns-in_default-clause-none : goal.returns-in_default-clause-none
returns-in_default-clause-none c = λ number total.
    let text = c.args.text.now in
    no_digit_there c.args.base number (get_or text c.args.at 0) total (drop c.args.at text) (drop (c.args.at + 1) text) (first_of text c.args.at c.requires) (λ e. omega (arith, e)) (sym c.in_default.ensures.value)

pub returns-then-text-at-ne95-clause-found : goal.returns-then-text-at-ne95-clause-found
returns-then-text-at-ne95-clause-found c = λ number total.
    let text = c.args.text.now in
    digit_alike c.args.base number (get_or text c.args.at 0) c.in-Some.value total (drop c.args.at text) (drop (c.args.at + 1) text) (first_of text c.args.at c.requires) (sym c.in-Some.ensures.value)

pub returns-then-at-text-clause-none : goal.returns-then-at-text-clause-none
returns-then-at-text-clause-none c = λ number total.
    let text = c.args.text.now in
    let whole : drop c.args.at text ≡ 0x5f ∷ [] = first_of text c.args.at c.requires ∙ ap (λ z. z ∷ drop (c.args.at + 1) text) (omega arith) ∙ ap (λ (z : List _). 0x5f ∷ z) (drop_all (c.args.at + 1) text (omega arith)) in
    no_digit_behind c.args.base number total (drop c.args.at text) whole

pub returns-in_default-digit_of-clause-none : goal.returns-in_default-digit_of-clause-none
returns-in_default-digit_of-clause-none c = λ number total.
    let text = c.args.text.now in
    let whole : drop c.args.at text ≡ 0x5f ∷ get_or text (c.args.at + 1) 0 ∷ drop (c.args.at + 2) text = first_two text c.args.at (omega arith) ∙ ap (λ z. z ∷ get_or text (c.args.at + 1) 0 ∷ drop (c.args.at + 2) text) (omega arith) in
    no_digit_marked c.args.base number (get_or text (c.args.at + 1) 0) total (drop c.args.at text) (drop (c.args.at + 2) text) whole (sym c.in_default-digit_of.ensures.value)

pub returns-clause-found : goal.returns-clause-found
returns-clause-found c = λ number total.
    let text = c.args.text.now in
    let whole : drop c.args.at text ≡ 0x5f ∷ get_or text (c.args.at + 1) 0 ∷ drop (c.args.at + 2) text = first_two text c.args.at (omega arith) ∙ ap (λ z. z ∷ get_or text (c.args.at + 1) 0 ∷ drop (c.args.at + 2) text) (omega arith) in
    mark_alike c.args.base number (get_or text (c.args.at + 1) 0) c.in-Some-digit_of.value total (drop c.args.at text) (drop (c.args.at + 2) text) whole (sym c.in-Some-digit_of.ensures.value)
