use Rattle.std.proofs.Common.{◌≡◌, ◌+◌, [], ◌∷◌, get_or, drop, refl, sym, ◌∙◌, subst, arith}
use Rattle.std.proofs.lemmas.List.{drop_all}
use Rattle.wat_grammar.specs.Tokens.{backslash}
use Rattle.wat_grammar.specs.Fronts.{part_plain, part_escape, part_digits}
use Rattle.wat_grammar.proofs.Strings.{no_part_byte, no_part_alone, no_part_short, no_part_first, no_part_second}
use Rattle.wat_tokens.proofs.Scans.{first_of, two_of, first_two, next_two, first_three}
use Rattle.wat_tokens.proofs.scan.part_at.Goals as goal

pub returns-then-is_plain-clause-found : goal.returns-then-is_plain-clause-found
returns-then-is_plain-clause-found c =
    let rest = c.args.rest.now in
    (get_or rest c.args.at 0 ∷ [], part_plain (c.if-is_plain.ensures.yes refl), refl, first_of rest c.args.at c.requires.within)

pub returns-else-is_plain-clause-none : goal.returns-else-is_plain-clause-none
returns-else-is_plain-clause-none c =
    let rest = c.args.rest.now in
    no_part_byte (drop c.args.at rest) (drop (c.args.at + 1) rest) (get_or rest c.args.at 0) (first_of rest c.args.at c.requires.within)
    (λ plain. let bad = c.if-is_plain.ensures.no plain in cc) (λ same. omega (arith, same))

pub returns-then-at-rest-clause-none : goal.returns-then-at-rest-clause-none
returns-then-at-rest-clause-none c =
    let rest = c.args.rest.now in
    no_part_alone (drop c.args.at rest) (drop (c.args.at + 1) rest) (get_or rest c.args.at 0) (first_of rest c.args.at c.requires.within)
    (omega arith) (drop_all (c.args.at + 1) rest (omega arith))

pub returns-in-Some-clause-found : goal.returns-in-Some-clause-found
returns-in-Some-clause-found c =
    let rest = c.args.rest.now in
    let same : get_or rest c.args.at 0 ≡ backslash = omega arith in (
      backslash ∷ get_or rest (c.args.at + 1) 0 ∷ [],
      part_escape (sym c.in-Some.ensures),
      refl,
      first_two rest c.args.at (omega arith) ∙ subst (λ z. z ∷ get_or rest (c.args.at + 1) 0 ∷ drop (c.args.at + 2) rest ≡ backslash ∷ get_or rest (c.args.at + 1) 0 ∷ drop (c.args.at + 2) rest) (sym same) refl,
    )

pub returns-in_default-digit_of-clause-none : goal.returns-in_default-digit_of-clause-none
returns-in_default-digit_of-clause-none c =
    let rest = c.args.rest.now in
    no_part_first (drop c.args.at rest) (drop (c.args.at + 1) rest) (drop (c.args.at + 2) rest) (get_or rest c.args.at 0) (get_or rest (c.args.at + 1) 0)
    (first_of rest c.args.at c.requires.within) (omega arith) (two_of rest c.args.at (omega arith)) (sym c.in_default.ensures) (sym c.in_default-digit_of.ensures.value)

pub returns-then-at-rest-2-clause-none : goal.returns-then-at-rest-2-clause-none
returns-then-at-rest-2-clause-none c =
    let rest = c.args.rest.now in
    no_part_short (drop c.args.at rest) (drop (c.args.at + 1) rest) (drop (c.args.at + 2) rest) (get_or rest c.args.at 0) (get_or rest (c.args.at + 1) 0)
    (first_of rest c.args.at c.requires.within) (omega arith) (two_of rest c.args.at (omega arith)) (sym c.in_default.ensures) (drop_all (c.args.at + 2) rest (omega arith))

pub returns-in_default-digit_of-2-clause-none : goal.returns-in_default-digit_of-2-clause-none
returns-in_default-digit_of-2-clause-none c =
    let rest = c.args.rest.now in
    no_part_second (drop c.args.at rest) (drop (c.args.at + 1) rest) (drop (c.args.at + 3) rest) (get_or rest c.args.at 0) (get_or rest (c.args.at + 1) 0) (get_or rest (c.args.at + 2) 0)
    (first_of rest c.args.at c.requires.within) (omega arith) (next_two rest c.args.at (omega arith)) (sym c.in_default.ensures) (sym c.in_default-digit_of-2.ensures.value)

pub returns-clause-found : goal.returns-clause-found
returns-clause-found c =
    let rest = c.args.rest.now in
    let same : get_or rest c.args.at 0 ≡ backslash = omega arith in
    let behind = get_or rest (c.args.at + 1) 0 ∷ get_or rest (c.args.at + 2) 0 ∷ drop (c.args.at + 3) rest in (
      backslash ∷ get_or rest (c.args.at + 1) 0 ∷ get_or rest (c.args.at + 2) 0 ∷ [],
      part_digits (sym c.in-Some-digit_of.ensures.value) (sym c.in-Some-digit_of-2.ensures.value),
      refl,
      first_three rest c.args.at (omega arith) ∙ subst (λ z. z ∷ behind ≡ backslash ∷ behind) (sym same) refl,
    )
