-- What was read is the number by its digits, and no other number stands there.
use Rattle.std.proofs.Common.{◌≡◌, ℕ, ◌+◌, ◌*◌, ◌<◌, ◌≤◌, List, ◌++◌, length, drop, Some, slice_get, sym, subst, ap, ◌∙◌, arith}
use Rattle.std.proofs.lemmas.Fmt.{decimal_digit}
use Rattle.room_terrain.proofs.Digits.{decimal_two, decimal_three, reads_one, reads_two, reads_three, NoDigit, some_digit, zero_alone, one_digit, two_digits, three_digits}
use Rattle.room_terrain.proofs.name.read_number.Goals as goal
use Rattle.room_terrain.proofs.name.read_number.Goals.{then-first-gt1-via-then-first-gt1, then-first-gt1-via-else-first-gt1+then-second-third-gt27}

-- a place of a text that is a number and a rest
at : (text spelled : List ℕ) (i x : ℕ) → text ≡ spelled → slice_get text i ≡ Some x → slice_get spelled i ≡ Some x
at text spelled i x e h = subst (λ (t : List ℕ). slice_get t i ≡ Some x) e h

-- no digit stands there either
none_at : (text spelled : List ℕ) (i : ℕ) → text ≡ spelled → NoDigit text i → NoDigit spelled i
none_at text spelled i e h = subst (λ (t : List ℕ). NoDigit t i) e h

pub returns-in_default-clause-all : goal.returns-in_default-clause-all
returns-in_default-clause-all c = λ number rest most ends e. some_digit number rest most (none_at _ _ 0 e c.in_default.ensures.none)

pub returns-then-first-eq0-clause-some : goal.returns-then-first-eq0-clause-some
returns-then-first-eq0-clause-some c =
    let zero_first : slice_get c.args.text.now 0 ≡ Some 48 = c.in-Some.ensures.some.1 ∙ ap (λ (k : ℕ). Some (48 + k)) c.if-first-eq0.true in
    (omega arith, reads_one _ _ zero_first ∙ ap (λ (ds : List ℕ). ds ++ drop 1 c.args.text.now) (sym (decimal_digit 0 (omega arith))))

pub returns-then-first-eq0-clause-all : goal.returns-then-first-eq0-clause-all
returns-then-first-eq0-clause-all c = λ number rest most ends e.
    let zero_first : slice_get c.args.text.now 0 ≡ Some 48 = c.in-Some.ensures.some.1 ∙ ap (λ (k : ℕ). Some (48 + k)) c.if-first-eq0.true in
    rw e (zero_alone number rest most (at _ _ 0 48 e zero_first))

pub returns-in_default-digit_at-clause-some : goal.returns-in_default-digit_at-clause-some
returns-in_default-digit_at-clause-some c =
    (omega (arith, c.in-Some.ensures.some.0), reads_one _ _ c.in-Some.ensures.some.1 ∙ ap (λ (ds : List ℕ). ds ++ drop 1 c.args.text.now) (sym (decimal_digit _ c.in-Some.ensures.some.0)))

pub returns-in_default-digit_at-clause-all : goal.returns-in_default-digit_at-clause-all
returns-in_default-digit_at-clause-all c = λ number rest most ends e.
    rw e (one_digit number rest c.in-Some.first most (omega arith) (at _ _ 0 _ e c.in-Some.ensures.some.1) (none_at _ _ 1 e c.in_default-digit_at.ensures.none))

pub returns-in_default-digit_at-2-clause-some : goal.returns-in_default-digit_at-2-clause-some
returns-in_default-digit_at-2-clause-some c = (
  omega (arith, c.in-Some.ensures.some.0, c.in-Some-digit_at.ensures.some.0),
  reads_two _ _ _ c.in-Some.ensures.some.1 c.in-Some-digit_at.ensures.some.1
      ∙ ap (λ (ds : List ℕ). ds ++ drop 2 c.args.text.now) (sym (decimal_two c.in-Some.first c.in-Some-digit_at.second (omega arith) c.in-Some.ensures.some.0 c.in-Some-digit_at.ensures.some.0)),
)

pub returns-in_default-digit_at-2-clause-all : goal.returns-in_default-digit_at-2-clause-all
returns-in_default-digit_at-2-clause-all c = λ number rest most ends e.
    rw e (two_digits number rest c.in-Some.first c.in-Some-digit_at.second most ends c.in-Some-digit_at.ensures.some.0
    (at _ _ 0 _ e c.in-Some.ensures.some.1) (at _ _ 1 _ e c.in-Some-digit_at.ensures.some.1) (none_at _ _ 2 e c.in_default-digit_at-2.ensures.none))

pub returns-in_default-digit_at-2-clause-within : goal.returns-in_default-digit_at-2-clause-within
returns-in_default-digit_at-2-clause-within c =
    subst (λ (t : List ℕ). 2 ≤ length t) (sym (reads_two _ _ _ c.in-Some.ensures.some.1 c.in-Some-digit_at.ensures.some.1)) (omega arith)

pub returns-then-first-gt1-clause-all : goal.returns-then-first-gt1-clause-all
returns-then-first-gt1-clause-all c = λ number rest most ends e.
    let three = three_digits number rest c.in-Some.first c.in-Some-digit_at.second c.in-Some-digit_at-2.third most ends c.in-Some-digit_at.ensures.some.0 c.in-Some-digit_at-2.ensures.some.0
    (at _ _ 0 _ e c.in-Some.ensures.some.1) (at _ _ 1 _ e c.in-Some-digit_at.ensures.some.1) (at _ _ 2 _ e c.in-Some-digit_at-2.ensures.some.1) in
    let hundreds : c.in-Some.first ≡ 1 = three.0 in
    let below : c.in-Some-digit_at.second * 10 + c.in-Some-digit_at-2.third ≤ 27 = three.1 in
    elim c.then-first-gt1.branch [
      | then-first-gt1-via-then-first-gt1 w ↦ omega arith
      | then-first-gt1-via-else-first-gt1+then-second-third-gt27 w ↦ omega arith
    ]

pub returns-clause-some : goal.returns-clause-some
returns-clause-some c =
    let positive : 0 < c.in-Some.first = omega arith in
    let one : c.in-Some.first ≡ 1 = omega arith in
    let hundreds : slice_get c.args.text.now 0 ≡ Some 49 = c.in-Some.ensures.some.1 ∙ ap (λ (k : ℕ). Some (48 + k)) one in (
      omega arith,
      reads_three _ _ _ _ hundreds c.in-Some-digit_at.ensures.some.1 c.in-Some-digit_at-2.ensures.some.1
          ∙ ap (λ (ds : List ℕ). ds ++ drop 3 c.args.text.now) (sym (decimal_three c.in-Some-digit_at.second c.in-Some-digit_at-2.third c.in-Some-digit_at.ensures.some.0 c.in-Some-digit_at-2.ensures.some.0)),
    )

pub returns-clause-all : goal.returns-clause-all
returns-clause-all c = λ number rest most ends e.
    let three = three_digits number rest c.in-Some.first c.in-Some-digit_at.second c.in-Some-digit_at-2.third most ends c.in-Some-digit_at.ensures.some.0 c.in-Some-digit_at-2.ensures.some.0
    (at _ _ 0 _ e c.in-Some.ensures.some.1) (at _ _ 1 _ e c.in-Some-digit_at.ensures.some.1) (at _ _ 2 _ e c.in-Some-digit_at-2.ensures.some.1) in
    rw e (three.2, three.3)

pub returns-clause-within : goal.returns-clause-within
returns-clause-within c =
    subst (λ (t : List ℕ). 3 ≤ length t) (sym (reads_three _ _ _ _ c.in-Some.ensures.some.1 c.in-Some-digit_at.ensures.some.1 c.in-Some-digit_at-2.ensures.some.1)) (omega arith)
