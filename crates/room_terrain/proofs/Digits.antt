-- The numbers from 0 to 127 by their digits.
use Rattle.std.proofs.Common.{◌≡◌, ℕ, ◌+◌, ◌-◌, ◌*◌, ◌/◌, ◌%◌, ◌<◌, ◌≤◌, List, [], ◌∷◌, ◌++◌, drop, decimal, Some, slice_get, subst, ap, sym, ◌∙◌, inl, inr, refl, arith}
use Rattle.std.proofs.lemmas.Bool.{cases_lt}
use Rattle.std.proofs.lemmas.Fmt.{decimal_digit, decimal_step}
use Rattle.room_terrain.specs.Names.{EndsNumber}

-- two digits
pub decimal_two : (a b : ℕ) → 0 < a → a < 10 → b < 10 → decimal (a * 10 + b) ≡ (48 + a) ∷ (48 + b) ∷ []
decimal_two a b positive small low =
    let front : (a * 10 + b) / 10 ≡ a = omega arith in
    let back : (a * 10 + b) % 10 ≡ b = omega arith in
    decimal_step (a * 10 + b) (omega arith) (omega arith) ∙ ap (λ (k : ℕ). decimal k ++ (48 + (a * 10 + b) % 10) ∷ []) front
    ∙ ap (λ (k : ℕ). decimal a ++ (48 + k) ∷ []) back ∙ ap (λ (ds : List ℕ). ds ++ (48 + b) ∷ []) (decimal_digit a small)

-- three digits, the first of them 1
pub decimal_three : (b c : ℕ) → b < 10 → c < 10 → decimal (100 + b * 10 + c) ≡ 49 ∷ (48 + b) ∷ (48 + c) ∷ []
decimal_three b c small low =
    let front : (100 + b * 10 + c) / 10 ≡ 1 * 10 + b = omega arith in
    let back : (100 + b * 10 + c) % 10 ≡ c = omega arith in
    decimal_step (100 + b * 10 + c) (omega arith) (omega arith) ∙ ap (λ (k : ℕ). decimal k ++ (48 + (100 + b * 10 + c) % 10) ∷ []) front
    ∙ ap (λ (k : ℕ). decimal (1 * 10 + b) ++ (48 + k) ∷ []) back ∙ ap (λ (ds : List ℕ). ds ++ (48 + c) ∷ []) (decimal_two 1 b (omega arith) (omega arith) small)

-- what holds of one, two and three digits holds of each number up to 127
pub by_digits : (P : ℕ → List ℕ → Type 0) → ((n : ℕ) → n < 10 → P n ((48 + n) ∷ []))
    → ((a b : ℕ) → 0 < a → a < 10 → b < 10 → P (a * 10 + b) ((48 + a) ∷ (48 + b) ∷ []))
    → ((b c : ℕ) → b < 10 → c < 10 → b * 10 + c ≤ 27 → P (100 + b * 10 + c) (49 ∷ (48 + b) ∷ (48 + c) ∷ []))
    → (n : ℕ) → n ≤ 127 → P n (decimal n)
by_digits P one two three n most =
    elim (cases_lt n 10) [
      | inl below ↦ subst (P n) (sym (decimal_digit n below)) (one n below)
      | inr above ↦ elim (cases_lt n 100) [
        | inl below ↦
            let a : ℕ = n / 10 in
            let b : ℕ = n % 10 in
            let same : n / 10 * 10 + n % 10 ≡ n = omega arith in
            subst (λ (k : ℕ). P k (decimal k)) same
            (subst (P (n / 10 * 10 + n % 10)) (sym (decimal_two (n / 10) (n % 10) (omega arith) (omega arith) (omega arith)))
            (two (n / 10) (n % 10) (omega arith) (omega arith) (omega arith)))
        | inr high ↦
            let same : 100 + (n - 100) / 10 * 10 + (n - 100) % 10 ≡ n = omega arith in
            subst (λ (k : ℕ). P k (decimal k)) same
            (subst (P (100 + (n - 100) / 10 * 10 + (n - 100) % 10)) (sym (decimal_three ((n - 100) / 10) ((n - 100) % 10) (omega arith) (omega arith)))
            (three ((n - 100) / 10) ((n - 100) % 10) (omega arith) (omega arith) (omega arith)))
      ]
    ]

-- a text by its first one, two or three bytes
pub reads_one : (t : List ℕ) (x : ℕ) → slice_get t 0 ≡ Some x → t ≡ x ∷ drop 1 t
reads_one [] x e = cc
reads_one (y ∷ ys) x e = cc

pub reads_two : (t : List ℕ) (x y : ℕ) → slice_get t 0 ≡ Some x → slice_get t 1 ≡ Some y → t ≡ x ∷ y ∷ drop 2 t
reads_two [] x y e f = cc
reads_two (z ∷ zs) x y e f =
    let first : z ≡ x = cc in
    ap (λ (w : ℕ). w ∷ zs) first ∙ ap (λ (t : List ℕ). x ∷ t) (reads_one zs y f)

pub reads_three : (t : List ℕ) (x y z : ℕ) → slice_get t 0 ≡ Some x → slice_get t 1 ≡ Some y → slice_get t 2 ≡ Some z → t ≡ x ∷ y ∷ z ∷ drop 3 t
reads_three [] x y z e f g = cc
reads_three (w ∷ ws) x y z e f g =
    let first : w ≡ x = cc in
    ap (λ (v : ℕ). v ∷ ws) first ∙ ap (λ (t : List ℕ). x ∷ t) (reads_two ws y z f g)

same_digit : (a b : ℕ) → Some (48 + a) ≡ Some (48 + b) → a ≡ b
same_digit a b e = let sum : 48 + a ≡ 48 + b = cc in omega arith

pub no_digit : (rest : List ℕ) (d : ℕ) → EndsNumber rest → d < 10 → slice_get rest 0 ≡ Some (48 + d) → ⊥
no_digit [] d ends small e = cc
no_digit (x ∷ xs) d ends small e = let is : x ≡ 48 + d = cc in omega (arith, ends)

-- no digit stands at the place
abbrev pub NoDigit : List ℕ → ℕ → Type 0
NoDigit text at = (d : ℕ) → d < 10 → slice_get text at ≡ Some (48 + d) → ⊥

-- a number begins with a digit
pub some_digit : (n : ℕ) (rest : List ℕ) → n ≤ 127 → NoDigit (decimal n ++ rest) 0 → ⊥
some_digit n rest most none =
    by_digits (λ n ds. NoDigit (ds ++ rest) 0 → ⊥)
    (λ n small none. none n small refl)
    (λ a b positive small low none. none a small refl)
    (λ b c small low most none. none 1 (omega arith) refl)
    n most none

-- a number that begins with 0 is 0
pub zero_alone : (n : ℕ) (rest : List ℕ) → n ≤ 127 → slice_get (decimal n ++ rest) 0 ≡ Some 48 → (0 ≡ n) × (drop 1 (decimal n ++ rest) ≡ rest)
zero_alone n rest most first =
    by_digits (λ n ds. slice_get (ds ++ rest) 0 ≡ Some 48 → (0 ≡ n) × (drop 1 (ds ++ rest) ≡ rest))
    (λ n small e. (same_digit 0 n (sym e), refl))
    (λ a b positive small low e. let none : a ≡ 0 = same_digit a 0 e in absurd (omega arith))
    (λ b c small low most e. absurd (omega (arith, same_digit 1 0 e)))
    n most first

-- a number of one digit
pub one_digit : (n : ℕ) (rest : List ℕ) (a : ℕ) → n ≤ 127 → 0 < a → slice_get (decimal n ++ rest) 0 ≡ Some (48 + a) → NoDigit (decimal n ++ rest) 1 → (a ≡ n) × (drop 1 (decimal n ++ rest) ≡ rest)
one_digit n rest a most positive first none =
    by_digits (λ n ds. slice_get (ds ++ rest) 0 ≡ Some (48 + a) → NoDigit (ds ++ rest) 1 → (a ≡ n) × (drop 1 (ds ++ rest) ≡ rest))
    (λ n small e none. (same_digit a n (sym e), refl))
    (λ b c positive small low e none. absurd (none c low refl))
    (λ b c small low most e none. absurd (none b small refl))
    n most first none

-- a number of two digits
pub two_digits : (n : ℕ) (rest : List ℕ) (a b : ℕ) → n ≤ 127 → EndsNumber rest → b < 10 → slice_get (decimal n ++ rest) 0 ≡ Some (48 + a) → slice_get (decimal n ++ rest) 1 ≡ Some (48 + b) → NoDigit (decimal n ++ rest) 2
    → (a * 10 + b ≡ n) × (drop 2 (decimal n ++ rest) ≡ rest)
two_digits n rest a b most ends small first second none =
    by_digits (λ n ds. slice_get (ds ++ rest) 0 ≡ Some (48 + a) → slice_get (ds ++ rest) 1 ≡ Some (48 + b) → NoDigit (ds ++ rest) 2 → (a * 10 + b ≡ n) × (drop 2 (ds ++ rest) ≡ rest))
    (λ n small' e f none. absurd (no_digit rest b ends small f))
    (λ x y positive below low e f none. let tens : x ≡ a = same_digit x a e in let ones : y ≡ b = same_digit y b f in (omega arith, refl))
    (λ x y below low most e f none. absurd (none y low refl))
    n most first second none

-- a number of three digits
pub three_digits : (n : ℕ) (rest : List ℕ) (a b c : ℕ) → n ≤ 127 → EndsNumber rest → b < 10 → c < 10 → slice_get (decimal n ++ rest) 0 ≡ Some (48 + a) → slice_get (decimal n ++ rest) 1 ≡ Some (48 + b) → slice_get (decimal n ++ rest) 2 ≡ Some (48 + c)
    → (a ≡ 1) × (b * 10 + c ≤ 27) × (100 + b * 10 + c ≡ n) × (drop 3 (decimal n ++ rest) ≡ rest)
three_digits n rest a b c most ends small low first second third =
    by_digits (λ n ds. slice_get (ds ++ rest) 0 ≡ Some (48 + a) → slice_get (ds ++ rest) 1 ≡ Some (48 + b) → slice_get (ds ++ rest) 2 ≡ Some (48 + c) → (a ≡ 1) × (b * 10 + c ≤ 27) × (100 + b * 10 + c ≡ n) × (drop 3 (ds ++ rest) ≡ rest))
    (λ n small' e f g. absurd (no_digit rest b ends small f))
    (λ x y positive below low' e f g. absurd (no_digit rest c ends low g))
    (λ x y below low' most e f g.
    let hundreds : 1 ≡ a = same_digit 1 a e in
    let tens : x ≡ b = same_digit x b f in
    let ones : y ≡ c = same_digit y c g in
    (omega arith, omega arith, omega arith, refl))
    n most first second third
