-- Digits, read from the front.
use Rattle.std.proofs.Common.{◌<◌, ◌≤◌, ◌-◌, ◌^◌, ℤ, pos, ◌-ℤ◌, ◌≡◌, ◌≢◌, ◌↔◌, ℕ, ◌+◌, ◌*◌, List, [], ◌∷◌, Some, None, refl, sym, ◌∙◌, subst, arith}
use Rattle.std.proofs.lemmas.Option.{same_Some}
use Rattle.std.proofs.lemmas.Bool.Decides.{nat_tests}
use Rattle.wat_grammar.specs.Tokens.{digit}
use Rattle.wat_grammar.specs.Numbers.{GoesOn, digits_end, digits_next, digits_joined, SpellsDigits, spells_digits, SpellsNatural, natural_decimal, natural_hexadecimal, SpellsConstant, constant_plain, constant_plus, constant_minus, in_bits}

-- The mark between digits is none.
no_mark : (base value : ℕ) → digit base 0x5f ≡ Some value → ⊥
no_mark base value e = grind (arith, nat_tests)

pub digits_over : (base number total : ℕ) → GoesOn base number [] total → total ≡ number
digits_over base number total digits_end = refl

pub digits_over_here : (base number : ℕ) → GoesOn base number [] number
digits_over_here base number = digits_end

digit_there : (base number byte value total : ℕ) (text : List ℕ) → digit base byte ≡ Some value → GoesOn base number (byte ∷ text) total → GoesOn base (base * number + value) text total
digit_there base number byte value total text d (digits_next {value = other} e g) =
    let same : other ≡ value = same_Some other value (sym e ∙ d) in
    subst (λ z. GoesOn base (base * number + z) text total) same g
digit_there base number byte value total text d (digits_joined e g) = absurd (no_mark base value d)

pub digit_alike : (base number byte value total : ℕ) (whole text : List ℕ) → whole ≡ byte ∷ text → digit base byte ≡ Some value → GoesOn base number whole total ↔ GoesOn base (base * number + value) text total
digit_alike base number byte value total whole text w d = rw w (digit_there base number byte value total text d, λ g. digits_next d g)

mark_there : (base number byte value total : ℕ) (text : List ℕ) → digit base byte ≡ Some value → GoesOn base number (0x5f ∷ byte ∷ text) total → GoesOn base (base * number + value) text total
mark_there base number byte value total text d (digits_next {value = other} e g) = absurd (no_mark base other e)
mark_there base number byte value total text d (digits_joined {value = other} e g) =
    let same : other ≡ value = same_Some other value (sym e ∙ d) in
    subst (λ z. GoesOn base (base * number + z) text total) same g

pub mark_alike : (base number byte value total : ℕ) (whole text : List ℕ) → whole ≡ 0x5f ∷ byte ∷ text → digit base byte ≡ Some value → GoesOn base number whole total ↔ GoesOn base (base * number + value) text total
mark_alike base number byte value total whole text w d = rw w (mark_there base number byte value total text d, λ g. digits_joined d g)

other_there : (base number byte total : ℕ) (text : List ℕ) → byte ≢ 0x5f → digit base byte ≡ None → GoesOn base number (byte ∷ text) total → ⊥
other_there base number byte total text not_mark d (digits_next e g) = cc
other_there base number byte total text not_mark d (digits_joined e g) = not_mark refl

pub no_digit_there : (base number byte total : ℕ) (whole text : List ℕ) → whole ≡ byte ∷ text → byte ≢ 0x5f → digit base byte ≡ None → GoesOn base number whole total → ⊥
no_digit_there base number byte total whole text w not_mark d g = other_there base number byte total text not_mark d (subst (λ (z : List ℕ). GoesOn base number z total) w g)

lone_mark : (base number total : ℕ) → GoesOn base number (0x5f ∷ []) total → ⊥
lone_mark base number total (digits_next {value = other} e g) = no_mark base other e

pub no_digit_behind : (base number total : ℕ) (whole : List ℕ) → whole ≡ 0x5f ∷ [] → GoesOn base number whole total → ⊥
no_digit_behind base number total whole w g = lone_mark base number total (subst (λ (z : List ℕ). GoesOn base number z total) w g)

marked_other : (base number byte total : ℕ) (text : List ℕ) → digit base byte ≡ None → GoesOn base number (0x5f ∷ byte ∷ text) total → ⊥
marked_other base number byte total text d (digits_next {value = other} e g) = no_mark base other e
marked_other base number byte total text d (digits_joined e g) = cc

pub no_digit_marked : (base number byte total : ℕ) (whole text : List ℕ) → whole ≡ 0x5f ∷ byte ∷ text → digit base byte ≡ None → GoesOn base number whole total → ⊥
no_digit_marked base number byte total whole text w d g = marked_other base number byte total text d (subst (λ (z : List ℕ). GoesOn base number z total) w g)

-- ---- the first digit

first_there : (base byte value number : ℕ) (text : List ℕ) → digit base byte ≡ Some value → SpellsDigits base (byte ∷ text) number → GoesOn base value text number
first_there base byte value number text d (spells_digits {value = other} e g) =
    let same : other ≡ value = same_Some other value (sym e ∙ d) in subst (λ z. GoesOn base z text number) same g

pub first_alike : (base byte value number : ℕ) (whole text : List ℕ) → whole ≡ byte ∷ text → digit base byte ≡ Some value → SpellsDigits base whole number ↔ GoesOn base value text number
first_alike base byte value number whole text w d = rw w (first_there base byte value number text d, λ g. spells_digits d g)

first_other : (base byte number : ℕ) (text : List ℕ) → digit base byte ≡ None → SpellsDigits base (byte ∷ text) number → ⊥
first_other base byte number text d (spells_digits e g) = cc

pub no_first : (base byte number : ℕ) (whole text : List ℕ) → whole ≡ byte ∷ text → digit base byte ≡ None → SpellsDigits base whole number → ⊥
no_first base byte number whole text w d s = first_other base byte number text d (subst (λ (z : List ℕ). SpellsDigits base z number) w s)

pub no_digits : (base number : ℕ) → SpellsDigits base [] number → ⊥
no_digits base number s = elim s [ ]

-- ---- decimal and hexadecimal numbers

hexadecimal_there : (number : ℕ) (text : List ℕ) → SpellsNatural (0x30 ∷ 0x78 ∷ text) number → SpellsDigits 16 text number
hexadecimal_there number text (natural_hexadecimal s) = s
hexadecimal_there number text (natural_decimal (spells_digits e (digits_next f g))) = let bad : None ≡ Some _ = f in absurd (cc)

pub hexadecimal_alike : (number : ℕ) (whole text : List ℕ) → whole ≡ 0x30 ∷ 0x78 ∷ text → SpellsNatural whole number ↔ SpellsDigits 16 text number
hexadecimal_alike number whole text w = rw w (hexadecimal_there number text, λ s. natural_hexadecimal s)

decimal_there : (number : ℕ) (whole : List ℕ) → ((text : List ℕ) → whole ≡ 0x30 ∷ 0x78 ∷ text → ⊥) → SpellsNatural whole number → SpellsDigits 10 whole number
decimal_there number whole other (natural_decimal s) = s
decimal_there number whole other (natural_hexadecimal {text = text} s) = absurd (other text refl)

pub decimal_alike : (number : ℕ) (whole : List ℕ) → ((text : List ℕ) → whole ≡ 0x30 ∷ 0x78 ∷ text → ⊥) → SpellsNatural whole number ↔ SpellsDigits 10 whole number
decimal_alike number whole other = (decimal_there number whole other, λ s. natural_decimal s)

-- ---- constants

-- A number has no sign.
signed_natural : (sign number : ℕ) (text : List ℕ) → digit 10 sign ≡ None → sign ≢ 0x30 → SpellsNatural (sign ∷ text) number → ⊥
signed_natural sign number text d other (natural_decimal (spells_digits e g)) = cc
signed_natural sign number text d other (natural_hexadecimal s) = other refl

pub plus_there : (bits : ℕ) (number : ℤ) (text : List ℕ) → SpellsConstant bits (0x2b ∷ text) number → (natural : ℕ) × SpellsNatural text natural × (natural < 2 ^ bits) × (number ≡ in_bits bits natural)
plus_there bits number text (constant_plain {number = n} s within) = absurd (signed_natural 0x2b n text refl (λ e. omega (arith, e)) s)
plus_there bits number text (constant_plus {number = n} s within) = (n, s, within, refl)

pub minus_there : (bits : ℕ) (number : ℤ) (text : List ℕ) → SpellsConstant bits (0x2d ∷ text) number → (natural : ℕ) × SpellsNatural text natural × (natural ≤ 2 ^ (bits - 1)) × (number ≡ pos 0 -ℤ pos natural)
minus_there bits number text (constant_plain {number = n} s within) = absurd (signed_natural 0x2d n text refl (λ e. omega (arith, e)) s)
minus_there bits number text (constant_minus {number = n} s within) = (n, s, within, refl)

pub plain_there : (bits : ℕ) (number : ℤ) (word : List ℕ) → ((text : List ℕ) → word ≡ 0x2b ∷ text → ⊥) → ((text : List ℕ) → word ≡ 0x2d ∷ text → ⊥) → SpellsConstant bits word number → (natural : ℕ) × SpellsNatural word natural × (natural < 2 ^ bits) × (number ≡ in_bits bits natural)
plain_there bits number word no_plus no_minus (constant_plain {number = n} s within) = (n, s, within, refl)
plain_there bits number word no_plus no_minus (constant_plus {text = text} s within) = absurd (no_plus text refl)
plain_there bits number word no_plus no_minus (constant_minus {text = text} s within) = absurd (no_minus text refl)
