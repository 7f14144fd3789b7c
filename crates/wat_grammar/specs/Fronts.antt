-- What stands at the front of a text.
use Rattle.std.specs.Prelude.{◌≡◌, ◌↔◌, ℕ, ◌+◌, ◌*◌, List, [], ◌∷◌, ◌++◌, Some}
use Rattle.wat_grammar.specs.Tokens.{Token, Lexes, BeginsWithNo, EndsComments, IsPlain, SpellsString}
use Rattle.wat_grammar.specs.Tokens.{backslash, digit, escaped}
use Rattle.wat_grammar.specs.Tokens.{left_byte, quote_byte, right_byte, semicolon}

-- So many open comments end within the text, and this stands behind the end of the outermost.
abbrev pub EndsBefore : ℕ → List ℕ → List ℕ → Type 0
EndsBefore count text more = (comment : List ℕ) × EndsComments count comment × (text ≡ comment ++ more)

-- The byte and what follows it are neither the end nor the begin of a comment.
abbrev pub GoesOnAt : ℕ → List ℕ → Type 0
GoesOnAt byte text =
    (byte ≡ semicolon → BeginsWithNo (λ next. next ≡ right_byte) text)
    × (byte ≡ left_byte → BeginsWithNo (λ next. next ≡ semicolon) text)

-- A string ends within the text, which goes on as this behind the quotation mark.
abbrev pub IsQuotedBefore : List ℕ → List ℕ → List ℕ → Type 0
IsQuotedBefore content text more =
    (inner : List ℕ) × SpellsString inner content × (text ≡ inner ++ quote_byte ∷ more)

-- A part of a string that stands for one byte.
pub data IsPart : List ℕ → ℕ → Type 0 where
  part_plain : {byte : ℕ} → IsPlain byte → IsPart (byte ∷ []) byte
  part_escape : {byte value : ℕ} → escaped byte ≡ Some value → IsPart (backslash ∷ byte ∷ []) value
  part_digits : {first second high low : ℕ} → digit 16 first ≡ Some high → digit 16 second ≡ Some low
      → IsPart (backslash ∷ first ∷ second ∷ []) (16 * high + low)

-- No part stands at the front.
abbrev pub HasNoPart : List ℕ → Type 0
HasNoPart text = (part rest : List ℕ) (value : ℕ) → text ≡ part ++ rest → IsPart part value → ⊥

-- The text has the token first, and then the tokens of the rest.
pub record Starts (token : Token) (text rest : List ℕ) : Type 0 where
  pub makes : (tail : List Token) → Lexes rest tail → Lexes text (token ∷ tail)
  pub only : (tokens : List Token) → Lexes text tokens
      → (tail : List Token) × (tokens ≡ token ∷ tail) × Lexes rest tail

-- The text has just the tokens of the rest.
abbrev pub PassesTo : List ℕ → List ℕ → Type 0
PassesTo text rest = (tokens : List Token) → Lexes text tokens ↔ Lexes rest tokens

-- The text has no tokens: it is none.
abbrev pub HasNoTokens : List ℕ → Type 0
HasNoTokens text = (tokens : List Token) → Lexes text tokens → ⊥

-- No such token stands first in the text.
abbrev pub HasNotFirst : (Token → Type 0) → List ℕ → Type 0
HasNotFirst P text = (token : Token) (tail : List Token) → P token → Lexes text (token ∷ tail) → ⊥
