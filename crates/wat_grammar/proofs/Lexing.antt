-- The tokens of a text, taken apart by the first byte.
use Rattle.std.proofs.Common.{◌≡◌, ◌≢◌, ◌⊎◌, ℕ, suc, ◌<◌, List, [], ◌∷◌, ◌++◌, length, refl, sym, ap, ◌∙◌, subst, inl, inr, arith}
use Rattle.std.specs.List.{All}
use Rattle.wat_grammar.specs.Tokens.{Token, opening, closing, quoted, word, BeginsWithNo, IsInLine, IsSpace, IsWordByte, Lexes, lexes_end, lexes_space, lexes_line, lexes_last_line, lexes_comment, lexes_opening, lexes_closing, lexes_quoted, lexes_word, left_byte, right_byte, quote_byte, semicolon, line_feed}
use Rattle.wat_grammar.specs.Fronts.{EndsBefore, IsQuotedBefore, Starts, PassesTo, HasNoTokens}

-- What stands at the front of a text that has these tokens.
data At (byte : ℕ) (text : List ℕ) (tokens : List Token) : Type 0 where
  at_space : IsSpace byte → Lexes text tokens → At byte text tokens
  at_line : (line more : List ℕ) → byte ≡ semicolon → text ≡ semicolon ∷ (line ++ line_feed ∷ more) → IsInLine line → Lexes more tokens → At byte text tokens
  at_last_line : (line : List ℕ) → byte ≡ semicolon → text ≡ semicolon ∷ line → IsInLine line → tokens ≡ [] → At byte text tokens
  at_comment : (more : List ℕ) (rest : List ℕ) → byte ≡ left_byte → text ≡ semicolon ∷ rest → EndsBefore 1 rest more → Lexes more tokens → At byte text tokens
  at_opening : (tail : List Token) → byte ≡ left_byte → BeginsWithNo (λ next. next ≡ semicolon) text → Lexes text tail → tokens ≡ opening ∷ tail → At byte text tokens
  at_closing : (tail : List Token) → byte ≡ right_byte → Lexes text tail → tokens ≡ closing ∷ tail → At byte text tokens
  at_quoted : (content more : List ℕ) (tail : List Token) → byte ≡ quote_byte → IsQuotedBefore content text more → Lexes more tail → tokens ≡ quoted content ∷ tail → At byte text tokens
  at_word : (more rest : List ℕ) (tail : List Token) → IsWordByte byte → All IsWordByte more → BeginsWithNo IsWordByte rest → text ≡ more ++ rest → Lexes rest tail → tokens ≡ word (byte ∷ more) ∷ tail → At byte text tokens

lexed_at : (byte : ℕ) (text : List ℕ) (tokens : List Token) → Lexes (byte ∷ text) tokens → At byte text tokens
lexed_at byte text tokens (lexes_space p s) = at_space p s
lexed_at byte text tokens (lexes_line line {text = more} p s) = at_line line more refl refl p s
lexed_at byte text tokens (lexes_last_line {line = line} p) = at_last_line line refl refl p refl
lexed_at byte text tokens (lexes_comment comment {text = more} p s) = at_comment more (comment ++ more) refl refl (comment, p, refl) s
lexed_at byte text tokens (lexes_opening {tokens = tail} p s) = at_opening tail refl p s refl
lexed_at byte text tokens (lexes_closing {tokens = tail} s) = at_closing tail refl s refl
lexed_at byte text tokens (lexes_quoted inner {content = content} {text = more} {tokens = tail} p s) = at_quoted content more tail refl (inner, p, refl) s refl
lexed_at byte text tokens (lexes_word {more = more} {text = rest} {tokens = tail} p q r s) = at_word more rest tail p q r refl s refl

pub no_tokens : (tokens : List Token) → Lexes [] tokens → tokens ≡ []
no_tokens tokens lexes_end = refl

-- ---- bytes of one kind are of no other

no_space : (byte : ℕ) → IsSpace byte → (byte ≢ semicolon) × (byte ≢ left_byte) × (byte ≢ right_byte) × (byte ≢ quote_byte) × (IsWordByte byte → ⊥)
no_space byte p = (λ e. grind (arith, p, e), λ e. grind (arith, p, e), λ e. grind (arith, p, e), λ e. grind (arith, p, e), λ w. let least = w.least in grind (arith, p, least))

-- A byte of no kind begins nothing.
pub other_none : (whole text : List ℕ) (byte : ℕ) → whole ≡ byte ∷ text → (IsSpace byte → ⊥) → (IsWordByte byte → ⊥) → byte ≢ semicolon → byte ≢ left_byte → byte ≢ right_byte → byte ≢ quote_byte → HasNoTokens whole
other_none whole text byte e no_blank no_word no_semicolon no_left no_right no_quote = λ tokens s. elim (lexed_at byte text tokens (subst (λ (z : List ℕ). Lexes z tokens) e s)) [
  | at_space p t ↦ no_blank p
  | at_line line more f g p t ↦ no_semicolon f
  | at_last_line line f g p h ↦ no_semicolon f
  | at_comment more rest f g p t ↦ no_left f
  | at_opening tail f p t h ↦ no_left f
  | at_closing tail f t h ↦ no_right f
  | at_quoted content more tail f p t h ↦ no_quote f
  | at_word more rest tail p q r g t h ↦ no_word p
]

-- ---- spaces

space_there : (byte : ℕ) (text : List ℕ) (tokens : List Token) → IsSpace byte → Lexes (byte ∷ text) tokens → Lexes text tokens
space_there byte text tokens p s = let no = no_space byte p in elim (lexed_at byte text tokens s) [
  | at_space q t ↦ t
  | at_line line more f g q t ↦ absurd (no.0 f)
  | at_last_line line f g q h ↦ absurd (no.0 f)
  | at_comment more rest f g q t ↦ absurd (no.1 f)
  | at_opening tail f q t h ↦ absurd (no.1 f)
  | at_closing tail f t h ↦ absurd (no.2 f)
  | at_quoted content more tail f q t h ↦ absurd (no.3 f)
  | at_word more rest tail q r u g t h ↦ absurd (no.4 q)
]

pub space_passes : (whole text : List ℕ) (byte : ℕ) → whole ≡ byte ∷ text → IsSpace byte → PassesTo whole text
space_passes whole text byte e p = rw e (λ tokens. (space_there byte text tokens p, λ s. lexes_space p s))

-- ---- comments to the end of a line

all_head : (P : ℕ → Type 0) (x : ℕ) (xs : List ℕ) → All P (x ∷ xs) → P x
all_head P x xs h = h 0 0 (omega arith)

all_tail : (P : ℕ → Type 0) (x : ℕ) (xs : List ℕ) → All P (x ∷ xs) → All P xs
all_tail P x xs h = λ k d small. h (suc k) d (omega (arith, small))

-- The first line feed is where it is.
line_once : (line other more rest : List ℕ) → IsInLine line → IsInLine other → line ++ line_feed ∷ more ≡ other ++ line_feed ∷ rest → more ≡ rest
line_once [] [] more rest p q e = cc
line_once [] (byte ∷ other) more rest p q e = let bad : byte ≡ line_feed = cc in absurd (all_head (λ z. z ≢ line_feed) byte other q bad)
line_once (byte ∷ line) [] more rest p q e = let bad : byte ≡ line_feed = cc in absurd (all_head (λ z. z ≢ line_feed) byte line p bad)
line_once (byte ∷ line) (b ∷ other) more rest p q e =
    let tails : line ++ line_feed ∷ more ≡ other ++ line_feed ∷ rest = cc in
    line_once line other more rest (all_tail (λ z. z ≢ line_feed) byte line p) (all_tail (λ z. z ≢ line_feed) b other q) tails

no_feed : (line other rest : List ℕ) → IsInLine line → line ≡ other ++ line_feed ∷ rest → ⊥
no_feed [] [] rest p e = cc
no_feed [] (b ∷ other) rest p e = cc
no_feed (byte ∷ line) [] rest p e = let bad : byte ≡ line_feed = cc in all_head (λ z. z ≢ line_feed) byte line p bad
no_feed (byte ∷ line) (b ∷ other) rest p e = let tails : line ≡ other ++ line_feed ∷ rest = cc in no_feed line other rest (all_tail (λ z. z ≢ line_feed) byte line p) tails

-- What begins with a semicolon is a comment to the end of its line, or to the end of the text.
semicolon_is : (text : List ℕ) (tokens : List Token) → Lexes (semicolon ∷ text) tokens
    → ((line : List ℕ) × (more : List ℕ) × (text ≡ semicolon ∷ (line ++ line_feed ∷ more)) × IsInLine line × Lexes more tokens)
    ⊎ ((line : List ℕ) × (text ≡ semicolon ∷ line) × IsInLine line × (tokens ≡ []))
semicolon_is text tokens s = elim (lexed_at semicolon text tokens s) [
  | at_space q t ↦ absurd ((no_space semicolon q).0 refl)
  | at_line line more f g q t ↦ inl (line, more, g, q, t)
  | at_last_line line f g q h ↦ inr (line, g, q, h)
  | at_comment more rest f g q t ↦ absurd (omega (arith, f))
  | at_opening tail f q t h ↦ absurd (omega (arith, f))
  | at_closing tail f t h ↦ absurd (omega (arith, f))
  | at_quoted content more tail f q t h ↦ absurd (omega (arith, f))
  | at_word more rest tail q r u g t h ↦ absurd (q.not_semicolon refl)
]

pub semicolon_none : (whole text : List ℕ) → whole ≡ semicolon ∷ text → BeginsWithNo (λ next. next ≡ semicolon) text → HasNoTokens whole
semicolon_none whole text e none = λ tokens s. elim (semicolon_is text tokens (subst (λ (z : List ℕ). Lexes z tokens) e s)) [
  | inl h ↦ subst (BeginsWithNo (λ next. next ≡ semicolon)) h.2 none refl
  | inr h ↦ subst (BeginsWithNo (λ next. next ≡ semicolon)) h.1 none refl
]

line_there : (line more : List ℕ) (tokens : List Token) → IsInLine line → Lexes (semicolon ∷ semicolon ∷ (line ++ line_feed ∷ more)) tokens → Lexes more tokens
line_there line more tokens p s = elim (semicolon_is (semicolon ∷ (line ++ line_feed ∷ more)) tokens s) [
  | inl h ↦
      let same : line ++ line_feed ∷ more ≡ h.0 ++ line_feed ∷ h.1 = let e = h.2 in cc in
      subst (λ (z : List ℕ). Lexes z tokens) (sym (line_once line h.0 more h.1 p h.3 same)) h.4
  | inr h ↦
      let same : h.0 ≡ line ++ line_feed ∷ more = let e = h.1 in cc in
      absurd (no_feed h.0 line more h.2 same)
]

pub line_passes : (whole line more : List ℕ) → whole ≡ semicolon ∷ semicolon ∷ (line ++ line_feed ∷ more) → IsInLine line → PassesTo whole more
line_passes whole line more e p = rw e (λ tokens. (line_there line more tokens p, λ s. lexes_line line p s))

last_line_there : (line : List ℕ) (tokens : List Token) → IsInLine line → Lexes (semicolon ∷ semicolon ∷ line) tokens → tokens ≡ []
last_line_there line tokens p s = elim (semicolon_is (semicolon ∷ line) tokens s) [
  | inl h ↦ let same : line ≡ h.0 ++ line_feed ∷ h.1 = let e = h.2 in cc in absurd (no_feed line h.0 h.1 p same)
  | inr h ↦ h.3
]

pub last_line_passes : (whole line : List ℕ) → whole ≡ semicolon ∷ semicolon ∷ line → IsInLine line → PassesTo whole []
last_line_passes whole line e p = rw e (λ tokens. (
  λ s. subst (Lexes []) (sym (last_line_there line tokens p s)) lexes_end,
  λ s. subst (Lexes (semicolon ∷ semicolon ∷ line)) (sym (no_tokens tokens s)) (lexes_last_line p),
))

-- ---- left parentheses

-- What begins with a left parenthesis is a comment, or the token.
left_is : (text : List ℕ) (tokens : List Token) → Lexes (left_byte ∷ text) tokens
    → ((more : List ℕ) × (rest : List ℕ) × (text ≡ semicolon ∷ rest) × EndsBefore 1 rest more × Lexes more tokens)
    ⊎ ((tail : List Token) × BeginsWithNo (λ next. next ≡ semicolon) text × Lexes text tail × (tokens ≡ opening ∷ tail))
left_is text tokens s = elim (lexed_at left_byte text tokens s) [
  | at_space q t ↦ absurd ((no_space left_byte q).1 refl)
  | at_line line more f g q t ↦ absurd (omega (arith, f))
  | at_last_line line f g q h ↦ absurd (omega (arith, f))
  | at_comment more rest f g q t ↦ inl (more, rest, g, q, t)
  | at_opening tail f q t h ↦ inr (tail, q, t, h)
  | at_closing tail f t h ↦ absurd (omega (arith, f))
  | at_quoted content more tail f q t h ↦ absurd (omega (arith, f))
  | at_word more rest tail q r u g t h ↦ absurd (q.not_left refl)
]

comment_there : (rest more : List ℕ) (tokens : List Token) → ((other : List ℕ) → EndsBefore 1 rest other → other ≡ more) → Lexes (left_byte ∷ semicolon ∷ rest) tokens → Lexes more tokens
comment_there rest more tokens only s = elim (left_is (semicolon ∷ rest) tokens s) [
  | inl h ↦
      let same : h.1 ≡ rest = let e = h.2 in cc in
      let one : h.0 ≡ more = only h.0 (subst (λ (z : List ℕ). EndsBefore 1 z h.0) same h.3) in
      subst (λ (z : List ℕ). Lexes z tokens) one h.4
  | inr h ↦ absurd (h.1 refl)
]

comment_back : (rest more : List ℕ) (tokens : List Token) → EndsBefore 1 rest more → Lexes more tokens → Lexes (left_byte ∷ semicolon ∷ rest) tokens
comment_back rest more tokens (comment, p, e) s = rw e (lexes_comment comment p s)

pub comment_passes : (whole rest more : List ℕ) → whole ≡ left_byte ∷ semicolon ∷ rest → EndsBefore 1 rest more → ((other : List ℕ) → EndsBefore 1 rest other → other ≡ more) → PassesTo whole more
comment_passes whole rest more e found only = rw e (λ tokens. (comment_there rest more tokens only, comment_back rest more tokens found))

pub comment_none : (whole rest : List ℕ) → whole ≡ left_byte ∷ semicolon ∷ rest → ((other : List ℕ) → EndsBefore 1 rest other → ⊥) → HasNoTokens whole
comment_none whole rest e none = λ tokens s. elim (left_is (semicolon ∷ rest) tokens (subst (λ (z : List ℕ). Lexes z tokens) e s)) [
  | inl h ↦ let same : h.1 ≡ rest = let f = h.2 in cc in none h.0 (subst (λ (z : List ℕ). EndsBefore 1 z h.0) same h.3)
  | inr h ↦ h.1 refl
]

opening_only : (text : List ℕ) (tokens : List Token) → BeginsWithNo (λ next. next ≡ semicolon) text → Lexes (left_byte ∷ text) tokens → (tail : List Token) × (tokens ≡ opening ∷ tail) × Lexes text tail
opening_only text tokens none s = elim (left_is text tokens s) [
  | inl h ↦ absurd (subst (BeginsWithNo (λ next. next ≡ semicolon)) h.2 none refl)
  | inr h ↦ (h.0, h.3, h.2)
]

pub opening_starts : (whole text : List ℕ) → whole ≡ left_byte ∷ text → BeginsWithNo (λ next. next ≡ semicolon) text → Starts opening whole text
opening_starts whole text e none = rw e (record { makes = λ tail s. lexes_opening none s; only = λ tokens s. opening_only text tokens none s })

-- ---- right parentheses

closing_only : (text : List ℕ) (tokens : List Token) → Lexes (right_byte ∷ text) tokens → (tail : List Token) × (tokens ≡ closing ∷ tail) × Lexes text tail
closing_only text tokens s = elim (lexed_at right_byte text tokens s) [
  | at_space q t ↦ absurd ((no_space right_byte q).2 refl)
  | at_line line more f g q t ↦ absurd (omega (arith, f))
  | at_last_line line f g q h ↦ absurd (omega (arith, f))
  | at_comment more rest f g q t ↦ absurd (omega (arith, f))
  | at_opening tail f q t h ↦ absurd (omega (arith, f))
  | at_closing tail f t h ↦ (tail, h, t)
  | at_quoted content more tail f q t h ↦ absurd (omega (arith, f))
  | at_word more rest tail q r u g t h ↦ absurd (q.not_right refl)
]

pub closing_starts : (whole text : List ℕ) → whole ≡ right_byte ∷ text → Starts closing whole text
closing_starts whole text e = rw e (record { makes = λ tail s. lexes_closing s; only = λ tokens s. closing_only text tokens s })

-- ---- strings

quote_is : (text : List ℕ) (tokens : List Token) → Lexes (quote_byte ∷ text) tokens → (content : List ℕ) × (more : List ℕ) × (tail : List Token) × IsQuotedBefore content text more × Lexes more tail × (tokens ≡ quoted content ∷ tail)
quote_is text tokens s = elim (lexed_at quote_byte text tokens s) [
  | at_space q t ↦ absurd ((no_space quote_byte q).3 refl)
  | at_line line more f g q t ↦ absurd (omega (arith, f))
  | at_last_line line f g q h ↦ absurd (omega (arith, f))
  | at_comment more rest f g q t ↦ absurd (omega (arith, f))
  | at_opening tail f q t h ↦ absurd (omega (arith, f))
  | at_closing tail f t h ↦ absurd (omega (arith, f))
  | at_quoted content more tail f q t h ↦ (content, more, tail, q, t, h)
  | at_word more rest tail q r u g t h ↦ absurd (q.not_quote refl)
]

quoted_makes : (text content more : List ℕ) (tail : List Token) → IsQuotedBefore content text more → Lexes more tail → Lexes (quote_byte ∷ text) (quoted content ∷ tail)
quoted_makes text content more tail (inner, p, e) s = rw e (lexes_quoted inner p s)

quoted_only : (text content more : List ℕ) (tokens : List Token) → ((other rest : List ℕ) → IsQuotedBefore other text rest → (other ≡ content) × (rest ≡ more)) → Lexes (quote_byte ∷ text) tokens → (tail : List Token) × (tokens ≡ quoted content ∷ tail) × Lexes more tail
quoted_only text content more tokens only s =
    let h = quote_is text tokens s in
    let one = only h.0 h.1 h.3 in
    (h.2, h.5 ∙ ap (λ (z : List ℕ). quoted z ∷ h.2) one.0, subst (λ (z : List ℕ). Lexes z h.2) one.1 h.4)

pub quoted_starts : (whole text content more : List ℕ) → whole ≡ quote_byte ∷ text → IsQuotedBefore content text more → ((other rest : List ℕ) → IsQuotedBefore other text rest → (other ≡ content) × (rest ≡ more)) → Starts (quoted content) whole more
quoted_starts whole text content more e found only = rw e (record { makes = λ tail s. quoted_makes text content more tail found s; only = λ tokens s. quoted_only text content more tokens only s })

pub quoted_none : (whole text : List ℕ) → whole ≡ quote_byte ∷ text → ((content more : List ℕ) → IsQuotedBefore content text more → ⊥) → HasNoTokens whole
quoted_none whole text e none = λ tokens s. let h = quote_is text tokens (subst (λ (z : List ℕ). Lexes z tokens) e s) in none h.0 h.1 h.3

-- ---- words

word_is : (byte : ℕ) (text : List ℕ) (tokens : List Token) → IsWordByte byte → Lexes (byte ∷ text) tokens → (more : List ℕ) × (rest : List ℕ) × (tail : List Token) × All IsWordByte more × BeginsWithNo IsWordByte rest × (text ≡ more ++ rest) × Lexes rest tail × (tokens ≡ word (byte ∷ more) ∷ tail)
word_is byte text tokens p s = elim (lexed_at byte text tokens s) [
  | at_space q t ↦ absurd ((no_space byte q).4 p)
  | at_line line more f g q t ↦ absurd (p.not_semicolon f)
  | at_last_line line f g q h ↦ absurd (p.not_semicolon f)
  | at_comment more rest f g q t ↦ absurd (p.not_left f)
  | at_opening tail f q t h ↦ absurd (p.not_left f)
  | at_closing tail f t h ↦ absurd (p.not_right f)
  | at_quoted content more tail f q t h ↦ absurd (p.not_quote f)
  | at_word more rest tail q r u g t h ↦ (more, rest, tail, r, u, g, t, h)
]

begins_none : (byte : ℕ) (text rest : List ℕ) → IsWordByte byte → BeginsWithNo IsWordByte rest → byte ∷ text ≡ rest → ⊥
begins_none byte text [] p none e = cc
begins_none byte text (b ∷ rest) p none e = let same : byte ≡ b = cc in none (subst IsWordByte same p)

-- The longest run of bytes of words is one.
run_once : (more other rest behind : List ℕ) → All IsWordByte more → All IsWordByte other → BeginsWithNo IsWordByte rest → BeginsWithNo IsWordByte behind → more ++ rest ≡ other ++ behind → (more ≡ other) × (rest ≡ behind)
run_once [] [] rest behind p q r u e = (refl, e)
run_once [] (b ∷ other) rest behind p q r u e = absurd (begins_none b (other ++ behind) rest (all_head IsWordByte b other q) r (sym e))
run_once (a ∷ more) [] rest behind p q r u e = absurd (begins_none a (more ++ rest) behind (all_head IsWordByte a more p) u e)
run_once (a ∷ more) (b ∷ other) rest behind p q r u e =
    let same : a ≡ b = cc in
    let tails : more ++ rest ≡ other ++ behind = cc in
    let one = run_once more other rest behind (all_tail IsWordByte a more p) (all_tail IsWordByte b other q) r u tails in
    (let f = one.0 in cc, one.1)

word_only : (byte : ℕ) (more rest : List ℕ) (tokens : List Token) → IsWordByte byte → All IsWordByte more → BeginsWithNo IsWordByte rest → Lexes (byte ∷ (more ++ rest)) tokens → (tail : List Token) × (tokens ≡ word (byte ∷ more) ∷ tail) × Lexes rest tail
word_only byte more rest tokens p q r s =
    let h = word_is byte (more ++ rest) tokens p s in
    let one = run_once more h.0 rest h.1 q h.3 r h.4 h.5 in
    (h.2, h.7 ∙ ap (λ (z : List ℕ). word (byte ∷ z) ∷ h.2) (sym one.0), subst (λ (z : List ℕ). Lexes z h.2) (sym one.1) h.6)

pub word_starts : (whole run rest : List ℕ) → whole ≡ run ++ rest → 0 < length run → All IsWordByte run → BeginsWithNo IsWordByte rest → Starts (word run) whole rest
word_starts whole [] rest e some p r = absurd (omega arith)
word_starts whole (byte ∷ more) rest e some p r = rw e (record {
  makes = λ tail s. lexes_word (all_head IsWordByte byte more p) (all_tail IsWordByte byte more p) r s;
  only = λ tokens s. word_only byte more rest tokens (all_head IsWordByte byte more p) (all_tail IsWordByte byte more p) r s;
})
