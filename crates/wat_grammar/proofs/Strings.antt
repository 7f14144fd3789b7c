-- Strings, read from the front, part by part.
use Rattle.std.proofs.Common.{◌≡◌, ◌≢◌, ℕ, ◌+◌, ◌*◌, List, [], ◌∷◌, ◌++◌, Some, None, refl, sym, ap, ◌∙◌, subst, arith}
use Rattle.std.proofs.lemmas.List.{append-nil, append_assoc, append_cancel_right}
use Rattle.std.proofs.lemmas.Option.{same_Some}
use Rattle.std.proofs.lemmas.Bool.Decides.{nat_tests}
use Rattle.wat_grammar.specs.Tokens.{escaped, IsPlain, SpellsString, string_end, string_plain, string_escape, string_digits, backslash, digit, quote_byte}
use Rattle.wat_grammar.specs.Fronts.{HasNoPart, IsQuotedBefore, IsPart, part_plain, part_escape, part_digits}

-- ---- one string behind another

pub string_behind : {a b c d : List ℕ} → SpellsString a c → SpellsString b d → SpellsString (a ++ b) (c ++ d)
string_behind string_end t = t
string_behind (string_plain p s) t = string_plain p (string_behind s t)
string_behind (string_escape e s) t = string_escape e (string_behind s t)
string_behind (string_digits h l s) t = string_digits h l (string_behind s t)

pub string_of_part : {part : List ℕ} {value : ℕ} → IsPart part value → SpellsString part (value ∷ [])
string_of_part (part_plain p) = string_plain p string_end
string_of_part (part_escape e) = string_escape e string_end
string_of_part (part_digits h l) = string_digits h l string_end

-- ---- parts are told apart

no_digit : (byte value high : ℕ) → escaped byte ≡ Some value → digit 16 byte ≡ Some high → ⊥
no_digit byte value high e d = grind (arith, nat_tests)

quote_no_digit : (high : ℕ) → digit 16 quote_byte ≡ Some high → ⊥
quote_no_digit high d = absurd (cc)

-- What a string that stands at the front goes on with behind a part.
abbrev pub GoesOnBehind : ℕ → List ℕ → List ℕ → List ℕ → Type 0
GoesOnBehind value rest content more = (tail : List ℕ) × IsQuotedBefore tail rest more × (content ≡ value ∷ tail)

plain_there : (byte : ℕ) (rest inner content more : List ℕ) → IsPlain byte → SpellsString inner content → byte ∷ rest ≡ inner ++ quote_byte ∷ more → GoesOnBehind byte rest content more
plain_there byte rest inner content more p string_end e = let bad : byte ≡ quote_byte = cc in absurd (p.not_quote bad)
plain_there byte rest inner content more p (string_plain {byte = first} {text = text} {content = tail} q s) e =
    let same : first ≡ byte = cc in let tails : rest ≡ text ++ quote_byte ∷ more = cc in (tail, (text, s, tails), ap (λ z. z ∷ tail) same)
plain_there byte rest inner content more p (string_escape {byte = b} {text = text} x s) e = let bad : byte ≡ backslash = cc in absurd (p.not_backslash bad)
plain_there byte rest inner content more p (string_digits h l s) e = let bad : byte ≡ backslash = cc in absurd (p.not_backslash bad)

escape_there : (byte value : ℕ) (rest inner content more : List ℕ) → escaped byte ≡ Some value → SpellsString inner content → backslash ∷ byte ∷ rest ≡ inner ++ quote_byte ∷ more → GoesOnBehind value rest content more
escape_there byte value rest inner content more x string_end e = let bad : backslash ≡ quote_byte = cc in absurd (omega (arith, bad))
escape_there byte value rest inner content more x (string_plain {byte = first} q s) e = let bad : first ≡ backslash = cc in absurd (q.not_backslash bad)
escape_there byte value rest inner content more x (string_escape {byte = b} {value = v} {text = text} {content = tail} y s) e =
    let same : b ≡ byte = cc in
    let tails : rest ≡ text ++ quote_byte ∷ more = cc in
    let one : v ≡ value = same_Some v value (sym y ∙ ap escaped same ∙ x) in
    (tail, (text, s, tails), ap (λ z. z ∷ tail) one)
escape_there byte value rest inner content more x (string_digits {first = f} {high = high} h l s) e =
    let same : f ≡ byte = cc in absurd (no_digit byte value high x (subst (λ z. digit 16 z ≡ Some high) same h))

digits_there : (first second high low : ℕ) (rest inner content more : List ℕ) → digit 16 first ≡ Some high → digit 16 second ≡ Some low → SpellsString inner content → backslash ∷ first ∷ second ∷ rest ≡ inner ++ quote_byte ∷ more → GoesOnBehind (16 * high + low) rest content more
digits_there first second high low rest inner content more h l string_end e = let bad : backslash ≡ quote_byte = cc in absurd (omega (arith, bad))
digits_there first second high low rest inner content more h l (string_plain {byte = b} q s) e = let bad : b ≡ backslash = cc in absurd (q.not_backslash bad)
digits_there first second high low rest inner content more h l (string_escape {byte = b} {value = v} y s) e =
    let same : b ≡ first = cc in absurd (no_digit first v high (subst (λ z. escaped z ≡ Some v) same y) h)
digits_there first second high low rest inner content more h l (string_digits {first = a} {second = b} {high = i} {low = j} {text = text} {content = tail} g k s) e =
    let one : a ≡ first = cc in
    let two : b ≡ second = cc in
    let tails : rest ≡ text ++ quote_byte ∷ more = cc in
    let same_high : i ≡ high = same_Some i high (sym g ∙ ap (digit 16) one ∙ h) in
    let same_low : j ≡ low = same_Some j low (sym k ∙ ap (digit 16) two ∙ l) in
    (tail, (text, s, tails), let same : 16 * i + j ≡ 16 * high + low = cc in ap (λ z. z ∷ tail) same)

part_there : (part rest content more : List ℕ) (value : ℕ) → IsPart part value → IsQuotedBefore content (part ++ rest) more → GoesOnBehind value rest content more
part_there part rest content more value (part_plain {byte = byte} p) (inner, s, e) = plain_there byte rest inner content more p s e
part_there part rest content more value (part_escape {byte = byte} x) (inner, s, e) = escape_there byte value rest inner content more x s e
part_there part rest content more value (part_digits {first = f} {second = g} {high = i} {low = j} h l) (inner, s, e) = digits_there f g i j rest inner content more h l s e

-- Behind the part the string goes on as its tail.
pub part_behind : (front part rest text content more : List ℕ) (value : ℕ) → IsPart part value → text ≡ part ++ rest → ((tail : List ℕ) × IsQuotedBefore tail text more × (content ≡ front ++ tail)) → (tail : List ℕ) × IsQuotedBefore tail rest more × (content ≡ (front ++ value ∷ []) ++ tail)
part_behind front part rest text content more value p e (tail, q, f) =
    let t = part_there part rest tail more value p (subst (λ (z : List ℕ). IsQuotedBefore tail z more) e q) in
    (t.0, t.1, f ∙ ap (λ (z : List ℕ). front ++ z) t.2 ∙ sym (append_assoc front (value ∷ []) t.0))

-- ---- the end of a string

quote_there : (rest inner content more : List ℕ) → SpellsString inner content → quote_byte ∷ rest ≡ inner ++ quote_byte ∷ more → (content ≡ []) × (more ≡ rest)
quote_there rest inner content more string_end e = let tails : more ≡ rest = cc in (refl, tails)
quote_there rest inner content more (string_plain {byte = first} q s) e = let bad : first ≡ quote_byte = cc in absurd (q.not_quote bad)
quote_there rest inner content more (string_escape x s) e = let bad : quote_byte ≡ backslash = cc in absurd (omega (arith, bad))
quote_there rest inner content more (string_digits h l s) e = let bad : quote_byte ≡ backslash = cc in absurd (omega (arith, bad))

pub at_quote : (front rest text content more : List ℕ) → text ≡ quote_byte ∷ rest → ((tail : List ℕ) × IsQuotedBefore tail text more × (content ≡ front ++ tail)) → (content ≡ front) × (more ≡ rest)
at_quote front rest text content more e (tail, (inner, s, g), f) =
    let t = quote_there rest inner tail more s (sym e ∙ g) in
    (f ∙ ap (λ (z : List ℕ). front ++ z) t.0 ∙ append-nil front, t.1)

-- ---- no string

string_none : (text inner content more : List ℕ) → HasNoPart text → SpellsString inner content → text ≡ inner ++ quote_byte ∷ more → (rest : List ℕ) × (text ≡ quote_byte ∷ rest)
string_none text inner content more none string_end e = (more, e)
string_none text inner content more none (string_plain {byte = byte} {text = rest} q s) e = absurd (none (byte ∷ []) (rest ++ quote_byte ∷ more) byte e (part_plain q))
string_none text inner content more none (string_escape {byte = byte} {value = value} {text = rest} x s) e = absurd (none (backslash ∷ byte ∷ []) (rest ++ quote_byte ∷ more) value e (part_escape x))
string_none text inner content more none (string_digits {first = f} {second = g} {high = i} {low = j} {text = rest} h l s) e = absurd (none (backslash ∷ f ∷ g ∷ []) (rest ++ quote_byte ∷ more) (16 * i + j) e (part_digits h l))

pub no_string : (text content more : List ℕ) → HasNoPart text → ((rest : List ℕ) → text ≡ quote_byte ∷ rest → ⊥) → IsQuotedBefore content text more → ⊥
no_string text content more none no_quote (inner, s, e) = let t = string_none text inner content more none s e in no_quote t.0 t.1

-- What would make a part of a backslash and this text.
abbrev pub EscapesNothing : List ℕ → Type 0
EscapesNothing text =
    ((byte value : ℕ) (rest : List ℕ) → text ≡ byte ∷ rest → escaped byte ≡ Some value → ⊥)
    × ((byte other high low : ℕ) (rest : List ℕ) → text ≡ byte ∷ other ∷ rest → digit 16 byte ≡ Some high → digit 16 other ≡ Some low → ⊥)

no_plain : (first value : ℕ) (text part rest : List ℕ) → (IsPlain first → ⊥) → (first ≡ backslash → EscapesNothing text) → first ∷ text ≡ part ++ rest → IsPart part value → ⊥
no_plain first value text part rest p x e (part_plain {byte = byte} q) = let same : byte ≡ first = cc in p (subst IsPlain same q)
no_plain first value text part rest p x e (part_escape {byte = byte} y) = let same : first ≡ backslash = cc in let tails : text ≡ byte ∷ rest = cc in (x same).0 byte value rest tails y
no_plain first value text part rest p x e (part_digits {first = f} {second = g} {high = i} {low = j} h l) =
    let same : first ≡ backslash = cc in let tails : text ≡ f ∷ g ∷ rest = cc in (x same).1 f g i j rest tails h l

no_part : (whole text : List ℕ) (first : ℕ) → whole ≡ first ∷ text → (IsPlain first → ⊥) → (first ≡ backslash → EscapesNothing text) → HasNoPart whole
no_part whole text first e p x = λ part rest value f q. no_plain first value text part rest p x (sym e ∙ f) q

backslash_not_plain : (first : ℕ) → first ≡ backslash → IsPlain first → ⊥
backslash_not_plain first e p = p.not_backslash e

pub no_part_byte : (whole text : List ℕ) (first : ℕ) → whole ≡ first ∷ text → (IsPlain first → ⊥) → first ≢ backslash → HasNoPart whole
no_part_byte whole text first e p other = no_part whole text first e p (λ same. absurd (other same))

pub no_part_alone : (whole text : List ℕ) (first : ℕ) → whole ≡ first ∷ text → first ≡ backslash → text ≡ [] → HasNoPart whole
no_part_alone whole text first e same none = no_part whole text first e (backslash_not_plain first same) (λ _. (λ byte value rest f x. cc, λ byte other high low rest f h l. cc))

pub no_part_short : (whole text more : List ℕ) (first byte : ℕ) → whole ≡ first ∷ text → first ≡ backslash → text ≡ byte ∷ more → escaped byte ≡ None → more ≡ [] → HasNoPart whole
no_part_short whole text more first byte e same t x none = no_part whole text first e (backslash_not_plain first same)
    (λ _. (λ b value rest f y. let one : byte ≡ b = cc in let two : escaped byte ≡ Some value = ap escaped one ∙ y in cc, λ b other high low rest f h l. cc))

pub no_part_first : (whole text more : List ℕ) (first byte : ℕ) → whole ≡ first ∷ text → first ≡ backslash → text ≡ byte ∷ more → escaped byte ≡ None → digit 16 byte ≡ None → HasNoPart whole
no_part_first whole text more first byte e same t x d = no_part whole text first e (backslash_not_plain first same)
    (λ _. (
      λ b value rest f y. let one : byte ≡ b = cc in let two : escaped byte ≡ Some value = ap escaped one ∙ y in cc,
      λ b other high low rest f h l. let one : byte ≡ b = cc in let two : digit 16 byte ≡ Some high = ap (digit 16) one ∙ h in cc,
    ))

pub no_part_second : (whole text more : List ℕ) (first byte second : ℕ) → whole ≡ first ∷ text → first ≡ backslash → text ≡ byte ∷ second ∷ more → escaped byte ≡ None → digit 16 second ≡ None → HasNoPart whole
no_part_second whole text more first byte second e same t x d = no_part whole text first e (backslash_not_plain first same)
    (λ _. (
      λ b value rest f y. let one : byte ≡ b = cc in let two : escaped byte ≡ Some value = ap escaped one ∙ y in cc,
      λ b other high low rest f h l. let one : second ≡ other = cc in let two : digit 16 second ≡ Some low = ap (digit 16) one ∙ l in cc,
    ))

never : (inner more : List ℕ) → [] ≡ inner ++ quote_byte ∷ more → ⊥
never [] more e = cc
never (byte ∷ inner) more e = cc

pub never_quoted : (text content more : List ℕ) → text ≡ [] → IsQuotedBefore content text more → ⊥
never_quoted text content more none (inner, s, e) = never inner more (sym none ∙ e)

-- ---- a whole string, part by part

-- A string that is spelled whole ends before a quotation mark that is put behind it.
quoted_whole : (inner content : List ℕ) → SpellsString inner content → IsQuotedBefore content (inner ++ quote_byte ∷ []) []
quoted_whole inner content s = (inner, s, refl)

whole_again : (inner content : List ℕ) → IsQuotedBefore content (inner ++ quote_byte ∷ []) [] → SpellsString inner content
whole_again inner content (other, s, e) = subst (λ (z : List ℕ). SpellsString z content) (sym (append_cancel_right inner other (quote_byte ∷ []) e)) s

-- Behind the part the string goes on as its tail.
pub whole_behind : (front part rest text content : List ℕ) (value : ℕ) → IsPart part value → text ≡ part ++ rest → ((tail : List ℕ) × SpellsString text tail × (content ≡ front ++ tail)) → (tail : List ℕ) × SpellsString rest tail × (content ≡ (front ++ value ∷ []) ++ tail)
whole_behind front part rest text content value p e (tail, s, f) =
    let g : text ++ quote_byte ∷ [] ≡ part ++ (rest ++ quote_byte ∷ []) = ap (λ (z : List ℕ). z ++ quote_byte ∷ []) e ∙ append_assoc part rest (quote_byte ∷ []) in
    let t = part_behind front part (rest ++ quote_byte ∷ []) (text ++ quote_byte ∷ []) content [] value p g (tail, quoted_whole text tail s, f) in
    (t.0, whole_again rest t.0 t.1, t.2)

nothing_spelled : (inner content : List ℕ) → inner ≡ [] → SpellsString inner content → content ≡ []
nothing_spelled inner content e string_end = refl
nothing_spelled inner content e (string_plain q s) = cc
nothing_spelled inner content e (string_escape x s) = cc
nothing_spelled inner content e (string_digits h l s) = cc

pub whole_over : (front text content : List ℕ) → text ≡ [] → ((tail : List ℕ) × SpellsString text tail × (content ≡ front ++ tail)) → content ≡ front
whole_over front text content e (tail, s, f) = f ∙ ap (λ (z : List ℕ). front ++ z) (nothing_spelled text tail e s) ∙ append-nil front

pub part_is_there : (text content : List ℕ) → SpellsString text content → HasNoPart text → text ≡ []
part_is_there text content string_end none = refl
part_is_there text content (string_plain {byte = byte} {text = rest} q s) none = absurd (none (byte ∷ []) rest byte refl (part_plain q))
part_is_there text content (string_escape {byte = byte} {value = value} {text = rest} x s) none = absurd (none (backslash ∷ byte ∷ []) rest value refl (part_escape x))
part_is_there text content (string_digits {first = f} {second = g} {high = i} {low = j} {text = rest} h l s) none = absurd (none (backslash ∷ f ∷ g ∷ []) rest (16 * i + j) refl (part_digits h l))
