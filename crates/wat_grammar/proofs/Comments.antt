-- Comments in parentheses, read from the front.
use Rattle.std.proofs.Common.{◌≡◌, ◌↔◌, ℕ, zero, suc, ◌+◌, ◌<◌, List, [], ◌∷◌, ◌++◌, refl, sym, ap, subst, arith}
use Rattle.wat_grammar.specs.Tokens.{BeginsWithNo, EndsComments, comments_ended, comment_ends, comment_begins, comment_goes_on, left_byte, right_byte, semicolon}
use Rattle.wat_grammar.specs.Fronts.{EndsBefore, GoesOnAt}

-- No comment that is open ends in the empty text.
pub never_empty : (count : ℕ) (more : List ℕ) → EndsBefore (suc count) [] more → ⊥
never_empty count more ([], s, e) = elim s [ ]
never_empty count more (byte ∷ comment, s, e) = cc

pub ended : (text more : List ℕ) → EndsBefore 0 text more → more ≡ text
ended text more (comment, comments_ended, e) = sym e

pub ended_here : (text : List ℕ) → EndsBefore 0 text text
ended_here text = ([], comments_ended, refl)

-- A text that goes on with comments is not empty, so what it begins with no byte of, the whole begins with none of.
not_at : (P : ℕ → Type 0) (count byte : ℕ) (text more rest : List ℕ) → EndsComments (suc count) text → byte ∷ rest ≡ text ++ more → BeginsWithNo P text → P byte → ⊥
not_at P count byte [] more rest s e none is = elim s [ ]
not_at P count byte (first ∷ text) more rest s e none is = let same : first ≡ byte = cc in none (subst P (sym same) is)

no_next : (P : ℕ → Type 0) (count : ℕ) (text rest more : List ℕ) → EndsComments (suc count) text → rest ≡ text ++ more → BeginsWithNo P rest → BeginsWithNo P text
no_next P count [] rest more s e none = tt
no_next P count (first ∷ text) [] more s e none = absurd (cc)
no_next P count (first ∷ text) (byte ∷ rest) more s e none = λ is. let same : first ≡ byte = cc in none (subst P same is)

-- ---- an end

end_back : (count : ℕ) (text more : List ℕ) → EndsBefore count text more → EndsBefore (suc count) (semicolon ∷ right_byte ∷ text) more
end_back count text more (comment, s, e) = (semicolon ∷ right_byte ∷ comment, comment_ends s, ap (λ (z : List ℕ). semicolon ∷ right_byte ∷ z) e)

end_there : (count : ℕ) (text more comment : List ℕ) → EndsComments (suc count) comment → semicolon ∷ right_byte ∷ text ≡ comment ++ more → EndsBefore count text more
end_there count text more comment (comment_ends {text = inner} s) e = let tails : text ≡ inner ++ more = cc in (inner, s, tails)
end_there count text more comment (comment_begins s) e = let bad : semicolon ≡ left_byte = cc in absurd (omega (arith, bad))
end_there count text more comment (comment_goes_on {byte = byte} {text = inner} no_end no_begin s) e =
    let same : byte ≡ semicolon = cc in
    let tails : right_byte ∷ text ≡ inner ++ more = cc in
    absurd (not_at (λ next. next ≡ right_byte) count right_byte inner more text s tails (no_end same) refl)

pub end_alike : (count : ℕ) (text more : List ℕ) → EndsBefore (suc count) (semicolon ∷ right_byte ∷ text) more ↔ EndsBefore count text more
end_alike count text more = (λ (comment, s, e). end_there count text more comment s e, end_back count text more)

-- ---- a begin

begin_back : (count : ℕ) (text more : List ℕ) → EndsBefore (suc (suc count)) text more → EndsBefore (suc count) (left_byte ∷ semicolon ∷ text) more
begin_back count text more (comment, s, e) = (left_byte ∷ semicolon ∷ comment, comment_begins s, ap (λ (z : List ℕ). left_byte ∷ semicolon ∷ z) e)

begin_there : (count : ℕ) (text more comment : List ℕ) → EndsComments (suc count) comment → left_byte ∷ semicolon ∷ text ≡ comment ++ more → EndsBefore (suc (suc count)) text more
begin_there count text more comment (comment_begins {text = inner} s) e = let tails : text ≡ inner ++ more = cc in (inner, s, tails)
begin_there count text more comment (comment_ends s) e = let bad : left_byte ≡ semicolon = cc in absurd (omega (arith, bad))
begin_there count text more comment (comment_goes_on {byte = byte} {text = inner} no_end no_begin s) e =
    let same : byte ≡ left_byte = cc in
    let tails : semicolon ∷ text ≡ inner ++ more = cc in
    absurd (not_at (λ next. next ≡ semicolon) count semicolon inner more text s tails (no_begin same) refl)

pub begin_alike : (count : ℕ) (text more : List ℕ) → EndsBefore (suc count) (left_byte ∷ semicolon ∷ text) more ↔ EndsBefore (suc (suc count)) text more
begin_alike count text more = (λ (comment, s, e). begin_there count text more comment s e, begin_back count text more)

-- ---- a byte of a comment

byte_back : (count byte : ℕ) (text more : List ℕ) → GoesOnAt byte text → EndsBefore (suc count) text more → EndsBefore (suc count) (byte ∷ text) more
byte_back count byte text more goes (comment, s, e) = (
  byte ∷ comment,
  comment_goes_on (λ same. no_next (λ next. next ≡ right_byte) count comment text more s e (goes.0 same)) (λ same. no_next (λ next. next ≡ semicolon) count comment text more s e (goes.1 same)) s,
  ap (λ (z : List ℕ). byte ∷ z) e,
)

byte_there : (count byte : ℕ) (text more comment : List ℕ) → GoesOnAt byte text → EndsComments (suc count) comment → byte ∷ text ≡ comment ++ more → EndsBefore (suc count) text more
byte_there count byte text more comment goes (comment_goes_on {text = inner} no_end no_begin s) e = let tails : text ≡ inner ++ more = cc in (inner, s, tails)
byte_there count byte text more comment goes (comment_ends {text = inner} s) e =
    let same : byte ≡ semicolon = cc in
    let tails : text ≡ right_byte ∷ (inner ++ more) = cc in
    let none : BeginsWithNo (λ next. next ≡ right_byte) (right_byte ∷ (inner ++ more)) = subst (BeginsWithNo (λ next. next ≡ right_byte)) tails (goes.0 same) in
    absurd (none refl)
byte_there count byte text more comment goes (comment_begins {text = inner} s) e =
    let same : byte ≡ left_byte = cc in
    let tails : text ≡ semicolon ∷ (inner ++ more) = cc in
    let none : BeginsWithNo (λ next. next ≡ semicolon) (semicolon ∷ (inner ++ more)) = subst (BeginsWithNo (λ next. next ≡ semicolon)) tails (goes.1 same) in
    absurd (none refl)

pub byte_alike : (count byte : ℕ) (text more : List ℕ) → GoesOnAt byte text → EndsBefore (suc count) (byte ∷ text) more ↔ EndsBefore (suc count) text more
byte_alike count byte text more goes = (λ (comment, s, e). byte_there count byte text more comment goes s e, byte_back count byte text more goes)

-- ---- a comment as the loop reads it

-- Wherever the one comments end within the one text, the others end within the other, and the other way round.
abbrev pub CommentsAlike : ℕ → List ℕ → ℕ → List ℕ → Type 0
CommentsAlike count text other_count other = (more : List ℕ) → EndsBefore count text more ↔ EndsBefore other_count other more

pub alike_behind : (a b c : ℕ) (s t u : List ℕ) → CommentsAlike a s b t → CommentsAlike b t c u → CommentsAlike a s c u
alike_behind a b c s t u f g = λ more. (λ x. (g more).0 ((f more).0 x), λ x. (f more).1 ((g more).1 x))

pub at_end : (count depth : ℕ) (front rest : List ℕ) → depth ≡ suc count → front ≡ semicolon ∷ right_byte ∷ rest → CommentsAlike depth front count rest
at_end count depth front rest one e = rw (one, e) (end_alike count rest)

pub at_begin : (depth : ℕ) (front rest : List ℕ) → 0 < depth → front ≡ left_byte ∷ semicolon ∷ rest → CommentsAlike depth front (depth + 1) rest
at_begin zero front rest some e = absurd (omega arith)
at_begin (suc count) front rest some e = let one : suc count + 1 ≡ suc (suc count) = omega arith in rw (one, e) (begin_alike count rest)

pub at_byte : (depth byte : ℕ) (front rest : List ℕ) → 0 < depth → front ≡ byte ∷ rest → GoesOnAt byte rest → CommentsAlike depth front depth rest
at_byte zero byte front rest some e goes = absurd (omega arith)
at_byte (suc count) byte front rest some e goes = rw e (λ more. byte_alike count byte rest more goes)

pub no_text : (depth : ℕ) (front more : List ℕ) → 0 < depth → front ≡ [] → EndsBefore depth front more → ⊥
no_text zero front more some e s = absurd (omega arith)
no_text (suc count) front more some e s = never_empty count more (subst (λ (z : List ℕ). EndsBefore (suc count) z more) e s)
