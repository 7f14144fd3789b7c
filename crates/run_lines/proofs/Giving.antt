-- Texts that are given to a sink in pieces.
use Rattle.std.proofs.Common.{◌≡◌, ℕ, ◌+◌, ◌<◌, List, [], ◌∷◌, ◌++◌, length, take, drop, get_or, Option, Some, None, inl, inr, ap, sym, subst, ◌∙◌, append_assoc, arith}
use Rattle.std.proofs.lemmas.Bool.{cases_lt}
use Rattle.std.proofs.lemmas.Grind.{flat_map-append}
use Rattle.std.proofs.lemmas.List.{append-nil, take-append-drop, take-append-le, take_all, take_more}
use Rattle.std.specs.List.{flat_map}
use Rattle.std.proofs.Math.Seq.{take-append-add}
use Rattle.std.specs.Io.KnownBytes.{Appends}
use Rattle.world_io.specs.Told.{AppendsPrefix}
use Rattle.world_io.proofs.Known.{appends_more}
use Rattle.run_lines.specs.inner.Pieces.{Gives}

pub appends_nothing : (a : Option (List ℕ)) → Appends a a []
appends_nothing None = tt
appends_nothing (Some xs) = sym (append-nil xs)

-- nothing is given, and the text stands in the piece
pub gives_later : (a : Option (List ℕ)) (before text after : List ℕ) → after ≡ before ++ text → Gives a a before after text
gives_later a before text after is = ([], appends_nothing a, sym is)

-- the piece and the text are given
pub gives_both : (a b c : Option (List ℕ)) (before text after : List ℕ) → Appends a b before → Appends b c text → after ≡ [] → Gives a c before after text
gives_both a b c before text after first second none =
    (before ++ text, appends_more a b c before text first second, sym (ap (λ (z : List ℕ). (before ++ text) ++ z) none ∙ append-nil (before ++ text)))

pub gives_none : (a : Option (List ℕ)) (piece : List ℕ) → Gives a a piece piece []
gives_none a piece = gives_later a piece [] piece (sym (append-nil piece))

-- a text behind a text
pub gives_more : (a b c : Option (List ℕ)) (p q r s t : List ℕ) → Gives a b p q s → Gives b c q r t → Gives a c p r (s ++ t)
gives_more a b c p q r s t one other = (
  one.0 ++ other.0,
  appends_more a b c one.0 other.0 one.1 other.1,
  sym (append_assoc p s t) ∙ (ap (λ (z : List ℕ). z ++ t) one.2 ∙ (append_assoc one.0 q t ∙ (ap (λ (z : List ℕ). one.0 ++ z) other.2 ∙ sym (append_assoc one.0 other.0 r)))),
)

-- a part of a text behind a whole one
pub prefix_behind : (a b c : Option (List ℕ)) (xs ys : List ℕ) → Appends a b xs → AppendsPrefix b c ys → AppendsPrefix a c (xs ++ ys)
prefix_behind a b c xs ys whole part =
    (length xs + part.0, subst (Appends a c) (sym (take-append-add xs ys part.0)) (appends_more a b c xs (take part.0 ys) whole part.1))

-- a part of a text is one of a longer text
pub prefix_longer : (a b : Option (List ℕ)) (xs ys : List ℕ) → AppendsPrefix a b xs → AppendsPrefix a b (xs ++ ys)
prefix_longer a b xs ys part = elim (cases_lt part.0 (length xs)) [
  | inl less ↦ (part.0, subst (Appends a b) (sym (take-append-le part.0 xs ys (omega (arith, less)))) part.1)
  | inr more ↦ (length xs, subst (Appends a b) (take_all part.0 xs more ∙ sym (take-append-le (length xs) xs ys (omega arith) ∙ take_all (length xs) xs (omega arith))) part.1)
]

-- a part of what comes behind a text that was given
pub cut_more : (a b c : Option (List ℕ)) (p q s t : List ℕ) → Gives a b p q s → AppendsPrefix b c (q ++ t) → AppendsPrefix a c (p ++ (s ++ t))
cut_more a b c p q s t one part =
    let whole : one.0 ++ (q ++ t) ≡ p ++ (s ++ t) = sym (append_assoc one.0 q t) ∙ (ap (λ (z : List ℕ). z ++ t) (sym one.2) ∙ append_assoc p s t) in
    subst (AppendsPrefix a c) whole (prefix_behind a b c one.0 (q ++ t) one.1 part)

-- ---- texts of a list

-- the text of one more
pub flat_more : {A : Type 0} (f : A → List ℕ) (xs : List A) (x : A) → flat_map f (xs ++ x ∷ []) ≡ flat_map f xs ++ f x
flat_more f xs x = flat_map-append f xs (x ∷ []) ∙ ap (λ (z : List ℕ). flat_map f xs ++ z) (append-nil (f x))

-- the text up to a place, the one there, and those behind it
pub flat_parts : {A : Type 0} (f : A → List ℕ) (xs : List A) (i : ℕ) (d : A) → i < length xs → flat_map f xs ≡ (flat_map f (take i xs) ++ f (get_or xs i d)) ++ flat_map f (drop (i + 1) xs)
flat_parts f xs i d within =
    ap (flat_map f) (sym (take-append-drop (i + 1) xs))
    ∙ (flat_map-append f (take (i + 1) xs) (drop (i + 1) xs)
    ∙ ap (λ (z : List ℕ). z ++ flat_map f (drop (i + 1) xs)) (ap (flat_map f) (take_more xs i d within) ∙ flat_more f (take i xs) (get_or xs i d)))

pub flat_next : {A : Type 0} (f : A → List ℕ) (xs : List A) (i : ℕ) (d : A) → i < length xs → flat_map f (take (i + 1) xs) ≡ flat_map f (take i xs) ++ f (get_or xs i d)
flat_next f xs i d within = ap (flat_map f) (take_more xs i d within) ∙ flat_more f (take i xs) (get_or xs i d)

-- a part of the texts behind those that were given
pub cut_in_list : {A : Type 0} (f : A → List ℕ) (a b c : Option (List ℕ)) (p q : List ℕ) (done : List A) (x : A) (later : List A) → Gives a b p q (flat_map f done) → AppendsPrefix b c (q ++ f x) → AppendsPrefix a c (p ++ flat_map f (done ++ x ∷ later))
cut_in_list f a b c p q done x later one part =
    let whole : (p ++ (flat_map f done ++ f x)) ++ flat_map f later ≡ p ++ flat_map f (done ++ x ∷ later) =
    append_assoc p (flat_map f done ++ f x) (flat_map f later) ∙ ap (λ (z : List ℕ). p ++ z) (append_assoc (flat_map f done) (f x) (flat_map f later) ∙ sym (flat_map-append f done (x ∷ later))) in
    subst (AppendsPrefix a c) whole (prefix_longer a c (p ++ (flat_map f done ++ f x)) (flat_map f later) (cut_more a b c p q (flat_map f done) (f x) one part))
