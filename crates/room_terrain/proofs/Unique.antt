-- A text names one room at most.
use Rattle.std.proofs.Common.{◌≡◌, ℕ, ◌+◌, ◌≤◌, ℤ, pos, negsuc, List, [], ◌∷◌, ◌++◌, drop, decimal, Some, slice_get, sym, subst, ap, ◌∙◌, refl, inl, inr, append-nil, arith}
use Rattle.std.proofs.lemmas.Bool.{cases_eq}
use Rattle.room_terrain.specs.Names.{EndsNumber, IsSideInRange, side_text, name_text, IsInRange, Names}
use Rattle.room_terrain.specs.declared.name.RoomName.{RoomName}
use Rattle.room_terrain.proofs.Digits.{by_digits, NoDigit, no_digit, zero_alone, one_digit, two_digits, three_digits}

-- a number is told from what follows it
one_number : (m n : ℕ) (r s : List ℕ) → m ≤ 127 → n ≤ 127 → EndsNumber r → EndsNumber s → decimal m ++ r ≡ decimal n ++ s → (m ≡ n) × (r ≡ s)
one_number m n r s most most' ends ends' =
    let at : (t : List ℕ) (i x : ℕ) → t ≡ decimal n ++ s → slice_get t i ≡ Some x → slice_get (decimal n ++ s) i ≡ Some x = λ t i x e h. subst (λ (t : List ℕ). slice_get t i ≡ Some x) e h in
    let none : (t : List ℕ) (i : ℕ) → t ≡ decimal n ++ s → NoDigit t i → NoDigit (decimal n ++ s) i = λ t i e h. subst (λ (t : List ℕ). NoDigit t i) e h in
    by_digits (λ m ds. ds ++ r ≡ decimal n ++ s → (m ≡ n) × (r ≡ s))
    (λ a small e. elim (cases_eq a 0) [
      | inl zero ↦
          let only = zero_alone n s most' (at _ 0 48 e (ap (λ (k : ℕ). Some (48 + k)) zero)) in
          (zero ∙ only.0, ap (drop 1) e ∙ only.1)
      | inr more ↦
          let only = one_digit n s a most' (omega arith) (at _ 0 (48 + a) e refl) (none _ 1 e (λ d low. no_digit r d ends low)) in
          (only.0, ap (drop 1) e ∙ only.1)
    ])
    (λ a b positive small low e.
    let only = two_digits n s a b most' ends' low (at _ 0 (48 + a) e refl) (at _ 1 (48 + b) e refl) (none _ 2 e (λ d below. no_digit r d ends below)) in
    (only.0, ap (drop 2) e ∙ only.1))
    (λ b c small low most e.
    let only = three_digits n s 1 b c most' ends' small low (at _ 0 49 e refl) (at _ 1 (48 + b) e refl) (at _ 2 (48 + c) e refl) in
    (only.2, ap (drop 3) e ∙ only.3))
    m most

behind : (x y : ℕ) (xs ys : List ℕ) → x ∷ xs ≡ y ∷ ys → xs ≡ ys
behind x y xs ys e = cc

-- a side is told from what follows it
one_side : (before after : ℕ) (a b : ℤ) (r s : List ℕ) → (before ≡ after → ⊥) → IsSideInRange a → IsSideInRange b → EndsNumber r → EndsNumber s → side_text before after a ++ r ≡ side_text before after b ++ s → (a ≡ b) × (r ≡ s)
one_side before after (pos m) (pos n) r s differ most most' ends ends' e =
    let same = one_number m n r s most most' ends ends' (behind after after _ _ e) in
    (ap pos same.0, same.1)
one_side before after (pos m) (negsuc n) r s differ most most' ends ends' e = absurd (differ cc)
one_side before after (negsuc m) (pos n) r s differ most most' ends ends' e = absurd (differ cc)
one_side before after (negsuc m) (negsuc n) r s differ most most' ends ends' e =
    let same = one_number m n r s most most' ends ends' (behind before before _ _ e) in
    (ap negsuc same.0, same.1)

-- a row begins with a letter
pub row_ends : (row : ℤ) → EndsNumber (side_text 78 83 row)
row_ends (pos n) = λ _. omega arith
row_ends (negsuc n) = λ _. omega arith

pub text_ends : EndsNumber []
text_ends = λ h. omega arith

pub name_text_injective : (a b : RoomName) → IsInRange a → IsInRange b → name_text a ≡ name_text b → a ≡ b
name_text_injective a b within within' e =
    let columns = one_side 87 69 a.column b.column _ _ (λ h. omega arith) within.column within'.column (row_ends a.row) (row_ends b.row) e in
    let rows = one_side 78 83 a.row b.row [] [] (λ h. omega arith) within.row within'.row text_ends text_ends (append-nil _ ∙ columns.1 ∙ sym (append-nil _)) in
    λ i. record { column = columns.0 i; row = rows.0 i }

pub one_name : (text : List ℕ) (a b : RoomName) → Names text a → Names text b → a ≡ b
one_name text a b named named' = name_text_injective a b named.in_range named'.in_range (sym named.spelled ∙ named'.spelled)
