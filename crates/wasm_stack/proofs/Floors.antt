-- Operands above a floor, and those below it.
use Rattle.std.proofs.Common.{◌≡◌, ℕ, zero, suc, ◌+◌, ◌-◌, ◌<◌, ◌≤◌, List, [], ◌∷◌, ◌++◌, length, get_or, take, drop, refl, ap, sym, ◌∙◌, arith, length-append, length-drop}
use Rattle.std.proofs.lemmas.List.{append-nil, take-append-drop, take-append-le, drop-append-le, length-take-le}
use Rattle.std.proofs.Math.Seq.{take-append-add, drop-append-add, take-length, drop-length}
use Rattle.wasm_stack.specs.View.{above, below}

pub above_below : (n : ℕ) (xs : List ℕ) → above n xs ++ below n xs ≡ xs
above_below n xs = take-append-drop (length xs - n) xs

pub length_above : (n : ℕ) (xs : List ℕ) → n ≤ length xs → length (above n xs) ≡ length xs - n
length_above n xs h = length-take-le (length xs - n) xs (omega arith)

pub length_below : (n : ℕ) (xs : List ℕ) → n ≤ length xs → length (below n xs) ≡ n
length_below n xs h = let e : length (drop (length xs - n) xs) ≡ length xs - (length xs - n) = length-drop (length xs - n) xs in omega arith

pub above_append : (n : ℕ) (xs ys : List ℕ) → n ≤ length ys → above n (xs ++ ys) ≡ xs ++ above n ys
above_append n xs ys h =
    let e : length (xs ++ ys) - n ≡ length xs + (length ys - n) = omega (arith, length-append xs ys) in
    ap (λ k. take k (xs ++ ys)) e ∙ take-append-add xs ys (length ys - n)

pub below_append : (n : ℕ) (xs ys : List ℕ) → n ≤ length ys → below n (xs ++ ys) ≡ below n ys
below_append n xs ys h =
    let e : length (xs ++ ys) - n ≡ length xs + (length ys - n) = omega (arith, length-append xs ys) in
    ap (λ k. drop k (xs ++ ys)) e ∙ drop-append-add xs ys (length ys - n)

pub below_all : (xs : List ℕ) → below (length xs) xs ≡ xs
below_all xs = let e : length xs - length xs ≡ 0 = omega arith in ap (λ k. drop k xs) e

pub above_all : (xs : List ℕ) → above (length xs) xs ≡ []
above_all xs = let e : length xs - length xs ≡ 0 = omega arith in ap (λ k. take k xs) e

pub below_none : (xs : List ℕ) → below 0 xs ≡ []
below_none xs = let e : length xs - 0 ≡ length xs = omega arith in ap (λ k. drop k xs) e ∙ drop-length xs

pub above_none : (xs : List ℕ) → above 0 xs ≡ xs
above_none xs = let e : length xs - 0 ≡ length xs = omega arith in ap (λ k. take k xs) e ∙ take-length xs

-- where the lower part is known
pub below_at : (n : ℕ) (xs ys : List ℕ) → length ys ≡ n → below n (xs ++ ys) ≡ ys
below_at n xs ys e = below_append n xs ys (omega arith) ∙ ap (λ k. below k ys) (sym e) ∙ below_all ys

pub above_at : (n : ℕ) (xs ys : List ℕ) → length ys ≡ n → above n (xs ++ ys) ≡ xs
above_at n xs ys e = above_append n xs ys (omega arith) ∙ ap (λ k. xs ++ above k ys) (sym e) ∙ ap (λ z. xs ++ z) (above_all ys) ∙ append-nil xs

pub below_below : (m n : ℕ) (xs : List ℕ) → n ≤ m → m ≤ length xs → below n (below m xs) ≡ below n xs
below_below m n xs h k =
    let within : n ≤ length (below m xs) = omega (arith, length_below m xs k) in
    sym (below_append n (above m xs) (below m xs) within) ∙ ap (λ z. below n z) (above_below m xs)

-- fewer operands above
pub above_drop : (n count : ℕ) (xs : List ℕ) → n ≤ length xs → count ≤ length (above n xs) → above n (drop count xs) ≡ drop count (above n xs)
above_drop n count xs h k =
    ap (λ z. above n (drop count z)) (sym (above_below n xs))
    ∙ ap (λ z. above n z) (drop-append-le count (above n xs) (below n xs) k)
    ∙ above_at n (drop count (above n xs)) (below n xs) (length_below n xs h)

pub below_drop : (n count : ℕ) (xs : List ℕ) → n ≤ length xs → count ≤ length (above n xs) → below n (drop count xs) ≡ below n xs
below_drop n count xs h k =
    ap (λ z. below n (drop count z)) (sym (above_below n xs))
    ∙ ap (λ z. below n z) (drop-append-le count (above n xs) (below n xs) k)
    ∙ below_at n (drop count (above n xs)) (below n xs) (length_below n xs h)

pub take_above : (n count : ℕ) (xs : List ℕ) → count ≤ length (above n xs) → take count (above n xs) ≡ take count xs
take_above n count xs k = sym (ap (λ z. take count z) (sym (above_below n xs)) ∙ take-append-le count (above n xs) (below n xs) k)

get_or_front : (i : ℕ) (xs ys : List ℕ) → i < length xs → get_or (xs ++ ys) i 0 ≡ get_or xs i 0
get_or_front i [] ys h = absurd (omega (arith, h))
get_or_front zero (x ∷ xs) ys h = refl
get_or_front (suc i) (x ∷ xs) ys h = get_or_front i xs ys (omega (arith, h))

pub get_above : (n i : ℕ) (xs : List ℕ) → i < length (above n xs) → get_or (above n xs) i 0 ≡ get_or xs i 0
get_above n i xs k = sym (get_or_front i (above n xs) (below n xs) k) ∙ ap (λ z. get_or z i 0) (above_below n xs)

pub above_push : (n v : ℕ) (xs : List ℕ) → n ≤ length xs → above n (v ∷ xs) ≡ v ∷ above n xs
above_push n v xs h = above_append n (v ∷ []) xs h

pub below_push : (n v : ℕ) (xs : List ℕ) → n ≤ length xs → below n (v ∷ xs) ≡ below n xs
below_push n v xs h = below_append n (v ∷ []) xs h
