-- The grounds of a room, tile by tile and row by row.
use Rattle.std.proofs.Common.{◌≡◌, ℕ, zero, suc, ◌+◌, ◌*◌, ◌/◌, ◌^◌, List, [], ◌∷◌, ◌++◌, length, refl, ap, sym, ◌∙◌, append_assoc, append-nil, map-id, length-append, arith}
use Rattle.std.specs.List.{flat_map, range_with_len}
use Rattle.std.proofs.lemmas.List.{flat_map_more}
use Rattle.std.proofs.lemmas.List.FromFn.{map-range_with_len_more, length-map-range_with_len}
use Rattle.room_terrain.specs.declared.terrain.Ground.{Ground}
use Rattle.world_gen.specs.Generator.{after_draw, border, border_tiles, draw, grounds, inner, inner_row, inner_rows, inner_tiles, state_after}
use Rattle.world_gen.proofs.Drawn.{draw_is}

-- what has gained nothing
pub plus_none : (xs ys : List Ground) → ys ≡ [] → xs ≡ xs ++ ys
plus_none xs ys e = sym (ap (λ v. xs ++ v) e ∙ append-nil xs)

-- ---- border tiles

pub border_none : border_tiles 0 ≡ []
unfolding border_tiles
border_none = refl

border_more : (n : ℕ) → border_tiles (n + 1) ≡ border_tiles n ++ border n ∷ []
unfolding border_tiles
border_more n = map-range_with_len_more border 0 n n (omega arith)

border_long : (n : ℕ) → length (border_tiles n) ≡ n
unfolding border_tiles
border_long n = length-map-range_with_len border 0 n

pub border_next : (n : ℕ) (t : Ground) (xs ys zs : List Ground)
    → ys ≡ xs ++ border_tiles n → t ≡ border n → zs ≡ ys ++ t ∷ [] → zs ≡ xs ++ border_tiles (n + 1)
border_next n t xs ys zs e b h =
    h ∙ ap (λ v. ys ++ v ∷ []) b ∙ ap (λ v. v ++ border n ∷ []) e
    ∙ append_assoc xs (border_tiles n) (border n ∷ []) ∙ ap (λ v. xs ++ v) (sym (border_more n))

-- ---- inner tiles

pub inner_none : (s : ℕ) → inner_tiles s 0 ≡ []
unfolding inner_tiles
inner_none s = refl

inner_more : (s n : ℕ) → inner_tiles s (n + 1) ≡ inner_tiles s n ++ inner (draw s n) ∷ []
unfolding inner_tiles
inner_more s n = map-range_with_len_more (λ k. inner (draw s k)) 0 n n (omega arith)

inner_long : (s n : ℕ) → length (inner_tiles s n) ≡ n
unfolding inner_tiles
inner_long s n = length-map-range_with_len (λ k. inner (draw s k)) 0 n

pub inner_next : (s n t u : ℕ) (g : Ground) (xs ys zs : List Ground)
    → ys ≡ xs ++ inner_tiles s n → t ≡ state_after s n → u ≡ after_draw t / 2 ^ 33 → g ≡ inner u
    → zs ≡ ys ++ g ∷ [] → zs ≡ xs ++ inner_tiles s (n + 1)
inner_next s n t u g xs ys zs e at drawn is h =
    let number : u ≡ draw s n = drawn ∙ ap (λ v. after_draw v / 2 ^ 33) at ∙ sym (draw_is s n) in
    let ground : g ≡ inner (draw s n) = is ∙ ap inner number in
    h ∙ ap (λ v. ys ++ v ∷ []) ground ∙ ap (λ v. v ++ inner (draw s n) ∷ []) e
    ∙ append_assoc xs (inner_tiles s n) (inner (draw s n) ∷ []) ∙ ap (λ v. xs ++ v) (sym (inner_more s n))

-- ---- rows

row_long : (s y : ℕ) → length (inner_row s y) ≡ 50
unfolding inner_row
row_long s y = omega (arith, length-append (inner_tiles s 48) (border y ∷ []), inner_long s 48)

pub row_whole : (s y : ℕ) (g : Ground) (xs ys zs : List Ground)
    → ys ≡ (xs ++ g ∷ []) ++ inner_tiles s 48 → g ≡ border y → zs ≡ ys ++ g ∷ [] → zs ≡ xs ++ inner_row s y
unfolding inner_row
row_whole s y g xs ys zs e b h =
    h ∙ ap (λ v. v ++ g ∷ []) e ∙ append_assoc (xs ++ g ∷ []) (inner_tiles s 48) (g ∷ [])
    ∙ append_assoc xs (g ∷ []) (inner_tiles s 48 ++ g ∷ [])
    ∙ ap (λ v. xs ++ v ∷ (inner_tiles s 48 ++ v ∷ [])) b

counted_more : (n : ℕ) → range_with_len 0 (n + 1) ≡ range_with_len 0 n ++ n ∷ []
counted_more n =
    sym (map-id (range_with_len 0 (n + 1))) ∙ map-range_with_len_more (λ (k : ℕ). k) 0 n n (omega arith)
    ∙ ap (λ v. v ++ n ∷ []) (map-id (range_with_len 0 n))

pub rows_none : (s : ℕ) → inner_rows s 0 ≡ []
unfolding inner_rows
rows_none s = refl

rows_more : (s n : ℕ)
    → inner_rows s (n + 1) ≡ inner_rows s n ++ inner_row (state_after s (48 * n)) (n + 1)
unfolding inner_rows
rows_more s n =
    let row : ℕ → List Ground = λ k. inner_row (state_after s (48 * k)) (k + 1) in
    ap (flat_map row) (counted_more n) ∙ sym (flat_map_more row [] (range_with_len 0 n) n)

rows_long : (s n : ℕ) → length (inner_rows s n) ≡ 50 * n
rows_long s zero = ap length (rows_none s)
rows_long s (suc n) =
    let on : suc n ≡ n + 1 = omega arith in
    let more : length (inner_rows s (suc n)) ≡ length (inner_rows s n ++ inner_row (state_after s (48 * n)) (n + 1)) =
    ap (λ k. length (inner_rows s k)) on ∙ ap length (rows_more s n) in
    omega (
      arith,
      more,
      length-append (inner_rows s n) (inner_row (state_after s (48 * n)) (n + 1)),
      row_long (state_after s (48 * n)) (n + 1),
      rows_long s n,
    )

pub rows_next : (s n t y : ℕ) (xs ys zs : List Ground)
    → ys ≡ xs ++ inner_rows s n → t ≡ state_after s (48 * n) → y ≡ n + 1 → zs ≡ ys ++ inner_row t y
    → zs ≡ xs ++ inner_rows s (n + 1)
rows_next s n t y xs ys zs e at is h =
    h ∙ ap (λ v. ys ++ inner_row v y) at ∙ ap (λ v. ys ++ inner_row (state_after s (48 * n)) v) is
    ∙ ap (λ v. v ++ inner_row (state_after s (48 * n)) (n + 1)) e
    ∙ append_assoc xs (inner_rows s n) (inner_row (state_after s (48 * n)) (n + 1))
    ∙ ap (λ v. xs ++ v) (sym (rows_more s n))

-- ---- the whole

pub ground_whole : (s : ℕ) (xs first second third : List Ground)
    → xs ≡ [] → first ≡ xs ++ border_tiles 50 → second ≡ first ++ inner_rows s 48 → third ≡ second ++ border_tiles 50
    → third ≡ grounds s
unfolding grounds
ground_whole s xs first second third none a b c =
    c ∙ ap (λ v. v ++ border_tiles 50) b
    ∙ ap (λ v. (v ++ inner_rows s 48) ++ border_tiles 50) (a ∙ ap (λ v. v ++ border_tiles 50) none)
    ∙ append_assoc (border_tiles 50) (inner_rows s 48) (border_tiles 50)

pub ground_long : (s : ℕ) (xs first second third : List Ground)
    → xs ≡ [] → first ≡ xs ++ border_tiles 50 → second ≡ first ++ inner_rows s 48 → third ≡ second ++ border_tiles 50
    → length third ≡ 2500
unfolding grounds
ground_long s xs first second third none a b c =
    let whole : length third ≡ length (grounds s) = ap length (ground_whole s xs first second third none a b c) in
    omega (
      arith,
      whole,
      length-append (border_tiles 50) (inner_rows s 48 ++ border_tiles 50),
      length-append (inner_rows s 48) (border_tiles 50),
      border_long 50,
      rows_long s 48,
    )
