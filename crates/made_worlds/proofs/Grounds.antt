-- The grounds of a generated room: its corners are walls, and no inner tile is.
use Rattle.std.proofs.Common.{◌≡◌, ℕ, zero, suc, ◌+◌, ◌*◌, ◌%◌, ◌<◌, ◌≤◌, ◌==◌, List, [], ◌∷◌, ◌++◌, length, map, Some, true, false, cond, ℤ, refl, ap, sym, subst, ◌∙◌, inl, inr, arith, lit<}
use Rattle.std.specs.Prelude.{slice_get}
use Rattle.std.specs.List.{range_with_len}
use Rattle.std.proofs.lemmas.Option.{same_Some}
use Rattle.std.proofs.lemmas.List.{length-append}
use Rattle.std.proofs.lemmas.List.FromFn.{length-map-range_with_len}
use Rattle.room_terrain.specs.Geometry.{Crosses, IsInner, Mirrors}
use Rattle.room_terrain.specs.Tiles.{IsEdge, tile}
use Rattle.room_terrain.specs.declared.name.RoomName.{RoomName}
use Rattle.room_terrain.specs.declared.terrain.Ground.{Ground}
use Rattle.room_terrain.specs.declared.terrain.Ground.TheVariants.{Plain, Wall, Swamp}
use Rattle.world_rules.specs.Rules.{HasOpenCorner, IsWall}
use Rattle.world_gen.specs.Generator.{border, border_tiles, draw, grounds, inner, inner_row, inner_rows, inner_tiles, state_after}
use Rattle.world_gen.proofs.Rows.{ground_long, ground_whole}
use Rattle.wasm_link.proofs.Each.{get_left, get_right}
use Rattle.made_worlds.proofs.Places.{part_at, placed_at}

-- ---- sizes

border_long : (n : ℕ) → length (border_tiles n) ≡ n
unfolding border_tiles
border_long n = length-map-range_with_len border 0 n

row_long : (s y : ℕ) → length (inner_row s y) ≡ 50
unfolding inner_row inner_tiles
row_long s y =
    omega (
      arith,
      length-append (map (λ n. inner (draw s n)) (range_with_len 0 48)) (border y ∷ []),
      length-map-range_with_len (λ n. inner (draw s n)) 0 48,
    )

pub grounds_long : (s : ℕ) → length (grounds s) ≡ 2500
grounds_long s =
    let first : List Ground = border_tiles 50 in
    let second : List Ground = first ++ inner_rows s 48 in
    let third : List Ground = second ++ border_tiles 50 in
    ap length (sym (ground_whole s [] first second third refl refl refl refl))
    ∙ ground_long s [] first second third refl refl refl refl

rows_long : (s : ℕ) → length (inner_rows s 48) ≡ 2400
unfolding grounds
rows_long s =
    omega (
      arith,
      grounds_long s,
      length-append (border_tiles 50) (inner_rows s 48 ++ border_tiles 50),
      length-append (inner_rows s 48) (border_tiles 50),
      border_long 50,
    )

-- ---- the border

border_at : (n i : ℕ) → i < n → slice_get (border_tiles n) i ≡ Some (border i)
unfolding border_tiles
border_at n i less = let same : 0 + i ≡ i = omega arith in placed_at border 0 n i less ∙ ap (λ k. Some (border k)) same

-- the tiles of the first row, and of the last
first_row : (s x : ℕ) → x < 50 → slice_get (grounds s) x ≡ Some (border x)
unfolding grounds
first_row s x less =
    let within : x < length (border_tiles 50) = omega (arith, border_long 50) in
    get_left (border_tiles 50) (inner_rows s 48 ++ border_tiles 50) x within ∙ border_at 50 x less

last_row : (s x : ℕ) → x < 50 → slice_get (grounds s) (2450 + x) ≡ Some (border x)
unfolding grounds
last_row s x less =
    get_right (border_tiles 50) (inner_rows s 48 ++ border_tiles 50) (2450 + x) (2400 + x) (omega (arith, border_long 50))
    ∙ get_right (inner_rows s 48) (border_tiles 50) (2400 + x) x (omega (arith, rows_long s))
    ∙ border_at 50 x less

pub corners_are_walls : (s : ℕ) → HasOpenCorner (grounds s) → ⊥
corners_are_walls s corner =
    elim corner [
      | inl first ↦ first (first_row s 0 (lit< tt))
      | inr (inl second) ↦ second (first_row s 49 (lit< tt))
      | inr (inr (inl third)) ↦ third (last_row s 0 (lit< tt))
      | inr (inr (inr fourth)) ↦ fourth (last_row s 49 (lit< tt))
    ]

-- a tile of a row between the first and the last
row_tile : (s x y : ℕ) → x < 50 → y < 48
    → slice_get (grounds s) (tile x (suc y)) ≡ slice_get (inner_row (state_after s (48 * y)) (y + 1)) x
unfolding grounds inner_rows
row_tile s x y left low =
    let row : ℕ → List Ground = λ n. inner_row (state_after s (48 * n)) (n + 1) in
    let within : 50 * y + x < length (inner_rows s 48) = omega (arith, rows_long s) in
    let same : 0 + y ≡ y = omega arith in
    get_right (border_tiles 50) (inner_rows s 48 ++ border_tiles 50) (tile x (suc y)) (50 * y + x)
    (omega (arith, border_long 50))
    ∙ get_left (inner_rows s 48) (border_tiles 50) (50 * y + x) within
    ∙ part_at row 0 48 50 y (50 * y + x) x (λ m. row_long (state_after s (48 * m)) (m + 1)) low left refl
    ∙ ap (λ n. slice_get (row n) x) same

row_first : (s y : ℕ) → slice_get (inner_row s y) 0 ≡ Some (border y)
unfolding inner_row
row_first s y = refl

row_last : (s y : ℕ) → slice_get (inner_row s y) 49 ≡ Some (border y)
unfolding inner_row inner_tiles
row_last s y =
    get_right (map (λ n. inner (draw s n)) (range_with_len 0 48)) (border y ∷ []) 48 0
    (omega (arith, length-map-range_with_len (λ n. inner (draw s n)) 0 48))

-- ---- exits that meet

-- the tile at this end of a row, and of a column, by the coordinate along the border
side_tile : (s x y : ℕ) → IsEdge x → IsInner y → slice_get (grounds s) (tile x y) ≡ Some (border y)
side_tile s x zero edge within = absurd (omega (arith, within.0))
side_tile s x (suc y) edge within =
    let below : suc y < 49 = within.1 in
    let along : y + 1 ≡ suc y = omega arith in
    elim edge [
      | inl first ↦
          ap (λ k. slice_get (grounds s) (tile k (suc y))) first ∙ row_tile s 0 y (lit< tt) (omega arith)
          ∙ row_first (state_after s (48 * y)) (y + 1) ∙ ap (λ k. Some (border k)) along
      | inr last ↦
          ap (λ k. slice_get (grounds s) (tile k (suc y))) last ∙ row_tile s 49 y (lit< tt) (omega arith)
          ∙ row_last (state_after s (48 * y)) (y + 1) ∙ ap (λ k. Some (border k)) along
    ]

end_tile : (s x y : ℕ) → IsEdge y → IsInner x → slice_get (grounds s) (tile x y) ≡ Some (border x)
end_tile s x y edge within =
    let right : x < 49 = within.1 in
    elim edge [
      | inl first ↦ (
          let place : tile x y ≡ x = omega arith in
          ap (slice_get (grounds s)) place ∙ first_row s x (omega arith)
          )
      | inr last ↦ (
          let place : tile x y ≡ 2450 + x = omega arith in
          ap (slice_get (grounds s)) place ∙ last_row s x (omega arith)
          )
    ]

from_edge : (side other : ℤ) (z w : ℕ) → Crosses side z other w → IsEdge z × IsEdge w
from_edge side other z w crossed =
    elim crossed [ inl first ↦ (inl first.0, inr first.2) | inr last ↦ (inr last.0, inl last.2) ]

pub exits_meet : (s t x y v w : ℕ) (name other : RoomName) → Mirrors name x y other v w
    → slice_get (grounds s) (tile x y) ≡ slice_get (grounds t) (tile v w)
exits_meet s t x y v w name other mirrors =
    elim mirrors.across [
      | inl beside ↦ (
          let edges = from_edge name.column other.column x v beside.0 in
          side_tile s x y edges.0 beside.1 ∙ ap (λ k. Some (border k)) (sym beside.3)
          ∙ sym (side_tile t v w edges.1 (subst IsInner (sym beside.3) beside.1))
          )
      | inr above ↦ (
          let edges = from_edge name.row other.row y w above.0 in
          end_tile s x y edges.0 above.1 ∙ ap (λ k. Some (border k)) (sym above.3)
          ∙ sym (end_tile t v w edges.1 (subst IsInner (sym above.3) above.1))
          )
    ]

-- ---- inner tiles

inner_at : (s y x : ℕ) → x < 48 → slice_get (inner_row s y) (suc x) ≡ Some (inner (draw s x))
unfolding inner_row inner_tiles
inner_at s y x less =
    let tiles : List Ground = map (λ n. inner (draw s n)) (range_with_len 0 48) in
    let within : x < length tiles = omega (arith, length-map-range_with_len (λ n. inner (draw s n)) 0 48) in
    let same : 0 + x ≡ x = omega arith in
    get_left tiles (border y ∷ []) x within ∙ placed_at (λ n. inner (draw s n)) 0 48 x less
    ∙ ap (λ k. Some (inner (draw s k))) same

inner_tile : (s x y : ℕ) → x < 48 → y < 48
    → (drawn : ℕ) × (slice_get (grounds s) (tile (suc x) (suc y)) ≡ Some (inner drawn))
inner_tile s x y left low = (
  draw (state_after s (48 * y)) x,
  row_tile s (suc x) y (omega arith) low ∙ inner_at (state_after s (48 * y)) (y + 1) x left,
)

inner_no_wall : (drawn : ℕ) → inner drawn ≡ Wall → ⊥
inner_no_wall drawn is =
    elim (drawn % 8 == 0) as (λ b. cond {A = Ground} b Swamp Plain ≡ Wall → ⊥) [
      | true ↦ λ wall. absurd cc
      | false ↦ λ wall. absurd cc
    ] is

pub no_inner_wall : (s x y : ℕ) → 1 ≤ x → x < 49 → 1 ≤ y → y < 49 → IsWall (grounds s) x y → ⊥
no_inner_wall s zero y left right top bottom wall = absurd (omega arith)
no_inner_wall s (suc x) zero left right top bottom wall = absurd (omega arith)
no_inner_wall s (suc x) (suc y) left right top bottom wall =
    let at = inner_tile s x y (omega arith) (omega arith) in
    inner_no_wall at.0 (same_Some (inner at.0) Wall (sym at.1 ∙ wall))
