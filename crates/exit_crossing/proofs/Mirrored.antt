-- The tile across a border, as a relation and as a function.
use Rattle.std.proofs.Common.{◌≡◌, ℕ, zero, suc, ◌<◌, ◌≤◌, ◌==◌, ◌&&◌, ◌||◌, ◌⊎◌, inl, inr, not, Bool, true, false, if◌then◌else◌, ℤ, pos, negsuc, ◌+ℤ◌, ◌-ℤ◌, Option, Some, None, refl, sym, ap, subst, ◌∙◌, arith}
use Rattle.std.proofs.lemmas.Bool.{eq-eqb, eqb-true, eqb-false, ne_eqb, le-leb, leb-true, and_from, and_parts, or_left, or_right, or_cases, or_parts}
use Rattle.room_terrain.specs.Geometry.{Crosses, IsInner, Mirrors}
use Rattle.std.proofs.lemmas.Int.{ints}
use Rattle.room_terrain.specs.Tiles.{IsEdge, IsBorder, IsCorner}
use Rattle.room_terrain.specs.Names.{IsInRange, IsSideInRange}
use Rattle.room_terrain.specs.declared.name.RoomName.{RoomName}
use Rattle.world_rules.specs.Crossings.{NamedTile, is_edge, across, is_side_in_range, beside, above_or_below, in_range, mirrored}

-- ---- coordinates

pub edge_of : (z : ℕ) → (z ≡ 0) ⊎ (z ≡ 49) → is_edge z ≡ true
edge_of z (inl is) = or_left (z == 0) (z == 49) (eq-eqb z 0 is)
edge_of z (inr is) = or_right (z == 0) (z == 49) (eq-eqb z 49 is)

pub of_edge : (z : ℕ) → is_edge z ≡ true → (z ≡ 0) ⊎ (z ≡ 49)
of_edge z is = elim (or_cases (z == 0) (z == 49) is) [ inl low ↦ inl (eqb-true z 0 low) | inr high ↦ inr (eqb-true z 49 high) ]

inner_no_edge : (z : ℕ) → IsInner z → is_edge z ≡ false
inner_no_edge z inside = λ i. ne_eqb z 0 (λ e. omega (arith, inside.0, e)) i || ne_eqb z 49 (λ e. omega (arith, inside.1, e)) i

no_edge_inner : (z : ℕ) → z ≤ 49 → is_edge z ≡ false → IsInner z
no_edge_inner z most is =
    let parts = or_parts (z == 0) (z == 49) is in
    let low = eqb-false z 0 parts.0 in
    let high = eqb-false z 49 parts.1 in
    (above z low, below z most high)
  where
    above : (z : ℕ) → (z ≡ 0 → ⊥) → 0 < z
    above zero low = absurd (low refl)
    above (suc z) low = omega arith

    below : (z : ℕ) → z ≤ 49 → (z ≡ 49 → ⊥) → z < 49
    below z most high = elim (z == 49) as (λ b. (z == 49) ≡ b → z < 49) [ true ↦ λ is. absurd (high (eqb-true z 49 is)) | false ↦ λ is. omega (arith, most, eqb-false z 49 is) ] refl

-- ---- the side beyond

crosses_edge : (side : ℤ) (z : ℕ) (side' : ℤ) (z' : ℕ) → Crosses side z side' z' → is_edge z ≡ true
crosses_edge side z side' z' (inl c) = edge_of z (inl c.0)
crosses_edge side z side' z' (inr c) = edge_of z (inr c.0)

crosses_across : (side : ℤ) (z : ℕ) (side' : ℤ) (z' : ℕ) → Crosses side z side' z' → ◌≡◌ {A = ℤ × ℕ} (across side z) (side', z')
crosses_across side z side' z' (inl c) = ap (λ (b : Bool). let found : ℤ × ℕ = if b then (side -ℤ pos 1, 49) else (side +ℤ pos 1, 0) in found) (eq-eqb z 0 c.0) ∙ (λ i. (sym c.1 i, sym c.2 i))
crosses_across side z side' z' (inr c) = ap (λ (b : Bool). let found : ℤ × ℕ = if b then (side -ℤ pos 1, 49) else (side +ℤ pos 1, 0) in found) (ne_eqb z 0 (λ e. omega (arith, e, c.0))) ∙ (λ i. (sym c.1 i, sym c.2 i))

across_crosses : (side : ℤ) (z : ℕ) → is_edge z ≡ true → Crosses side z (across side z).0 (across side z).1
across_crosses side z is = elim (of_edge z is) [
  | inl low ↦ subst (λ (b : Bool). let found : ℤ × ℕ = if b then (side -ℤ pos 1, 49) else (side +ℤ pos 1, 0) in Crosses side z found.0 found.1) (sym (eq-eqb z 0 low)) (inl (low, refl, refl))
  | inr high ↦ subst (λ (b : Bool). let found : ℤ × ℕ = if b then (side -ℤ pos 1, 49) else (side +ℤ pos 1, 0) in Crosses side z found.0 found.1) (sym (ne_eqb z 0 (λ e. omega (arith, e, high)))) (inr (high, refl, refl))
]

-- ---- the world's rooms

side_holds : (side : ℤ) → IsSideInRange side → is_side_in_range side ≡ true
side_holds (pos n) most = le-leb n 127 most
side_holds (negsuc n) most = le-leb n 127 most

holds_side : (side : ℤ) → is_side_in_range side ≡ true → IsSideInRange side
holds_side (pos n) is = leb-true n 127 is
holds_side (negsuc n) is = leb-true n 127 is

range_holds : (found : NamedTile) → IsInRange found.name → in_range found ≡ Some found
range_holds found within =
    ap (λ (b : Bool). if b then Some found else None) (and_from (is_side_in_range found.name.column) (is_side_in_range found.name.row) (side_holds found.name.column within.column) (side_holds found.name.row within.row))

record InRange (one found : NamedTile) : Type 0 where
  pub same : one ≡ found
  pub within : IsInRange one.name

holds_range : (one found : NamedTile) → in_range one ≡ Some found → InRange one found
holds_range one found is = elim (is_side_in_range one.name.column && is_side_in_range one.name.row) as (λ b. (is_side_in_range one.name.column && is_side_in_range one.name.row) ≡ b → (if b then Some one else None) ≡ Some found → InRange one found) [
  | true ↦ λ both got.
      let parts = and_parts (is_side_in_range one.name.column) (is_side_in_range one.name.row) both in
      record { same = cc; within = record { column = holds_side one.name.column parts.0; row = holds_side one.name.row parts.1 } }
  | false ↦ λ both got. absurd cc
] refl is

-- ---- the mirrored tile

pub mirrors_to : (name : RoomName) (x y : ℕ) (other : RoomName) (x' y' : ℕ) → Mirrors name x y other x' y' → mirrored name x y ≡ Some (record { name = other; x = x'; y = y' })
mirrors_to name x y other x' y' m = elim m.across [
  | inl p ↦ (
      let edge = crosses_edge name.column x other.column x' p.0 in
      let inside = inner_no_edge y p.1 in
      let over = crosses_across name.column x other.column x' p.0 in
      let there : beside name x y ≡ record { name = other; x = x'; y = y' } = λ i. record { name = record { column = (over i).0; row = sym p.2 i }; x = (over i).1; y = sym p.3 i } in
      (λ i. if edge i && not (inside i) then in_range (beside name x y) else if inside i && not (edge i) then in_range (above_or_below name x y) else None)
      ∙ ap in_range there
      ∙ range_holds (record { name = other; x = x'; y = y' }) m.in_range
      )
  | inr p ↦ (
      let edge = crosses_edge name.row y other.row y' p.0 in
      let inside = inner_no_edge x p.1 in
      let over = crosses_across name.row y other.row y' p.0 in
      let there : above_or_below name x y ≡ record { name = other; x = x'; y = y' } = λ i. record { name = record { column = sym p.2 i; row = (over i).0 }; x = sym p.3 i; y = (over i).1 } in
      (λ i. if inside i && not (edge i) then in_range (beside name x y) else if edge i && not (inside i) then in_range (above_or_below name x y) else None)
      ∙ ap in_range there
      ∙ range_holds (record { name = other; x = x'; y = y' }) m.in_range
      )
]

from_beside : (name : RoomName) (x y : ℕ) (found : NamedTile) → y ≤ 49 → is_edge x ≡ true → is_edge y ≡ false → in_range (beside name x y) ≡ Some found → Mirrors name x y found.name found.x found.y
from_beside name x y found most edge inside is =
    let got = holds_range (beside name x y) found is in
    subst (λ (f : NamedTile). Mirrors name x y f.name f.x f.y) got.same (record {
      in_range = got.within;
      across = inl (across_crosses name.column x edge, no_edge_inner y most inside, refl, refl);
    })

from_above_or_below : (name : RoomName) (x y : ℕ) (found : NamedTile) → x ≤ 49 → is_edge y ≡ true → is_edge x ≡ false → in_range (above_or_below name x y) ≡ Some found → Mirrors name x y found.name found.x found.y
from_above_or_below name x y found most edge inside is =
    let got = holds_range (above_or_below name x y) found is in
    subst (λ (f : NamedTile). Mirrors name x y f.name f.x f.y) got.same (record {
      in_range = got.within;
      across = inr (across_crosses name.row y edge, no_edge_inner x most inside, refl, refl);
    })

pub mirrors_from : (name : RoomName) (x y : ℕ) (found : NamedTile) → x ≤ 49 → y ≤ 49 → mirrored name x y ≡ Some found → Mirrors name x y found.name found.x found.y
mirrors_from name x y found column row is =
    elim (is_edge x) as (λ b. is_edge x ≡ b → (if b && not (is_edge y) then in_range (beside name x y) else if is_edge y && not b then in_range (above_or_below name x y) else None) ≡ Some found → Mirrors name x y found.name found.x found.y) [
      | true ↦ λ edge. elim (is_edge y) as (λ c. is_edge y ≡ c → (if not c then in_range (beside name x y) else if c && false then in_range (above_or_below name x y) else None) ≡ Some found → Mirrors name x y found.name found.x found.y) [
        | true ↦ λ both got. absurd cc
        | false ↦ λ inside got. from_beside name x y found row edge inside got
      ] refl
      | false ↦ λ inside. elim (is_edge y) as (λ c. is_edge y ≡ c → (if c && true then in_range (above_or_below name x y) else None) ≡ Some found → Mirrors name x y found.name found.x found.y) [
        | true ↦ λ edge got. from_above_or_below name x y found column edge inside got
        | false ↦ λ none got. absurd cc
      ] refl
    ] refl is

-- ---- at most one tile lies across

pub mirrors_once : (name : RoomName) (x y : ℕ) (one : RoomName) (ox oy : ℕ) (other : RoomName) (tx ty : ℕ) → Mirrors name x y one ox oy → Mirrors name x y other tx ty → (one ≡ other) × (ox ≡ tx) × (oy ≡ ty)
mirrors_once name x y one ox oy other tx ty first second =
    let both : ◌≡◌ {A = Option NamedTile} (Some (record { name = one; x = ox; y = oy })) (Some (record { name = other; x = tx; y = ty })) = sym (mirrors_to name x y one ox oy first) ∙ mirrors_to name x y other tx ty second in
    let same : ◌≡◌ {A = NamedTile} (record { name = one; x = ox; y = oy }) (record { name = other; x = tx; y = ty }) = cc in
    (ap (λ (t : NamedTile). t.name) same, ap (λ (t : NamedTile). t.x) same, ap (λ (t : NamedTile). t.y) same)

-- ---- the other room is another

crosses_apart : (side : ℤ) (z : ℕ) (side' : ℤ) (z' : ℕ) → Crosses side z side' z' → side' ≡ side → ⊥
crosses_apart side z side' z' (inl c) same = omega (arith, ints, c.1, same)
crosses_apart side z side' z' (inr c) same = omega (arith, ints, c.1, same)

pub mirrors_apart : (name : RoomName) (x y : ℕ) (other : RoomName) (x' y' : ℕ) → Mirrors name x y other x' y' → other ≡ name → ⊥
mirrors_apart name x y other x' y' m same = elim m.across [
  | inl p ↦ crosses_apart name.column x other.column x' p.0 (ap (λ (n : RoomName). n.column) same)
  | inr p ↦ crosses_apart name.row y other.row y' p.0 (ap (λ (n : RoomName). n.row) same)
]

-- ---- the tile is in the room, on its border

edge_most : (z : ℕ) → (z ≡ 0) ⊎ (z ≡ 49) → z ≤ 49
edge_most z (inl is) = omega (arith, is)
edge_most z (inr is) = omega (arith, is)

crosses_to : (side : ℤ) (z : ℕ) (side' : ℤ) (z' : ℕ) → Crosses side z side' z' → IsEdge z'
crosses_to side z side' z' (inl c) = inr c.2
crosses_to side z side' z' (inr c) = inl c.2

pub record ToTile (x y : ℕ) : Type 0 where
  pub column : x ≤ 49
  pub row : y ≤ 49
  pub border : IsBorder x y
  pub no_corner : IsCorner x y → ⊥

inner_apart : (z : ℕ) → IsInner z → IsEdge z → ⊥
inner_apart z inside (inl is) = omega (arith, inside.0, is)
inner_apart z inside (inr is) = omega (arith, inside.1, is)

pub mirrors_tile : (name : RoomName) (x y : ℕ) (other : RoomName) (x' y' : ℕ) → Mirrors name x y other x' y' → ToTile x' y'
mirrors_tile name x y other x' y' m = elim m.across [
  | inl p ↦ (
      let edge = crosses_to name.column x other.column x' p.0 in
      let inside : IsInner y' = subst IsInner (sym p.3) p.1 in
      record { column = edge_most x' edge; row = omega (arith, inside.1); border = inl edge; no_corner = λ corner. inner_apart y' inside corner.1 }
      )
  | inr p ↦ (
      let edge = crosses_to name.row y other.row y' p.0 in
      let inside : IsInner x' = subst IsInner (sym p.3) p.1 in
      record { column = omega (arith, inside.1); row = edge_most y' edge; border = inr edge; no_corner = λ corner. inner_apart x' inside corner.0 }
      )
]
