-- Directions by their numbers, and the tiles that lie in them.
use Rattle.std.proofs.Common.{◌≡◌, ℕ, ◌<◌, IfSome, IfNone, Bool, true, false, cond, ℤ, pos, negsuc, ◌+ℤ◌, nat_lt, Option, Some, None, option_map, option_and_then, refl, sym, ap, ◌∙◌, arith}
use Rattle.std.proofs.lemmas.Bool.{ne_eqb, lt-ltb}
use Rattle.room_terrain.specs.Geometry.{Steps, direction_number, dx, dy}
use Rattle.room_terrain.specs.declared.direction.Direction.{Direction}
use Rattle.room_terrain.specs.declared.direction.Direction.TheVariants.{Top, TopRight, Right, BottomRight, Bottom, BottomLeft, Left, TopLeft}
use Rattle.room_terrain.specs.declared.terrain.Place.{Place}
use Rattle.world_rules.specs.Moves.{direction_of, inside, tile_towards}

-- ---- directions

direction_found : (to : Direction) → direction_of (direction_number to) ≡ Some to
direction_found Top = refl
direction_found TopRight = refl
direction_found Right = refl
direction_found BottomRight = refl
direction_found Bottom = refl
direction_found BottomLeft = refl
direction_found Left = refl
direction_found TopLeft = refl

pub direction_is : (number : ℕ) (to : Direction) → number ≡ direction_number to → Some to ≡ direction_of number
direction_is number to is = sym (direction_found to) ∙ ap direction_of (sym is)

pub direction_none : (number : ℕ) → ((to : Direction) → number ≡ direction_number to → ⊥) → None ≡ direction_of number
direction_none number other =
    rw (
      ne_eqb 1 number (λ e. other Top (sym e)),
      ne_eqb 2 number (λ e. other TopRight (sym e)),
      ne_eqb 3 number (λ e. other Right (sym e)),
      ne_eqb 4 number (λ e. other BottomRight (sym e)),
      ne_eqb 5 number (λ e. other Bottom (sym e)),
      ne_eqb 6 number (λ e. other BottomLeft (sym e)),
      ne_eqb 7 number (λ e. other Left (sym e)),
      ne_eqb 8 number (λ e. other TopLeft (sym e)),
    ) refl

-- ---- the tile ahead

inside_pos : (z : ℤ) (n : ℕ) → pos n ≡ z → n < 50 → inside z ≡ Some n
inside_pos z n is low = ap inside (sym is) ∙ ap (λ (b : Bool). cond b (Some n) None) (lt-ltb n 50 low)

inside_none : (z : ℤ) → ((n : ℕ) → n < 50 → pos n ≡ z → ⊥) → inside z ≡ None
inside_none (pos n) other = elim (nat_lt n 50) as (λ b. nat_lt n 50 ≡ b → cond b (Some n) None ≡ None) [
  | true ↦ λ low. absurd (other n (grind arith) refl)
  | false ↦ λ high. refl
] refl
inside_none (negsuc n) other = refl

pub ahead_is : (at next : Place) (to : Direction) → Steps at to next → Some (next.x, next.y) ≡ tile_towards to at.x at.y
ahead_is at next to steps =
    sym (rw (inside_pos (pos at.x +ℤ dx to) next.x steps.x steps.inside_x, inside_pos (pos at.y +ℤ dy to) next.y steps.y steps.inside_y) refl)

pub inside_some : (z : ℤ) (n : ℕ) → inside z ≡ Some n → (pos n ≡ z) × (n < 50)
inside_some (pos m) n is = elim (nat_lt m 50) as (λ b. nat_lt m 50 ≡ b → cond b (Some m) None ≡ Some n → (pos n ≡ pos m) × (n < 50)) [
  | true ↦ λ low got. let same : m ≡ n = cc in (ap pos (sym same), grind arith)
  | false ↦ λ high got. absurd (cc)
] refl is
inside_some (negsuc m) n is = absurd (cc)

both_found : (one other : Option ℕ) → ((column row : ℕ) → one ≡ Some column → other ≡ Some row → ⊥) → ◌≡◌ {A = Option (ℕ × ℕ)} None (option_and_then (λ column. option_map (λ row. (column, row)) other) one)
both_found None other apart = refl
both_found (Some column) None apart = refl
both_found (Some column) (Some row) apart = absurd (apart column row refl refl)

pub ahead_none : (at : Place) (to : Direction) → ((next : Place) → Steps at to next → ⊥) → None ≡ tile_towards to at.x at.y
ahead_none at to apart = both_found (inside (pos at.x +ℤ dx to)) (inside (pos at.y +ℤ dy to)) (λ column row is also.
    let first = inside_some (pos at.x +ℤ dx to) column is in
    let second = inside_some (pos at.y +ℤ dy to) row also in
    let next : Place = record { room = at.room; x = column; y = row } in
    apart next (record { room = refl; x = first.0; y = second.0; inside_x = first.1; inside_y = second.1 }))

-- ---- what the calls answer

pub direction_given : (number : ℕ) (found : Option Direction) → IfSome found (λ to. number ≡ direction_number to) → IfNone found ((to : Direction) → number ≡ direction_number to → ⊥) → found ≡ direction_of number
direction_given number None some none = direction_none number none
direction_given number (Some to) some none = direction_is number to some

pub ahead_given : (at : Place) (to : Direction) (found : Option Place) → IfSome found (Steps at to) → IfNone found ((next : Place) → Steps at to next → ⊥) → option_map (λ (next : Place). (next.x, next.y)) found ≡ tile_towards to at.x at.y
ahead_given at to None some none = ahead_none at to none
ahead_given at to (Some next) some none = ahead_is at next to some
