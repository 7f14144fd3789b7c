-- The first tile round a spawn onto which its creep may come.
use Rattle.std.proofs.Common.{◌≡◌, ℕ, zero, suc, ◌+◌, ◌-◌, ◌<◌, ◌≤◌, Bool, true, false, cond, if◌then◌else◌, List, ◌∷◌, drop, not, Option, Some, None, option_map, refl, sym, ap, ◌∙◌, arith}
use Rattle.std.specs.List.{cons_option, filter_map, find}
use Rattle.std.specs.Option.{is_some}
use Rattle.room_terrain.specs.declared.direction.Direction.{Direction}
use Rattle.room_terrain.specs.declared.direction.Direction.TheVariants.{Top, TopRight, Right, BottomRight, Bottom, BottomLeft, Left, TopLeft}
use Rattle.room_table.specs.declared.object.Object.{Object}
use Rattle.world_rules.specs.RoomParts.{RoomPart}
use Rattle.world_rules.specs.Moves.{direction_of, directions, tile_towards}
use Rattle.world_rules.specs.Spawns.{is_free_for_creep, tile_for}
use Rattle.spawn_rules.specs.inner.Hatching.{free_at, free_towards}

-- No id is found where no object is.
pub none_of_id : (none : Bool) (found : Option Object) → is_some (option_map (λ (o : Object). o.id) found) ≡ not none → none ≡ not (is_some found)
none_of_id true None is = refl
none_of_id false None is = absurd (cc)
none_of_id true (Some object) is = absurd (cc)
none_of_id false (Some object) is = refl

pub nothing : (found : Option (ℕ × ℕ)) → is_some found ≡ false → None ≡ found
nothing None is = refl
nothing (Some at) is = absurd (cc)

-- the direction of a number, and those behind it
abbrev IsDirection : ℕ → Type 0
IsDirection k = (to : Direction) × (direction_of (k + 1) ≡ Some to) × (drop k directions ≡ to ∷ drop (suc k) directions)

direction_at : (k : ℕ) → k < 8 → IsDirection k
direction_at zero less = (Top, refl, refl)
direction_at (suc zero) less = (TopRight, refl, refl)
direction_at (suc (suc zero)) less = (Right, refl, refl)
direction_at (suc (suc (suc zero))) less = (BottomRight, refl, refl)
direction_at (suc (suc (suc (suc zero)))) less = (Bottom, refl, refl)
direction_at (suc (suc (suc (suc (suc zero))))) less = (BottomLeft, refl, refl)
direction_at (suc (suc (suc (suc (suc (suc zero)))))) less = (Left, refl, refl)
direction_at (suc (suc (suc (suc (suc (suc (suc zero))))))) less = (TopLeft, refl, refl)
direction_at (suc (suc (suc (suc (suc (suc (suc (suc k)))))))) less = absurd (omega (arith, less))

abbrev first_or : Option (ℕ × ℕ) → Option (ℕ × ℕ) → Option (ℕ × ℕ)
first_or None other = other
first_or (Some one) other = Some one

module _ (part : RoomPart) (spawn : Object) where
  abbrev ahead : Direction → Option (ℕ × ℕ)
  ahead to = tile_towards to spawn.x spawn.y

  abbrev free : ℕ × ℕ → Bool
  free at = is_free_for_creep part spawn.owner at

  -- the first tile in these directions
  abbrev first_in : List Direction → Option (ℕ × ℕ)
  first_in ways = find free (filter_map ahead ways)

  first_of : (at : Option (ℕ × ℕ)) (later : List (ℕ × ℕ)) (found : Option (ℕ × ℕ)) → free_at part spawn at ≡ found → find free (cons_option at later) ≡ first_or found (find free later)
  first_of None later found is = ap (λ (f : Option (ℕ × ℕ)). first_or f (find free later)) is
  first_of (Some at) later found is = elim (free at) as (λ b. (if b then Some at else None) ≡ found → cond b (Some at) (find free later) ≡ first_or found (find free later)) [
    | true ↦ λ got. ap (λ (f : Option (ℕ × ℕ)). first_or f (find free later)) got
    | false ↦ λ got. ap (λ (f : Option (ℕ × ℕ)). first_or f (find free later)) got
  ] is

  -- So far none was found.
  abbrev pub NoneBefore : ℕ → Type 0
  NoneBefore number = (1 ≤ number) × (number ≤ 9) × (tile_for part spawn ≡ first_in (drop (number - 1) directions))

  pub none_before : NoneBefore 1
  none_before = (omega arith, omega arith, refl)

  -- the one that is found in the direction of a number, or the first behind it
  found_at : (number : ℕ) → NoneBefore number → number ≤ 8 → (found : Option (ℕ × ℕ)) → found ≡ free_towards part spawn (direction_of number) → tile_for part spawn ≡ first_or found (first_in (drop number directions))
  found_at number before less found is =
      let at = direction_at (number - 1) (omega (arith, before.0, less)) in
      let same : (number - 1) + 1 ≡ number = omega (arith, before.0) in
      let next : suc (number - 1) ≡ number = omega (arith, before.0) in
      let here : free_at part spawn (ahead at.0) ≡ found =
      sym (is ∙ ap (free_towards part spawn) (ap direction_of (sym same) ∙ at.1)) in
      before.2 ∙ ap first_in at.2 ∙ first_of (ahead at.0) (filter_map ahead (drop (suc (number - 1)) directions)) found here
      ∙ ap (λ (n : ℕ). first_or found (first_in (drop n directions))) next

  pub found_there : (number : ℕ) → NoneBefore number → number ≤ 8 → (at : ℕ × ℕ) → Some at ≡ free_towards part spawn (direction_of number) → Some at ≡ tile_for part spawn
  found_there number before less at is = sym (found_at number before less (Some at) is)

  pub none_there : (number : ℕ) → NoneBefore number → number ≤ 8 → None ≡ free_towards part spawn (direction_of number) → NoneBefore (number + 1)
  none_there number before less is =
      let same : number + 1 - 1 ≡ number = omega arith in
      (omega arith, omega (arith, less), found_at number before less None is ∙ ap (λ (n : ℕ). first_in (drop n directions)) (sym same))

  pub none_at_all : (number : ℕ) → NoneBefore number → 8 < number → None ≡ tile_for part spawn
  none_at_all number before past =
      let last : number - 1 ≡ 8 = omega (arith, past, before.1) in
      sym (before.2 ∙ ap (λ (n : ℕ). first_in (drop n directions)) last)
