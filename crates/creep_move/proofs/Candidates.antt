-- The candidates of entries.
use Rattle.std.proofs.Common.{◌≡◌, ℕ, ◌<◌, IfSome, Bool, true, false, cond, pos, ◌+ℤ◌, Option, Some, None, option_map, option_and_then, refl, sym, ap, subst, ◌∙◌}
use Rattle.room_terrain.specs.Geometry.{dx, dy}
use Rattle.room_terrain.specs.declared.direction.Direction.{Direction}
use Rattle.std.specs.FinMap.{get}
use Rattle.game_tables.specs.Kinds.{is_creep}
use Rattle.creep_move.specs.declared.candidate.Step.{Step}
use Rattle.creep_move.specs.inner.Arrivals.{ComesFrom, IsStepOf, as_mover}
use Rattle.game_tables.specs.declared.action.Action.TheVariants.{Move}
use Rattle.room_table.specs.declared.object.Object.{Object}
use Rattle.intent_book.specs.declared.intent.Intent.{Intent}
use Rattle.world_rules.specs.RoomParts.{RoomPart}
use Rattle.action_checks.proofs.Towards.{inside_some}
use Rattle.world_rules.specs.Checks.{may_take_effect}
use Rattle.world_rules.specs.Movement.{Mover}
use Rattle.world_rules.specs.Moves.{direction_of, inside, is_open, mover_of, mover_to, mover_towards, tile_towards}

-- ---- what the calls answer

module _ (part : RoomPart) (entry : Intent) (takes : may_take_effect Move entry part ≡ true) where
  pub mover_by : (found : Option Object) → get part.objects entry.actor ≡ found → option_and_then (mover_towards part entry.amount) found ≡ mover_of part entry
  mover_by found is = ap (option_and_then (mover_towards part entry.amount)) (sym is) ∙ ap (λ (b : Bool). cond b (option_and_then (mover_towards part entry.amount) (get part.objects entry.actor)) None) (sym takes)

pub no_mover : (part : RoomPart) (entry : Intent) → may_take_effect Move entry part ≡ false → None ≡ mover_of part entry
no_mover part entry fails = ap (λ (b : Bool). cond b (option_and_then (mover_towards part entry.amount) (get part.objects entry.actor)) None) (sym fails)

-- the mover of a creep with this tile ahead
pub mover_ahead : (part : RoomPart) (number : ℕ) (creep : Object) (found : Option (ℕ × ℕ)) → found ≡ option_and_then (λ to. tile_towards to creep.x creep.y) (direction_of number) → option_and_then (mover_to part creep) found ≡ mover_towards part number creep
mover_ahead part number creep found is = ap (option_and_then (mover_to part creep)) is

pub from_step : (part : RoomPart) (creep : Object) (found : Option Step) → get part.objects creep.id ≡ Some creep → is_creep creep.kind ≡ true → IfSome found (IsStepOf creep) → IfSome found (λ step. ComesFrom part (as_mover step) step.from)
from_step part creep None stands is steps = steps
from_step part creep (Some step) stands is steps = record {
  object = creep;
  stands = ap (get part.objects) steps.its ∙ stands;
  creep = is;
  at = sym steps.from;
  inside = steps.inside;
  column = steps.column;
  row = steps.row;
}

-- ---- what a mover tells

both_some : (one other : Option ℕ) (at : ℕ × ℕ) → option_and_then (λ column. option_map (λ row. (column, row)) other) one ≡ Some at → (one ≡ Some at.0) × (other ≡ Some at.1)
both_some None other at is = absurd (cc)
both_some (Some column) None at is = absurd (cc)
both_some (Some column) (Some row) at is = let same : (column, row) ≡ at = cc in (ap (λ (p : ℕ × ℕ). Some p.0) same, ap (λ (p : ℕ × ℕ). Some p.1) same)

towards_inside : (to : Direction) (x y : ℕ) (at : ℕ × ℕ) → tile_towards to x y ≡ Some at → (at.0 < 50) × (at.1 < 50)
towards_inside to x y at is =
    let both = both_some (inside (pos x +ℤ dx to)) (inside (pos y +ℤ dy to)) at is in
    ((inside_some (pos x +ℤ dx to) at.0 both.0).1, (inside_some (pos y +ℤ dy to) at.1 both.1).1)

ahead_inside : (found : Option Direction) (x y : ℕ) (at : ℕ × ℕ) → option_and_then (λ to. tile_towards to x y) found ≡ Some at → (at.0 < 50) × (at.1 < 50)
ahead_inside None x y at is = absurd (cc)
ahead_inside (Some to) x y at is = towards_inside to x y at is

to_some : (part : RoomPart) (creep : Object) (at : ℕ × ℕ) (one : Mover) → mover_to part creep at ≡ Some one → (one.creep ≡ creep.id) × (one.x ≡ at.0) × (one.y ≡ at.1)
to_some part creep at one = elim (is_open part creep.owner at) as (λ b. cond b (Some (record { creep = creep.id; x = at.0; y = at.1 })) None ≡ Some one → (one.creep ≡ creep.id) × (one.x ≡ at.0) × (one.y ≡ at.1)) [
  | true ↦ λ is. let m : Mover = record { creep = creep.id; x = at.0; y = at.1 } in let same : m ≡ one = cc in (ap (λ (n : Mover). n.creep) (sym same), ap (λ (n : Mover). n.x) (sym same), ap (λ (n : Mover). n.y) (sym same))
  | false ↦ λ is. absurd (cc)
]

-- what a mover tells of the creep that it is of
pub record MovesOf (part : RoomPart) (entry : Intent) (one : Mover) : Type 0 where
  pub object : Object
  pub stands : get part.objects entry.actor ≡ Some object
  pub takes : may_take_effect Move entry part ≡ true
  pub its : one.creep ≡ object.id
  pub column : one.x < 50
  pub row : one.y < 50

found_moves : (part : RoomPart) (entry : Intent) (one : Mover) (creep : Object) → may_take_effect Move entry part ≡ true → get part.objects entry.actor ≡ Some creep → (at : Option (ℕ × ℕ)) → at ≡ option_and_then (λ to. tile_towards to creep.x creep.y) (direction_of entry.amount)
    → option_and_then (mover_to part creep) at ≡ Some one → MovesOf part entry one
found_moves part entry one creep takes stands None from is = absurd (cc)
found_moves part entry one creep takes stands (Some at) from is =
    let bounds = ahead_inside (direction_of entry.amount) creep.x creep.y at (sym from) in
    let made = to_some part creep at one is in
    record { object = creep; stands = stands; takes = takes; its = made.0; column = subst (λ n. n < 50) (sym made.1) bounds.0; row = subst (λ n. n < 50) (sym made.2) bounds.1 }

actor_moves : (part : RoomPart) (entry : Intent) (one : Mover) (found : Option Object) → may_take_effect Move entry part ≡ true → get part.objects entry.actor ≡ found → option_and_then (mover_towards part entry.amount) found ≡ Some one → MovesOf part entry one
actor_moves part entry one None takes stands is = absurd (cc)
actor_moves part entry one (Some creep) takes stands is = found_moves part entry one creep takes stands (option_and_then (λ to. tile_towards to creep.x creep.y) (direction_of entry.amount)) refl is

pub moves_of : (part : RoomPart) (entry : Intent) (one : Mover) → mover_of part entry ≡ Some one → MovesOf part entry one
moves_of part entry one = elim (may_take_effect Move entry part) as (λ b. may_take_effect Move entry part ≡ b → cond b (option_and_then (mover_towards part entry.amount) (get part.objects entry.actor)) None ≡ Some one → MovesOf part entry one) [
  | true ↦ λ takes is. actor_moves part entry one (get part.objects entry.actor) takes refl is
  | false ↦ λ fails is. absurd (cc)
] refl

pub mover_inside : (part : RoomPart) (entry : Intent) (one : Mover) → mover_of part entry ≡ Some one → (one.x < 50) × (one.y < 50)
mover_inside part entry one is = let m = moves_of part entry one is in (m.column, m.row)
