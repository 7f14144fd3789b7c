-- What a rule asks and keeps that puts another controller in the place of its target.
use Rattle.std.proofs.Common.{◌≡◌, ℕ, ◌+◌, ◌-◌, ◌*◌, ◌≤◌, ◌==◌, max, min, nat_le, if◌then◌else◌, true, false, List, Option, Some, None, refl, sym, ap, subst, ◌∙◌}
use Rattle.game_tables.specs.Levels.{total_for_next}
use Rattle.room_terrain.specs.declared.terrain.Ground.{Ground}
use Rattle.room_table.specs.declared.object.Object.{Object}
use Rattle.room_table.specs.Tables.{Table, HasId, IsOnTile}
use Rattle.room_table.specs.Tallies.{sum_with}
use Rattle.world_rules.specs.Claims.{controller_hurt, full_time, live_claim, progressed, refreshed, risen, worked_on}
use Rattle.world_rules.specs.RoomParts.{table_part}
use Rattle.world_rules.specs.Changes.{with_object as with_in_part}
use Rattle.world_rules.proofs.TableParts.{part_replaced}
use Rattle.room_rules.specs.Calls.{IsReady, Keeps}
use Rattle.room_rules.proofs.Calls.{keeps_after, keeps_itself, ready_set, set_in}

module _ (table new : Table) (object : Object) (there : HasId object.id table.objects) (on : IsOnTile object) (is : new ≡ set_in object table) where
  pub part_set : (grounds : List Ground) → table_part grounds new ≡ with_in_part object (table_part grounds table)
  part_set grounds = ap (table_part grounds) is ∙ part_replaced grounds table object there

  pub keeps_set : IsReady table → Keeps table new
  keeps_set ready = subst (Keeps table) (sym is) (keeps_after table (set_in object table) (set_in object table) refl refl refl (keeps_itself (set_in object table) (ready_set table object on ready)))

-- ---- a controller that is attacked stands where it stood

module _ (P : Object → Type 0) (creep controller : Object) where
  hurt_as : P (record controller { other_ticks = max 1 (controller.other_ticks - live_claim creep) }) → P (record controller { timer = max 1 (controller.timer - 300 * live_claim creep) }) → P (controller_hurt creep controller)
  hurt_as reserved owned = elim (controller.owner == 0) as (λ b. P (if b then record controller { other_ticks = max 1 (controller.other_ticks - live_claim creep) } else record controller { timer = max 1 (controller.timer - 300 * live_claim creep) })) [
    | true ↦ reserved
    | false ↦ owned
  ]

pub hurt_on : (creep controller : Object) → IsOnTile controller → IsOnTile (controller_hurt creep controller)
hurt_on creep controller on = hurt_as IsOnTile creep controller (record { column = on.column; row = on.row }) (record { column = on.column; row = on.row })

pub hurt_there : (creep controller : Object) (objects : List Object) → HasId controller.id objects → HasId (controller_hurt creep controller).id objects
hurt_there creep controller objects there = hurt_as (λ o. HasId o.id objects) creep controller there there

-- ---- so does one into which something is put

module _ (P : ℕ → ℕ → ℕ → Type 0) where
  refreshed_at : (amount : ℕ) (controller : Object) → P controller.id controller.x controller.y → P (refreshed amount controller).id (refreshed amount controller).x (refreshed amount controller).y
  refreshed_at amount controller p = elim (amount == 0) as (λ b. (let after : Object = if b then controller else record controller { timer = min (full_time controller.extra) (controller.timer + 100) } in P after.id after.x after.y)) [
    | true ↦ p
    | false ↦ p
  ]

  progressed_at : (next : Option ℕ) (amount : ℕ) (controller : Object) → P controller.id controller.x controller.y → P (progressed next amount controller).id (progressed next amount controller).x (progressed next amount controller).y
  progressed_at None amount controller p = refreshed_at amount controller p
  progressed_at (Some total) amount controller p =
      let more : Object = record controller { progress = controller.progress + amount } in
      elim (nat_le total more.progress) as (λ b. (let after : Object = if b then risen total more else refreshed amount more in P after.id after.x after.y)) [
        | true ↦ p
        | false ↦ refreshed_at amount more p
      ]

  worked_at : (amount : ℕ) (controller : Object) → P controller.id controller.x controller.y → P (worked_on amount controller).id (worked_on amount controller).x (worked_on amount controller).y
  worked_at amount controller p = progressed_at (total_for_next controller.extra) amount (record controller { other_ticks = sum_with amount controller.other_ticks }) p

pub worked_on_tile : (amount : ℕ) (controller : Object) → IsOnTile controller → IsOnTile (worked_on amount controller)
worked_on_tile amount controller on =
    let both = worked_at (λ id x y. (x ≤ 49) × (y ≤ 49)) amount controller (on.column, on.row) in record { column = both.0; row = both.1 }

pub worked_there : (amount : ℕ) (controller : Object) (objects : List Object) → HasId controller.id objects → HasId (worked_on amount controller).id objects
worked_there amount controller objects there = worked_at (λ id x y. HasId id objects) amount controller there
