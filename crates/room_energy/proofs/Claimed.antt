-- What creeps do to controllers: what they put into them is gone, and all else stays in the room.
use Rattle.std.proofs.Common.{◌≡◌, ℕ, ◌+◌, ◌-◌, ◌*◌, ◌==◌, max, min, nat_le, if◌then◌else◌, true, false, Option, Some, None, refl, ap, ◌∙◌, arith}
use Rattle.std.specs.FinMap.{get}
use Rattle.game_tables.specs.Levels.{total_for_next}
use Rattle.game_tables.specs.declared.action.Action.TheVariants.{ClaimController, Upgrade, Reserve, AttackController}
use Rattle.intent_book.specs.declared.intent.Intent.{Intent}
use Rattle.room_table.specs.Tallies.{sum_with}
use Rattle.room_table.specs.declared.object.Object.{Object}
use Rattle.world_rules.specs.RoomParts.{RoomPart}
use Rattle.world_rules.specs.Changes.{with_object}
use Rattle.world_rules.specs.Checks.{parties}
use Rattle.world_rules.specs.Claims.{claimed, claimed_by, claimed_for, controller_attacked, controller_hurt, full_time, hurt_by, live_claim, progressed, refreshed, reserved, reserved_by, risen, ticks_reserved, upgraded, upgraded_by, work_taken, worked_on}
use Rattle.world_rules.specs.Loads.{with_less}
use Rattle.room_rules.specs.RoomRules.{Holds}
use Rattle.room_rules.proofs.Changed.{target_apart}
use Rattle.room_rules.proofs.Claims.{taken_most}
use Rattle.room_energy.specs.Energy.{amount_between, energy_in}
use Rattle.room_energy.proofs.Parts.{IsReady, energy_changed, energy_two, under_own}
use Rattle.room_energy.proofs.Handed.{energy_parties, keeps_parties}

-- ---- what a controller holds

-- It has the id and the energy that it had.
abbrev Alike : Object → Object → Type 0
Alike before after = (after.id ≡ before.id) × (after.energy ≡ before.energy)

hurt_alike : (creep o : Object) → Alike o (controller_hurt creep o)
hurt_alike creep o =
    elim (o.owner == 0) as (λ b. Alike o (if b then record o { other_ticks = max 1 (o.other_ticks - live_claim creep) } else record o { timer = max 1 (o.timer - 300 * live_claim creep) })) [
      | true ↦ (refl, refl)
      | false ↦ (refl, refl)
    ]

refreshed_alike : (amount : ℕ) (before o : Object) → Alike before o → Alike before (refreshed amount o)
refreshed_alike amount before o alike =
    elim (amount == 0) as (λ b. Alike before (if b then o else record o { timer = min (full_time o.extra) (o.timer + 100) })) [
      | true ↦ alike
      | false ↦ alike
    ]

progressed_alike : (next : Option ℕ) (amount : ℕ) (before o : Object) → Alike before o → Alike before (progressed next amount o)
progressed_alike None amount before o alike = refreshed_alike amount before o alike
progressed_alike (Some total) amount before o alike =
    let more : Object = record o { progress = o.progress + amount } in
    elim (nat_le total more.progress) as (λ b. Alike before (if b then risen total more else refreshed amount more)) [
      | true ↦ alike
      | false ↦ refreshed_alike amount before more alike
    ]

worked_alike : (amount : ℕ) (o : Object) → Alike o (worked_on amount o)
worked_alike amount o = progressed_alike (total_for_next o.extra) amount o (record o { other_ticks = sum_with amount o.other_ticks }) (refl, refl)

-- ---- the rules

module _ (part : RoomPart) (ready : IsReady part) (entry : Intent) where
  -- A target in whose place something stands that holds as much.
  alike_changed : (target after : Object) → Holds part entry.target target → Alike target after → energy_in (with_object after part) ≡ energy_in part
  alike_changed target after there alike =
      let changed = energy_changed part after target (ap (get part.objects) alike.0 ∙ under_own part ready entry.target target there) in
      omega (arith, changed, alike.1)

  pub energy_claimed : energy_in (claimed entry part) + 0 ≡ energy_in part
  energy_claimed = keeps_parties ClaimController (claimed_by entry.player) entry part (λ creep controller p. alike_changed controller (claimed_for entry.player controller) p.at (refl, refl))

  pub energy_reserved : energy_in (reserved entry part) + 0 ≡ energy_in part
  energy_reserved = keeps_parties Reserve (reserved_by entry.player) entry part (λ creep controller p.
      alike_changed controller (record controller { other = entry.player; other_ticks = ticks_reserved creep controller }) p.at (refl, refl))

  pub energy_attacked : energy_in (controller_attacked entry part) + 0 ≡ energy_in part
  energy_attacked = keeps_parties AttackController hurt_by entry part (λ creep controller p. alike_changed controller (controller_hurt creep controller) p.at (hurt_alike creep controller))

  pub energy_upgraded : energy_in (upgraded entry part) + amount_between work_taken (parties Upgrade entry part) ≡ energy_in part
  energy_upgraded = energy_parties Upgrade upgraded_by work_taken entry part (λ creep controller p.
      let amount : ℕ = work_taken creep controller in
      let alike = worked_alike amount controller in
      let both = energy_two part ready entry.actor entry.target creep controller (with_less amount creep) (worked_on amount controller) p.there p.at
      (target_apart Upgrade 3 entry part creep controller p.targets refl) refl alike.0 in
      omega (arith, both, alike.1, taken_most creep controller))
