-- What creeps get out of buildings that they tear down, and a creep that ends itself.
use Rattle.std.proofs.Common.{◌≡◌, ℕ, ◌+◌, ◌-◌, ◌≤◌, min, Option, Some, None, refl, arith}
use Rattle.game_tables.specs.declared.action.Action.TheVariants.{Dismantle, Suicide}
use Rattle.intent_book.specs.declared.intent.Intent.{Intent}
use Rattle.room_table.specs.Stores.{free_room}
use Rattle.room_table.specs.declared.object.Object.{Object}
use Rattle.world_rules.specs.RoomParts.{RoomPart, controller_of}
use Rattle.world_rules.specs.Changes.{with_object}
use Rattle.world_rules.specs.Checks.{acting, between, may_take_effect, parties}
use Rattle.world_rules.specs.Fights.{dismantled, dismantled_by, ended, salvage, without_hits}
use Rattle.world_rules.specs.Loads.{with_more}
use Rattle.world_rules.specs.Steps.{by_object}
use Rattle.world_rules.proofs.Checked.{AreParties, parties_are}
use Rattle.room_rules.proofs.Fights.{acting_stands}
use Rattle.room_energy.specs.Energy.{amount_between, energy_in, lost_by_dismantle}
use Rattle.room_energy.proofs.Parts.{IsReady, energy_changed, ready_changed, under_own}
use Rattle.room_energy.proofs.Piles.{energy_fallen}

-- ---- dismantling

-- What is taken and what falls are together what was got.
taken_and_fallen : (after lost middle load before amount taken : ℕ) → taken ≤ amount → middle + load ≡ before + (load + taken) → after + lost ≡ middle + (amount - taken) → after + lost ≡ before + amount
taken_and_fallen after lost middle load before amount taken less more fell = omega arith

module _ (part : RoomPart) (ready : IsReady part) (entry : Intent) where
  torn : (creep building : Object) → AreParties Dismantle entry part creep building → energy_in (dismantled_by creep building part) + lost_by_dismantle part creep building ≡ energy_in part + salvage creep building
  torn creep building p =
      let amount : ℕ = salvage creep building in
      let taken : ℕ = min amount (free_room (controller_of part) creep) in
      let more : Object = with_more taken creep in
      taken_and_fallen (energy_in (dismantled_by creep building part)) (lost_by_dismantle part creep building) (energy_in (with_object more part)) creep.energy (energy_in part) amount taken
      (omega arith)
      (energy_changed part more creep (under_own part ready entry.actor creep p.there))
      (energy_fallen creep.x creep.y (amount - taken) (with_object more part) (ready_changed part more ready))

  torn_between : (found : Option (Object × Object)) → parties Dismantle entry part ≡ found → energy_in (between dismantled_by found part) + amount_between (lost_by_dismantle part) found ≡ energy_in part + amount_between salvage found
  torn_between None is = omega arith
  torn_between (Some found) is = torn found.0 found.1 (parties_are Dismantle entry part found is)

  pub energy_dismantled : energy_in (dismantled entry part) + amount_between (lost_by_dismantle part) (parties Dismantle entry part) ≡ energy_in part + amount_between salvage (parties Dismantle entry part)
  energy_dismantled = torn_between (parties Dismantle entry part) refl

  -- ---- the end of a creep

  ended_as : (found : Option Object) → acting Suicide entry part ≡ found → energy_in (by_object without_hits part found) ≡ energy_in part
  ended_as None is = refl
  ended_as (Some creep) is =
      let stands = acting_stands part entry (may_take_effect Suicide entry part) creep is in
      let changed = energy_changed part (record creep { hits = 0 }) creep (under_own part ready entry.actor creep stands.1) in
      omega (arith, changed)

  pub energy_ended : energy_in (ended entry part) ≡ energy_in part
  energy_ended = ended_as (acting Suicide entry part) refl
