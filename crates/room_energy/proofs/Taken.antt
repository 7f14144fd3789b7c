-- What each entry does to the energy of its room.
use Rattle.std.proofs.Common.{◌≡◌, ℕ, ◌+◌, ◌^◌, ◌<◌, Bool, refl, ap, arith}
use Rattle.game_tables.specs.declared.action.Action.{Action}
use Rattle.game_tables.specs.declared.action.Action.TheVariants.{DropLoad, Transfer, Withdraw, Pickup, Dismantle, Harvest, Repair, Build, Suicide, ClaimController, Upgrade, Reserve, AttackController, CreateSite, RemoveSite, SpawnCreep}
use Rattle.intent_book.specs.declared.intent.Intent.{Intent}
use Rattle.world_rules.specs.RoomParts.{RoomPart}
use Rattle.world_rules.specs.Tick.{rule_of}
use Rattle.room_rules.specs.Within.{Stage}
use Rattle.room_rules.specs.RoomRules.{KeepsRoomRules}
use Rattle.room_energy.specs.Energy.{energy_in, given_by, taken_by}
use Rattle.room_energy.proofs.Parts.{IsReady, ready_of}
use Rattle.room_energy.proofs.Piles.{energy_dropped}
use Rattle.room_energy.proofs.Handed.{energy_transferred, energy_withdrawn, energy_picked_up}
use Rattle.room_energy.proofs.Fought.{energy_dismantled, energy_ended}
use Rattle.room_energy.proofs.Claimed.{energy_attacked, energy_claimed, energy_reserved, energy_upgraded}
use Rattle.room_energy.proofs.Spawned.{energy_begun, energy_site_made, energy_site_removed}
use Rattle.room_energy.proofs.Worked.{energy_harvested, energy_repaired, energy_built}

-- A rule that puts nothing in.
none_given : (after taken before : ℕ) → after + taken ≡ before → after + taken ≡ before + 0
none_given after taken before is = omega arith

module _ (players : ℕ → Bool) (stage : Stage) (part : RoomPart) (k : KeepsRoomRules players stage part) (room : part.next < 2 ^ 32) (entry : Intent) where
  ready : IsReady part
  ready = ready_of players stage part k room

  pub rule_takes : (action : Action) → energy_in (rule_of action entry part).part + taken_by action entry part ≡ energy_in part + given_by action entry part
  rule_takes DropLoad = none_given _ _ _ (energy_dropped part ready entry)
  rule_takes Transfer = none_given _ _ _ (energy_transferred part ready entry)
  rule_takes Withdraw = none_given _ _ _ (energy_withdrawn part ready entry)
  rule_takes Pickup = none_given _ _ _ (energy_picked_up part ready entry)
  rule_takes Dismantle = energy_dismantled part ready entry
  rule_takes Harvest = none_given _ _ _ (energy_harvested part ready entry)
  rule_takes Repair = none_given _ _ _ (energy_repaired part ready entry)
  rule_takes Build = none_given _ _ _ (energy_built players stage part k ready entry)
  rule_takes Suicide = ap (λ (n : ℕ). n + 0) (energy_ended part ready entry)
  rule_takes ClaimController = none_given _ _ _ (energy_claimed part ready entry)
  rule_takes Upgrade = none_given _ _ _ (energy_upgraded part ready entry)
  rule_takes Reserve = none_given _ _ _ (energy_reserved part ready entry)
  rule_takes AttackController = none_given _ _ _ (energy_attacked part ready entry)
  rule_takes CreateSite = none_given _ _ _ (energy_site_made part ready entry)
  rule_takes RemoveSite = none_given _ _ _ (energy_site_removed players stage part k entry)
  rule_takes SpawnCreep = none_given _ _ _ (energy_begun part ready entry)
  rule_takes action = refl
