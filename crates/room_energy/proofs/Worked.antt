-- What creeps harvest, repair and build: what the room keeps, and what is gone.
use Rattle.std.proofs.Common.{◌≡◌, inl, inr, ℕ, ◌+◌, ◌-◌, ◌*◌, ◌≤◌, nat_lt, min, if◌then◌else◌, Bool, true, false, Option, Some, None, refl, sym, ap, ◌∙◌, arith}
use Rattle.std.specs.FinMap.{get}
use Rattle.std.proofs.lemmas.Bool.{cases_lt}
use Rattle.game_tables.specs.Actions.{is_target}
use Rattle.game_tables.specs.declared.action.Action.TheVariants.{Harvest, Repair, Build}
use Rattle.game_tables.specs.declared.kind.Kind.{Kind}
use Rattle.game_tables.specs.declared.kind.Kind.TheVariants.{Site}
use Rattle.intent_book.specs.declared.intent.Intent.{Intent}
use Rattle.room_table.specs.Stores.{building_of, free_room}
use Rattle.room_table.specs.declared.object.Object.{Object}
use Rattle.world_rules.specs.RoomParts.{RoomPart, controller_of}
use Rattle.world_rules.specs.Changes.{with_object, without, with_new, next_id}
use Rattle.world_rules.specs.Checks.{by_parties, parties}
use Rattle.world_rules.specs.Loads.{with_more, with_less}
use Rattle.world_rules.specs.Work.{live_work, harvested_by, hits_gained, repair_cost, repaired_by, building_on, built_as, built_by, total_of, work_put}
use Rattle.world_rules.proofs.Checked.{AreParties}
use Rattle.room_rules.specs.Within.{Stage, IsInRangeIn}
use Rattle.room_rules.specs.RoomRules.{Holds, KeepsRoomRules}
use Rattle.room_rules.proofs.Changed.{holds_still, target_apart, target_kind}
use Rattle.room_energy.specs.Energy.{energy_in, lost_by_harvest, put_into, amount_between}
use Rattle.room_energy.proofs.Parts.{IsReady, energy_changed, energy_new, energy_two, energy_without, ready_changed, ready_without, under_own}
use Rattle.room_energy.proofs.Piles.{energy_fallen}
use Rattle.room_energy.proofs.Handed.{energy_parties}

-- ---- harvest

pub energy_harvested : (part : RoomPart) → IsReady part → (entry : Intent) → energy_in (by_parties Harvest harvested_by entry part) + amount_between (lost_by_harvest part) (parties Harvest entry part) ≡ energy_in part
energy_harvested part ready entry = energy_parties Harvest harvested_by (lost_by_harvest part) entry part (λ creep source p.
    let amount : ℕ = min (2 * live_work creep) source.energy in
    let taken : ℕ = min amount (free_room (controller_of part) creep) in
    let less : Object = with_less amount source in
    let more : Object = with_more taken creep in
    let after : RoomPart = with_object more (with_object less part) in
    let both = energy_two part ready entry.target entry.actor source creep less more p.at p.there (λ same. target_apart Harvest 1 entry part creep source p.targets refl (sym same)) refl refl in
    let fell = energy_fallen creep.x creep.y (amount - taken) after (ready_changed (with_object less part) more (ready_changed part less ready)) in
    omega (arith, both, fell))

-- ---- repair

-- No more is paid than is there.
cost_most : (gain load : ℕ) → gain ≤ 100 * load → repair_cost gain ≤ load
cost_most gain load paid = omega (arith, paid)

pub energy_repaired : (part : RoomPart) → IsReady part → (entry : Intent)
    → energy_in (by_parties Repair repaired_by entry part) + amount_between (λ creep building. repair_cost (hits_gained creep building)) (parties Repair entry part) ≡ energy_in part
energy_repaired part ready entry = energy_parties Repair repaired_by (λ creep building. repair_cost (hits_gained creep building)) entry part (λ creep building p.
    let gain : ℕ = hits_gained creep building in
    let cost : ℕ = repair_cost gain in
    let most : cost ≤ creep.energy = cost_most gain creep.energy (omega arith) in
    let both = energy_two part ready entry.actor entry.target creep building (with_less cost creep) (record building { hits = building.hits + gain }) p.there p.at
    (target_apart Repair 3 entry part creep building p.targets refl) refl refl in
    omega (arith, most, both))

-- ---- build

site_empty : (stage : Stage) (site : Object) (k : Kind) → is_target Build k ≡ true → IsInRangeIn k stage site → site.energy ≡ 0
site_empty stage site Site is ranges = ranges.energy
site_empty stage site k is ranges = absurd (cc)

-- A number is 0 where that is not false.
none_of : (n : ℕ) → ((n ≡ 0 → ⊥) → ⊥) → n ≡ 0
none_of n stable = elim (cases_lt 0 n) [
  | inl some ↦ absurd (stable (λ none. omega (arith, some, none)))
  | inr none ↦ omega (arith, none)
]

-- Where a site is further, or an empty building in its place, the energy is the same.
energy_advanced : (part : RoomPart) → IsReady part → (site further : Object) (make : ℕ → Object) → Holds part site.id site → further.id ≡ site.id → further.energy ≡ site.energy → site.energy ≡ 0
    → ((id : ℕ) → (make id).energy ≡ 0) → (b : Bool) → energy_in (if b then with_object further part else with_new make (without site.id part)) ≡ energy_in part
energy_advanced part ready site further make there same alike empty nothing true =
    let changed = energy_changed part further site (ap (get part.objects) same ∙ there) in omega (arith, changed, alike)
energy_advanced part ready site further make there same alike empty nothing false =
    let rest : RoomPart = without site.id part in
    let gone = energy_without part site.id site there in
    let new = energy_new rest (ready_without part site.id ready) make in
    let none = nothing (next_id rest) in
    omega (arith, empty, gone, new, none)

module _ (part : RoomPart) (ready : IsReady part) (entry : Intent) (creep site : Object) (p : AreParties Build entry part creep site) (empty : site.energy ≡ 0) where
  built_with : (of : Option Kind) → energy_in (built_as of creep site part) + put_into of creep site ≡ energy_in part
  built_with None = omega arith
  built_with (Some kind) =
      let work : ℕ = work_put kind creep site in
      let less : Object = with_less work creep in
      let middle : RoomPart = with_object less part in
      let further : Object = record site { progress = site.progress + work } in
      let there : Holds middle site.id site = holds_still part less site.id site (under_own part ready entry.target site p.at) (target_apart Build 3 entry part creep site p.targets refl) in
      let paid = energy_changed part less creep (under_own part ready entry.actor creep p.there) in
      let later = energy_advanced middle (ready_changed part less ready) site further (building_on kind middle further) there refl refl empty (λ id. refl) (nat_lt further.progress (total_of kind)) in
      omega (arith, paid, later)

pub energy_built : (players : ℕ → Bool) (stage : Stage) (part : RoomPart) → KeepsRoomRules players stage part → IsReady part → (entry : Intent)
    → energy_in (by_parties Build built_by entry part) + amount_between (λ creep site. put_into (building_of site) creep site) (parties Build entry part) ≡ energy_in part
energy_built players stage part k ready entry = energy_parties Build built_by (λ creep site. put_into (building_of site) creep site) entry part (λ creep site p.
    let empty : site.energy ≡ 0 = none_of site.energy (λ some. k.ranges entry.target site p.at (λ ranges. some (site_empty stage site site.kind (target_kind Build 3 entry part creep site p.targets) ranges))) in
    built_with part ready entry creep site p empty (building_of site))
