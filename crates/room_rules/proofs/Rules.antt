-- The rules in force lead a room through the stages of a tick.
use Rattle.std.proofs.Common.{ℕ, ◌≤◌, ◌++◌, Bool, refl, arith}
use Rattle.game_tables.specs.Kinds.{hits_max}
use Rattle.game_tables.specs.declared.action.Action.{Action}
use Rattle.game_tables.specs.declared.action.Action.TheVariants.{DropLoad, Transfer, Withdraw, Pickup, Dismantle, Harvest, Repair, Build, Suicide, ClaimController, Upgrade, Reserve, AttackController, CreateSite, RemoveSite, SpawnCreep}
use Rattle.game_tables.specs.declared.kind.Kind.{Kind}
use Rattle.game_tables.specs.declared.kind.Kind.TheVariants.{Controller, Creep}
use Rattle.intent_book.specs.declared.intent.Intent.{Intent}
use Rattle.room_table.specs.declared.object.Object.{Object}
use Rattle.world_rules.specs.RoomParts.{RoomPart}
use Rattle.world_rules.specs.RuleBook.{Sums}
use Rattle.world_rules.specs.Claims.{controllers_aged}
use Rattle.world_rules.specs.Spawns.{hatched}
use Rattle.world_rules.specs.RoomTick.{room_after_steps}
use Rattle.world_rules.specs.Tick.{rule_of}
use Rattle.world_rules.specs.Upkeep.{aged, buildings_decayed, first_steps, last_steps, middle_steps, recovered, renewed, struck, unloaded}
use Rattle.room_rules.specs.Within.{between, moved, summed, within, IsInRangeIn}
use Rattle.room_rules.specs.RoomRules.{KeepsRoomRules, Leads}
use Rattle.room_rules.proofs.Keeps.{IsSame-refl, keeps_came}
use Rattle.room_rules.proofs.Falls.{keeps_dropped}
use Rattle.room_rules.proofs.Amounts.{load_more}
use Rattle.room_rules.proofs.Loads.{keeps_transferred, keeps_withdrawn, keeps_picked_up}
use Rattle.room_rules.proofs.Work.{keeps_harvested, keeps_repaired}
use Rattle.room_rules.proofs.Built.{keeps_built}
use Rattle.room_rules.proofs.Fights.{keeps_dismantled, keeps_ended}
use Rattle.room_rules.proofs.Spawned.{keeps_begun, keeps_hatched, keeps_site_made, keeps_site_removed}
use Rattle.room_rules.proofs.Claims.{begun_controller, keeps_claimed, keeps_controllers, keeps_hurt, keeps_reserved, keeps_upgraded}
use Rattle.room_rules.proofs.Steps.{keeps_aged, keeps_decayed, keeps_filled, keeps_recovered, keeps_renewed, keeps_weathered}
use Rattle.room_rules.proofs.Settled.{keeps_struck, keeps_unloaded}

-- ---- the beginning of a tick

begun_range : (k : Kind) (o : Object) → IsInRangeIn k between o → IsInRangeIn k within o
begun_range Creep o s = record { owner = s.owner; hits = omega (arith, s.hits); energy = omega (arith, s.energy, load_more o.hits (hits_max Creep o.body) o.body (omega (arith, s.hits))); timer = s.timer; extra = s.extra; progress = s.progress; other = s.other; other_ticks = omega (arith, s.other_ticks); some_parts = s.some_parts; parts = s.parts }
begun_range Controller o s = begun_controller o s
begun_range k o s = s

-- A room that keeps its rules between ticks keeps the wider ones within a tick.
pub begun_leads : Leads between within (λ part. part)
begun_leads players part k = keeps_came players between within part part k refl refl (omega arith) (λ id o h. (o, h, IsSame-refl o, begun_range o.kind o))

-- ---- entries

pub rule_keeps : (action : Action) (entry : Intent) (players : ℕ → Bool) (part : RoomPart) → 1 ≤ entry.player → KeepsRoomRules players within part
    → KeepsRoomRules players within (rule_of action entry part).part
rule_keeps DropLoad entry players part some k = keeps_dropped players within part k entry
rule_keeps Transfer entry players part some k = keeps_transferred players within part k entry
rule_keeps Withdraw entry players part some k = keeps_withdrawn players within part k entry
rule_keeps Pickup entry players part some k = keeps_picked_up players within part k entry
rule_keeps Harvest entry players part some k = keeps_harvested players within part k entry
rule_keeps Repair entry players part some k = keeps_repaired players within part k entry
rule_keeps Build entry players part some k = keeps_built players within part k entry
rule_keeps Dismantle entry players part some k = keeps_dismantled players within part k entry
rule_keeps Suicide entry players part some k = keeps_ended players part k entry
rule_keeps ClaimController entry players part some k = keeps_claimed players entry part k
rule_keeps Upgrade entry players part some k = keeps_upgraded players entry part k
rule_keeps Reserve entry players part some k = keeps_reserved players entry part k
rule_keeps AttackController entry players part some k = keeps_hurt players entry part k
rule_keeps CreateSite entry players part some k = keeps_site_made players within entry some part k
rule_keeps RemoveSite entry players part some k = keeps_site_removed players within part k entry
rule_keeps SpawnCreep entry players part some k = keeps_begun players within part k entry
rule_keeps action entry players part some k = k

-- ---- upkeep

-- The steps up to the gain of spawns lead to the stage at which controllers still keep what was put into them.
pub first_lead : (sums : Sums) → Leads within summed (room_after_steps sums first_steps)
first_lead sums players part k =
    let light = unloaded (struck sums part) in
    keeps_filled players summed (recovered (aged light))
    (keeps_recovered players summed (aged light)
    (keeps_aged players light
    (keeps_unloaded players (struck sums part) (keeps_struck sums players part k))))

-- The later steps lead to the stage before crossings.
pub later_lead : (sums : Sums) → Leads summed moved (room_after_steps sums (middle_steps ++ last_steps))
later_lead sums players part k =
    let born : RoomPart = hatched part in
    let rested : RoomPart = controllers_aged born in
    keeps_decayed players moved (buildings_decayed (renewed rested))
    (keeps_weathered players moved (renewed rested) (keeps_renewed players moved rested (keeps_controllers players born (keeps_hatched players part k))))
