-- The rules in force stay in their rooms.
use Rattle.std.proofs.Common.{ℕ, ◌+◌, ◌-◌, ◌*◌, ◌==◌, ◌&&◌, ◌||◌, if◌then◌else◌, min, nat_lt, Bool, List, [], ◌∷◌, length, Option, Some, None}
use Rattle.std.specs.List.{filter, find}
use Rattle.std.specs.FinMap.{get, values}
use Rattle.game_tables.specs.Bodies.{body_cost, load_room}
use Rattle.game_tables.specs.Kinds.{is_building, is_creep, source_capacity}
use Rattle.game_tables.specs.declared.kind.Kind.{Kind}
use Rattle.game_tables.specs.declared.kind.Kind.TheVariants.{Creep, Spawn}
use Rattle.game_tables.specs.declared.action.Action.{Action}
use Rattle.game_tables.specs.declared.action.Action.TheVariants.{DropLoad, Transfer, Withdraw, Pickup, Dismantle, Harvest, Repair, Build, Suicide, ClaimController, Upgrade, Reserve, AttackController, CreateSite, RemoveSite, SpawnCreep}
use Rattle.room_table.specs.Controllers.{is_taken, is_owned_room}
use Rattle.room_table.specs.Stores.{building_of, free_room}
use Rattle.room_table.specs.declared.object.Object.{Object}
use Rattle.intent_book.specs.declared.intent.Intent.{Intent}
use Rattle.world_rules.specs.RoomParts.{RoomPart, controller_of}
use Rattle.world_rules.specs.Changes.{with_object, without, with_new}
use Rattle.world_rules.specs.RuleBook.{Sums, Follows, StaysInRoom, IsOrderly}
use Rattle.world_rules.specs.Checks.{all_hold, acting, may_take_effect, parties, between, by_parties, standing_at}
use Rattle.world_rules.specs.Drops.{pile_bound, pile_on, pile_of, fallen_on, fallen, wanted_of, dropped_by, dropped_of}
use Rattle.world_rules.specs.Loads.{with_more, with_less, handed_over, transferred_by, withdrawn_by, taken_from, picked_up_by}
use Rattle.world_rules.specs.Work.{live_work, harvested_by, hits_gained, repair_cost, repaired_by, total_of, work_put, building_on, advanced, built_as, built_by}
use Rattle.world_rules.specs.Fights.{dismantled_by, salvage, without_hits}
use Rattle.world_rules.specs.Claims.{claimed_by, claimed_for, controller_aged_as, controller_hurt, hurt_by, reserved_by, ticks_reserved, upgraded_by, work_taken, worked_on}
use Rattle.world_rules.specs.Sites.{making_checks, plan_of, removing_checks, site_of}
use Rattle.world_rules.specs.Spawns.{begun_with, held_by, hatched_as, hatched_on, newborn, paid, payers, share, spawn_checks, tile_for}
use Rattle.world_rules.specs.Steps.{by_object, over_objects}
use Rattle.world_rules.specs.Movement.{Mover, movers, has_mover, stepped, worn_as, moved_by}
use Rattle.world_rules.specs.Moves.{candidates, fatigue}
use Rattle.world_rules.specs.Upkeep.{aged_as, decayed_as, decays, buildings_decayed, filled_as, gone, hits_left, recovered_as, renewed_as, spawn_capacity, standing_or_gone, struck_as, unloaded_as, weathered, weathered_as}
use Rattle.world_rules.specs.Tick.{rule_of, book}
use Rattle.world_rules.proofs.Follows.{follows_self, follows_trans, follows_if, follows_object, follows_without, follows_new, follows_over, follows_each}

on_follows : (pile : Option Object) (x y amount : ℕ) (part : RoomPart) → Follows part (fallen_on pile x y amount part)
on_follows None x y amount part = follows_new (λ id. pile_of id x y (min pile_bound amount)) part
on_follows (Some pile) x y amount part = follows_object (record pile { energy = min pile_bound (pile.energy + amount) }) part

pub follows_fallen : (x y amount : ℕ) (part : RoomPart) → Follows part (fallen x y amount part)
follows_fallen x y amount part = follows_if (amount == 0) part part (fallen_on (pile_on x y part) x y amount part) (follows_self part) (on_follows (pile_on x y part) x y amount part)

by_follows : (creep : Object) (amount : ℕ) (part : RoomPart) → Follows part (dropped_by creep amount part)
by_follows creep amount part =
    let less : RoomPart = with_object (record creep { energy = creep.energy - amount }) part in
    follows_trans part less (dropped_by creep amount part) (follows_object (record creep { energy = creep.energy - amount }) part) (follows_fallen creep.x creep.y amount less)

of_follows : (entry : Intent) (creep : Option Object) (part : RoomPart) → Follows part (dropped_of entry creep part)
of_follows entry None part = follows_self part
of_follows entry (Some creep) part = follows_if (may_take_effect DropLoad entry part) part (dropped_by creep (wanted_of entry.amount creep.energy) part) part (by_follows creep (wanted_of entry.amount creep.energy) part) (follows_self part)

-- ---- what a creep does with a target

module _ (action : Action) (change : Object → Object → RoomPart → RoomPart) (stays : (creep target : Object) → StaysInRoom (change creep target)) where
  between_follows : (found : Option (Object × Object)) → StaysInRoom (between change found)
  between_follows None part = follows_self part
  between_follows (Some found) part = stays found.0 found.1 part

  follows_parties : (entry : Intent) → StaysInRoom (by_parties action change entry)
  follows_parties entry part = between_follows (parties action entry part) part

-- two objects put one after the other
two_follow : (one other : Object) → StaysInRoom (λ part. with_object one (with_object other part))
two_follow one other part = follows_trans part (with_object other part) (with_object one (with_object other part)) (follows_object other part) (follows_object one (with_object other part))

hand_follows : (amount : ℕ) (giver taker : Object) → StaysInRoom (handed_over amount giver taker)
hand_follows amount giver taker = two_follow (with_more amount taker) (with_less amount giver)

taken_follows : (pile : Object) (amount : ℕ) → StaysInRoom (taken_from pile amount)
taken_follows pile amount part = follows_if (amount == pile.energy) part (without pile.id part) (with_object (with_less amount pile) part) (follows_without pile.id part) (follows_object (with_less amount pile) part)

pick_follows : (creep pile : Object) → StaysInRoom (picked_up_by creep pile)
pick_follows creep pile part =
    let amount : ℕ = min pile.energy (free_room (controller_of part) creep) in
    let less : RoomPart = taken_from pile amount part in
    follows_trans part less (with_object (with_more amount creep) less) (taken_follows pile amount part) (follows_object (with_more amount creep) less)

harvest_follows : (creep source : Object) → StaysInRoom (harvested_by creep source)
harvest_follows creep source part =
    let amount : ℕ = min (2 * live_work creep) source.energy in
    let taken : ℕ = min amount (free_room (controller_of part) creep) in
    let less : RoomPart = with_object (with_more taken creep) (with_object (with_less amount source) part) in
    follows_trans part less (harvested_by creep source part) (two_follow (with_more taken creep) (with_less amount source) part) (follows_fallen creep.x creep.y (amount - taken) less)

repair_follows : (creep building : Object) → StaysInRoom (repaired_by creep building)
repair_follows creep building = two_follow (record building { hits = building.hits + hits_gained creep building }) (with_less (repair_cost (hits_gained creep building)) creep)

advance_follows : (kind : Kind) (site : Object) → StaysInRoom (advanced kind site)
advance_follows kind site part =
    let gone : RoomPart = without site.id part in
    follows_if (nat_lt site.progress (total_of kind)) part (with_object site part) (with_new (building_on kind part site) gone) (follows_object site part)
    (follows_trans part gone (with_new (building_on kind part site) gone) (follows_without site.id part) (follows_new (building_on kind part site) gone))

build_follows : (creep site : Object) (kind : Option Kind) → StaysInRoom (built_as kind creep site)
build_follows creep site None part = follows_self part
build_follows creep site (Some kind) part =
    let work : ℕ = work_put kind creep site in
    let less : RoomPart = with_object (with_less work creep) part in
    follows_trans part less (built_as (Some kind) creep site part) (follows_object (with_less work creep) part) (advance_follows kind (record site { progress = site.progress + work }) less)

dismantle_follows : (creep building : Object) → StaysInRoom (dismantled_by creep building)
dismantle_follows creep building part =
    let amount : ℕ = salvage creep building in
    let taken : ℕ = min amount (free_room (controller_of part) creep) in
    let more : RoomPart = with_object (with_more taken creep) part in
    follows_trans part more (dismantled_by creep building part) (follows_object (with_more taken creep) part) (follows_fallen creep.x creep.y (amount - taken) more)

end_follows : (creep : Option Object) → StaysInRoom (λ part. by_object without_hits part creep)
end_follows None part = follows_self part
end_follows (Some creep) part = follows_object (record creep { hits = 0 }) part

upgrade_follows : (creep controller : Object) → StaysInRoom (upgraded_by creep controller)
upgrade_follows creep controller =
    let amount : ℕ = work_taken creep controller in
    two_follow (worked_on amount controller) (with_less amount creep)

-- ---- spawns

by_object_follows : (found : Option Object) (change : Object → RoomPart → RoomPart) → ((object : Object) → StaysInRoom (change object)) → StaysInRoom (λ part. by_object change part found)
by_object_follows None change stays part = follows_self part
by_object_follows (Some object) change stays part = stays object part

pay_follows : (list : List ℕ) (cost : ℕ) → StaysInRoom (paid list cost)
pay_follows [] cost part = follows_self part
pay_follows (id ∷ later) cost part =
    let amount : ℕ = share cost (get part.objects id) in
    let pay : Object → RoomPart → RoomPart = λ object. with_object (with_less amount object) in
    let less : RoomPart = by_object pay part (get part.objects id) in
    follows_trans part less (paid later (cost - amount) less) (by_object_follows (get part.objects id) pay (λ object now. follows_object (with_less amount object) now) part) (pay_follows later (cost - amount) less)

hatch_follows : (spawn : Object) (at : Option (ℕ × ℕ)) → StaysInRoom (hatched_on spawn at)
hatch_follows spawn None part = follows_self part
hatch_follows spawn (Some at) part =
    let rest : Object = record spawn { timer = 0; body = [] } in
    let after : RoomPart = with_object rest part in
    follows_trans part after (with_new (newborn spawn at) after) (follows_object rest part) (follows_new (newborn spawn at) after)

-- ---- all rules

rule_follows : (action : Action) (entry : Intent) → StaysInRoom (λ part. (rule_of action entry part).part)
rule_follows DropLoad entry part = of_follows entry (get part.objects entry.actor) part
rule_follows Transfer entry part = follows_parties Transfer (transferred_by entry.amount) (λ creep target now. hand_follows (min (wanted_of entry.amount creep.energy) (free_room (controller_of now) target)) creep target now) entry part
rule_follows Withdraw entry part = follows_parties Withdraw (withdrawn_by entry.amount) (λ creep store now. hand_follows (min (wanted_of entry.amount store.energy) (free_room (controller_of now) creep)) store creep now) entry part
rule_follows Pickup entry part = follows_parties Pickup picked_up_by pick_follows entry part
rule_follows Harvest entry part = follows_parties Harvest harvested_by harvest_follows entry part
rule_follows Repair entry part = follows_parties Repair repaired_by repair_follows entry part
rule_follows Build entry part = follows_parties Build built_by (λ creep site. build_follows creep site (building_of site)) entry part
rule_follows Dismantle entry part = follows_parties Dismantle dismantled_by dismantle_follows entry part
rule_follows Suicide entry part = end_follows (acting Suicide entry part) part
rule_follows ClaimController entry part = follows_parties ClaimController (claimed_by entry.player) (λ creep controller now. follows_object (claimed_for entry.player controller) now) entry part
rule_follows Upgrade entry part = follows_parties Upgrade upgraded_by upgrade_follows entry part
rule_follows Reserve entry part = follows_parties Reserve (reserved_by entry.player) (λ creep controller now. follows_object (record controller { other = entry.player; other_ticks = ticks_reserved creep controller }) now) entry part
rule_follows AttackController entry part = follows_parties AttackController hurt_by (λ creep controller now. follows_object (controller_hurt creep controller) now) entry part
rule_follows CreateSite entry part = follows_if (all_hold (making_checks entry part)) part (with_new (site_of (plan_of entry part)) part) part (follows_new (site_of (plan_of entry part)) part) (follows_self part)
rule_follows RemoveSite entry part = follows_if (all_hold (removing_checks entry part)) part (without entry.actor part) part (follows_without entry.actor part) (follows_self part)
rule_follows SpawnCreep entry part =
    let around : List Object = values part.objects in
    let after : RoomPart = paid (payers entry.player around) (body_cost entry.body) part in
    let begun : RoomPart = by_object (begun_with entry.body) after (get after.objects entry.actor) in
    follows_if (all_hold (spawn_checks entry.player (standing_at part entry.actor) around (Some entry.body))) part begun part
    (follows_trans part after begun (pay_follows (payers entry.player around) (body_cost entry.body) part) (by_object_follows (get after.objects entry.actor) (begun_with entry.body) (λ spawn now. follows_object (record spawn { body = entry.body; timer = 3 * length entry.body }) now) after))
    (follows_self part)
rule_follows _ entry part = follows_self part

-- ---- movement

pub moved_follows : (fatigue : Object → Mover → ℕ) (list : List Mover) → StaysInRoom (moved_by fatigue list)
moved_follows fatigue list part =
    let set : List Mover = movers (values part.objects) list in
    let step : Object → RoomPart → RoomPart = λ object now. with_object (stepped fatigue object (find (λ one. one.creep == object.id) set)) now in
    let after : RoomPart = over_objects step part in
    let wear : Object → RoomPart → RoomPart = λ object now. with_object (worn_as object.kind (filter (λ creep. has_mover set creep.id) (values after.objects)) object) now in
    follows_trans part after (over_objects wear after)
    (follows_over step (λ object now. follows_object (stepped fatigue object (find (λ one. one.creep == object.id) set)) now) part)
    (follows_over wear (λ object now. follows_object (worn_as object.kind (filter (λ creep. has_mover set creep.id) (values after.objects)) object) now) after)

-- ---- upkeep

gone_follows : (object : Object) → StaysInRoom (gone object)
gone_follows object part =
    let less : RoomPart = without object.id part in
    follows_trans part less (gone object part) (follows_without object.id part) (follows_fallen object.x object.y object.energy less)

left_follows : (object : Object) → StaysInRoom (standing_or_gone object)
left_follows object part = follows_if (object.hits == 0) part (gone object part) (with_object object part) (gone_follows object part) (follows_object object part)

struck_follows : (sums : Sums) (object : Object) → StaysInRoom (struck_as sums object)
struck_follows sums object part =
    let left : Object = record object { hits = hits_left object.kind sums object } in
    follows_if (is_creep object.kind || is_building object.kind) part (standing_or_gone left part) part (left_follows left part) (follows_self part)

unloaded_follows : (kind : Kind) (object : Object) → StaysInRoom (unloaded_as kind object)
unloaded_follows Creep creep part = by_follows creep (creep.energy - load_room creep.hits creep.body) part
unloaded_follows _ object part = follows_self part

aged_follows : (kind : Kind) (object : Object) → StaysInRoom (aged_as kind object)
aged_follows Creep creep part =
    let older : Object = record creep { timer = creep.timer - 1 } in
    follows_if (nat_lt 1 creep.timer) part (with_object older part) (gone creep part) (follows_object older part) (gone_follows creep part)
aged_follows _ object part = follows_self part

filled_follows : (kind : Kind) (object : Object) → StaysInRoom (filled_as kind object)
filled_follows Spawn spawn part =
    let more : Object = record spawn { energy = spawn.energy + 1 } in
    follows_if (nat_lt spawn.energy spawn_capacity && nat_lt (held_by spawn.owner (values part.objects)) spawn_capacity) part (with_object more part) part (follows_object more part) (follows_self part)
filled_follows _ object part = follows_self part

hatched_follows : (kind : Kind) (object : Object) → StaysInRoom (hatched_as kind object)
hatched_follows Spawn spawn part =
    let sooner : Object = record spawn { timer = spawn.timer - 1 } in
    let at : Option (ℕ × ℕ) = tile_for part spawn in
    let last : RoomPart = if spawn.timer == 1 then hatched_on spawn at part else part in
    follows_if (nat_lt 1 spawn.timer) part (with_object sooner part) last (follows_object sooner part)
    (follows_if (spawn.timer == 1) part (hatched_on spawn at part) part (hatch_follows spawn at part) (follows_self part))
hatched_follows _ object part = follows_self part

weathered_follows : (in_owned : Bool) (object : Object) → StaysInRoom (weathered_as in_owned object)
weathered_follows in_owned object part = follows_if (decays object.kind) part (standing_or_gone (weathered in_owned object) part) part (left_follows (weathered in_owned object) part) (follows_self part)

buildings_follow : StaysInRoom buildings_decayed
buildings_follow part = follows_over (weathered_as (is_owned_room (controller_of part))) (weathered_follows (is_owned_room (controller_of part))) part

-- ---- the book

pub book_orderly : IsOrderly book
book_orderly = record {
  effect = λ entry. rule_follows entry.action entry;
  moved = λ list part. moved_follows (fatigue part) (candidates part list) part;
  steps = (
    λ sums part. follows_over (struck_as sums) (struck_follows sums) part,
    (
      λ sums part. follows_over (λ object. unloaded_as object.kind object) (λ object. unloaded_follows object.kind object) part,
      (
        λ sums part. follows_over (λ object. aged_as object.kind object) (λ object. aged_follows object.kind object) part,
        (
          (λ sums. follows_each (λ object. Some (recovered_as object.kind object))),
          (
            λ sums part. follows_over (λ object. filled_as object.kind object) (λ object. filled_follows object.kind object) part,
            (
              λ sums part. follows_over (λ object. hatched_as object.kind object) (λ object. hatched_follows object.kind object) part,
              (
                (λ sums. follows_each (λ object. Some (controller_aged_as object.kind object))),
                (
                  (λ sums part. follows_each (λ object. renewed_as object.kind (source_capacity (is_taken (controller_of part))) object) part),
                  ((λ sums. buildings_follow), ((λ sums. follows_each (λ object. decayed_as object.kind object)), tt)),
                ),
              ),
            ),
          ),
        ),
      ),
    ),
  );
}
