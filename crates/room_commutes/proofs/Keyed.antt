-- Objects stand under their ids: in a stored world, through the changes of a room, and through the rules in force.
use Rattle.std.proofs.Common.{◌≡◌, ℕ, suc, ◌+◌, ◌-◌, ◌*◌, ◌==◌, ◌^◌, min, Bool, true, false, cond, List, [], ◌∷◌, ◌++◌, length, map, Option, Some, None, option_and_then, refl, sym, ap, ◌∙◌}
use Rattle.std.specs.Prelude.{nat_lt, if◌then◌else◌, not}
use Rattle.std.specs.Option.{option_or}
use Rattle.std.specs.Ordering.{nat_cmp, eq_by_cmp}
use Rattle.std.specs.Cmp.{nat_cmp_total, unsigned_tied}
use Rattle.std.specs.FinMap.{FinMap, find, get, insert, values, get-insert, get-remove, get-from_entries}
use Rattle.std.proofs.lemmas.Bool.{eqb-true}
use Rattle.game_tables.specs.Bodies.{body_cost}
use Rattle.game_tables.specs.declared.action.Action.{Action}
use Rattle.game_tables.specs.declared.action.Action.TheVariants.{DropLoad, Transfer, Withdraw, Pickup, Dismantle, Harvest, Repair, Build, Suicide, ClaimController, Upgrade, Reserve, AttackController, CreateSite, RemoveSite, SpawnCreep}
use Rattle.game_tables.specs.declared.kind.Kind.{Kind}
use Rattle.object_store.specs.Stored.{Stored}
use Rattle.room_table.specs.Stores.{building_of, free_room}
use Rattle.room_table.specs.declared.object.Object.{Object}
use Rattle.intent_book.specs.declared.intent.Intent.{Intent}
use Rattle.world_rules.specs.World.{Placed, Frame, World, ListedRoom, placed, placed_from, listing_of, world_of}
use Rattle.world_rules.specs.RoomParts.{RoomPart, controller_of, part_of, in_frame, in_room}
use Rattle.world_rules.specs.Changes.{put, with_object, without, next_id, with_new}
use Rattle.world_rules.specs.Checks.{acting, all_hold, may_take_effect, parties, between, by_parties, standing_at}
use Rattle.world_rules.specs.Drops.{pile_bound, pile_on, pile_of, fallen_on, fallen, wanted_of, dropped_by, dropped_of}
use Rattle.world_rules.specs.Loads.{with_more, with_less, handed_over, transferred_by, withdrawn_by, taken_from, picked_up_by}
use Rattle.world_rules.specs.Work.{live_work, harvested_by, hits_gained, repair_cost, repaired_by, total_of, work_put, building_on, advanced, built_as, built_by}
use Rattle.world_rules.specs.Fights.{dismantled_by, salvage, without_hits}
use Rattle.world_rules.specs.Claims.{claimed_by, claimed_for, controller_hurt, hurt_by, reserved_by, ticks_reserved, upgraded_by, work_taken, worked_on}
use Rattle.world_rules.specs.Sites.{making_checks, plan_of, removing_checks, site_of}
use Rattle.world_rules.specs.Spawns.{begun_with, paid, payers, share, spawn_checks}
use Rattle.world_rules.specs.Steps.{by_object}
use Rattle.world_rules.specs.Tick.{rule_of, book}
use Rattle.world_rules.proofs.Parts.{put_in, only, except, get_objects_in, get_with_room}
use Rattle.room_commutes.specs.Running.{KeepsKeys}
use Rattle.room_commutes.specs.Standing.{AreKeyed, AreAllKeyed}
use Rattle.room_commutes.proofs.InTick.{elsewhere}

-- ---- changes of a part

-- A change leaves objects under their ids.
abbrev pub KeepsKeyed : (RoomPart → RoomPart) → Type 0
KeepsKeyed change = (part : RoomPart) → AreKeyed part → AreKeyed (change part)

keyed_insert : (m : FinMap nat_cmp Object) (k : ℕ) (object : Object) → object.id ≡ k → ((id : ℕ) (found : Object) → get m id ≡ Some found → found.id ≡ id) → (id : ℕ) (found : Object) → get (insert m k object) id ≡ Some found → found.id ≡ id
keyed_insert m k object own keyed id found is =
    elim (id == k) as (λ b. (id == k) ≡ b → cond b (Some object) (get m id) ≡ Some found → found.id ≡ id) [
      | true ↦ λ at got. let same : object ≡ found = cc in ap (λ (o : Object). o.id) (sym same) ∙ own ∙ sym (eqb-true id k at)
      | false ↦ λ at got. keyed id found got
    ] refl (sym (ap (λ (b : Bool). cond b (Some object) (get m id)) (unsigned_tied id k)) ∙ sym (get-insert nat_cmp_total m k object id) ∙ is)

pub keyed_if : (b : Bool) (one two : RoomPart) → AreKeyed one → AreKeyed two → AreKeyed (if b then one else two)
keyed_if true one two first second = first
keyed_if false one two first second = second

keyed_put : (object : Object) (old : Option Object) → KeepsKeyed (λ part. put object part old)
keyed_put object None part keyed = keyed
keyed_put object (Some old) part keyed = keyed_insert part.objects object.id object refl keyed

pub keyed_object : (object : Object) → KeepsKeyed (with_object object)
keyed_object object part keyed = keyed_put object (get part.objects object.id) part keyed

found_left : (b : Bool) (found : Option Object) (object : Object) → cond b None found ≡ Some object → found ≡ Some object
found_left true found object is = absurd (cc)
found_left false found object is = is

pub keyed_without : (id : ℕ) → KeepsKeyed (without id)
keyed_without id part keyed other object is = keyed other object (found_left (eq_by_cmp nat_cmp other id) (get part.objects other) object (sym (get-remove nat_cmp_total part.objects id other) ∙ is))

pub keyed_new : (make : ℕ → Object) → ((id : ℕ) → (make id).id ≡ id) → KeepsKeyed (with_new make)
keyed_new make own part keyed =
    keyed_if (nat_lt part.next (2 ^ 32)) (record part { next = part.next + 1; objects = insert part.objects (next_id part) (make (next_id part)) }) part
    (keyed_insert part.objects (next_id part) (make (next_id part)) (own (next_id part)) keyed) keyed

-- ---- the rules in force

fallen_on_keyed : (pile : Option Object) (x y amount : ℕ) → KeepsKeyed (fallen_on pile x y amount)
fallen_on_keyed None x y amount = keyed_new (λ id. pile_of id x y (min pile_bound amount)) (λ id. refl)
fallen_on_keyed (Some pile) x y amount = keyed_object (record pile { energy = min pile_bound (pile.energy + amount) })

pub keyed_fallen : (x y amount : ℕ) → KeepsKeyed (fallen x y amount)
keyed_fallen x y amount part keyed = keyed_if (amount == 0) part (fallen_on (pile_on x y part) x y amount part) keyed (fallen_on_keyed (pile_on x y part) x y amount part keyed)

dropped_keyed : (entry : Intent) (creep : Option Object) → KeepsKeyed (dropped_of entry creep)
dropped_keyed entry None part keyed = keyed
dropped_keyed entry (Some creep) part keyed =
    let amount : ℕ = wanted_of entry.amount creep.energy in
    let less : Object = record creep { energy = creep.energy - amount } in
    keyed_if (may_take_effect DropLoad entry part) (dropped_by creep amount part) part (keyed_fallen creep.x creep.y amount (with_object less part) (keyed_object less part keyed)) keyed

-- two objects put one after the other
two_keyed : (one other : Object) → KeepsKeyed (λ part. with_object one (with_object other part))
two_keyed one other part keyed = keyed_object one (with_object other part) (keyed_object other part keyed)

hand_keyed : (amount : ℕ) (giver taker : Object) → KeepsKeyed (handed_over amount giver taker)
hand_keyed amount giver taker = two_keyed (with_more amount taker) (with_less amount giver)

pick_keyed : (creep pile : Object) → KeepsKeyed (picked_up_by creep pile)
pick_keyed creep pile part keyed =
    let amount : ℕ = min pile.energy (free_room (controller_of part) creep) in
    keyed_object (with_more amount creep) (taken_from pile amount part)
    (keyed_if (amount == pile.energy) (without pile.id part) (with_object (with_less amount pile) part) (keyed_without pile.id part keyed) (keyed_object (with_less amount pile) part keyed))

harvest_keyed : (creep source : Object) → KeepsKeyed (harvested_by creep source)
harvest_keyed creep source part keyed =
    let amount : ℕ = min (2 * live_work creep) source.energy in
    let taken : ℕ = min amount (free_room (controller_of part) creep) in
    keyed_fallen creep.x creep.y (amount - taken) (with_object (with_more taken creep) (with_object (with_less amount source) part)) (two_keyed (with_more taken creep) (with_less amount source) part keyed)

repair_keyed : (creep building : Object) → KeepsKeyed (repaired_by creep building)
repair_keyed creep building = two_keyed (record building { hits = building.hits + hits_gained creep building }) (with_less (repair_cost (hits_gained creep building)) creep)

advance_keyed : (kind : Kind) (site : Object) → KeepsKeyed (advanced kind site)
advance_keyed kind site part keyed =
    keyed_if (nat_lt site.progress (total_of kind)) (with_object site part) (with_new (building_on kind part site) (without site.id part)) (keyed_object site part keyed)
    (keyed_new (building_on kind part site) (λ id. refl) (without site.id part) (keyed_without site.id part keyed))

build_keyed : (creep site : Object) (kind : Option Kind) → KeepsKeyed (built_as kind creep site)
build_keyed creep site None part keyed = keyed
build_keyed creep site (Some kind) part keyed =
    let work : ℕ = work_put kind creep site in
    advance_keyed kind (record site { progress = site.progress + work }) (with_object (with_less work creep) part) (keyed_object (with_less work creep) part keyed)

dismantle_keyed : (creep building : Object) → KeepsKeyed (dismantled_by creep building)
dismantle_keyed creep building part keyed =
    let amount : ℕ = salvage creep building in
    let taken : ℕ = min amount (free_room (controller_of part) creep) in
    keyed_fallen creep.x creep.y (amount - taken) (with_object (with_more taken creep) part) (keyed_object (with_more taken creep) part keyed)

upgrade_keyed : (creep controller : Object) → KeepsKeyed (upgraded_by creep controller)
upgrade_keyed creep controller = let amount : ℕ = work_taken creep controller in two_keyed (worked_on amount controller) (with_less amount creep)

by_object_keyed : (found : Option Object) (change : Object → RoomPart → RoomPart) → ((object : Object) → KeepsKeyed (change object)) → KeepsKeyed (λ part. by_object change part found)
by_object_keyed None change keeps part keyed = keyed
by_object_keyed (Some object) change keeps part keyed = keeps object part keyed

pay_keyed : (ids : List ℕ) (cost : ℕ) → KeepsKeyed (paid ids cost)
pay_keyed [] cost part keyed = keyed
pay_keyed (id ∷ later) cost part keyed =
    let amount : ℕ = share cost (get part.objects id) in
    let pay : Object → RoomPart → RoomPart = λ object. with_object (with_less amount object) in
    pay_keyed later (cost - amount) (by_object pay part (get part.objects id)) (by_object_keyed (get part.objects id) pay (λ object. keyed_object (with_less amount object)) part keyed)

module _ (action : Action) (change : Object → Object → RoomPart → RoomPart) (keeps : (creep target : Object) → KeepsKeyed (change creep target)) where
  between_keyed : (found : Option (Object × Object)) → KeepsKeyed (between change found)
  between_keyed None part keyed = keyed
  between_keyed (Some found) part keyed = keeps found.0 found.1 part keyed

  parties_keyed : (entry : Intent) → KeepsKeyed (by_parties action change entry)
  parties_keyed entry part keyed = between_keyed (parties action entry part) part keyed

rule_keyed : (action : Action) (entry : Intent) → KeepsKeyed (λ part. (rule_of action entry part).part)
rule_keyed DropLoad entry part keyed = dropped_keyed entry (get part.objects entry.actor) part keyed
rule_keyed Transfer entry part keyed = parties_keyed Transfer (transferred_by entry.amount) (λ creep target now. hand_keyed _ creep target now) entry part keyed
rule_keyed Withdraw entry part keyed = parties_keyed Withdraw (withdrawn_by entry.amount) (λ creep store now. hand_keyed _ store creep now) entry part keyed
rule_keyed Pickup entry part keyed = parties_keyed Pickup picked_up_by pick_keyed entry part keyed
rule_keyed Harvest entry part keyed = parties_keyed Harvest harvested_by harvest_keyed entry part keyed
rule_keyed Repair entry part keyed = parties_keyed Repair repaired_by repair_keyed entry part keyed
rule_keyed Build entry part keyed = parties_keyed Build built_by (λ creep site. build_keyed creep site (building_of site)) entry part keyed
rule_keyed Dismantle entry part keyed = parties_keyed Dismantle dismantled_by dismantle_keyed entry part keyed
rule_keyed Suicide entry part keyed = by_object_keyed (acting Suicide entry part) without_hits (λ creep. keyed_object (record creep { hits = 0 })) part keyed
rule_keyed ClaimController entry part keyed = parties_keyed ClaimController (claimed_by entry.player) (λ creep controller. keyed_object (claimed_for entry.player controller)) entry part keyed
rule_keyed Upgrade entry part keyed = parties_keyed Upgrade upgraded_by upgrade_keyed entry part keyed
rule_keyed Reserve entry part keyed = parties_keyed Reserve (reserved_by entry.player) (λ creep controller. keyed_object (record controller { other = entry.player; other_ticks = ticks_reserved creep controller })) entry part keyed
rule_keyed AttackController entry part keyed = parties_keyed AttackController hurt_by (λ creep controller. keyed_object (controller_hurt creep controller)) entry part keyed
rule_keyed CreateSite entry part keyed = keyed_if (all_hold (making_checks entry part)) (with_new (site_of (plan_of entry part)) part) part (keyed_new (site_of (plan_of entry part)) (λ id. refl) part keyed) keyed
rule_keyed RemoveSite entry part keyed = keyed_if (all_hold (removing_checks entry part)) (without entry.actor part) part (keyed_without entry.actor part keyed) keyed
rule_keyed SpawnCreep entry part keyed =
    let around : List Object = values part.objects in
    let after : RoomPart = paid (payers entry.player around) (body_cost entry.body) part in
    keyed_if (all_hold (spawn_checks entry.player (standing_at part entry.actor) around (Some entry.body))) (by_object (begun_with entry.body) after (get after.objects entry.actor)) part
    (by_object_keyed (get after.objects entry.actor) (begun_with entry.body) (λ spawn. keyed_object (record spawn { body = entry.body; timer = 3 * length entry.body })) after (pay_keyed (payers entry.player around) (body_cost entry.body) part keyed))
    keyed
rule_keyed _ entry part keyed = keyed

pub book_keyed : KeepsKeys book
book_keyed entry part keyed = rule_keyed entry.action entry part keyed

-- ---- the world

in_room_keyed : (room id : ℕ) (object : Object) (found : Option Placed) → ((placed : Placed) → found ≡ Some placed → placed.object.id ≡ id) → option_and_then (only room) found ≡ Some object → object.id ≡ id
in_room_keyed room id object None keyed is = absurd (cc)
in_room_keyed room id object (Some placed) keyed is =
    elim (placed.room == room) as (λ b. (if b then Some placed.object else None) ≡ Some object → object.id ≡ id) [
      | true ↦ λ got. let same : placed.object ≡ object = cc in ap (λ (o : Object). o.id) (sym same) ∙ keyed placed refl
      | false ↦ λ got. absurd (cc)
    ] is

-- so they do in a room's part
pub part_keyed : (world : World) (room : ℕ) (frame : Frame) → AreAllKeyed world → AreKeyed (part_of world room frame)
part_keyed world room frame keyed id object is = in_room_keyed room id object (get world.objects id) (keyed id) (sym (get_objects_in world room id) ∙ is)

put_keyed : (room id : ℕ) (placed : Placed) (put : Option Object) (found : Option Placed) → ((object : Object) → put ≡ Some object → object.id ≡ id) → ((p : Placed) → found ≡ Some p → p.object.id ≡ id)
    → option_or (put_in room put) (option_and_then (except room) found) ≡ Some placed → placed.object.id ≡ id
put_keyed room id placed None found here there is = there placed (elsewhere (λ q. not (q.room == room)) placed found is)
put_keyed room id placed (Some object) found here there is =
    let same : record { room = room; object = object } ≡ placed = cc in
    ap (λ (p : Placed). p.object.id) (sym same) ∙ here object refl

frame_keyed : (change : RoomPart → RoomPart) → KeepsKeyed change → (room : ℕ) (world : World) (found : Option Frame) → AreAllKeyed world → AreAllKeyed (in_frame change room world found)
frame_keyed change keeps room world None keyed = keyed
frame_keyed change keeps room world (Some frame) keyed = λ id found is.
    let after : RoomPart = change (part_of world room frame) in
    put_keyed room id found (get after.objects id) (get world.objects id) (keeps (part_of world room frame) (part_keyed world room frame keyed) id) (keyed id)
    (sym (get_with_room world room (record frame { next = after.next }) after.objects id) ∙ is)

-- and after a change of a room's part that leaves them there
pub room_keyed : (change : RoomPart → RoomPart) → KeepsKeyed change → (room : ℕ) (world : World) → AreAllKeyed world → AreAllKeyed (in_room change room world)
room_keyed change keeps room world keyed = frame_keyed change keeps room world (get world.rooms room) keyed

-- ---- a stored world

listed_keyed : (id index : ℕ) (found : Placed) (objects : List Object) (more : List (ℕ × Placed)) → (find nat_cmp id more ≡ Some found → found.object.id ≡ id)
    → find nat_cmp id (map (λ object. (object.id, record { room = index; object = object })) objects ++ more) ≡ Some found → found.object.id ≡ id
listed_keyed id index found [] more rest is = rest is
listed_keyed id index found (object ∷ objects) more rest is =
    let later : List (ℕ × Placed) = map (λ object. (object.id, record { room = index; object = object })) objects ++ more in
    elim (eq_by_cmp nat_cmp id object.id) as (λ b. eq_by_cmp nat_cmp id object.id ≡ b → cond b (Some (record { room = index; object = object })) (find nat_cmp id later) ≡ Some found → found.object.id ≡ id) [
      | true ↦ λ tied got.
          let same : record { room = index; object = object } ≡ found = cc in
          ap (λ (p : Placed). p.object.id) (sym same) ∙ sym (eqb-true id object.id (sym (unsigned_tied id object.id) ∙ tied))
      | false ↦ λ apart got. listed_keyed id index found objects more rest got
    ] refl is

placed_keyed : (id index : ℕ) (found : Placed) (rooms : List ListedRoom) → find nat_cmp id (placed_from index rooms) ≡ Some found → found.object.id ≡ id
placed_keyed id index found [] is = absurd (cc)
placed_keyed id index found (room ∷ rooms) is = listed_keyed id index found room.objects (placed_from (suc index) rooms) (placed_keyed id (suc index) found rooms) is

-- In a stored world objects stand under their ids.
pub keyed_stored : (stored : Stored) → AreAllKeyed (world_of stored)
keyed_stored stored id found is = placed_keyed id 0 found (listing_of stored).rooms (sym (get-from_entries nat_cmp_total (placed (listing_of stored)) id) ∙ is)
