-- Where the sites of a player stand, through the changes of a room, and through the rules in force.
use Rattle.std.proofs.Common.{◌≡◌, ℕ, ◌+◌, ◌-◌, ◌*◌, ◌==◌, ◌&&◌, ◌^◌, min, Bool, true, false, cond, List, [], ◌∷◌, length, Option, Some, None, refl, sym, ap, subst, ◌∙◌}
use Rattle.std.specs.Prelude.{max, nat_le, nat_lt, if◌then◌else◌}
use Rattle.std.specs.Ordering.{nat_cmp, eq_by_cmp}
use Rattle.std.specs.Cmp.{nat_cmp_total, unsigned_tied}
use Rattle.std.specs.List.{find}
use Rattle.std.specs.FinMap.{FinMap, get, insert, keys, values, get-insert, get-remove}
use Rattle.std.proofs.lemmas.Bool.{and_parts, eqb-true}
use Rattle.game_tables.specs.Actions.{is_target}
use Rattle.game_tables.specs.Bodies.{body_cost}
use Rattle.game_tables.specs.Kinds.{is_building, is_controller, is_pile, is_site}
use Rattle.game_tables.specs.declared.action.Action.{Action}
use Rattle.game_tables.specs.declared.action.Action.TheVariants.{DropLoad, Transfer, Withdraw, Pickup, Dismantle, Harvest, Repair, Build, Suicide, ClaimController, Upgrade, Reserve, AttackController, CreateSite, RemoveSite, SpawnCreep}
use Rattle.game_tables.specs.declared.kind.Kind.{Kind}
use Rattle.game_tables.specs.declared.kind.Kind.TheVariants as kinds
use Rattle.game_tables.specs.Levels.{total_for_next}
use Rattle.room_table.specs.Tallies.{sum_with}
use Rattle.room_table.specs.Stores.{building_of, free_room}
use Rattle.room_table.specs.declared.object.Object.{Object}
use Rattle.intent_book.specs.declared.intent.Intent.{Intent}
use Rattle.world_rules.specs.Intents.{names_tile}
use Rattle.world_rules.specs.RoomParts.{RoomPart, controller_of}
use Rattle.world_rules.specs.Changes.{put, with_object, without, next_id, with_new}
use Rattle.world_rules.specs.Checks.{acting, all_hold, may_take_effect, parties, between, by_parties, standing_at}
use Rattle.world_rules.specs.Drops.{is_pile_on, pile_bound, pile_on, pile_of, fallen_on, fallen, wanted_of, dropped_by, dropped_of}
use Rattle.world_rules.specs.Loads.{with_more, with_less, handed_over, transferred_by, withdrawn_by, taken_from, picked_up_by}
use Rattle.world_rules.specs.Work.{live_work, harvested_by, hits_gained, repair_cost, repaired_by, total_of, work_put, building_on, advanced, built_as, built_by}
use Rattle.world_rules.specs.Fights.{dismantled_by, salvage, without_hits}
use Rattle.world_rules.specs.Claims.{claimed_by, claimed_for, controller_hurt, full_time, live_claim, progressed, refreshed, risen, hurt_by, reserved_by, ticks_reserved, upgraded_by, work_taken, worked_on}
use Rattle.world_rules.specs.Sites.{removing_checks}
use Rattle.world_rules.specs.Spawns.{begun_with, paid, payers, share, spawn_checks}
use Rattle.world_rules.specs.Steps.{by_object, over_ids, over_objects, with_left, each}
use Rattle.world_rules.specs.Tick.{rule_of}
use Rattle.world_rules.proofs.Checked.{AreParties, parties_are}
use Rattle.room_commutes.proofs.Members.{Has}
use Rattle.room_rules.proofs.Changed.{target_kind}
use Rattle.room_rules.proofs.Sites.{building_is}
use Rattle.site_limit.specs.FewSites.{is_site_of}

-- ---- what stays a controller

refreshed_kind : (amount : ℕ) (object : Object) → (refreshed amount object).kind ≡ object.kind
refreshed_kind amount object = elim (amount == 0) as (λ b. (if b then object else record object { timer = min (full_time object.extra) (object.timer + 100) }).kind ≡ object.kind) [ true ↦ refl | false ↦ refl ]

progressed_kind : (total : Option ℕ) (amount : ℕ) (object : Object) → (progressed total amount object).kind ≡ object.kind
progressed_kind None amount object = refreshed_kind amount object
progressed_kind (Some total) amount object =
    let more : Object = record object { progress = object.progress + amount } in
    elim (nat_le total more.progress) as (λ b. (if b then risen total more else refreshed amount more).kind ≡ object.kind) [ true ↦ refl | false ↦ refreshed_kind amount more ]

worked_kind : (amount : ℕ) (object : Object) → (worked_on amount object).kind ≡ object.kind
worked_kind amount object = progressed_kind (total_for_next object.extra) amount (record object { other_ticks = sum_with amount object.other_ticks })

hurt_kind : (creep controller : Object) → (controller_hurt creep controller).kind ≡ controller.kind
hurt_kind creep controller =
    elim (controller.owner == 0) as (λ b. (if b then record controller { other_ticks = max 1 (controller.other_ticks - live_claim creep) } else record controller { timer = max 1 (controller.timer - 300 * live_claim creep) }).kind ≡ controller.kind) [ true ↦ refl | false ↦ refl ]

claims : (kind : Kind) → is_target ClaimController kind ≡ true → is_controller kind ≡ true
claims kinds.Controller is = refl
claims kind is = absurd (cc)

upgrades : (kind : Kind) → is_target Upgrade kind ≡ true → is_controller kind ≡ true
upgrades kinds.Controller is = refl
upgrades kind is = absurd (cc)

attacks : (kind : Kind) → is_target AttackController kind ≡ true → is_controller kind ≡ true
attacks kinds.Controller is = refl
attacks kind is = absurd (cc)

acting_stands : (action : Action) (entry : Intent) (part : RoomPart) (creep : Object) → acting action entry part ≡ Some creep → get part.objects entry.actor ≡ Some creep
acting_stands action entry part creep is =
    elim (may_take_effect action entry part) as (λ b. (if b then get part.objects entry.actor else None) ≡ Some creep → get part.objects entry.actor ≡ Some creep) [ true ↦ λ got. got | false ↦ λ got. absurd (cc) ] is

module _ (player : ℕ) (places : List ℕ) where
  -- If it is a site of the player, its id is one of these.
  abbrev pub IsKnown : Object → Type 0
  IsKnown object = is_site_of player object ≡ true → Has places object.id

  abbrev pub Fits : ℕ → Object → Type 0
  Fits id object = (object.id ≡ id) × IsKnown object

  -- Each object stands under its id, and each site of the player under one of these.
  abbrev pub AllFit : RoomPart → Type 0
  AllFit part = (id : ℕ) (object : Object) → get part.objects id ≡ Some object → Fits id object

  abbrev pub Keeps : (RoomPart → RoomPart) → Type 0
  Keeps change = (part : RoomPart) → AllFit part → AllFit (change part)

  pub known_at : (part : RoomPart) → AllFit part → (id : ℕ) (object : Object) → get part.objects id ≡ Some object → IsKnown object
  known_at part fit id object is = (fit id object is).1

  -- ---- changes of a part

  fit_insert : (m : FinMap nat_cmp Object) (k : ℕ) (object : Object) → object.id ≡ k → IsKnown object → ((id : ℕ) (found : Object) → get m id ≡ Some found → Fits id found)
      → (id : ℕ) (found : Object) → get (insert m k object) id ≡ Some found → Fits id found
  fit_insert m k object own known fit id found is =
      elim (id == k) as (λ b. (id == k) ≡ b → cond b (Some object) (get m id) ≡ Some found → Fits id found) [
        | true ↦ λ at got. (let same : object ≡ found = cc in subst (Fits id) same (own ∙ sym (eqb-true id k at), known))
        | false ↦ λ at got. fit id found got
      ] refl (sym (ap (λ (b : Bool). cond b (Some object) (get m id)) (unsigned_tied id k)) ∙ sym (get-insert nat_cmp_total m k object id) ∙ is)

  pub fit_if : (b : Bool) (one two : RoomPart) → AllFit one → AllFit two → AllFit (if b then one else two)
  fit_if true one two first second = first
  fit_if false one two first second = second

  fit_put : (object : Object) (old : Option Object) → IsKnown object → Keeps (λ part. put object part old)
  fit_put object None known part fit = fit
  fit_put object (Some old) known part fit = fit_insert part.objects object.id object refl known fit

  pub fit_object : (object : Object) → IsKnown object → Keeps (with_object object)
  fit_object object known part fit = fit_put object (get part.objects object.id) known part fit

  found_left : (b : Bool) (found : Option Object) (object : Object) → cond b None found ≡ Some object → found ≡ Some object
  found_left true found object is = absurd (cc)
  found_left false found object is = is

  pub fit_without : (id : ℕ) → Keeps (without id)
  fit_without id part fit other object is = fit other object (found_left (eq_by_cmp nat_cmp other id) (get part.objects other) object (sym (get-remove nat_cmp_total part.objects id other) ∙ is))

  pub fit_new_known : (make : ℕ → Object) (part : RoomPart) → (make (next_id part)).id ≡ next_id part → IsKnown (make (next_id part)) → AllFit part → AllFit (with_new make part)
  fit_new_known make part own known fit =
      fit_if (nat_lt part.next (2 ^ 32)) (record part { next = part.next + 1; objects = insert part.objects (next_id part) (make (next_id part)) }) part
      (fit_insert part.objects (next_id part) (make (next_id part)) own known fit) fit

  -- what is no site
  pub no_site : (object : Object) → is_site object.kind ≡ false → IsKnown object
  no_site object other is = absurd (let both = and_parts (is_site object.kind) (object.owner == player) is in let one = both.0 in cc)

  pub fit_new : (make : ℕ → Object) → ((id : ℕ) → (make id).id ≡ id) → ((id : ℕ) → is_site (make id).kind ≡ false) → Keeps (with_new make)
  fit_new make own other part fit = fit_new_known make part (own (next_id part)) (no_site (make (next_id part)) (other (next_id part))) fit

  -- ---- changes by objects of the part

  pub fit_by : (change : Object → RoomPart → RoomPart) (part : RoomPart) (found : Option Object) → ((object : Object) → found ≡ Some object → AllFit (change object part)) → AllFit part → AllFit (by_object change part found)
  fit_by change part None keeps fit = fit
  fit_by change part (Some object) keeps fit = keeps object refl

  module _ (change : Object → RoomPart → RoomPart) (keeps : (object : Object) → IsKnown object → Keeps (change object)) where
    fit_ids : (ids : List ℕ) → Keeps (over_ids change ids)
    fit_ids [] part fit = fit
    fit_ids (id ∷ later) part fit =
        fit_ids later (by_object change part (get part.objects id))
        (fit_by change part (get part.objects id) (λ object is. keeps object (known_at part fit id object is) part fit) fit)

    pub fit_over : Keeps (over_objects change)
    fit_over part fit = fit_ids (keys part.objects) part fit

  fit_left : (id : ℕ) (found : Option Object) → ((after : Object) → found ≡ Some after → IsKnown after) → Keeps (λ part. with_left id part found)
  fit_left id None known part fit = fit_without id part fit
  fit_left id (Some after) known part fit = fit_object after (known after refl) part fit

  pub fit_each : (change : Object → Option Object) → ((object after : Object) → IsKnown object → change object ≡ Some after → IsKnown after) → Keeps (each change)
  fit_each change keeps = fit_over (λ object part. with_left object.id part (change object)) (λ object known. fit_left object.id (change object) (λ after is. keeps object after known is))

  -- ---- what falls

  found_where : (test : Object → Bool) (objects : List Object) (object : Object) → find test objects ≡ Some object → test object ≡ true
  found_where test [] object is = absurd (cc)
  found_where test (first ∷ later) object is =
      elim (test first) as (λ b. test first ≡ b → cond b (Some first) (find test later) ≡ Some object → test object ≡ true) [
        | true ↦ λ holds got. (let same : first ≡ object = cc in subst (λ (o : Object). test o ≡ true) same holds)
        | false ↦ λ fails got. found_where test later object got
      ] refl is

  pile_no_site : (kind : Kind) → is_pile kind ≡ true → is_site kind ≡ false
  pile_no_site kinds.Site is = absurd (cc)
  pile_no_site kind is = refl

  pub controller_no_site : (kind : Kind) → is_controller kind ≡ true → is_site kind ≡ false
  controller_no_site kinds.Site is = absurd (cc)
  controller_no_site kind is = refl

  building_no_site : (kind : Kind) → is_building kind ≡ true → is_site kind ≡ false
  building_no_site kinds.Site is = absurd (cc)
  building_no_site kind is = refl

  fit_fallen_on : (pile : Option Object) (x y amount : ℕ) → ((found : Object) → pile ≡ Some found → is_pile found.kind ≡ true) → Keeps (fallen_on pile x y amount)
  fit_fallen_on None x y amount piles = fit_new (λ id. pile_of id x y (min pile_bound amount)) (λ id. refl) (λ id. refl)
  fit_fallen_on (Some pile) x y amount piles =
      let more : Object = record pile { energy = min pile_bound (pile.energy + amount) } in
      fit_object more (no_site more (pile_no_site pile.kind (piles pile refl)))

  pile_is : (x y : ℕ) (object : Object) → is_pile_on x y object ≡ true → is_pile object.kind ≡ true
  pile_is x y object is = (and_parts (is_pile object.kind) (object.x == x) (and_parts (is_pile object.kind && (object.x == x)) (object.y == y) is).0).0

  pub fit_fallen : (x y amount : ℕ) → Keeps (fallen x y amount)
  fit_fallen x y amount part fit =
      fit_if (amount == 0) part (fallen_on (pile_on x y part) x y amount part) fit
      (fit_fallen_on (pile_on x y part) x y amount (λ pile is. pile_is x y pile (found_where (is_pile_on x y) (values part.objects) pile is)) part fit)

  pub fit_dropped : (creep : Object) (amount : ℕ) → IsKnown creep → Keeps (dropped_by creep amount)
  fit_dropped creep amount known part fit =
      let less : Object = record creep { energy = creep.energy - amount } in
      fit_fallen creep.x creep.y amount (with_object less part) (fit_object less known part fit)

  -- ---- the rules in force

  fit_drop : (entry : Intent) (part : RoomPart) (creep : Option Object) → ((found : Object) → creep ≡ Some found → IsKnown found) → AllFit part → AllFit (dropped_of entry creep part)
  fit_drop entry part None known fit = fit
  fit_drop entry part (Some creep) known fit =
      fit_if (may_take_effect DropLoad entry part) (dropped_by creep (wanted_of entry.amount creep.energy) part) part
      (fit_dropped creep (wanted_of entry.amount creep.energy) (known creep refl) part fit) fit

  -- two objects put one after the other
  fit_two : (one other : Object) → IsKnown one → IsKnown other → Keeps (λ part. with_object one (with_object other part))
  fit_two one other known too part fit = fit_object one known (with_object other part) (fit_object other too part fit)

  fit_hand : (amount : ℕ) (giver taker : Object) → IsKnown giver → IsKnown taker → Keeps (handed_over amount giver taker)
  fit_hand amount giver taker known too = fit_two (with_more amount taker) (with_less amount giver) too known

  fit_pick : (creep pile : Object) → IsKnown creep → IsKnown pile → Keeps (picked_up_by creep pile)
  fit_pick creep pile known too part fit =
      let amount : ℕ = min pile.energy (free_room (controller_of part) creep) in
      fit_object (with_more amount creep) known (taken_from pile amount part)
      (fit_if (amount == pile.energy) (without pile.id part) (with_object (with_less amount pile) part) (fit_without pile.id part fit) (fit_object (with_less amount pile) too part fit))

  fit_harvest : (creep source : Object) → IsKnown creep → IsKnown source → Keeps (harvested_by creep source)
  fit_harvest creep source known too part fit =
      let amount : ℕ = min (2 * live_work creep) source.energy in
      let taken : ℕ = min amount (free_room (controller_of part) creep) in
      fit_fallen creep.x creep.y (amount - taken) (with_object (with_more taken creep) (with_object (with_less amount source) part))
      (fit_two (with_more taken creep) (with_less amount source) known too part fit)

  fit_repair : (creep building : Object) → IsKnown creep → IsKnown building → Keeps (repaired_by creep building)
  fit_repair creep building known too =
      fit_two (record building { hits = building.hits + hits_gained creep building }) (with_less (repair_cost (hits_gained creep building)) creep) too known

  fit_advance : (kind : Kind) (site : Object) → is_building kind ≡ true → IsKnown site → Keeps (advanced kind site)
  fit_advance kind site builds known part fit =
      fit_if (nat_lt site.progress (total_of kind)) (with_object site part) (with_new (building_on kind part site) (without site.id part)) (fit_object site known part fit)
      (fit_new (building_on kind part site) (λ id. refl) (λ id. building_no_site kind builds) (without site.id part) (fit_without site.id part fit))

  fit_build : (creep site : Object) (kind : Option Kind) → ((found : Kind) → kind ≡ Some found → is_building found ≡ true) → IsKnown creep → IsKnown site → Keeps (built_as kind creep site)
  fit_build creep site None builds known too part fit = fit
  fit_build creep site (Some kind) builds known too part fit =
      let work : ℕ = work_put kind creep site in
      fit_advance kind (record site { progress = site.progress + work }) (builds kind refl) too (with_object (with_less work creep) part) (fit_object (with_less work creep) known part fit)

  fit_dismantle : (creep building : Object) → IsKnown creep → Keeps (dismantled_by creep building)
  fit_dismantle creep building known part fit =
      let amount : ℕ = salvage creep building in
      let taken : ℕ = min amount (free_room (controller_of part) creep) in
      fit_fallen creep.x creep.y (amount - taken) (with_object (with_more taken creep) part) (fit_object (with_more taken creep) known part fit)

  fit_upgrade : (creep controller : Object) → IsKnown creep → is_controller controller.kind ≡ true → Keeps (upgraded_by creep controller)
  fit_upgrade creep controller known is =
      let amount : ℕ = work_taken creep controller in
      fit_two (worked_on amount controller) (with_less amount creep) (no_site (worked_on amount controller) (ap is_site (worked_kind amount controller) ∙ controller_no_site controller.kind is)) known

  fit_pay : (ids : List ℕ) (cost : ℕ) → Keeps (paid ids cost)
  fit_pay [] cost part fit = fit
  fit_pay (id ∷ later) cost part fit =
      let amount : ℕ = share cost (get part.objects id) in
      let pay : Object → RoomPart → RoomPart = λ object. with_object (with_less amount object) in
      fit_pay later (cost - amount) (by_object pay part (get part.objects id))
      (fit_by pay part (get part.objects id) (λ object is. fit_object (with_less amount object) (known_at part fit id object is) part fit) fit)

  -- A rule of a creep and a target, both of which stand in the room.
  module _ (action : Action) (change : Object → Object → RoomPart → RoomPart) (entry : Intent)
      (keeps : (part : RoomPart) (creep target : Object) → AreParties action entry part creep target → IsKnown creep → IsKnown target → AllFit part → AllFit (change creep target part)) where
    fit_between : (part : RoomPart) (found : Option (Object × Object)) → parties action entry part ≡ found → AllFit part → AllFit (between change found part)
    fit_between part None is fit = fit
    fit_between part (Some found) is fit =
        let are = parties_are action entry part found is in
        keeps part found.0 found.1 are (known_at part fit entry.actor found.0 are.there) (known_at part fit entry.target found.1 are.at) fit

    fit_parties : Keeps (by_parties action change entry)
    fit_parties part fit = fit_between part (parties action entry part) refl fit

  -- The rules of all actions but that which makes a site.
  pub fit_rule : (action : Action) (entry : Intent) → names_tile action ≡ false → Keeps (λ part. (rule_of action entry part).part)
  fit_rule DropLoad entry other part fit = fit_drop entry part (get part.objects entry.actor) (known_at part fit entry.actor) fit
  fit_rule Transfer entry other part fit = fit_parties Transfer (transferred_by entry.amount) entry (λ now creep target are known too. fit_hand _ creep target known too now) part fit
  fit_rule Withdraw entry other part fit = fit_parties Withdraw (withdrawn_by entry.amount) entry (λ now creep store are known too. fit_hand _ store creep too known now) part fit
  fit_rule Pickup entry other part fit = fit_parties Pickup picked_up_by entry (λ now creep pile are known too. fit_pick creep pile known too now) part fit
  fit_rule Harvest entry other part fit = fit_parties Harvest harvested_by entry (λ now creep source are known too. fit_harvest creep source known too now) part fit
  fit_rule Repair entry other part fit = fit_parties Repair repaired_by entry (λ now creep building are known too. fit_repair creep building known too now) part fit
  fit_rule Build entry other part fit =
      fit_parties Build built_by entry (λ now creep site are known too. fit_build creep site (building_of site) (λ kind is. (building_is site kind is).0) known too now) part fit
  fit_rule Dismantle entry other part fit = fit_parties Dismantle dismantled_by entry (λ now creep building are known too. fit_dismantle creep building known now) part fit
  fit_rule Suicide entry other part fit = fit_by without_hits part (acting Suicide entry part) (λ creep is. fit_object (record creep { hits = 0 }) (known_at part fit entry.actor creep (acting_stands Suicide entry part creep is)) part fit) fit
  fit_rule ClaimController entry other part fit =
      fit_parties ClaimController (claimed_by entry.player) entry
      (λ now creep controller are known too. fit_object (claimed_for entry.player controller) (no_site (claimed_for entry.player controller) (controller_no_site controller.kind (claims controller.kind (target_kind ClaimController 1 entry now creep controller are.targets)))) now) part fit
  fit_rule Upgrade entry other part fit =
      fit_parties Upgrade upgraded_by entry (λ now creep controller are known too. fit_upgrade creep controller known (upgrades controller.kind (target_kind Upgrade 3 entry now creep controller are.targets)) now) part fit
  fit_rule Reserve entry other part fit =
      fit_parties Reserve (reserved_by entry.player) entry (λ now creep controller are known too. fit_object (record controller { other = entry.player; other_ticks = ticks_reserved creep controller }) too now) part fit
  fit_rule AttackController entry other part fit =
      fit_parties AttackController hurt_by entry
      (λ now creep controller are known too. fit_object (controller_hurt creep controller) (no_site (controller_hurt creep controller) (ap is_site (hurt_kind creep controller) ∙ controller_no_site controller.kind (attacks controller.kind (target_kind AttackController 1 entry now creep controller are.targets)))) now) part fit
  fit_rule CreateSite entry other part fit = absurd (cc)
  fit_rule RemoveSite entry other part fit =
      fit_if (all_hold (removing_checks entry part)) (without entry.actor part) part (fit_without entry.actor part fit) fit
  fit_rule SpawnCreep entry other part fit =
      let around : List Object = values part.objects in
      let after : RoomPart = paid (payers entry.player around) (body_cost entry.body) part in
      let fits = fit_pay (payers entry.player around) (body_cost entry.body) part fit in
      fit_if (all_hold (spawn_checks entry.player (standing_at part entry.actor) around (Some entry.body))) (by_object (begun_with entry.body) after (get after.objects entry.actor)) part
      (fit_by (begun_with entry.body) after (get after.objects entry.actor) (λ spawn is. fit_object (record spawn { body = entry.body; timer = 3 * length entry.body }) (known_at after fits entry.actor spawn is) after fits) fits) fit
  fit_rule _ entry other part fit = fit
