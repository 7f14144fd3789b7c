-- What a call of an action checks of what is seen, its rule finds in the room.
use Rattle.std.proofs.Common.{◌≡◌, ℕ, ℤ, pos, ◌≤◌, ◌==◌, ◌&&◌, ◌||◌, not, nat_le, nat_lt, Bool, true, List, [], ◌∷◌, ◌++◌, Option, Some, None, option_map, refl, sym, ap, subst, ◌∙◌, arith}
use Rattle.std.specs.FinMap.{values}
use Rattle.std.specs.Option.{unwrap_or}
use Rattle.std.proofs.lemmas.Bool.{and_parts, eqb-true, leb-true, le-leb}
use Rattle.game_tables.specs.Actions.{is_target, max_range, needed_part}
use Rattle.game_tables.specs.Bodies.{live_count}
use Rattle.game_tables.specs.declared.action.Action.{Action}
use Rattle.game_tables.specs.declared.action.Action.TheVariants.{DropLoad, Transfer, Withdraw, Pickup, Harvest, Repair, Build, ClaimController, Upgrade, Reserve, AttackController, Move}
use Rattle.game_tables.specs.declared.code.Code.{Code}
use Rattle.game_tables.specs.declared.code.Code.TheVariants.{Done}
use Rattle.game_tables.specs.declared.kind.Part.{Part}
use Rattle.object_store.specs.declared.account.Account.{Account}
use Rattle.room_table.specs.declared.object.Object.{Object}
use Rattle.object_store.specs.Stored.{Stored}
use Rattle.room_table.specs.Stores.{free_room}
use Rattle.intent_book.specs.declared.intent.Intent.{Intent}
use Rattle.wasm_store.specs.Memory.{Memory}
use Rattle.world_rules.specs.World.{Placed, world_of}
use Rattle.world_rules.specs.RoomParts.{RoomPart, part_of}
use Rattle.world_rules.specs.Checks.{Check, Scene, all_hold, amount_checks, are_near, checks, controller_around, creep_checks, further_checks, holds_of, is_amount, part_checks, reaches_itself, scene_of, standing_at, target_checks}
use Rattle.world_rules.specs.Sound.{IsSound}
use Rattle.visible_view.specs.Sights.{Sight, sight_of}
use Rattle.action_checks.proofs.Passing.{have_codes, hold_both, own_checks}
use Rattle.host_calls.specs.Desks.{Desk}
use Rattle.host_calls.specs.Replies.{act_code, amount_of, id_of, objects_around, record_checks, scene_seen, seen, wanted, wish_of}
use Rattle.host_calls.specs.Agreement.{CallsAgree, IsRecorded, Passes}
use Rattle.host_calls.proofs.SeenStands.{around_stands, its_part, seen_stands, stands_in_part}

done_where_0 : (desk : Desk) (memory : Memory) (intent : Intent) (code : Code) → (wanted desk memory intent code).answer ≡ pos 0 → code ≡ Done
done_where_0 desk memory intent Done zero = refl
done_where_0 desk memory intent _ zero = absurd (cc)

recorded_where_done : (desk : Desk) (memory : Memory) (intent : Intent) (code : Code) → code ≡ Done → IsRecorded desk intent (wanted desk memory intent code).desk
recorded_where_done desk memory intent code done = ap (λ (c : Code). (wanted desk memory intent c).desk) done

hold_parts : (early late : List Check) → all_hold (early ++ late) ≡ true → (all_hold early ≡ true) × (all_hold late ≡ true)
hold_parts [] late holds = (refl, holds)
hold_parts (check ∷ early) late holds =
    let first = and_parts check.0 (all_hold (early ++ late)) holds in
    let rest = hold_parts early late first.1 in
    (ap (λ (b : Bool). b && all_hold early) first.0 ∙ rest.0, rest.1)

-- ---- group by group, of one actor

-- The amount that is recorded is that of the call.
amount_again : (action : Action) (found : Option ℕ) → (is_amount action found && true) ≡ true → (is_amount action (Some (unwrap_or found 0)) && true) ≡ true
amount_again action None holds = absurd cc
amount_again action (Some amount) holds = holds

part_again : (needed : Option Part) (one other : Scene) → one.actor ≡ other.actor → all_hold (part_checks needed one) ≡ true → all_hold (part_checks needed other) ≡ true
part_again None one other same holds = refl
part_again (Some part) one other same holds = sym (ap (λ (a : Option Placed). holds_of a (λ creep. nat_lt 0 (live_count part creep.hits creep.body)) && true) same) ∙ holds

abbrev reaches : ℕ → Action → Option Placed → Option Placed → Bool
reaches range action actor target =
    holds_of target (λ object. is_target action object.kind && (reaches_itself action || holds_of actor (λ creep. not (creep.id == object.id))))
    && (are_near range actor target && true)

target_again : (range : Option ℕ) (action : Action) (one other : Scene) → one.actor ≡ other.actor → ((r : ℕ) → are_near r one.actor one.target ≡ true → one.target ≡ other.target)
    → all_hold (target_checks range action one) ≡ true → all_hold (target_checks range action other) ≡ true
target_again None action one other same near holds = refl
target_again (Some range) action one other same near holds =
    let both = and_parts _ _ holds in
    let target = near range (and_parts _ _ both.1).0 in
    sym (λ i. reaches range action (same i) (target i)) ∙ holds

-- Of how much there is at least so much, there is at least 1.
at_least : (found : Option Placed) (much : Object → ℕ) (least : ℕ) → 1 ≤ least → holds_of found (λ object. nat_le least (much object)) ≡ true → holds_of found (λ object. nat_le 1 (much object)) ≡ true
at_least None much least some holds = absurd cc
at_least (Some placed) much least some holds =
    let enough : least ≤ much placed.object = leb-true _ _ holds in
    le-leb 1 (much placed.object) (omega arith)

both_hold : (a b : Bool) → a ≡ true → b ≡ true → (a && b) ≡ true
both_hold a b one other = ap (λ (c : Bool). c && b) one ∙ other

-- the same scene, where at least 1 has to be there
abbrev with_least_1 : Option ℕ → Scene → Scene
with_least_1 amount scene = record scene { amount = amount; least = 1 }

further_lower : (action : Action) (scene : Scene) (amount : Option ℕ) → 1 ≤ scene.least → all_hold (further_checks action scene) ≡ true → all_hold (further_checks action (with_least_1 amount scene)) ≡ true
further_lower DropLoad scene amount some holds =
    let parts = and_parts _ _ holds in
    both_hold _ _ (at_least scene.actor (λ object. object.energy) scene.least some parts.0) refl
further_lower Transfer scene amount some holds =
    let parts = and_parts _ _ holds in
    let later = and_parts _ _ parts.1 in
    both_hold _ _ (at_least scene.actor (λ object. object.energy) scene.least some parts.0)
    (both_hold _ _ (at_least scene.target (free_room (controller_around scene)) scene.least some later.0) refl)
further_lower Withdraw scene amount some holds =
    let parts = and_parts _ _ holds in
    let later = and_parts _ _ parts.1 in
    let last = and_parts _ _ later.1 in
    both_hold _ _ parts.0
    (both_hold _ _ (at_least scene.target (λ object. object.energy) scene.least some later.0)
    (both_hold _ _ (at_least scene.actor (free_room (controller_around scene)) scene.least some last.0) refl))
further_lower Pickup scene amount some holds = holds
further_lower Harvest scene amount some holds = holds
further_lower Repair scene amount some holds = holds
further_lower Build scene amount some holds = holds
further_lower ClaimController scene amount some holds = holds
further_lower Upgrade scene amount some holds = holds
further_lower Reserve scene amount some holds = holds
further_lower AttackController scene amount some holds = holds
further_lower Move scene amount some holds = holds
further_lower _ scene amount some holds = refl

further_moved : (action : Action) (scene : Scene) (actor target : Option Placed) (around : List Object) → scene.actor ≡ actor → scene.target ≡ target → scene.around ≡ around
    → all_hold (further_checks action scene) ≡ true → all_hold (further_checks action (record scene { actor = actor; target = target; around = around })) ≡ true
further_moved action scene actor target around same_actor same_target same_around holds =
    sym (λ i. all_hold (further_checks action (record scene { actor = same_actor i; target = same_target i; around = same_around i }))) ∙ holds

module _ (scene : Scene) (actor target : Option Placed) (around : List Object) (amount : Option ℕ) (same_actor : scene.actor ≡ actor) (same_around : scene.around ≡ around) (some : 1 ≤ scene.least) where
  abbrev again : Scene
  again = record { player = scene.player; actor = actor; target = target; around = around; amount = amount; least = 1; claims = scene.claims; level = scene.level }

  -- with the same target
  beside : (action : Action) → scene.target ≡ target → all_hold (further_checks action scene) ≡ true → all_hold (further_checks action again) ≡ true
  beside action same_target holds =
      further_lower action (record scene { actor = actor; target = target; around = around }) amount some (further_moved action scene actor target around same_actor same_target same_around holds)

  -- An action of a creep alone reads no target.
  alone : all_hold (further_checks DropLoad scene) ≡ true → all_hold (further_checks DropLoad again) ≡ true
  alone holds =
      further_lower DropLoad (record scene { actor = actor; target = scene.target; around = around }) amount some (further_moved DropLoad scene actor scene.target around same_actor refl same_around holds)

  alone_moving : all_hold (further_checks Move scene) ≡ true → all_hold (further_checks Move again) ≡ true
  alone_moving holds =
      further_lower Move (record scene { actor = actor; target = scene.target; around = around }) amount some (further_moved Move scene actor scene.target around same_actor refl same_around holds)

  further_again : (action : Action) → ((r : ℕ) → max_range action ≡ Some r → scene.target ≡ target) → all_hold (further_checks action scene) ≡ true → all_hold (further_checks action again) ≡ true
  further_again DropLoad same_target holds = alone holds
  further_again Transfer same_target holds = beside Transfer (same_target 1 refl) holds
  further_again Withdraw same_target holds = beside Withdraw (same_target 1 refl) holds
  further_again Pickup same_target holds = beside Pickup (same_target 1 refl) holds
  further_again Harvest same_target holds = beside Harvest (same_target 1 refl) holds
  further_again Repair same_target holds = beside Repair (same_target 3 refl) holds
  further_again Build same_target holds = beside Build (same_target 3 refl) holds
  further_again ClaimController same_target holds = beside ClaimController (same_target 1 refl) holds
  further_again Upgrade same_target holds = beside Upgrade (same_target 3 refl) holds
  further_again Reserve same_target holds = beside Reserve (same_target 1 refl) holds
  further_again AttackController same_target holds = beside AttackController (same_target 1 refl) holds
  further_again Move same_target holds = alone_moving holds
  further_again _ same_target holds = refl

-- Where an action has a range, its target is within it.
within_range : (range : Option ℕ) (action : Action) (scene : Scene) → all_hold (target_checks range action scene) ≡ true → (r : ℕ) → range ≡ Some r → are_near r scene.actor scene.target ≡ true
within_range None action scene holds r is = absurd cc
within_range (Some range) action scene holds r is =
    let same : range ≡ r = cc in
    let near = (and_parts _ _ (and_parts _ _ holds).1).0 in
    subst (λ (n : ℕ). are_near n scene.actor scene.target ≡ true) same near

found_where : (found : Option Placed) (test : Object → Bool) → holds_of found test ≡ true → (p : Placed) × (found ≡ Some p)
found_where None test holds = absurd cc
found_where (Some placed) test holds = (placed, refl)

near_room : (range : ℕ) (one : Placed) (other : Option Placed) → are_near range (Some one) other ≡ true → (p : Placed) × (other ≡ Some p) × (one.room ≡ p.room)
near_room range one None near = absurd cc
near_room range one (Some other) near = (other, refl, eqb-true one.room other.room (and_parts _ _ (and_parts _ _ near).0).0)

module _ (action : Action) (sight : Sight) (id target amount : ℤ) (actor standing : Option Placed) (around : List Object) (same : seen sight id ≡ actor) (same_around : objects_around sight (seen sight id) ≡ around) (near : (r : ℕ) → are_near r (seen sight id) (seen sight target) ≡ true → seen sight target ≡ standing) where
  abbrev one : Scene
  one = scene_seen sight id target amount

  abbrev entry : Intent
  entry = wish_of action sight.account.player id target amount

  abbrev other : Scene
  other = scene_of entry around actor standing

  abbrev creep_again : all_hold (creep_checks one) ≡ true → all_hold (creep_checks other) ≡ true
  creep_again holds = sym (ap (λ (a : Option Placed). all_hold (creep_checks (scene_of entry around a standing))) same) ∙ holds

  pub all_again : all_hold (checks action one) ≡ true → all_hold (checks action other) ≡ true
  all_again holds =
      let last = hold_parts (creep_checks one ++ amount_checks action one ++ part_checks (needed_part action) one ++ target_checks (max_range action) action one) (further_checks action one) holds in
      let late = hold_parts (creep_checks one ++ amount_checks action one ++ part_checks (needed_part action) one) (target_checks (max_range action) action one) last.0 in
      let early = hold_parts (creep_checks one ++ amount_checks action one) (part_checks (needed_part action) one) late.0 in
      let first = hold_parts (creep_checks one) (amount_checks action one) early.0 in
      let least : 1 ≤ one.least = omega arith in
      let same_target : (r : ℕ) → max_range action ≡ Some r → one.target ≡ standing = λ r ranged. near r (within_range (max_range action) action one late.1 r ranged) in
      hold_both (creep_checks other ++ amount_checks action other ++ part_checks (needed_part action) other ++ target_checks (max_range action) action other) (further_checks action other)
      (hold_both (creep_checks other ++ amount_checks action other ++ part_checks (needed_part action) other) (target_checks (max_range action) action other)
      (hold_both (creep_checks other ++ amount_checks action other) (part_checks (needed_part action) other)
      (hold_both (creep_checks other) (amount_checks action other) (creep_again first.0) (amount_again action (amount_of amount) first.1))
      (part_again (needed_part action) one other same early.1))
      (target_again (max_range action) action one other same near late.1))
      (further_again one actor standing around (Some entry.amount) same same_around least action same_target last.1)

-- ---- in the world

module _ (stored : Stored) (account : Account) (desk : Desk) (action : Action) (id target amount : ℤ) (sound : IsSound stored) (sees : desk.sight ≡ sight_of (world_of stored) account) where
  abbrev all_seen : Type 0
  all_seen = all_hold (checks action (scene_seen desk.sight id target amount)) ≡ true

  passes_of : all_seen → (p : Placed) → seen desk.sight id ≡ Some p → Passes (world_of stored) (wish_of action desk.sight.account.player id target amount)
  passes_of holds p found =
      let stands = seen_stands stored sound desk.sight account sees id p found in
      let room = its_part stored sound (id_of id) p stands in
      let part : RoomPart = part_of (world_of stored) p.room room.0 in
      let here = stands_in_part stored sound (id_of id) p p.room room.0 stands refl in
      let near : (r : ℕ) → are_near r (seen desk.sight id) (seen desk.sight target) ≡ true → seen desk.sight target ≡ standing_at part (id_of target) = λ r close.
      (let beside = near_room r p (seen desk.sight target) (sym (ap (λ (a : Option Placed). are_near r a (seen desk.sight target)) found) ∙ close) in
      beside.1 ∙ sym (stands_in_part stored sound (id_of target) beside.0 p.room room.0 (seen_stands stored sound desk.sight account sees target beside.0 beside.1) (sym beside.2))) in
      (p.room, part, ap (option_map (λ (q : Placed). q.room)) stands, room.1, all_again action desk.sight id target amount (standing_at part (id_of id)) (standing_at part (id_of target)) (values part.objects) (found ∙ sym here) (around_stands stored sound desk.sight account sees id p found) near holds)

  passes : all_seen → Passes (world_of stored) (wish_of action desk.sight.account.player id target amount)
  passes holds =
      let creep = found_where (seen desk.sight id) _ (and_parts _ _ holds).0 in
      passes_of holds creep.0 creep.1

pub calls_agree : CallsAgree
calls_agree stored account desk memory action id target amount sound sees zero =
    let own : desk.sight.account ≡ account = ap (λ (s : Sight). s.account) sees in
    let done = done_where_0 desk memory (wish_of action desk.sight.account.player id target amount) (act_code action desk id target amount) zero in
    let holds = own_checks (checks action (scene_seen desk.sight id target amount)) (record_checks desk (wish_of action desk.sight.account.player id target amount)) (have_codes action (scene_seen desk.sight id target amount)) done in (
      subst (λ (a : Account). IsRecorded desk (wish_of action a.player id target amount) (wanted desk memory (wish_of action desk.sight.account.player id target amount) (act_code action desk id target amount)).desk) own (recorded_where_done desk memory (wish_of action desk.sight.account.player id target amount) (act_code action desk id target amount) done),
      subst (λ (a : Account). Passes (world_of stored) (wish_of action a.player id target amount)) own (passes stored account desk action id target amount sound sees holds),
    )
