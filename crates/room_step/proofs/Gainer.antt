-- All points that a tick gives in a room go to one player, and an entry gives few.
use Rattle.std.proofs.Common.{◌≡◌, ◌≢◌, ◌⊎◌, inl, inr, ℕ, ◌+◌, ◌-◌, ◌≤◌, ◌==◌, ◌&&◌, min, nat_lt, nat_le, if◌then◌else◌, Bool, true, false, List, [], ◌∷◌, ◌++◌, length, take, drop, Option, Some, None, refl, sym, ap, subst, ◌∙◌, arith}
use Rattle.std.specs.List.{AllByRecursion, list_any}
use Rattle.std.specs.FinMap.{get}
use Rattle.std.proofs.lemmas.Bool.{both_ways, cases_lt, eqb-true, eqb-false}
use Rattle.std.proofs.lemmas.List.Sums.{count_by-le-length}
use Rattle.game_tables.specs.Actions.{action_number, is_target}
use Rattle.game_tables.specs.Bodies.{live_parts, most_parts, part_hits, same_part}
use Rattle.game_tables.specs.Kinds.{is_controller, is_creep}
use Rattle.game_tables.specs.Levels.{last_level, total_for_next}
use Rattle.game_tables.specs.declared.action.Action.{Action}
use Rattle.game_tables.specs.declared.action.Action.TheVariants.{Upgrade}
use Rattle.game_tables.specs.declared.kind.Kind.{Kind}
use Rattle.game_tables.specs.declared.kind.Kind.TheVariants.{Controller, Creep}
use Rattle.game_tables.specs.declared.kind.Part.{Part}
use Rattle.game_tables.specs.declared.kind.Part.TheVariants.{Work}
use Rattle.room_table.specs.Tallies.{sum_with}
use Rattle.room_table.specs.declared.object.Object.{Object}
use Rattle.intent_book.specs.declared.intent.Intent.{Intent}
use Rattle.world_rules.specs.RoomParts.{RoomPart}
use Rattle.world_rules.specs.RuleBook.{Effect}
use Rattle.world_rules.specs.Changes.{with_object}
use Rattle.world_rules.specs.Checks.{between, parties}
use Rattle.world_rules.specs.Claims.{full_time, most_at_last, points_between, progressed, refreshed, risen, upgraded_by, work_taken, worked_on}
use Rattle.world_rules.specs.Intents.{all_actions, entries_of}
use Rattle.world_rules.specs.Loads.{with_less}
use Rattle.world_rules.specs.RoomTick.{RoomCourse, kept_in, room_after_actions, room_after_kind, room_after_rule, room_after_rules, room_begun, room_tick}
use Rattle.world_rules.specs.Tick.{book, rule_of}
use Rattle.world_rules.specs.Work.{live_work}
use Rattle.world_rules.proofs.Checked.{AreParties, and_left, parties_are}
use Rattle.room_commutes.proofs.ActorsOnce.{entry_of}
use Rattle.room_commutes.proofs.Members.{Has, has_any, has_contained}
use Rattle.room_commutes.proofs.Torn.{same_action}
use Rattle.room_rules.specs.Within.{within, IsInRangeIn}
use Rattle.room_rules.specs.RoomRules.{Holds, KeepsRoomRules}
use Rattle.room_rules.proofs.Changed.{set_came, target_kind}
use Rattle.room_rules.proofs.Keeps.{only_one}
use Rattle.ruled_tick.proofs.Gaining.{no_points}
use Rattle.upkeep_rules.proofs.Split.{all_joined}
use Rattle.room_step.proofs.Keeping.{actions_keep, kept_player}

-- ---- gains

-- All these points are the player's.
abbrev AreGainedBy : ℕ → List (ℕ × ℕ) → Type 0
AreGainedBy player points = AllByRecursion (λ gain. (gain.1 ≡ 0) ⊎ (gain.0 ≡ player)) points

-- All these points are one player's.
abbrev OneGainer : List (ℕ × ℕ) → Type 0
OneGainer points = (player : ℕ) × AreGainedBy player points

-- An entry among those of an action has that action.
kind_of : (action : Action) (list : List Intent) (entry : Intent) → Has (entries_of action list) entry → entry.action ≡ action
kind_of action list entry has = same_action entry.action action (entry_of action list entry (has_contained (entries_of action list) entry has)).1

module _ (player : ℕ) where
  abbrev Own : RoomCourse → Type 0
  Own course = AreGainedBy player course.points

  one_more : (entry : Intent) (course : RoomCourse) → Own course → ((book.effect entry course.part).points ≡ 0) ⊎ (entry.player ≡ player) → Own (room_after_rule book course entry)
  one_more entry course own gain =
      all_joined (λ g. (g.1 ≡ 0) ⊎ (g.0 ≡ player)) course.points ((entry.player, (book.effect entry course.part).points) ∷ []) own (gain, tt)

  -- Only upgrades gain points.
  rules_gain : (list : List Intent) → ((entry : Intent) → Has list entry → entry.action ≢ Upgrade) → (course : RoomCourse) → Own course → Own (room_after_rules book list course)
  rules_gain [] other course own = own
  rules_gain (entry ∷ later) other course own =
      rules_gain later (λ e has. other e (inr has)) (room_after_rule book course entry)
      (one_more entry course own (inl (no_points entry.action (other entry (inl refl)) entry course.part)))

  actions_gain : (actions : List Action) → ((action : Action) → Has actions action → action ≢ Upgrade) → (list : List Intent) (course : RoomCourse) → Own course → Own (room_after_actions book actions list course)
  actions_gain [] other list course own = own
  actions_gain (action ∷ later) other list course own =
      let those : List Intent = entries_of action list in
      actions_gain later (λ a has. other a (inr has)) list (room_after_kind book those course)
      (rules_gain those (λ entry has is. other action (inl refl) (sym (kind_of action list entry has) ∙ is)) _ own)

-- ---- who upgrades

-- Each controller in the room is the player's.
abbrev AreOwnedBy : ℕ → RoomPart → Type 0
AreOwnedBy player part = (id : ℕ) (object : Object) → Holds part id object → is_controller object.kind ≡ true → object.owner ≡ player

-- What is put into a controller leaves its owner.
refreshed_owner : (amount : ℕ) (o : Object) → (refreshed amount o).owner ≡ o.owner
refreshed_owner amount o = elim (amount == 0) as (λ b. (if b then o else record o { timer = min (full_time o.extra) (o.timer + 100) }).owner ≡ o.owner) [ true ↦ refl | false ↦ refl ]

progressed_owner : (next : Option ℕ) (amount : ℕ) (o : Object) → (progressed next amount o).owner ≡ o.owner
progressed_owner None amount o = refreshed_owner amount o
progressed_owner (Some total) amount o =
    let more : Object = record o { progress = o.progress + amount } in
    elim (nat_le total more.progress) as (λ b. (if b then risen total more else refreshed amount more).owner ≡ o.owner) [ true ↦ refl | false ↦ refreshed_owner amount more ]

worked_owner : (amount : ℕ) (o : Object) → (worked_on amount o).owner ≡ o.owner
worked_owner amount o = progressed_owner (total_for_next o.extra) amount (record o { other_ticks = sum_with amount o.other_ticks })

-- A controller is no creep.
no_creep : (kind : Kind) → is_controller kind ≡ true → is_creep kind ≡ true → ⊥
no_creep Controller is creep = absurd (cc)
no_creep kind is creep = absurd (cc)

upgrade_target : (kind : Kind) → is_target Upgrade kind ≡ true → is_controller kind ≡ true
upgrade_target Controller is = refl
upgrade_target kind is = absurd (cc)

-- An upgrade leaves controllers to whom they belong.
upgraded_owned : (player amount : ℕ) (creep controller : Object) (part : RoomPart) → is_creep creep.kind ≡ true → controller.owner ≡ player → AreOwnedBy player part
    → AreOwnedBy player (with_object (worked_on amount controller) (with_object (with_less amount creep) part))
upgraded_owned player amount creep controller part kind own owned id object there is =
    let less : Object = with_less amount creep in
    elim (set_came (with_object less part) (worked_on amount controller) id object there) [
      | inr worked ↦ ap (λ (o : Object). o.owner) (sym worked) ∙ worked_owner amount controller ∙ own
      | inl before ↦ elim (set_came part less id object before.0) [
        | inr paid ↦ absurd (no_creep object.kind is (ap (λ (o : Object). is_creep o.kind) (sym paid) ∙ kind))
        | inl first ↦ owned id object first.0 is
      ]
    ]

module _ (entry : Intent) where
  -- The rule of an entry to upgrade is that of upgrades.
  by_upgrade : entry.action ≡ Upgrade → (P : Effect → Type 0) (part : RoomPart) → P (rule_of Upgrade entry part) → P (book.effect entry part)
  by_upgrade upgrade P part is = subst (λ (action : Action). P (rule_of action entry part)) (sym upgrade) is

  -- The controller that is upgraded is the player's.
  upgrades_own : (part : RoomPart) (creep controller : Object) → AreParties Upgrade entry part creep controller → (controller.owner ≡ entry.player) × (is_controller controller.kind ≡ true)
  upgrades_own part creep controller p = (
    eqb-true controller.owner entry.player (and_left (controller.owner == entry.player) (nat_le 1 creep.energy && true) p.further),
    upgrade_target controller.kind (target_kind Upgrade 3 entry part creep controller p.targets),
  )

  -- Each controller is still the player's, and nobody else gains points.
  abbrev StaysOwned : ℕ → Effect → Type 0
  StaysOwned player effect = AreOwnedBy player effect.part × ((effect.points ≡ 0) ⊎ (entry.player ≡ player))

  abbrev upgraded_with : RoomPart → Option (Object × Object) → Effect
  upgraded_with part found = record { part = between upgraded_by found part; points = points_between found }

  upgrade_owned : (player : ℕ) (part : RoomPart) → AreOwnedBy player part → (found : Option (Object × Object)) → parties Upgrade entry part ≡ found → StaysOwned player (upgraded_with part found)
  upgrade_owned player part owned None is = (owned, inl refl)
  upgrade_owned player part owned (Some found) is =
      let p = parties_are Upgrade entry part found is in
      let own = upgrades_own part found.0 found.1 p in
      let his : found.1.owner ≡ player = owned entry.target found.1 p.at own.1 in
      (upgraded_owned player (work_taken found.0 found.1) found.0 found.1 part p.kind his owned, inr (sym own.0 ∙ his))

-- Where each controller is the player's, he alone gains points.
upgrades_gain : (player : ℕ) (list : List Intent) → ((entry : Intent) → Has list entry → entry.action ≡ Upgrade) → (course : RoomCourse) → AreOwnedBy player course.part → AreGainedBy player course.points
    → AreGainedBy player (room_after_rules book list course).points
upgrades_gain player [] each course owned own = own
upgrades_gain player (entry ∷ later) each course owned own =
    let next = by_upgrade entry (each entry (inl refl)) (StaysOwned entry player) course.part (upgrade_owned entry player course.part owned (parties Upgrade entry course.part) refl) in
    upgrades_gain player later (λ e has. each e (inr has)) (room_after_rule book course entry) next.0 (one_more player entry course own next.1)

module _ (players : ℕ → Bool) where
  -- A room has one controller at most.
  all_owned : (part : RoomPart) → KeepsRoomRules players within part → (id : ℕ) (controller : Object) → Holds part id controller → is_controller controller.kind ≡ true → AreOwnedBy controller.owner part
  all_owned part keeps id controller there is other object stands also =
      elim (id == other) as (λ b. (id == other) ≡ b → object.owner ≡ controller.owner) [
        | true ↦ λ same. ap (λ (o : Object). o.owner) (only_one object controller (get part.objects other) stands (ap (get part.objects) (sym (eqb-true id other same)) ∙ there))
        | false ↦ λ differ. absurd (keeps.controllers id other controller object (eqb-false id other differ) there stands is also)
      ] refl

  abbrev IsWithoutGain : Effect → Type 0
  IsWithoutGain effect = KeepsRoomRules players within effect.part × (effect.points ≡ 0)

  -- Among upgrades there is one whose player alone gains points, or none gains any.
  upgrades_one : (list : List Intent) → ((entry : Intent) → Has list entry → entry.action ≡ Upgrade) → (course : RoomCourse) → KeepsRoomRules players within course.part → ((player : ℕ) → AreGainedBy player course.points)
      → OneGainer (room_after_rules book list course).points
  upgrades_one [] each course keeps own = (0, own 0)
  upgrades_one (entry ∷ later) each course keeps own =
      let upgrade : entry.action ≡ Upgrade = each entry (inl refl) in
      elim (parties Upgrade entry course.part) as (λ found. parties Upgrade entry course.part ≡ found → OneGainer (room_after_rules book (entry ∷ later) course).points) [
        | None ↦ λ is.
            let nothing = subst (λ (found : Option (Object × Object)). IsWithoutGain (upgraded_with entry course.part found)) (sym is) (keeps, refl) in
            let next = by_upgrade entry upgrade IsWithoutGain course.part nothing in
            upgrades_one later (λ e has. each e (inr has)) (room_after_rule book course entry) next.0 (λ player. one_more player entry course (own player) (inl next.1))
        | Some found ↦ λ is.
            let p = parties_are Upgrade entry course.part found is in
            let controller : Object = found.1 in
            let kind = (upgrades_own entry course.part found.0 controller p).1 in
            (controller.owner, upgrades_gain controller.owner (entry ∷ later) each course (all_owned course.part keeps entry.target controller p.at kind) (own controller.owner))
      ] refl

-- ---- all actions

-- the actions before upgrades, and those after
abbrev early : List Action
early = take 15 all_actions

abbrev late : List Action
late = drop 16 all_actions

after_both : (one two : List Action) (list : List Intent) (course : RoomCourse) → room_after_actions book (one ++ two) list course ≡ room_after_actions book two list (room_after_actions book one list course)
after_both [] two list course = refl
after_both (action ∷ one) two list course = after_both one two list (room_after_kind book (entries_of action list) course)

no_upgrade : (actions : List Action) → list_any (λ action. action_number action == 16) actions ≡ false → (action : Action) → Has actions action → action ≢ Upgrade
no_upgrade actions none action has is =
    both_ways (list_any (λ a. action_number a == 16) actions) none (has_any (λ a. action_number a == 16) actions action has (ap (λ a. action_number a == 16) is))

module _ (players : ℕ → Bool) (part : RoomPart) (keeps : KeepsRoomRules players within part) (list : List Intent) where
  abbrev counted : List Intent
  counted = kept_in part list

  abbrev before : RoomCourse
  before = room_after_actions book early counted (room_begun part)

  abbrev upgrading : RoomCourse
  upgrading = room_after_kind book (entries_of Upgrade counted) before

  upgraded_one : OneGainer upgrading.points
  upgraded_one =
      upgrades_one players (entries_of Upgrade counted) (kind_of Upgrade counted) _
      (actions_keep players early counted (kept_player part list) (room_begun part) keeps)
      (λ player. actions_gain player early (no_upgrade early refl) counted (room_begun part) tt)

  -- One player gains all points of a tick in a room.
  pub one_gainer : (player : ℕ) × AllByRecursion (λ gain. (gain.1 ≡ 0) ⊎ (gain.0 ≡ player)) (room_tick book list part).points
  one_gainer =
      let one = upgraded_one in
      let gained : AreGainedBy one.0 (room_after_actions book late counted upgrading).points = actions_gain one.0 late (no_upgrade late refl) counted upgrading one.1 in
      (one.0, subst (λ (course : RoomCourse). AreGainedBy one.0 course.points) (sym (after_both early (Upgrade ∷ late) counted (room_begun part))) gained)

-- ---- how many points

-- No more parts live than there are.
live_few : (hits : ℕ) (parts : List Part) → length (live_parts hits parts) ≤ length parts
live_few hits [] = omega arith
live_few hits (part ∷ rest) =
    let later : length (live_parts hits rest) ≤ length rest = live_few hits rest in
    elim (nat_lt 0 (part_hits hits (length rest))) as (λ b. length (if b then part ∷ live_parts hits rest else live_parts hits rest) ≤ length (part ∷ rest)) [ true ↦ omega (arith, later) | false ↦ omega (arith, later) ]

-- A creep puts no more into a controller than it has parts.
few_taken : (creep controller : Object) → work_taken creep controller ≤ length creep.body
few_taken creep controller = most (controller.extra == last_level)
  where
    most : (b : Bool) → (if b then min (min (live_work creep) creep.energy) (most_at_last - controller.other_ticks) else min (live_work creep) creep.energy) ≤ length creep.body
    most true = omega (arith, count_by-le-length (same_part Work) (live_parts creep.hits creep.body), live_few creep.hits creep.body)
    most false = omega (arith, count_by-le-length (same_part Work) (live_parts creep.hits creep.body), live_few creep.hits creep.body)

creep_parts : (kind : Kind) (creep : Object) → is_creep kind ≡ true → IsInRangeIn kind within creep → length creep.body ≤ most_parts
creep_parts Creep creep is range = range.parts
creep_parts kind creep is range = absurd (cc)

module _ (players : ℕ → Bool) (part : RoomPart) (keeps : KeepsRoomRules players within part) (entry : Intent) where
  few_between : (found : Option (Object × Object)) → parties Upgrade entry part ≡ found → points_between found ≤ 50
  few_between None is = omega arith
  few_between (Some found) is =
      let p = parties_are Upgrade entry part found is in
      let creep : Object = found.0 in
      elim (cases_lt 50 (length creep.body)) [
        | inl more ↦ absurd (keeps.ranges entry.actor creep p.there (λ range. (let few = creep_parts creep.kind creep p.kind range in omega (arith, more, few))))
        | inr few ↦ omega (arith, few, few_taken creep found.1)
      ]

  few_of : (action : Action) → (rule_of action entry part).points ≤ 50
  few_of Upgrade = few_between (parties Upgrade entry part) refl
  few_of action = omega arith

  -- An entry gives at most as many points as a creep has parts.
  pub few_points : (book.effect entry part).points ≤ 50
  few_points = few_of entry.action
