-- Of the entries of an action that count no two have one actor.
use Rattle.std.proofs.Common.{◌≡◌, ◌≢◌, ℕ, ◌/◌, ◌<◌, ◌==◌, if◌then◌else◌, true, false, List, [], ◌∷◌, get_or, Option, Some, None, option_and_then, refl, sym, ap, subst, ◌∙◌, arith}
use Rattle.std.specs.Prelude.{nat_lt}
use Rattle.std.specs.List.{AllByRecursion, AllPairs, Contains, cons_option, filter_map}
use Rattle.std.specs.FinMap.{get, contains_key}
use Rattle.std.proofs.lemmas.Bool.{eqb-true, and_parts}
use Rattle.std.proofs.lemmas.List.Elements.{All-from_recursion, Contains-get_or}
use Rattle.std.proofs.lemmas.List.Kept.{AllPairs-cons, AllPairs-filter}
use Rattle.std.proofs.lemmas.List.Sorted.{IsPermutation-sym, Contains-permutation}
use Rattle.game_tables.specs.Actions.{action_number}
use Rattle.game_tables.specs.declared.action.Action.{Action}
use Rattle.game_tables.specs.declared.action.Action.TheVariants.{Move}
use Rattle.room_terrain.specs.declared.direction.Direction.{Direction}
use Rattle.room_table.specs.declared.object.Object.{Object}
use Rattle.intent_book.specs.declared.intent.Intent.{Intent}
use Rattle.world_rules.specs.World.{World}
use Rattle.world_rules.specs.Intents.{names_tile, object_at, may_act, acts_for, has_actor, kept, entries_of, is_in, those_in}
use Rattle.world_rules.specs.Movement.{Mover}
use Rattle.world_rules.specs.Checks.{may_take_effect}
use Rattle.world_rules.specs.Moves.{tile_towards, direction_of, is_open, mover_to, mover_towards, mover_of, candidates}
use Rattle.world_rules.specs.RoomParts.{RoomPart}
use Rattle.room_commutes.specs.Allowed.{AreCreepsOnce, StepsActor}
use Rattle.room_commutes.specs.Orders.{of_action}
use Rattle.room_commutes.specs.Standing.{AreKeyed}
use Rattle.room_commutes.proofs.Members.{Has, contains_has, has_contained, has_filter, pairs_first, pairs_later}
use Rattle.room_commutes.proofs.Order.{less_player}
use Rattle.room_commutes.proofs.Ordered.{in_order-same, kept-rises}
use Rattle.room_commutes.proofs.Split.{tile_number}
use Rattle.room_commutes.proofs.Counted.{kept_counts}

-- The object is the player's.
abbrev IsOwnedBy : Option Object → ℕ → Type 0
IsOwnedBy found player = (object : Object) × (found ≡ Some object) × (object.owner ≡ player)

owner_is : (entry : Intent) (found : Option Object) → acts_for entry found ≡ true → IsOwnedBy found entry.player
owner_is entry None is = absurd (cc)
owner_is entry (Some object) is = (object, refl, eqb-true object.owner entry.player (and_parts (may_act entry.action object.kind) (object.owner == entry.player) is).1)

same_owner : (found : Option Object) (one other : ℕ) → IsOwnedBy found one → IsOwnedBy found other → one ≡ other
same_owner found one other is also =
    let same : is.0 ≡ also.0 = let got : Some is.0 ≡ Some also.0 = sym is.1 ∙ also.1 in cc in
    sym is.2 ∙ ap (λ (object : Object). object.owner) same ∙ also.2

-- An entry of an action stands in the list, and is of the action.
pub entry_of : (action : Action) (list : List Intent) (entry : Intent) → Contains (entries_of action list) entry → Has list entry × (action_number entry.action ≡ action_number action)
entry_of action list entry contained =
    let those : List Intent = of_action action list in
    let among : Contains those entry = Contains-permutation (entries_of action list) those entry (IsPermutation-sym those (entries_of action list) (in_order-same those)) contained in
    let parts = has_filter (λ e. action_number e.action == action_number action) list entry (contains_has those entry among) in
    (parts.0, eqb-true (action_number entry.action) (action_number action) parts.1)

module _ (world : World) (list : List Intent) (action : Action) (object : names_tile action ≡ false) where
  abbrev those : List Intent
  those = entries_of action (kept world list)

  no_tile : (entry : Intent) → action_number entry.action ≡ action_number action → names_tile entry.action ≡ false
  no_tile entry same = tile_number entry.action ∙ ap (λ n. n == 19) same ∙ sym (tile_number action) ∙ object

  -- the actor of an entry that counts is its player's
  owned : (entry : Intent) → Contains those entry → IsOwnedBy (object_at world entry.actor) entry.player
  owned entry contained =
      let parts = entry_of action (kept world list) entry contained in
      let counts = (kept_counts world list entry).0 (has_contained (kept world list) entry parts.0) in
      let acts : has_actor world entry ≡ true = (and_parts (nat_lt 0 entry.player) (has_actor world entry) counts.last.good).1 in
      let tile = no_tile entry parts.1 in
      owner_is entry (object_at world entry.actor) (subst (λ b. (if b then contains_key world.rooms (entry.actor / 2500) else acts_for entry (object_at world entry.actor)) ≡ true) tile acts)

  apart : (one other : Intent) → Contains those one → Contains those other → one.player < other.player → one.actor ≢ other.actor
  apart one other here there less same =
      let also : IsOwnedBy (object_at world one.actor) other.player = subst (λ id. IsOwnedBy (object_at world id) other.player) (sym same) (owned other there) in
      let level : one.player ≡ other.player = same_owner (object_at world one.actor) one.player other.player (owned one here) also in
      absurd (omega arith)

  pub actors_once : AllPairs (λ one later. one.actor ≢ later.actor) those
  actors_once i j d less within same =
      let here = Contains-get_or those i d (omega arith) in
      let there = Contains-get_or those j d within in
      let one : Intent = get_or those i d in
      let other : Intent = get_or those j d in
      apart one other here there (less_player one other (kept-rises world list action i j d less within) same) same

-- ---- would-be movers

module _ (step : Intent → Option Mover) (steps : StepsActor step) where
  apart_later : (entry : Intent) (one : Mover) → step entry ≡ Some one → (later : List Intent) → AllByRecursion (λ other. entry.actor ≢ other.actor) later → AllByRecursion (λ other. one.creep ≢ other.creep) (filter_map step later)
  apart_later entry one is [] apart = tt
  apart_later entry one is (other ∷ later) apart =
      let rest = apart_later entry one is later apart.1 in
      elim (step other) as (λ r. step other ≡ r → AllByRecursion (λ mover. one.creep ≢ mover.creep) (cons_option r (filter_map step later))) [
        | None ↦ λ stays. rest
        | Some mover ↦ λ goes. (λ same. apart.0 (sym (steps entry one is) ∙ same ∙ steps other mover goes), rest)
      ] refl

  pub steps_once : (list : List Intent) → AllPairs (λ one later. one.actor ≢ later.actor) list → AreCreepsOnce (filter_map step list)
  steps_once [] apart = λ i j d less within. absurd (omega arith)
  steps_once (entry ∷ later) apart =
      let rest = steps_once later (pairs_later (λ one other. one.actor ≢ other.actor) entry later apart) in
      elim (step entry) as (λ r. step entry ≡ r → AreCreepsOnce (cons_option r (filter_map step later))) [
        | None ↦ λ stays. rest
        | Some one ↦ λ goes. AllPairs-cons (λ a b. a.creep ≢ b.creep) one (filter_map step later)
            (All-from_recursion (λ other. one.creep ≢ other.creep) (filter_map step later) (apart_later entry one goes later (pairs_first (λ a b. a.actor ≢ b.actor) entry later apart))) rest
      ] refl

-- the moves of a room that count
pub moves_once : (world : World) (list : List Intent) (room : ℕ) → AllPairs (λ one later. one.actor ≢ later.actor) (those_in world room (entries_of Move (kept world list)))
moves_once world list room =
    AllPairs-filter (λ one later. one.actor ≢ later.actor) (is_in world room) (entries_of Move (kept world list)) (actors_once world list Move refl)

-- ---- the movers of the rule in force

creep_to : (part : RoomPart) (creep : Object) (at : ℕ × ℕ) (one : Mover) → mover_to part creep at ≡ Some one → one.creep ≡ creep.id
creep_to part creep at one is =
    let there : Mover = record { creep = creep.id; x = at.0; y = at.1 } in
    elim (is_open part creep.owner at) as (λ b. (if b then Some there else None) ≡ Some one → one.creep ≡ creep.id) [
      | true ↦ λ got. let same : there ≡ one = cc in ap (λ (m : Mover). m.creep) (sym same)
      | false ↦ λ got. absurd (cc)
    ] is

creep_at : (part : RoomPart) (creep : Object) (at : Option (ℕ × ℕ)) (one : Mover) → option_and_then (mover_to part creep) at ≡ Some one → one.creep ≡ creep.id
creep_at part creep None one is = absurd (cc)
creep_at part creep (Some at) one is = creep_to part creep at one is

module _ (part : RoomPart) (keyed : AreKeyed part) where
  creep_of : (entry : Intent) (found : Option Object) → get part.objects entry.actor ≡ found → (one : Mover) → option_and_then (mover_towards part entry.amount) found ≡ Some one → one.creep ≡ entry.actor
  creep_of entry None stands one is = absurd (cc)
  creep_of entry (Some creep) stands one is =
      let ahead : Direction → Option (ℕ × ℕ) = λ to. tile_towards to creep.x creep.y in
      creep_at part creep (option_and_then ahead (direction_of entry.amount)) one is ∙ keyed entry.actor creep stands

  -- The mover of an entry steps its actor.
  pub mover_steps : StepsActor (mover_of part)
  mover_steps entry one is =
      elim (may_take_effect Move entry part) as (λ b. (if b then option_and_then (mover_towards part entry.amount) (get part.objects entry.actor) else None) ≡ Some one → one.creep ≡ entry.actor) [
        | true ↦ λ got. creep_of entry (get part.objects entry.actor) refl one got
        | false ↦ λ got. absurd (cc)
      ] is

  pub candidates_once : (list : List Intent) → AllPairs (λ one other. one.actor ≢ other.actor) list → AreCreepsOnce (candidates part list)
  candidates_once list apart = steps_once (mover_of part) mover_steps list apart
