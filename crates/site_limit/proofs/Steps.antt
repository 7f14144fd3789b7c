-- Where the sites of a player stand, through movement and through the steps of upkeep.
use Rattle.std.proofs.Common.{◌≡◌, ℕ, ◌+◌, ◌-◌, ◌==◌, ◌&&◌, ◌||◌, Bool, true, false, List, [], length, Option, Some, None, refl, ap, subst, ◌∙◌}
use Rattle.std.specs.Prelude.{max, nat_lt, if◌then◌else◌}
use Rattle.std.specs.List.{AllByRecursion, find, filter}
use Rattle.std.specs.FinMap.{values}
use Rattle.std.proofs.lemmas.Bool.{eqb-true}
use Rattle.game_tables.specs.Bodies.{load_room}
use Rattle.game_tables.specs.Kinds.{pile_decay, renewal_ticks}
use Rattle.game_tables.specs.Kinds.{full_timer, is_building, is_creep, is_site, source_capacity}
use Rattle.game_tables.specs.declared.kind.Kind.{Kind}
use Rattle.game_tables.specs.declared.kind.Kind.TheVariants as kinds
use Rattle.room_table.specs.Controllers.{is_owned_room, is_taken}
use Rattle.room_table.specs.declared.object.Object.{Object}
use Rattle.intent_book.specs.declared.intent.Intent.{Intent}
use Rattle.world_rules.specs.RoomParts.{RoomPart, controller_of}
use Rattle.world_rules.specs.RuleBook.{Step, Sums}
use Rattle.world_rules.specs.Changes.{next_id, with_new, with_object, without}
use Rattle.world_rules.specs.Checks.{all_hold}
use Rattle.world_rules.specs.Claims.{controller_aged_as, downgraded, owned_aged, reservation_aged}
use Rattle.world_rules.specs.Movement.{Mover, has_mover, is_creep_on, moved_by, movers, stepped, worn_as}
use Rattle.world_rules.specs.Moves.{candidates, fatigue, moved}
use Rattle.world_rules.specs.Sites.{making_checks, plan_of, site_made, site_of}
use Rattle.world_rules.specs.Spawns.{held_by, hatched_as, hatched_on, newborn, tile_for}
use Rattle.world_rules.specs.Steps.{over_objects}
use Rattle.world_rules.specs.Upkeep.{aged_as, decay_hits, decayed_as, decays, filled_as, gone, hits_left, pile_decayed, recovered_as, renewed_as, source_renewed, spawn_capacity, standing_or_gone, steps, struck, struck_as, unloaded_as, weathered, weathered_as}
use Rattle.room_commutes.proofs.Members.{Has}
use Rattle.site_limit.specs.FewSites.{is_site_of}
use Rattle.site_limit.proofs.Rooms.{AllFit, IsKnown, Keeps, fit_dropped, fit_each, fit_fallen, fit_if, fit_new, fit_new_known, fit_object, fit_over, fit_without, no_site}

-- ---- what stays of the same kind and owner

stepped_owner : (player : ℕ) (count : Object → Mover → ℕ) (object : Object) (mover : Option Mover) → (is_site_of player (stepped count object mover) ≡ is_site_of player object) × ((stepped count object mover).id ≡ object.id)
stepped_owner player count object None = (refl, refl)
stepped_owner player count object (Some one) = (refl, refl)

kind_if : (b : Bool) (one other : Object) (kind : Kind) → one.kind ≡ kind → other.kind ≡ kind → (if b then one else other).kind ≡ kind
kind_if true one other kind first second = first
kind_if false one other kind first second = second

controller_kind : (object : Object) → (controller_aged_as kinds.Controller object).kind ≡ object.kind
controller_kind object =
    let rested : Object = record object { other_ticks = 0 } in
    kind_if (object.extra == 0) (reservation_aged object) (owned_aged object) object.kind
    (kind_if (nat_lt 1 object.other_ticks) (record object { other_ticks = object.other_ticks - 1 }) (record object { other = 0; other_ticks = 0 }) object.kind refl refl)
    (kind_if (nat_lt 1 object.timer) (record rested { timer = object.timer - 1 }) (downgraded rested) object.kind refl refl)

module _ (player : ℕ) (places : List ℕ) where
  abbrev Known : Object → Type 0
  Known = IsKnown player places

  -- ---- a new site

  pub fit_made : (entry : Intent) (part : RoomPart) → (entry.player ≡ player → Has places (next_id part)) → AllFit player places part → AllFit player places (site_made entry part)
  fit_made entry part new fit =
      let make : ℕ → Object = site_of (plan_of entry part) in
      fit_if player places (all_hold (making_checks entry part)) (with_new make part) part
      (fit_new_known player places make part refl (λ is. new (eqb-true entry.player player is)) fit) fit

  -- ---- movement

  known_stepped : (count : Object → Mover → ℕ) (object : Object) (mover : Option Mover) → Known object → Known (stepped count object mover)
  known_stepped count object None known = known
  known_stepped count object (Some one) known = known

  known_worn : (kind : Kind) (creeps : List Object) (object : Object) → Known object → Known (worn_as kind creeps object)
  known_worn kinds.Road creeps object known =
      elim (find (is_creep_on object.x object.y) creeps) as (λ found. Known (elim found as (λ f. Object) [ None ↦ object | Some creep ↦ record object { timer = max 1 (object.timer - length creep.body) } ])) [ None ↦ known | Some creep ↦ known ]
  known_worn kind creeps object known = known

  fit_moved_by : (count : Object → Mover → ℕ) (list : List Mover) → Keeps player places (moved_by count list)
  fit_moved_by count list part fit =
      let set : List Mover = movers (values part.objects) list in
      let step : Object → RoomPart → RoomPart = λ object. with_object (stepped count object (find (λ one. one.creep == object.id) set)) in
      let after : RoomPart = over_objects step part in
      let creeps : List Object = filter (λ object. has_mover set object.id) (values after.objects) in
      fit_over player places (λ object now. with_object (worn_as object.kind creeps object) now) (λ object known. fit_object player places (worn_as object.kind creeps object) (known_worn object.kind creeps object known)) after
      (fit_over player places step (λ object known. fit_object player places (stepped count object (find (λ one. one.creep == object.id) set)) (known_stepped count object (find (λ one. one.creep == object.id) set) known)) part fit)

  pub fit_moved : (list : List Intent) → Keeps player places (moved list)
  fit_moved list part fit = fit_moved_by (fatigue part) (candidates part list) part fit

  -- ---- upkeep

  fit_gone : (object : Object) → Keeps player places (gone object)
  fit_gone object part fit = fit_fallen player places object.x object.y object.energy (without object.id part) (fit_without player places object.id part fit)

  fit_standing : (object : Object) → Known object → Keeps player places (standing_or_gone object)
  fit_standing object known part fit = fit_if player places (object.hits == 0) (gone object part) (with_object object part) (fit_gone object part fit) (fit_object player places object known part fit)

  fit_struck : (sums : Sums) → Keeps player places (struck sums)
  fit_struck sums = fit_over player places (struck_as sums) (λ object known part fit.
      fit_if player places (is_creep object.kind || is_building object.kind) (standing_or_gone (record object { hits = hits_left object.kind sums object }) part) part
      (fit_standing (record object { hits = hits_left object.kind sums object }) known part fit) fit)

  fit_unloaded_as : (kind : Kind) (object : Object) → Known object → Keeps player places (unloaded_as kind object)
  fit_unloaded_as kinds.Creep creep known part fit = fit_dropped player places creep (creep.energy - load_room creep.hits creep.body) known part fit
  fit_unloaded_as kind object known part fit = fit

  fit_aged_as : (kind : Kind) (object : Object) → Known object → Keeps player places (aged_as kind object)
  fit_aged_as kinds.Creep creep known part fit =
      fit_if player places (nat_lt 1 creep.timer) (with_object (record creep { timer = creep.timer - 1 }) part) (gone creep part) (fit_object player places (record creep { timer = creep.timer - 1 }) known part fit) (fit_gone creep part fit)
  fit_aged_as kind object known part fit = fit

  known_recovered : (kind : Kind) (object : Object) → Known object → Known (recovered_as kind object)
  known_recovered kinds.Creep creep known = known
  known_recovered kind object known = known

  fit_filled_as : (kind : Kind) (object : Object) → Known object → Keeps player places (filled_as kind object)
  fit_filled_as kinds.Spawn spawn known part fit =
      fit_if player places (nat_lt spawn.energy spawn_capacity && nat_lt (held_by spawn.owner (values part.objects)) spawn_capacity)
      (with_object (record spawn { energy = spawn.energy + 1 }) part) part (fit_object player places (record spawn { energy = spawn.energy + 1 }) known part fit) fit
  fit_filled_as kind object known part fit = fit

  fit_hatched_on : (spawn : Object) (found : Option (ℕ × ℕ)) → Known spawn → Keeps player places (hatched_on spawn found)
  fit_hatched_on spawn None known part fit = fit
  fit_hatched_on spawn (Some at) known part fit =
      fit_new player places (newborn spawn at) (λ id. refl) (λ id. refl) (with_object (record spawn { timer = 0; body = [] }) part) (fit_object player places (record spawn { timer = 0; body = [] }) known part fit)

  fit_hatched_as : (kind : Kind) (object : Object) → Known object → Keeps player places (hatched_as kind object)
  fit_hatched_as kinds.Spawn spawn known part fit =
      fit_if player places (nat_lt 1 spawn.timer) (with_object (record spawn { timer = spawn.timer - 1 }) part) (if spawn.timer == 1 then hatched_on spawn (tile_for part spawn) part else part)
      (fit_object player places (record spawn { timer = spawn.timer - 1 }) known part fit)
      (fit_if player places (spawn.timer == 1) (hatched_on spawn (tile_for part spawn) part) part (fit_hatched_on spawn (tile_for part spawn) known part fit) fit)
  fit_hatched_as kind object known part fit = fit

  known_if : (b : Bool) (one other : Object) → Known one → Known other → Known (if b then one else other)
  known_if true one other first second = first
  known_if false one other first second = second

  known_renewed : (capacity : ℕ) (source : Object) → Known source → Known (source_renewed capacity source)
  known_renewed capacity source known =
      let last : Object = if nat_lt source.energy capacity then record source { timer = renewal_ticks } else source in
      let second : Object = if source.timer == 1 then record source { timer = 0; energy = max source.energy capacity } else last in
      known_if (nat_lt 1 source.timer) (record source { timer = source.timer - 1 }) second known
      (known_if (source.timer == 1) (record source { timer = 0; energy = max source.energy capacity }) last known (known_if (nat_lt source.energy capacity) (record source { timer = renewal_ticks }) source known known))

  -- What changes by itself and stays.
  stays : (change : Object → Object) → ((object : Object) → Known object → Known (change object)) → (object after : Object) → Known object → Some (change object) ≡ Some after → Known after
  stays change keeps object after known is = let same : change object ≡ after = cc in subst Known same (keeps object known)

  known_renewed_as : (kind : Kind) (capacity : ℕ) (object after : Object) → Known object → renewed_as kind capacity object ≡ Some after → Known after
  known_renewed_as kinds.Source capacity object after known is = stays (source_renewed capacity) (known_renewed capacity) object after known is
  known_renewed_as kind capacity object after known is = stays (λ o. o) (λ o k. k) object after known is

  fit_weathered_as : (in_owned : Bool) (object : Object) → Known object → Keeps player places (weathered_as in_owned object)
  fit_weathered_as in_owned object known part fit =
      let less : Object = record object { timer = object.timer - 1 } in
      let worn : Object = record object { hits = object.hits - decay_hits object.kind; timer = full_timer object.kind in_owned } in
      fit_if player places (decays object.kind) (standing_or_gone (weathered in_owned object) part) part
      (fit_standing (weathered in_owned object) (known_if (nat_lt 1 object.timer) less worn known known) part fit) fit

  known_decayed : (pile after : Object) → Known pile → pile_decayed pile ≡ Some after → Known after
  known_decayed pile after known is =
      let left : ℕ = pile.energy - pile_decay pile.energy in
      elim (left == 0) as (λ b. (if b then None else Some (record pile { energy = left })) ≡ Some after → Known after) [
        | true ↦ λ got. absurd (cc)
        | false ↦ λ got. stays (λ o. record o { energy = left }) (λ o k. k) pile after known got
      ] is

  known_decayed_as : (kind : Kind) (object after : Object) → Known object → decayed_as kind object ≡ Some after → Known after
  known_decayed_as kinds.Pile object after known is = known_decayed object after known is
  known_decayed_as kind object after known is = stays (λ o. o) (λ o k. k) object after known is

  known_controller : (kind : Kind) (object : Object) → object.kind ≡ kind → Known object → Known (controller_aged_as kind object)
  known_controller kinds.Controller object is known = no_site player places (controller_aged_as kinds.Controller object) (ap is_site (controller_kind object ∙ is))
  known_controller kind object is known = known

  -- Each step of upkeep keeps where they stand.
  pub fit_steps : AllByRecursion (λ (step : Step). (sums : Sums) → Keeps player places (step sums)) steps
  fit_steps = (
    fit_struck,
    (
      λ sums. fit_over player places (λ object. unloaded_as object.kind object) (λ object. fit_unloaded_as object.kind object),
      (
        λ sums. fit_over player places (λ object. aged_as object.kind object) (λ object. fit_aged_as object.kind object),
        (
          λ sums. fit_each player places (λ object. Some (recovered_as object.kind object)) (stays (λ object. recovered_as object.kind object) (λ object. known_recovered object.kind object)),
          (
            λ sums. fit_over player places (λ object. filled_as object.kind object) (λ object. fit_filled_as object.kind object),
            (
              λ sums. fit_over player places (λ object. hatched_as object.kind object) (λ object. fit_hatched_as object.kind object),
              (
                λ sums. fit_each player places (λ object. Some (controller_aged_as object.kind object)) (stays (λ object. controller_aged_as object.kind object) (λ object. known_controller object.kind object refl)),
                (
                  λ sums part. fit_each player places (λ object. renewed_as object.kind (source_capacity (is_taken (controller_of part))) object) (λ object. known_renewed_as object.kind (source_capacity (is_taken (controller_of part))) object) part,
                  (
                    λ sums part. fit_over player places (weathered_as (is_owned_room (controller_of part))) (fit_weathered_as (is_owned_room (controller_of part))) part,
                    (
                      λ sums part. fit_each player places (λ object. decayed_as object.kind object) (λ object. known_decayed_as object.kind object) part,
                      tt,
                    ),
                  ),
                ),
              ),
            ),
          ),
        ),
      ),
    ),
  )
