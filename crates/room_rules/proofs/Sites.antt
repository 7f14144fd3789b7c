-- A site and its building: which kind it is of, in which ranges both are, and what may share their tile.
use Rattle.std.proofs.Common.{◌≡◌, ◌⊎◌, inl, inr, ℕ, ◌<◌, ◌≤◌, ◌==◌, ◌&&◌, ◌||◌, not, nat_lt, Bool, true, false, cond, List, [], ◌∷◌, Option, Some, None, refl, sym, ap, subst, ◌∙◌, arith}
use Rattle.std.specs.List.{AllByRecursion, find}
use Rattle.std.specs.Option.{is_some, unwrap_or}
use Rattle.std.proofs.lemmas.Bool.{eqb-true, ltb-true}
use Rattle.room_terrain.specs.declared.terrain.Ground.{Ground}
use Rattle.game_tables.specs.Actions.{is_target}
use Rattle.game_tables.specs.Kinds.{clash, full_timer, is_building, is_controller, is_creep, is_pile, is_source, obstructs, stands_fixed}
use Rattle.game_tables.specs.Numbers.{kind_number}
use Rattle.game_tables.specs.declared.action.Action.TheVariants.{Build}
use Rattle.game_tables.specs.declared.kind.Kind.{Kind}
use Rattle.game_tables.specs.declared.kind.Kind.TheVariants.{Controller, Spawn, Extension, Storage, Container, Road, Site}
use Rattle.room_table.specs.Controllers.{is_owned_room}
use Rattle.room_table.specs.Stores.{building_of, site_kinds}
use Rattle.room_table.specs.declared.object.Object.{Object}
use Rattle.world_rules.specs.RoomParts.{RoomPart, controller_of}
use Rattle.world_rules.specs.Checks.{would_obstruct}
use Rattle.world_rules.specs.Rules.{IsFrom1To, IsOnWrongTile, IsProgress}
use Rattle.world_rules.specs.Work.{building_on, total_of}
use Rattle.room_rules.specs.Within.{Stage, IsInRangeIn}
use Rattle.room_rules.specs.RoomRules.{HasRightOwner}

-- ---- which kind it is of

found_kind : (test : Kind → Bool) (kinds : List Kind) (kind : Kind) → AllByRecursion (λ k. is_building k ≡ true) kinds → find test kinds ≡ Some kind → (is_building kind ≡ true) × (test kind ≡ true)
found_kind test [] kind all is = absurd (cc)
found_kind test (first ∷ later) kind all is =
    elim (test first) as (λ b. test first ≡ b → cond b (Some first) (find test later) ≡ Some kind → (is_building kind ≡ true) × (test kind ≡ true)) [
      | true ↦ λ t got.
          let same : first ≡ kind = cc in
          (subst (λ (k : Kind). is_building k ≡ true) same all.0, subst (λ (k : Kind). test k ≡ true) same t)
      | false ↦ λ t got. found_kind test later kind all.1 got
    ] refl is

-- It is a building, whose number the site keeps.
pub building_is : (site : Object) (kind : Kind) → building_of site ≡ Some kind → (is_building kind ≡ true) × (site.extra ≡ kind_number kind)
building_is site kind is =
    let found = found_kind (λ k. kind_number k == site.extra) site_kinds kind (refl, (refl, (refl, (refl, (refl, tt))))) is in
    (found.0, sym (eqb-true (kind_number kind) site.extra found.1))

pub site_is : (k : Kind) → is_target Build k ≡ true → k ≡ Site
site_is Site is = refl
site_is k is = absurd (cc)

pub building_no_controller : (k : Kind) → is_building k ≡ true → is_controller k ≡ false
building_no_controller Controller is = absurd (cc)
building_no_controller k is = refl

-- ---- the ranges of a site

below_total : (total : Option ℕ) (progress : ℕ) → nat_lt progress (unwrap_or total 0) ≡ true → IsProgress total progress
below_total None progress is = let less : progress < 0 = ltb-true progress 0 is in absurd (omega (arith, less))
below_total (Some total) progress is = ltb-true progress total is

module _ (stage : Stage) (site : Object) where
  pub site_owner : (k : Kind) → is_target Build k ≡ true → IsInRangeIn k stage site → 1 ≤ site.owner
  site_owner Site is s = s.owner
  site_owner k is s = absurd (cc)

  -- A site that has come further, and not to its end, is in its ranges.
  pub site_further : (kind : Kind) (progress : ℕ) → is_building kind ≡ true → site.extra ≡ kind_number kind → nat_lt progress (total_of kind) ≡ true → (k : Kind) → is_target Build k ≡ true
      → IsInRangeIn k stage site → IsInRangeIn k stage (record site { progress = progress })
  site_further kind progress building number below Site is s = record { owner = s.owner; hits = s.hits; energy = s.energy; timer = s.timer; built = (kind, building, number, below_total _ progress below); other = s.other; other_ticks = s.other_ticks; body = s.body }
  site_further kind progress building number below k is s = absurd (cc)

-- ---- the ranges and the owner of a building that was just made

container_timer : (owned : Bool) → IsFrom1To 500 (full_timer Container owned)
container_timer true = (omega arith, omega arith)
container_timer false = (omega arith, omega arith)

module _ (part : RoomPart) (site : Object) (id : ℕ) where
  pub building_range : (kind : Kind) (stage : Stage) → is_building kind ≡ true → 1 ≤ site.owner → IsInRangeIn kind stage (building_on kind part site id)
  building_range Spawn stage is owner = record { owner = owner; hits = (omega arith, omega arith); energy = omega arith; timer = omega arith; idle = λ e. refl; busy = λ e. absurd (e refl); extra = refl; progress = refl; other = refl; other_ticks = refl; parts = omega arith }
  building_range Extension stage is owner = record { owner = owner; hits = (omega arith, omega arith); energy = omega arith; timer = refl; extra = refl; progress = refl; other = refl; other_ticks = refl; body = refl }
  building_range Storage stage is owner = record { owner = owner; hits = (omega arith, omega arith); energy = omega arith; timer = refl; extra = refl; progress = refl; other = refl; other_ticks = refl; body = refl }
  building_range Container stage is owner = record { owner = refl; hits = (omega arith, omega arith); energy = omega arith; timer = container_timer (is_owned_room (controller_of part)); extra = refl; progress = refl; other = refl; other_ticks = refl; body = refl }
  building_range Road stage is owner = record { owner = refl; hits = (omega arith, omega arith); energy = omega arith; timer = (omega arith, omega arith); extra = refl; progress = refl; other = refl; other_ticks = refl; body = refl }
  building_range k stage is owner = absurd (cc)

  pub building_owner : (players : ℕ → Bool) (kind : Kind) → is_building kind ≡ true → players site.owner ≡ true → HasRightOwner players (building_on kind part site id)
  building_owner players Spawn is listed = record { owner = λ some. (listed, refl); other = λ some. absurd (some refl) }
  building_owner players Extension is listed = record { owner = λ some. (listed, refl); other = λ some. absurd (some refl) }
  building_owner players Storage is listed = record { owner = λ some. (listed, refl); other = λ some. absurd (some refl) }
  building_owner players Container is listed = record { owner = λ some. absurd (some refl); other = λ some. absurd (some refl) }
  building_owner players Road is listed = record { owner = λ some. absurd (some refl); other = λ some. absurd (some refl) }
  building_owner players k is listed = absurd (cc)

  -- Its tile is right for it, since it was for the site.
  pub building_tile : (grounds : List Ground) (kind : Kind) → site.kind ≡ Site → (IsOnWrongTile grounds site → ⊥) → IsOnWrongTile grounds (building_on kind part site id) → ⊥
  building_tile grounds kind is right (inl h) = right (inl (ap is_source is, ap is_controller is, h.2))
  building_tile grounds kind is right (inr h) = right (inr (ap is_creep is, ap is_pile is, h.2))

-- ---- what may share the tile

clash_parts : (fixed obstructing creep : Bool) → ((fixed || false) || (obstructing && creep)) ≡ true → (((fixed || false) || false) ≡ true) ⊎ ((obstructing ≡ true) × (creep ≡ true))
clash_parts true obstructing creep is = inl refl
clash_parts false true true is = inr (refl, refl)
clash_parts false true false is = absurd (cc)
clash_parts false false creep is = absurd (cc)

-- What may not share a tile with a building may not with a site, or is a creep that the building obstructs.
pub clash_site : (k q : Kind) → is_building k ≡ true → clash k q ≡ true → (clash Site q ≡ true) ⊎ ((obstructs k ≡ true) × (is_creep q ≡ true))
clash_site Spawn q is c = clash_parts (stands_fixed q) true (is_creep q) c
clash_site Extension q is c = clash_parts (stands_fixed q) true (is_creep q) c
clash_site Storage q is c = clash_parts (stands_fixed q) true (is_creep q) c
clash_site Container q is c = clash_parts (stands_fixed q) false (is_creep q) c
clash_site Road q is c = clash_parts (stands_fixed q) false (is_creep q) c
clash_site k q is c = absurd (cc)

-- No creep is found where the building would obstruct it.
pub none_on : (kind : Kind) (building : Option Kind) (found : Option Object) → building ≡ Some kind → not (would_obstruct building && is_some found) ≡ true → obstructs kind ≡ true → found ≡ None
none_on kind building None is free obstructing = refl
none_on kind building (Some object) is free obstructing = absurd (in_way (would_obstruct building) (ap would_obstruct is ∙ obstructing) free)
  where
    in_way : (b : Bool) → b ≡ true → not (b && true) ≡ true → ⊥
    in_way true would is = cc
    in_way false would is = cc
