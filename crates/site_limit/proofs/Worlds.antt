-- Where the sites of a player stand, through a tick of a whole world.
use Rattle.std.proofs.Common.{◌≡◌, ℕ, ◌==◌, Bool, true, false, cond, List, [], ◌∷◌, Option, Some, None, option_map, option_and_then, refl, sym, ap, subst, ◌∙◌}
use Rattle.std.specs.Prelude.{if◌then◌else◌, not}
use Rattle.std.specs.List.{AllByRecursion}
use Rattle.std.specs.Option.{option_or}
use Rattle.std.specs.Cmp.{nat_cmp_total, unsigned_tied}
use Rattle.std.specs.FinMap.{get, keys, get-insert}
use Rattle.std.proofs.lemmas.Bool.{eqb-true}
use Rattle.game_tables.specs.Kinds.{is_creep}
use Rattle.room_table.specs.declared.object.Object.{Object}
use Rattle.world_rules.specs.Crossings.{Place, all_rested, beyond, crossed, crossed_by, crossed_over, crossed_to, crossers, may_enter, rested, still, with_object_on, with_place}
use Rattle.world_rules.specs.RoomParts.{RoomPart, in_every_room, in_frame, in_room, in_rooms, part_of}
use Rattle.world_rules.specs.RuleBook.{Step, Sums}
use Rattle.world_rules.specs.Tick.{after_steps}
use Rattle.world_rules.specs.World.{Frame, Placed, World}
use Rattle.world_rules.proofs.Parts.{put_in, only, except, get_objects_in, get_with_room}
use Rattle.room_commutes.proofs.InTick.{elsewhere}
use Rattle.room_commutes.proofs.Rested.{all_rested_get}
use Rattle.site_limit.proofs.Rooms.{AllFit, Fits, Keeps}

-- ---- a change of one room

module _ (player : ℕ) where
  -- Each object of the world stands under its id, and each site of the player under one of these.
  abbrev pub AllFitIn : List ℕ → World → Type 0
  AllFitIn places world = (id : ℕ) (placed : Placed) → get world.objects id ≡ Some placed → Fits player places id placed.object

  module _ (places : List ℕ) where
    fits_in_room : (room id : ℕ) (object : Object) (found : Option Placed) → ((placed : Placed) → found ≡ Some placed → Fits player places id placed.object)
        → option_and_then (only room) found ≡ Some object → Fits player places id object
    fits_in_room room id object None fit is = absurd (cc)
    fits_in_room room id object (Some placed) fit is =
        elim (placed.room == room) as (λ b. (if b then Some placed.object else None) ≡ Some object → Fits player places id object) [
          | true ↦ λ got. (let same : placed.object ≡ object = cc in subst (Fits player places id) same (fit placed refl))
          | false ↦ λ got. absurd (cc)
        ] is

    pub part_fits : (world : World) (room : ℕ) (frame : Frame) → AllFitIn places world → AllFit player places (part_of world room frame)
    part_fits world room frame fit id object is = fits_in_room room id object (get world.objects id) (fit id) (sym (get_objects_in world room id) ∙ is)

    fits_put : (room id : ℕ) (placed : Placed) (put : Option Object) (found : Option Placed) → ((object : Object) → put ≡ Some object → Fits player places id object)
        → ((p : Placed) → found ≡ Some p → Fits player places id p.object) → option_or (put_in room put) (option_and_then (except room) found) ≡ Some placed → Fits player places id placed.object
    fits_put room id placed None found here there is = there placed (elsewhere (λ q. not (q.room == room)) placed found is)
    fits_put room id placed (Some object) found here there is =
        let same : record { room = room; object = object } ≡ placed = cc in
        subst (λ (p : Placed). Fits player places id p.object) same (here object refl)

    pub frame_fits : (change : RoomPart → RoomPart) (room : ℕ) (world : World) (frame : Frame) → AllFit player places (change (part_of world room frame)) → AllFitIn places world → AllFitIn places (in_frame change room world (Some frame))
    frame_fits change room world frame after fit = λ id found is.
        let now : RoomPart = change (part_of world room frame) in
        fits_put room id found (get now.objects id) (get world.objects id) (after id) (fit id)
        (sym (get_with_room world room (record frame { next = now.next }) now.objects id) ∙ is)

    found_frame_fits : (change : RoomPart → RoomPart) → Keeps player places change → (room : ℕ) (world : World) (found : Option Frame) → AllFitIn places world → AllFitIn places (in_frame change room world found)
    found_frame_fits change keeps room world None fit = fit
    found_frame_fits change keeps room world (Some frame) fit = frame_fits change room world frame (keeps (part_of world room frame) (part_fits world room frame fit)) fit

    pub room_fits : (change : RoomPart → RoomPart) → Keeps player places change → (room : ℕ) (world : World) → AllFitIn places world → AllFitIn places (in_room change room world)
    room_fits change keeps room world fit = found_frame_fits change keeps room world (get world.rooms room) fit

    rooms_fit : (change : ℕ → RoomPart → RoomPart) → ((room : ℕ) → Keeps player places (change room)) → (rooms : List ℕ) (world : World) → AllFitIn places world → AllFitIn places (in_rooms change rooms world)
    rooms_fit change keeps [] world fit = fit
    rooms_fit change keeps (room ∷ later) world fit = rooms_fit change keeps later (in_room (change room) room world) (room_fits (change room) (keeps room) room world fit)

    pub every_fits : (change : ℕ → RoomPart → RoomPart) → ((room : ℕ) → Keeps player places (change room)) → (world : World) → AllFitIn places world → AllFitIn places (in_every_room change world)
    every_fits change keeps world fit = rooms_fit change keeps (keys world.rooms) world fit

    pub steps_fit : (sums : ℕ → Sums) (list : List Step) → AllByRecursion (λ (step : Step). (s : Sums) → Keeps player places (step s)) list → (world : World) → AllFitIn places world → AllFitIn places (after_steps sums list world)
    steps_fit sums [] keeps world fit = fit
    steps_fit sums (step ∷ later) keeps world fit =
        steps_fit sums later keeps.1 (in_every_room (λ room. step (sums room)) world) (every_fits (λ room. step (sums room)) (λ room. keeps.0 (sums room)) world fit)

    -- ---- crossings

    put_fits : (world : World) (id : ℕ) (object : Object) (place : Place) → Fits player places id object → AllFitIn places world → AllFitIn places (with_object_on world id object place)
    put_fits world id object place own fit other found is =
        elim (other == id) as (λ b. (other == id) ≡ b → cond b (Some (with_place object place)) (get world.objects other) ≡ Some found → Fits player places other found.object) [
          | true ↦ λ at got.
              let same : with_place object place ≡ found = cc in
              subst (λ (p : Placed). Fits player places other p.object) same (own.0 ∙ sym (eqb-true other id at), own.1)
          | false ↦ λ at got. fit other found got
        ] refl (sym (ap (λ (b : Bool). cond b (Some (with_place object place)) (get world.objects other)) (unsigned_tied other id)) ∙ sym (get-insert nat_cmp_total world.objects id (with_place object place) other) ∙ is)

    to_fits : (world : World) (id : ℕ) (object : Object) (place : Option Place) → Fits player places id object → AllFitIn places world → AllFitIn places (crossed_to world id object place)
    to_fits world id object None own fit = fit
    to_fits world id object (Some place) own fit =
        elim (may_enter world place) as (λ b. AllFitIn places (if b then with_object_on world id object place else world)) [ true ↦ put_fits world id object place own fit | false ↦ fit ]

    by_fits : (world : World) (id : ℕ) (found : Option Placed) → ((placed : Placed) → found ≡ Some placed → Fits player places id placed.object) → AllFitIn places world → AllFitIn places (crossed_by world id found)
    by_fits world id None own fit = fit
    by_fits world id (Some placed) own fit = to_fits world id placed.object (beyond world placed) (own placed refl) fit

    over_fits : (ids : List ℕ) (world : World) → AllFitIn places world → AllFitIn places (crossed_over ids world)
    over_fits [] world fit = fit
    over_fits (id ∷ later) world fit = over_fits later (crossed_by world id (get world.objects id)) (by_fits world id (get world.objects id) (fit id) fit)

    still_fits : (id : ℕ) (object : Object) → Fits player places id object → Fits player places id (still object)
    still_fits id object fit = elim (is_creep object.kind) as (λ b. Fits player places id (if b then record object { other_ticks = 0 } else object)) [ true ↦ fit | false ↦ fit ]

    rest_fits : (world : World) → AllFitIn places world → AllFitIn places (all_rested world)
    rest_fits world fit id found is = at (get world.objects id) (fit id) (sym (all_rested_get world id) ∙ is)
      where
        at : (before : Option Placed) → ((placed : Placed) → before ≡ Some placed → Fits player places id placed.object) → option_map rested before ≡ Some found → Fits player places id found.object
        at None own got = absurd (cc)
        at (Some placed) own got = let same : rested placed ≡ found = cc in subst (λ (p : Placed). Fits player places id p.object) same (still_fits id placed.object (own placed refl))

    pub crossed_fits : (world : World) → AllFitIn places world → AllFitIn places (crossed world)
    crossed_fits world fit = rest_fits (crossed_over (crossers world) world) (over_fits (crossers world) world fit)
