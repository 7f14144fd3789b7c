-- What the definitions of what a creep drops give in worked examples.
use Rattle.std.proofs.Common.{◌≡◌, ℕ, ◌+◌, ◌-◌, ◌==◌, min, Bool, true, false, if◌then◌else◌, List, [], ◌∷◌, map, Option, Some, None, option_map, refl, ap, ◌∙◌}
use Rattle.std.specs.List.{find}
use Rattle.std.specs.Ordering.{nat_cmp}
use Rattle.std.specs.Cmp.{nat_cmp_total}
use Rattle.std.specs.FinMap.{get, put, insert, entries, values, get-insert, get-from_entries, entries-insert}
use Rattle.room_table.specs.declared.object.Object.{Object}
use Rattle.game_tables.specs.declared.action.Action.TheVariants.{DropLoad}
use Rattle.world_rules.specs.World.{Placed}
use Rattle.world_rules.specs.RoomParts.{RoomPart}
use Rattle.world_rules.specs.Checks.{standing_at, takes_effect}
use Rattle.world_rules.specs.Drops.{dropped, dropped_by, dropped_of, fallen, fallen_on, is_pile_on, pile_bound, pile_of, pile_on, wanted_of}
use Rattle.world_rules.specs.Changes.{put as put_object, with_object}
use Rattle.world_rules.specs.Examples.{Drops, DropsNothing, Grows, creep_with, drop_of, room_with}
use Rattle.world_rules.proofs.Keys.{entries_of_sorted}
use Rattle.world_rules.proofs.examples.drop_examples.Goals as goal

-- the rooms of the examples: a creep alone, and a creep with a pile
abbrev alone : ℕ → RoomPart
alone load = room_with (creep_with load ∷ [])

abbrev with_pile : ℕ → RoomPart
with_pile energy = room_with (pile_of 2 30 30 energy ∷ creep_with 20 ∷ [])

creep_alone : (load : ℕ) → get (alone load).objects 3 ≡ Some (creep_with load)
creep_alone load = get-from_entries nat_cmp_total ((3, creep_with load) ∷ []) 3

creep_with_pile : (energy : ℕ) → get (with_pile energy).objects 3 ≡ Some (creep_with 20)
creep_with_pile energy = get-from_entries nat_cmp_total ((2, pile_of 2 30 30 energy) ∷ (3, creep_with 20) ∷ []) 3

-- the part with an object under its id
abbrev holding : Object → RoomPart → RoomPart
holding object part = record part { objects = insert part.objects object.id object }

held : (object old : Object) (part : RoomPart) → get part.objects object.id ≡ Some old → with_object object part ≡ holding object part
held object old part is = ap (put_object object part) is

-- the room once so much was taken of the creep
abbrev taken : ℕ → ℕ → RoomPart → RoomPart
taken load amount part = holding (creep_with (load - amount)) part

-- the pile of the tile, in a room of these objects from which so much was taken
pile_then : (part : RoomPart) (es : List (ℕ × Object)) (load : ℕ) → entries part.objects ≡ es → pile_on 30 30 (holding (creep_with load) part) ≡ find (is_pile_on 30 30) (map (λ entry. entry.1) (put nat_cmp 3 (creep_with load) es))
pile_then part es load are =
    ap (λ (list : List (ℕ × Object)). find (is_pile_on 30 30) (map (λ entry. entry.1) list)) (entries-insert nat_cmp_total part.objects 3 (creep_with load) ∙ ap (put nat_cmp 3 (creep_with load)) are)

-- an object in the room of a part
abbrev in_room : RoomPart → Object → Placed
in_room part object = record { room = part.index; object = object }

-- an entry of this player takes effect, where this is the creep
abbrev takes : ℕ → Object → ℕ → RoomPart → Bool
takes player creep amount part = takes_effect DropLoad (drop_of player amount) (values part.objects) (Some (in_room part creep)) (standing_at part 0)

-- what is dropped falls on what lies on the tile
falls_so : (part : RoomPart) (load amount all : ℕ) (found : Option Object) → get part.objects 3 ≡ Some (creep_with load) → takes 1 (creep_with load) amount part ≡ true → wanted_of amount load ≡ all → (all == 0) ≡ false → pile_on 30 30 (taken load all part) ≡ found
    → dropped (drop_of 1 amount) part ≡ fallen_on found 30 30 all (taken load all part)
falls_so part load amount all found there some wanted falls lies =
    ap (λ (o : Option Object). dropped_of (drop_of 1 amount) o part) there
    ∙ ap (λ (o : Option Object). if takes_effect DropLoad (drop_of 1 amount) (values part.objects) (option_map (in_room part) o) (standing_at part 0) then dropped_by (creep_with load) (wanted_of amount load) part else part) there
    ∙ ap (λ (b : Bool). if b then dropped_by (creep_with load) (wanted_of amount load) part else part) some
    ∙ ap (λ (n : ℕ). dropped_by (creep_with load) n part) wanted
    ∙ ap (λ (p : RoomPart). fallen 30 30 all p) (held (creep_with (load - all)) (creep_with load) part there)
    ∙ ap (λ (b : Bool). if b then taken load all part else fallen_on (pile_on 30 30 (taken load all part)) 30 30 all (taken load all part)) falls
    ∙ ap (λ (o : Option Object). fallen_on o 30 30 all (taken load all part)) lies

-- where nothing lies there, a new pile is made
drops : (load amount all : ℕ) → takes 1 (creep_with load) amount (alone load) ≡ true → wanted_of amount load ≡ all → (all == 0) ≡ false → Drops load amount (load - all) (min pile_bound all)
drops load amount all some wanted falls =
    let pile : Object = pile_of 4 30 30 (min pile_bound all) in
    let after : RoomPart = taken load all (alone load) in
    let bare = pile_then (alone load) ((3, creep_with load) ∷ []) (load - all) (entries_of_sorted ((3, creep_with load) ∷ []) tt) in
    let is = falls_so (alone load) load amount all None (creep_alone load) some wanted falls bare in (
      ap (λ (part : RoomPart). get part.objects 3) is ∙ get-insert nat_cmp_total after.objects 4 pile 3 ∙ get-insert nat_cmp_total (alone load).objects 3 (creep_with (load - all)) 3,
      ap (λ (part : RoomPart). get part.objects 4) is ∙ get-insert nat_cmp_total after.objects 4 pile 4,
      ap (λ (part : RoomPart). part.next) is,
    )

-- where a pile lies there, it grows
grows : (energy amount all : ℕ) → wanted_of amount 20 ≡ all → (all == 0) ≡ false → Grows energy amount (min pile_bound (energy + all))
grows energy amount all wanted falls =
    let pile : Object = pile_of 2 30 30 (min pile_bound (energy + all)) in
    let es : List (ℕ × Object) = (2, pile_of 2 30 30 energy) ∷ (3, creep_with 20) ∷ [] in
    let lies = pile_then (with_pile energy) es (20 - all) (entries_of_sorted es tt) in
    let after : RoomPart = taken 20 all (with_pile energy) in
    let lying : get after.objects 2 ≡ Some (pile_of 2 30 30 energy) = get-insert nat_cmp_total (with_pile energy).objects 3 (creep_with (20 - all)) 2 ∙ get-from_entries nat_cmp_total es 2 in
    let is = falls_so (with_pile energy) 20 amount all (Some (pile_of 2 30 30 energy)) (creep_with_pile energy) refl wanted falls lies ∙ held pile (pile_of 2 30 30 energy) after lying in (
      ap (λ (part : RoomPart). get part.objects 2) is ∙ get-insert nat_cmp_total (taken 20 all (with_pile energy)).objects 2 pile 2,
      ap (λ (part : RoomPart). part.next) is,
    )

-- an entry of another player, or to a creep without a load or hits, changes nothing
drops_nothing : (player hits load : ℕ) → takes player (record (creep_with load) { hits = hits }) 5 (room_with (record (creep_with load) { hits = hits } ∷ [])) ≡ false → DropsNothing player hits load
drops_nothing player hits load no_drop =
    let creep : Object = record (creep_with load) { hits = hits } in
    let part : RoomPart = room_with (creep ∷ []) in
    let there = get-from_entries nat_cmp_total ((3, creep) ∷ []) 3 in
    ap (λ (o : Option Object). dropped_of (drop_of player 5) o part) there
    ∙ ap (λ (o : Option Object). if takes_effect DropLoad (drop_of player 5) (values part.objects) (option_map (in_room part) o) (standing_at part 0) then dropped_by creep (wanted_of 5 load) part else part) there
    ∙ ap (λ (b : Bool). if b then dropped_by creep (wanted_of 5 load) (room_with (creep ∷ [])) else room_with (creep ∷ [])) no_drop

-- ---- the examples

pub returns-clause-some : goal.returns-clause-some
returns-clause-some c = drops 20 5 5 refl refl refl

pub returns-clause-all : goal.returns-clause-all
returns-clause-all c = drops 20 0 20 refl refl refl

pub returns-clause-too_much : goal.returns-clause-too_much
returns-clause-too_much c = drops 20 21 20 refl refl refl

pub returns-clause-grows : goal.returns-clause-grows
returns-clause-grows c = grows 1 5 5 refl refl

pub returns-clause-most : goal.returns-clause-most
returns-clause-most c = grows 999999998 5 5 refl refl

pub returns-clause-another : goal.returns-clause-another
returns-clause-another c = drops_nothing 2 200 20 refl

pub returns-clause-empty : goal.returns-clause-empty
returns-clause-empty c = drops_nothing 1 200 0 refl

pub returns-clause-killed : goal.returns-clause-killed
returns-clause-killed c = drops_nothing 1 0 20 refl
