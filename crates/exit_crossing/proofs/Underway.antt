-- A run of crossings: what holds between one and the next.
use Rattle.std.proofs.Common.{◌≡◌, ℕ, suc, ◌+◌, ◌-◌, ◌<◌, ◌≤◌, ◌||◌, inl, inr, eqb, Bool, true, false, cond, List, [], ◌∷◌, map, length, Option, Some, None, refl, sym, ap, subst, ◌∙◌, option_and_then, arith, slice_get, slice_set, drop, get_or, zero}
use Rattle.std.specs.List.{AllByRecursion, AllPairs, IsDistinct, list_any}
use Rattle.std.proofs.lemmas.Bool.{eqb-true, ne_eqb}
use Rattle.std.proofs.lemmas.List.Elements.{recursion_from_All}
use Rattle.std.proofs.lemmas.Map.Steps.{length-le_from_distinct_below}
use Rattle.std.specs.Ordering.{nat_cmp, eq_by_cmp}
use Rattle.std.specs.Cmp.{nat_cmp_total}
use Rattle.std.specs.FinMap.{get, remove, same_map, get-empty, get-remove, nat_cmp-IsAntisymmetric}
use Rattle.game_tables.specs.Kinds.{is_creep}
use Rattle.room_terrain.specs.Tiles.{IsBorder}
use Rattle.room_table.specs.declared.object.Object.{Object}
use Rattle.object_store.specs.declared.world.Room.{Room}
use Rattle.object_store.specs.Stored.{Stored, HaveRisingTables}
use Rattle.room_table.specs.declared.tally.Tally.{Tally}
use Rattle.room_table.specs.Tables.{IsOnTile, find_object}
use Rattle.room_table.specs.Tallies.{Tallies, no_tallies}
use Rattle.world_rules.specs.Moves.{is_open_ground}
use Rattle.world_rules.specs.Rules.{IsWall}
use Rattle.world_rules.specs.World.{world_of}
use Rattle.world_rules.specs.Crossings.{crossed_over}
use Rattle.room_rules.specs.Crossed.{HasCrossed, left_by, entered_by}
use Rattle.exit_crossing.specs.Crossing.{AreForgotten, AreIdsApart, AreCrossers, IsReadyToCross, IsCreepOf, KeepsFrame, KeepsFrameAt, KeepsFrames}
use Rattle.exit_crossing.specs.declared.leaving.Crosser.{Crosser}
use Rattle.exit_crossing.specs.declared.crossing.Landing.{Landing}
use Rattle.exit_crossing.specs.inner.Landings.{Lands, CanCross, GoesOrStays, rooms_gone}
use Rattle.exit_crossing.proofs.Rooms.{all_get}
use Rattle.exit_crossing.proofs.Mirrored.{ToTile, mirrors_tile}
use Rattle.exit_crossing.proofs.Gone.{rooms_apart, id_of_creep}
use Rattle.exit_crossing.proofs.Found.{object_at, room_of}
use Rattle.exit_crossing.proofs.Taken.{free_of}
use Rattle.exit_crossing.proofs.Going.{at_from, at_to, at_other, which, arrived, was_then, other_then, room_there, room_here, room_elsewhere, others_stay, it_arrives, ids_then, rising_then, tiles_then}
use Rattle.exit_crossing.proofs.Crossed.{it_goes, it_stays}
use Rattle.exit_crossing.proofs.Border.{border_number, number_below, number_once}

-- ---- single crossings, one after the other

pub data AreCrossed (first : Stored) : Stored → Type 0 where
  at_first : AreCrossed first first
  further : {before after : Stored} → AreCrossed first before → HasCrossed before after → AreCrossed first after

-- ---- frames

-- without one of those to whom nothing was done
none_removed : (id : ℕ) → remove no_tallies id ≡ no_tallies
none_removed id =
    same_map nat_cmp_total nat_cmp-IsAntisymmetric (remove no_tallies id) no_tallies (λ q. (let none : get no_tallies q ≡ None = get-empty {X = Tally} nat_cmp q in
    get-remove nat_cmp_total no_tallies id q ∙ gone (eq_by_cmp nat_cmp q id) (get no_tallies q) none ∙ sym none))
  where
    gone : (b : Bool) (found : Option Tally) → found ≡ None → cond b None found ≡ None
    gone true found none = refl
    gone false found none = none

frame_kept : (room : Option Room) → KeepsFrameAt room room
frame_kept None = tt
frame_kept (Some room) = record { name = refl; terrain = refl; index = refl; next = refl; spare = omega arith; sums = λ none. none }

frames_through : (one two three : Option Room) → KeepsFrameAt one two → KeepsFrameAt two three → KeepsFrameAt one three
frames_through None None None first second = tt
frames_through None None (Some three) first second = absurd second
frames_through None (Some two) three first second = absurd first
frames_through (Some one) None three first second = absurd first
frames_through (Some one) (Some two) None first second = absurd second
frames_through (Some one) (Some two) (Some three) first second = record {
  name = second.name ∙ first.name;
  terrain = second.terrain ∙ first.terrain;
  index = second.index ∙ first.index;
  next = second.next ∙ first.next;
  spare = omega (arith, first.spare, second.spare);
  sums = λ none. second.sums (first.sums none);
}

-- Rooms of which nothing is told stay so.
pub still_forgotten : (rooms later : List Room) → ((k : ℕ) → KeepsFrameAt (slice_get rooms k) (slice_get later k)) → AreForgotten rooms → AreForgotten later
still_forgotten [] [] keeps forgotten = tt
still_forgotten [] (other ∷ later) keeps forgotten = absurd (keeps 0)
still_forgotten (room ∷ rooms) [] keeps forgotten = absurd (keeps 0)
still_forgotten (room ∷ rooms) (other ∷ later) keeps forgotten = (let first : KeepsFrame room other = keeps 0 in first.sums forgotten.0, still_forgotten rooms later (λ k. keeps (suc k)) forgotten.1)

-- ---- arrivals

-- A creep whose turn is over stands on the border tile of a number.
pub record Arrived (rooms : List Room) (k : ℕ) (rest : List Crosser) (n : ℕ) : Type 0 where
  pub id : ℕ
  pub object : Object
  pub stands : object_at rooms k id ≡ Some object
  pub creep : is_creep object.kind ≡ true
  pub column : object.x ≤ 49
  pub row : object.y ≤ 49
  pub border : IsBorder object.x object.y
  pub number : n ≡ border_number object.x object.y
  pub done : AllByRecursion (λ (later : Crosser). id < later.id) rest

-- For each creep that came to a room there is a border tile, and no two have one.
pub record Arrivals (rooms : List Room) (k : ℕ) (rest : List Crosser) (spare : ℕ) : Type 0 where
  pub tiles : List ℕ
  pub distinct : IsDistinct eqb tiles
  pub here : AllByRecursion (Arrived rooms k rest) tiles
  pub enough : 196 ≤ spare + length tiles

pub IsAscending : List Crosser → Type 0
IsAscending [] = Unit {0}
IsAscending (one ∷ later) = AllByRecursion (λ (other : Crosser). one.id < other.id) later × IsAscending later

pub record Underway (entry now : Stored) (list rest : List Crosser) : Type 0 where
  pub whole : crossed_over (map (λ crosser. crosser.id) rest) (world_of now) ≡ crossed_over (map (λ crosser. crosser.id) list) (world_of entry)
  pub frames : KeepsFrames entry now
  pub chain : AreCrossed entry now
  pub ids : AreIdsApart now.rooms
  pub tiles : AllByRecursion (λ (room : Room). AllByRecursion IsOnTile room.table.objects) now.rooms
  pub rise : HaveRisingTables now.rooms
  pub creeps : AllByRecursion (IsCreepOf now.rooms) rest
  pub ascending : IsAscending rest
  pub arrivals : (k : ℕ) (room : Room) → slice_get now.rooms k ≡ Some room → Arrivals now.rooms k rest room.table.spare

-- ---- the start and the end

ascend : (list : List Crosser) → AllPairs (λ one later. one.id < later.id) list → IsAscending list
unfolding IsAscending
ascend [] pairs = tt
ascend (one ∷ later) pairs = (
  recursion_from_All (λ (other : Crosser). one.id < other.id) later (λ k d less. pairs 0 (suc k) d (omega arith) (omega (arith, less))),
  ascend later (λ i j d less within. pairs (suc i) (suc j) d (omega (arith, less)) (omega (arith, within))),
)

pub starts : (world : Stored) (list : List Crosser) → AreCrossers world.rooms list → IsReadyToCross world.rooms → HaveRisingTables world.rooms → Underway world world list list
unfolding IsDistinct
starts world list crossers ready rise = record {
  whole = refl;
  frames = record { tick = refl; accounts = refl; rooms = λ k. frame_kept (slice_get world.rooms k) };
  chain = at_first;
  ids = ready.ids;
  tiles = ready.tiles;
  rise = rise;
  creeps = recursion_from_All (IsCreepOf world.rooms) list crossers.creeps;
  ascending = ascend list crossers.rising;
  arrivals = λ k room is. record {
    tiles = [];
    distinct = tt;
    here = tt;
    enough = omega (arith, all_get (λ (r : Room). 196 ≤ r.table.spare) world.rooms k room ready.spare is);
  };
}

-- ---- memory

members : (P : ℕ → Type 0) (xs : List ℕ) → AllByRecursion P xs → (q : ℕ) → list_any (eqb q) xs ≡ true → P q
members P [] all q is = absurd cc
members P (x ∷ xs) all q is = elim (eqb q x) as (λ b. eqb q x ≡ b → cond b true (list_any (eqb q) xs) ≡ true → P q) [
  | true ↦ λ same got. subst P (sym (eqb-true q x same)) all.0
  | false ↦ λ other got. members P xs all.1 q got
] refl (sym (or_cond (eqb q x) (list_any (eqb q) xs)) ∙ is)
  where
    or_cond : (a b : Bool) → (a || b) ≡ cond a true b
    or_cond true b = refl
    or_cond false b = refl

all_of : {P Q : ℕ → Type 0} (xs : List ℕ) → ((n : ℕ) → P n → Q n) → AllByRecursion P xs → AllByRecursion Q xs
all_of [] from all = tt
all_of (x ∷ xs) from all = (from x all.0, all_of xs from all.1)

module _ (entry now : Stored) (list : List Crosser) (crosser : Crosser) (rest : List Crosser) (under : Underway entry now list (crosser ∷ rest)) where
  was : Room
  was = under.creeps.0.0

  module _ (at : Landing) (lands : Lands now.rooms crosser at) where
    abbrev number : ℕ
    number = border_number at.x at.y

    to_tile : ToTile at.x at.y
    to_tile = mirrors_tile lands.was.name lands.creep.x lands.creep.y lands.name at.x at.y lands.mirrors

    there : Arrivals now.rooms at.room (crosser ∷ rest) lands.other.table.spare
    there = under.arrivals at.room lands.other lands.entered

    -- nobody who arrived stands on the free tile
    other_number : (n : ℕ) → Arrived now.rooms at.room (crosser ∷ rest) n → eqb number n ≡ false
    other_number n one = ne_eqb number n (λ same.
        let on = number_once at.x at.y one.object.x one.object.y to_tile.column to_tile.row to_tile.border one.column one.row one.border (same ∙ one.number) in
        free_of at.x at.y one.id lands.other.table.objects one.object lands.free
        (sym (ap (option_and_then (λ (room : Room). find_object one.id room.table.objects)) lands.entered) ∙ one.stands)
        (record { creep = one.creep; column = sym on.0; row = sym on.1 }))

    below_all : (n : ℕ) → Arrived now.rooms at.room (crosser ∷ rest) n → n < 196
    below_all n one = subst (λ (m : ℕ). m < 196) (sym one.number) (number_below one.object.x one.object.y one.column one.row one.border)

    distinct_more : IsDistinct eqb (number ∷ there.tiles)
    unfolding IsDistinct
    distinct_more = (all_of there.tiles other_number there.here, there.distinct)

    few : length (number ∷ there.tiles) ≤ 196
    few = length-le_from_distinct_below (number ∷ there.tiles) 196 distinct_more (members (λ m. m < 196) (number ∷ there.tiles) (number_below at.x at.y to_tile.column to_tile.row to_tile.border, all_of there.tiles below_all there.here))

    has_spare : 1 ≤ lands.other.table.spare
    has_spare = omega (arith, few, there.enough)

  pub can_cross : CanCross now.rooms crosser
  can_cross = record {
    was = under.creeps.0.0;
    creep = under.creeps.0.1;
    left = under.creeps.0.2;
    stood = under.creeps.0.3;
    ids = under.ids;
    spare = λ at lands other is. let both : Some lands.other ≡ Some other = sym lands.entered ∙ is in let same : lands.other ≡ other = cc in subst (λ (r : Room). 1 ≤ r.table.spare) same (has_spare at lands);
  }

  -- ---- the next

  later_ids : AllByRecursion (λ (other : Crosser). crosser.id < other.id) rest
  unfolding IsAscending
  later_ids = under.ascending.0

  later_ascend : IsAscending rest
  unfolding IsAscending
  later_ascend = under.ascending.1

  its_turn_is_over : (rooms : List Room) (k n : ℕ) → Arrived rooms k (crosser ∷ rest) n → Arrived rooms k rest n
  its_turn_is_over rooms k n one = record {
    id = one.id;
    object = one.object;
    stands = one.stands;
    creep = one.creep;
    column = one.column;
    row = one.row;
    border = one.border;
    number = one.number;
    done = one.done.1;
  }

  pub stays_next : ((at : Landing) → Lands now.rooms crosser at → ⊥) → Underway entry now list rest
  stays_next nowhere =
      let stays = it_stays now crosser under.creeps.0.0 under.creeps.0.1 under.creeps.0.2 under.creeps.0.3 under.ids under.tiles under.rise nowhere in
      record {
        whole = ap (crossed_over (map (λ crosser. crosser.id) rest)) (sym stays) ∙ under.whole;
        frames = under.frames;
        chain = under.chain;
        ids = under.ids;
        tiles = under.tiles;
        rise = under.rise;
        creeps = under.creeps.1;
        ascending = later_ascend;
        arrivals = λ k room is. let before = under.arrivals k room is in record {
          tiles = before.tiles;
          distinct = before.distinct;
          here = all_of before.tiles (its_turn_is_over now.rooms k) before.here;
          enough = before.enough;
        };
      }

  module _ (at : Landing) (lands : Lands now.rooms crosser at) where
    abbrev after : Stored
    after = record now { rooms = rooms_gone now.rooms crosser at lands }

    frame_as : (one two : Option Room) (room other : Room) → one ≡ Some room → two ≡ Some other → KeepsFrame room other → KeepsFrameAt one two
    frame_as one two room other is isnt kept = subst (λ (found : Option Room). KeepsFrameAt found two) (sym is) (subst (KeepsFrameAt (Some room)) (sym isnt) kept)

    frame_then : (k : ℕ) → KeepsFrameAt (slice_get now.rooms k) (slice_get after.rooms k)
    frame_then k = elim (which k crosser.room at.room) [
      | at_from is ↦ frame_as (slice_get now.rooms k) (slice_get after.rooms k) lands.was (was_then now.rooms crosser at lands) (ap (slice_get now.rooms) is ∙ lands.left) (ap (slice_get after.rooms) is ∙ room_here now.rooms crosser at lands)
          (record { name = refl; terrain = refl; index = refl; next = refl; spare = omega arith; sums = λ none. ap (λ (tallies : Tallies). remove tallies crosser.id) none ∙ none_removed crosser.id })
      | at_to is ↦ frame_as (slice_get now.rooms k) (slice_get after.rooms k) lands.other (other_then now.rooms crosser at lands) (ap (slice_get now.rooms) is ∙ lands.entered) (ap (slice_get after.rooms) is ∙ room_there now.rooms crosser at lands) (record { name = refl; terrain = refl; index = refl; next = refl; spare = omega arith; sums = λ none. none })
      | at_other one other ↦ subst (KeepsFrameAt (slice_get now.rooms k)) (sym (room_elsewhere now.rooms crosser at lands k one other)) (frame_kept (slice_get now.rooms k))
    ]

    same_creep : under.creeps.0.1 ≡ lands.creep
    same_creep =
        let rooms : Some under.creeps.0.0 ≡ Some lands.was = sym under.creeps.0.2 ∙ lands.left in
        let room : under.creeps.0.0 ≡ lands.was = cc in
        let both : Some under.creeps.0.1 ≡ Some lands.creep = sym under.creeps.0.3 ∙ ap (λ (r : Room). find_object crosser.id r.table.objects) room ∙ lands.stood in
        cc

    is_a_creep : is_creep lands.creep.kind ≡ true
    is_a_creep = ap (λ (o : Object). is_creep o.kind) (sym same_creep) ∙ under.creeps.0.4

    no_wall : IsWall lands.other.terrain at.x at.y → ⊥
    no_wall wall = let both : false ≡ true = sym (ap is_open_ground wall) ∙ lands.passable in cc

    crossing : HasCrossed now after
    crossing =
        let id = id_of_creep now.rooms crosser at lands in
        let to = mirrors_tile lands.was.name lands.creep.x lands.creep.y lands.name at.x at.y lands.mirrors in
        record {
          from = crosser.room;
          to = at.room;
          was = lands.was;
          other = lands.other;
          creep = lands.creep;
          x = at.x;
          y = at.y;
          apart = λ same. rooms_apart now.rooms crosser at lands (sym same);
          left = lands.left;
          entered = lands.entered;
          stood = ap (λ (n : ℕ). find_object n lands.was.table.objects) id ∙ lands.stood;
          kind = is_a_creep;
          column = to.column;
          row = to.row;
          border = to.border;
          passable = no_wall;
          free = lands.free;
          crossed = ap (λ (n : ℕ). record now { rooms = slice_set (slice_set now.rooms crosser.room (left_by n lands.was)) at.room (entered_by (arrived now.rooms crosser at lands) lands.other) }) (sym id);
        }

    -- who has a turn yet stands where it stood
    stands_yet : (other : Crosser) → crosser.id < other.id → IsCreepOf now.rooms other → IsCreepOf after.rooms other
    stands_yet other less creep =
        let there : object_at now.rooms other.room other.id ≡ Some creep.1 = ap (option_and_then (λ (room : Room). find_object other.id room.table.objects)) creep.2 ∙ creep.3 in
        let then_there = others_stay now.rooms crosser at lands other.room other.id (λ same. omega (arith, less, same)) ∙ there in
        let held = room_of after other.room other.id creep.1 (slice_get after.rooms other.room) refl then_there in
        (held.0, creep.1, held.1, held.2, creep.4)

    all_yet : (others : List Crosser) → AllByRecursion (λ (other : Crosser). crosser.id < other.id) others → AllByRecursion (IsCreepOf now.rooms) others → AllByRecursion (IsCreepOf after.rooms) others
    all_yet [] less creeps = tt
    all_yet (other ∷ others) less creeps = (stands_yet other less.0 creeps.0, all_yet others less.1 creeps.1)

    -- who arrived stands there yet
    arrived_yet : (k n : ℕ) → Arrived now.rooms k (crosser ∷ rest) n → Arrived after.rooms k rest n
    arrived_yet k n one = record {
      id = one.id;
      object = one.object;
      stands = others_stay now.rooms crosser at lands k one.id (λ same. omega (arith, one.done.0, same)) ∙ one.stands;
      creep = one.creep;
      column = one.column;
      row = one.row;
      border = one.border;
      number = one.number;
      done = one.done.1;
    }

    it_arrived : Arrived after.rooms at.room rest (border_number at.x at.y)
    it_arrived =
        let to = mirrors_tile lands.was.name lands.creep.x lands.creep.y lands.name at.x at.y lands.mirrors in
        record {
          id = crosser.id;
          object = arrived now.rooms crosser at lands;
          stands = it_arrives now.rooms crosser at lands;
          creep = is_a_creep;
          column = to.column;
          row = to.row;
          border = to.border;
          number = refl;
          done = later_ids;
        }

    as_many : (k : ℕ) (room other : Room) → slice_get now.rooms k ≡ Some room → room.table.spare ≡ other.table.spare → Arrivals after.rooms k rest other.table.spare
    as_many k room other is same =
        let before = under.arrivals k room is in
        record {
          tiles = before.tiles;
          distinct = before.distinct;
          here = all_of before.tiles (arrived_yet k) before.here;
          enough = subst (λ (n : ℕ). 196 ≤ n + length before.tiles) same before.enough;
        }

    one_more : Arrivals after.rooms at.room rest (lands.other.table.spare - 1)
    one_more =
        let before = there at lands in
        record {
          tiles = border_number at.x at.y ∷ before.tiles;
          distinct = distinct_more at lands;
          here = (it_arrived, all_of before.tiles (arrived_yet at.room) before.here);
          enough = omega (arith, before.enough, has_spare at lands);
        }

    arrivals_then : (k : ℕ) (room : Room) → slice_get after.rooms k ≡ Some room → Arrivals after.rooms k rest room.table.spare
    arrivals_then k room is = elim (which k crosser.room at.room) [
      | at_from here ↦ (
          let both : Some (was_then now.rooms crosser at lands) ≡ Some room = sym (room_here now.rooms crosser at lands) ∙ ap (slice_get after.rooms) (sym here) ∙ is in
          let same : was_then now.rooms crosser at lands ≡ room = cc in
          as_many k lands.was room (ap (slice_get now.rooms) here ∙ lands.left) (ap (λ (r : Room). r.table.spare) same)
          )
      | at_to to ↦ (
          let both : Some (other_then now.rooms crosser at lands) ≡ Some room = sym (room_there now.rooms crosser at lands) ∙ ap (slice_get after.rooms) (sym to) ∙ is in
          let same : other_then now.rooms crosser at lands ≡ room = cc in
          subst (λ (r : Room). Arrivals after.rooms k rest r.table.spare) same (subst (λ (n : ℕ). Arrivals after.rooms n rest (lands.other.table.spare - 1)) (sym to) one_more)
          )
      | at_other one other ↦ as_many k room room (sym (room_elsewhere now.rooms crosser at lands k one other) ∙ is) refl
    ]

    pub goes_next : Underway entry after list rest
    goes_next = record {
      whole = ap (crossed_over (map (λ crosser. crosser.id) rest)) (sym (it_goes now crosser at lands under.ids)) ∙ under.whole;
      frames = record {
        tick = under.frames.tick;
        accounts = under.frames.accounts;
        rooms = λ k. frames_through (slice_get entry.rooms k) (slice_get now.rooms k) (slice_get after.rooms k) (under.frames.rooms k) (frame_then k);
      };
      chain = further under.chain crossing;
      ids = ids_then now.rooms crosser at lands under.ids;
      tiles = tiles_then now.rooms crosser at lands under.tiles;
      rise = rising_then now.rooms crosser at lands under.rise;
      creeps = all_yet rest later_ids under.creeps.1;
      ascending = later_ascend;
      arrivals = arrivals_then;
    }

  pub next : (last : Stored) → GoesOrStays now crosser last → Underway entry last list rest
  next last (inl goes) = subst (λ (w : Stored). Underway entry w list rest) (sym goes.2) (goes_next goes.0 goes.1)
  next last (inr stays) = subst (λ (w : Stored). Underway entry w list rest) (sym stays.1) (stays_next stays.0)

-- ---- the crossers that are left

pub left_one : (list : List Crosser) (n : ℕ) (default : Crosser) → n < length list → drop n list ≡ get_or list n default ∷ drop (n + 1) list
left_one [] n default less = absurd (omega (arith, less))
left_one (one ∷ list) zero default less = refl
left_one (one ∷ list) (suc n) default less = left_one list n default (omega (arith, less)) ∙ ap (λ m. get_or list n default ∷ drop m (one ∷ list)) (after_next n)
  where
    after_next : (n : ℕ) → suc (n + 1) ≡ suc n + 1
    after_next n = omega arith

pub left_none : (list : List Crosser) (n : ℕ) → length list ≤ n → drop n list ≡ []
left_none [] zero past = refl
left_none [] (suc n) past = refl
left_none (one ∷ list) zero past = absurd (omega (arith, past))
left_none (one ∷ list) (suc n) past = left_none list n (omega (arith, past))

pub ends : (entry now : Stored) (list rest : List Crosser) → rest ≡ [] → Underway entry now list rest → world_of now ≡ crossed_over (map (λ crosser. crosser.id) list) (world_of entry)
ends entry now list rest none under = ap (λ (left : List Crosser). crossed_over (map (λ crosser. crosser.id) left) (world_of now)) (sym none) ∙ under.whole
