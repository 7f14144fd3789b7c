-- The rooms of a sound stored world keep their rules.
use Rattle.std.proofs.Common.{◌≡◌, ◌≢◌, ℕ, zero, suc, ◌/◌, ◌%◌, ◌^◌, ◌<◌, ◌≤◌, ◌==◌, ◌&&◌, ◌||◌, nat_lt, Bool, true, false, cond, List, [], ◌∷◌, Option, Some, option_map, option_and_then, is_some, slice_get, refl, sym, ap, subst, ◌∙◌, inl, inr, arith}
use Rattle.std.specs.List.{AllByRecursion}
use Rattle.std.specs.Ordering.{nat_cmp}
use Rattle.std.specs.Cmp.{nat_cmp_total, unsigned_tied}
use Rattle.std.specs.FinMap.{find, get, get-from_entries}
use Rattle.std.proofs.lemmas.Bool.{both_ways, eqb-true, ltb-true, ltb-false}
use Rattle.std.proofs.Math.Bool.{and_comm}
use Rattle.game_tables.specs.declared.kind.Kind.{Kind}
use Rattle.game_tables.specs.declared.kind.Kind.TheVariants.{Creep}
use Rattle.room_table.specs.declared.object.Object.{Object}
use Rattle.object_store.specs.declared.world.Room.{Room}
use Rattle.room_table.specs.Tables.{IsOnTile}
use Rattle.object_store.specs.Stored.{Stored}
use Rattle.world_rules.specs.declared.rule.Rule.TheVariants as rules
use Rattle.game_tables.specs.Kinds.{clash, is_creep, is_pile, stands_fixed, is_controller, may_have_owner, obstructs}
use Rattle.world_rules.specs.World.{Placed, Frame, listed_room, listing_of, placed, world_of}
use Rattle.world_rules.specs.Rules.{Stands, IsRoom, IsPlayer, HasNoBirth, HasWrongOwner, IsInRangeAs}
use Rattle.world_rules.specs.Sound.{IsSound, IsSoundRoom}
use Rattle.world_rules.proofs.Keys.{keyed}
use Rattle.world_rules.proofs.Lifting.{found_in_table, stands_placed, frame_stored}
use Rattle.world_rules.proofs.Same.{once}
use Rattle.room_rules.specs.Within.{between, IsInRangeIn}
use Rattle.room_rules.specs.RoomRules.{Holds, HasRightOwner, KeepsRoomRules, is_player}
use Rattle.room_rules.specs.Followed.{part_stored}

-- ---- what is found in a table

pub found_id : (objects : List Object) (id : ℕ) (object : Object) → find nat_cmp id (keyed (λ o. o.id) objects) ≡ Some object → object.id ≡ id
found_id [] id object found = absurd (cc)
found_id (first ∷ objects) id object found =
    elim (id == first.id) as (λ b. (id == first.id) ≡ b → cond b (Some first) (find nat_cmp id (keyed (λ o. o.id) objects)) ≡ Some object → object.id ≡ id) [
      | true ↦ λ at got. let same : first ≡ object = cc in sym (eqb-true id first.id at ∙ ap (λ (o : Object). o.id) same)
      | false ↦ λ at got. found_id objects id object got
    ] refl (sym (ap (λ (b : Bool). cond b (Some first) (find nat_cmp id (keyed (λ o. o.id) objects))) (unsigned_tied id first.id)) ∙ found)

pub found_all : (P : Object → Type 0) (objects : List Object) (id : ℕ) (object : Object) → AllByRecursion P objects → find nat_cmp id (keyed (λ o. o.id) objects) ≡ Some object → P object
found_all P [] id object all found = absurd (cc)
found_all P (first ∷ objects) id object all found =
    elim (id == first.id) as (λ b. cond b (Some first) (find nat_cmp id (keyed (λ o. o.id) objects)) ≡ Some object → P object) [
      | true ↦ λ got. (let same : first ≡ object = cc in subst P same all.0)
      | false ↦ λ got. found_all P objects id object all.1 got
    ] (sym (ap (λ (b : Bool). cond b (Some first) (find nat_cmp id (keyed (λ o. o.id) objects))) (unsigned_tied id first.id)) ∙ found)

pub get_part : (room : Room) (id : ℕ) → get (part_stored room).objects id ≡ found_in_table id room
get_part room id = get-from_entries nat_cmp_total (keyed (λ (object : Object). object.id) room.table.objects) id

room_all : (P : Room → Type 0) (rooms : List Room) (k : ℕ) (room : Room) → AllByRecursion P rooms → slice_get rooms k ≡ Some room → P room
room_all P [] k room all is = absurd (cc)
room_all P (first ∷ rooms) zero room all is = let same : first ≡ room = cc in subst P same all.0
room_all P (first ∷ rooms) (suc k) room all is = room_all P rooms k room all.1 is

-- ---- kinds that clash, either way

last_turned : (a b c d e : Bool) → (a || b || c || d || e) ≡ (a || b || c || e || d)
last_turned true b c d e = refl
last_turned false true c d e = refl
last_turned false false true d e = refl
last_turned false false false true true = refl
last_turned false false false true false = refl
last_turned false false false false true = refl
last_turned false false false false false = refl

pub clash_turned : (one other : Kind) → clash one other ≡ clash other one
clash_turned one other =
    (λ i. and_comm (is_creep one) (is_creep other) i || and_comm (is_pile one) (is_pile other) i || and_comm (stands_fixed one) (stands_fixed other) i || and_comm (is_creep one) (obstructs other) i || and_comm (obstructs one) (is_creep other) i)
    ∙ last_turned (is_creep other && is_creep one) (is_pile other && is_pile one) (stands_fixed other && stands_fixed one) (obstructs other && is_creep one) (is_creep other && obstructs one)

between_ticks : (k : Kind) (object : Object) → IsInRangeAs k object → IsInRangeIn k between object
between_ticks Creep object r = r
between_ticks k object r = r

pub in_ranges : (k : Kind) (object : Object) → IsInRangeIn k between object → IsInRangeAs k object
in_ranges Creep object r = r
in_ranges k object r = r

-- one of two numbers is less
in_some_order : {P : Type 0} (one other : ℕ) → one ≢ other → (one < other → P) → (other < one → P) → P
in_some_order {P} one other apart less more =
    elim (nat_lt one other) as (λ b. nat_lt one other ≡ b → P) [
      | true ↦ λ is. less (ltb-true one other is)
      | false ↦ λ is. more (let most = ltb-false one other is in omega (arith, most, not_same))
    ] refl
  where
    not_same : one ≡ other → ⊥
    not_same = apart

-- ---- the rooms of a sound world

module _ (w : Stored) (s : IsSound w) (k : ℕ) (room : Room) (at : slice_get w.rooms k ≡ Some room) where
  place : room.table.index ≡ k
  place = s.places k room at

  -- what stands in the room stands in the world
  pub stands : (id : ℕ) (o : Object) → Holds (part_stored room) id o → Stands (world_of w) id (record { room = k; object = o })
  stands id o h =
      get-from_entries nat_cmp_total (placed (listing_of w)) id
      ∙ stands_placed w.rooms k id o (once w s) (ap (option_and_then (found_in_table id)) at ∙ sym (get_part room id) ∙ h)

  framed : IsRoom (world_of w) k (listed_room room).frame
  framed = frame_stored w k ∙ ap (option_map (λ (r : Room). (listed_room r).frame)) at

  sound_room : IsSoundRoom room
  sound_room = room_all IsSoundRoom w.rooms k room s.rooms at

  only_frame : (frame : Frame) (j : ℕ) → j ≡ k → IsRoom (world_of w) j frame → frame ≡ (listed_room room).frame
  only_frame frame j same there = one (get (world_of w).rooms k) (subst (λ (n : ℕ). IsRoom (world_of w) n frame) same there) framed
    where
      one : (found : Option Frame) → found ≡ Some frame → found ≡ Some (listed_room room).frame → frame ≡ (listed_room room).frame
      one found is that = cc

  -- an id of this room, wherever its object stands, has a serial that was given
  pub born_of : (id : ℕ) (p : Placed) → Stands (world_of w) id p → id / 2 ^ 32 ≡ room.table.index → (1 ≤ id % 2 ^ 32) × (id % 2 ^ 32 < room.table.next)
  born_of id p there birth =
      elim (id % 2 ^ 32 == 0) as (λ b. (id % 2 ^ 32 == 0) ≡ b → (1 ≤ id % 2 ^ 32) × (id % 2 ^ 32 < room.table.next)) [
        | true ↦ λ is. absurd (broken (inr (eqb-true (id % 2 ^ 32) 0 is)))
        | false ↦ λ is. elim (nat_lt (id % 2 ^ 32) room.table.next) as (λ b. nat_lt (id % 2 ^ 32) room.table.next ≡ b → (1 ≤ id % 2 ^ 32) × (id % 2 ^ 32 < room.table.next)) [
          | true ↦ λ less. (some (id % 2 ^ 32) is, ltb-true (id % 2 ^ 32) room.table.next less)
          | false ↦ λ less.
              let most : room.table.next ≤ id % 2 ^ 32 = ltb-false (id % 2 ^ 32) room.table.next less in
              absurd (broken (inl (λ frame there. (let same = only_frame frame (id / 2 ^ 32) (birth ∙ place) there in subst (λ (f : Frame). f.next ≤ id % 2 ^ 32) (sym same) most))))
        ] refl
      ] refl
    where
      broken : HasNoBirth (world_of w) id → ⊥
      broken none = s.rules rules.Serial id (λ e. cc) (λ e. cc) (p, there, none)

      some : (n : ℕ) → (n == 0) ≡ false → 1 ≤ n
      some n is = grind arith

  owner_is : (b : Bool) → ((b ≡ false) → ⊥) → b ≡ true
  owner_is true apart = refl
  owner_is false apart = absurd (apart refl)

  no_account : (player : ℕ) → is_player (world_of w) player ≡ false → IsPlayer (world_of w) player → ⊥
  no_account player none listed = both_ways (is_some (get (world_of w).accounts player)) none (ap is_some listed.1)

  right_owner : (id : ℕ) (o : Object) → Holds (part_stored room) id o → HasRightOwner (is_player (world_of w)) o
  right_owner id o h = record {
    owner = λ some. (
      owner_is (is_player (world_of w) o.owner) (λ none. wrong (inl (some, inl (no_account o.owner none)))),
      owner_is (may_have_owner o.kind) (λ none. wrong (inl (some, inr none))),
    );
    other = λ some. (
      owner_is (is_player (world_of w) o.other) (λ none. wrong (inr (some, inl (no_account o.other none)))),
      owner_is (is_controller o.kind) (λ none. wrong (inr (some, inr none))),
    );
  }
    where
      wrong : HasWrongOwner (world_of w) o → ⊥
      wrong h' = s.rules rules.Owner id (λ e. cc) (λ e. cc) (record { room = k; object = o }, stands id o h, h')

  shares : (lesser id : ℕ) (first second : Object) → lesser < id → Holds (part_stored room) lesser first → Holds (part_stored room) id second → first.x ≡ second.x → first.y ≡ second.y → clash first.kind second.kind ≡ true → ⊥
  shares lesser id first second less h g x y c =
      s.rules rules.Shared id (λ e. cc) (λ e. cc) (
        lesser,
        record { room = k; object = first },
        record { room = k; object = second },
        less,
        stands lesser first h,
        stands id second g,
        record { room = refl; column = x; row = y; clash = c },
      )

  controls : (lesser id : ℕ) (first second : Object) → lesser < id → Holds (part_stored room) lesser first → Holds (part_stored room) id second → is_controller first.kind ≡ true → is_controller second.kind ≡ true → ⊥
  controls lesser id first second less h g a b =
      s.rules rules.Controllers k (λ e. cc) (λ e. cc) (
        lesser,
        id,
        record { room = k; object = first },
        record { room = k; object = second },
        less,
        stands lesser first h,
        stands id second g,
        refl,
        refl,
        a,
        b,
      )

  -- a room of a sound world keeps its rules
  pub sound_keeps : KeepsRoomRules (is_player (world_of w)) between (part_stored room)
  sound_keeps = record {
    begun = sound_room.begun;
    ids = λ id o h. found_id room.table.objects id o (sym (get_part room id) ∙ h);
    born = λ id o h. born_of id (record { room = k; object = o }) (stands id o h);
    inside = λ id o h. found_all IsOnTile room.table.objects id o sound_room.tiles (sym (get_part room id) ∙ h);
    tiles = λ id o h wrong. s.rules rules.Tile id (λ e. cc) (λ e. cc) (record { room = k; object = o }, (listed_room room).frame, stands id o h, framed, wrong);
    shared = λ one other first second apart h g x y c. in_some_order one other apart
        (λ less. shares one other first second less h g x y c)
        (λ more. shares other one second first more g h (sym x) (sym y) (clash_turned second.kind first.kind ∙ c));
    owners = right_owner;
    controllers = λ one other first second apart h g a b. in_some_order one other apart
        (λ less. controls one other first second less h g a b)
        (λ more. controls other one second first more g h b a);
    ranges = λ id o h out. s.rules rules.Range id (λ e. cc) (λ e. cc) (record { room = k; object = o }, stands id o h, λ r. out (between_ticks o.kind o r));
  }
