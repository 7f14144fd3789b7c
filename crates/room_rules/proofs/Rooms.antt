-- A stored world of the same rooms is sound, where each of them keeps its rules and each id stands once.
use Rattle.std.proofs.Common.{◌≡◌, ◌≢◌, ℕ, suc, ◌<◌, Bool, true, cond, List, [], ◌∷◌, Option, Some, None, option_map, option_and_then, is_some, slice_get, refl, sym, ap, subst, ◌∙◌, inl, inr, arith}
use Rattle.std.specs.List.{AllByRecursion}
use Rattle.std.specs.Ordering.{nat_cmp}
use Rattle.std.specs.Cmp.{nat_cmp_total, unsigned_tied}
use Rattle.std.specs.FinMap.{find, get, get-from_entries}
use Rattle.std.proofs.lemmas.Bool.{both_ways, eq-eqb, ne_eqb}
use Rattle.object_store.specs.declared.account.Account.{Account}
use Rattle.room_table.specs.declared.object.Object.{Object}
use Rattle.object_store.specs.declared.world.Room.{Room}
use Rattle.room_table.specs.Tables.{IsRising, IsOnTile}
use Rattle.object_store.specs.Stored.{Stored}
use Rattle.world_rules.specs.declared.rule.Rule.{Rule}
use Rattle.world_rules.specs.declared.rule.Rule.TheVariants as rules
use Rattle.world_rules.specs.World.{Placed, Frame, listed_room, listing_of, placed, world_of}
use Rattle.game_tables.specs.Kinds.{is_controller, may_have_owner}
use Rattle.world_rules.specs.Rules.{Broken, Stands, IsRoom, IsPlayer, HasNoBirth, HasOpenCorner, HasWrongOwner, IsOnWrongTile}
use Rattle.world_rules.specs.Sound.{IsSound, IsSoundRoom}
use Rattle.world_rules.proofs.Keys.{keyed}
use Rattle.world_rules.proofs.Lifting.{AreIdsOnce, found_in_table, stands_in_room, frame_stored}
use Rattle.room_rules.specs.Within.{between}
use Rattle.room_rules.specs.RoomRules.{Holds, HasRightOwner, KeepsRoomRules, is_player}
use Rattle.room_rules.specs.Followed.{part_stored, KeepsPlayers}
use Rattle.room_rules.proofs.Sound.{found_id, found_all, get_part, in_ranges}

-- ---- lists of rooms and of objects

pub all_at : (P : Room → Type 0) (rooms : List Room) → ((k : ℕ) (room : Room) → slice_get rooms k ≡ Some room → P room) → AllByRecursion P rooms
all_at P [] each = tt
all_at P (room ∷ rooms) each = (each 0 room refl, all_at P rooms (λ k r is. each (suc k) r is))

-- what holds of each object that is found in a table holds of all, where they rise
pub all_found : (P : Object → Type 0) (objects : List Object) → IsRising objects → ((id : ℕ) (o : Object) → find nat_cmp id (keyed (λ object. object.id) objects) ≡ Some o → P o) → AllByRecursion P objects
all_found P [] rise each = tt
all_found P (first ∷ objects) rise each = (
  each first.id first (ap (λ (b : Bool). cond b (Some first) (find nat_cmp first.id (keyed (λ object. object.id) objects))) (unsigned_tied first.id first.id ∙ eq-eqb first.id first.id refl)),
  all_found P objects rise.1 (λ id o found. each id o (
      let less : first.id < o.id = found_all (λ later. first.id < later.id) objects id o rise.0 found in
      let own : o.id ≡ id = found_id objects id o found in
      ap (λ (b : Bool). cond b (Some first) (find nat_cmp id (keyed (λ object. object.id) objects))) (unsigned_tied id first.id ∙ ne_eqb id first.id (λ same. greater first.id o.id less (own ∙ same))) ∙ found
      )),
)
  where
    greater : (m n : ℕ) → m < n → n ≡ m → ⊥
    greater m n less same = omega arith

-- ---- what a stored world has

-- the frame of a stored room
pub frame_at : (w : Stored) (k : ℕ) (room : Room) → slice_get w.rooms k ≡ Some room → IsRoom (world_of w) k (listed_room room).frame
frame_at w k room at = frame_stored w k ∙ ap (option_map (λ (r : Room). (listed_room r).frame)) at

pub same_frame : (one other : Frame) (found : Option Frame) → found ≡ Some one → found ≡ Some other → one ≡ other
same_frame one other found is at = cc

module _ (after : Stored) (once : AreIdsOnce after.rooms) where
  -- The object stands in the table of its room.
  abbrev pub In : ℕ → Placed → Type 0
  In id p = (mate : Room) × (slice_get after.rooms p.room ≡ Some mate) × Holds (part_stored mate) id p.object

  in_as : (id : ℕ) (p : Placed) (found : Option Room) → slice_get after.rooms p.room ≡ found → option_and_then (found_in_table id) found ≡ Some p.object → In id p
  in_as id p None is at = absurd (cc)
  in_as id p (Some mate) is at = (mate, is, get_part mate id ∙ at)

  -- what stands in the world stands in its room
  pub in_room : (id : ℕ) (p : Placed) → Stands (world_of after) id p → In id p
  in_room id p there =
      in_as id p (slice_get after.rooms p.room) refl (stands_in_room after.rooms id p once (sym (get-from_entries nat_cmp_total (placed (listing_of after)) id) ∙ there))

-- ---- two worlds

-- The rooms are those of the first world, and each keeps its rules where its players are those of that one.
pub record AreKept (w after : Stored) : Type 0 where
  pub frames : (k : ℕ) (mate : Room) → slice_get after.rooms k ≡ Some mate
      → (room : Room) × (slice_get w.rooms k ≡ Some room) × (mate.name ≡ room.name) × (mate.terrain ≡ room.terrain) × (mate.table.index ≡ room.table.index)
  pub rising : (k : ℕ) (mate : Room) → slice_get after.rooms k ≡ Some mate → IsRising mate.table.objects
  pub keeps : (k : ℕ) (mate : Room) → slice_get after.rooms k ≡ Some mate → KeepsRoomRules (is_player (world_of w)) between (part_stored mate)
  pub once : AreIdsOnce after.rooms
  pub born : (id : ℕ) (p : Placed) → Stands (world_of after) id p → HasNoBirth (world_of after) id → ⊥

module _ (w after : Stored) (s : IsSound w) (kept : AreKept w after) where
  abbrev players : ℕ → Bool
  players = is_player (world_of w)

  here_in : (id : ℕ) (p : Placed) → Stands (world_of after) id p → In after kept.once id p
  here_in = in_room after kept.once

  same_mate : (one other : Room) (found : Option Room) → found ≡ Some one → found ≡ Some other → one ≡ other
  same_mate one other found is at = cc

  -- two objects of one room
  abbrev Both : ℕ → ℕ → Placed → Placed → Type 0
  Both one other p q = (mate : Room) × (KeepsRoomRules players between (part_stored mate)) × Holds (part_stored mate) one p.object × Holds (part_stored mate) other q.object

  both_in : (one other : ℕ) (p q : Placed) → p.room ≡ q.room → Stands (world_of after) one p → Stands (world_of after) other q → Both one other p q
  both_in one other p q same here there =
      let a = here_in one p here in
      let b = here_in other q there in
      let mate : b.0 ≡ a.0 = same_mate b.0 a.0 (slice_get after.rooms q.room) b.1 (ap (slice_get after.rooms) (sym same) ∙ a.1) in
      (a.0, kept.keeps p.room a.0 a.1, a.2, subst (λ (r : Room). Holds (part_stored r) other q.object) mate b.2)

  apart : (one other : ℕ) → one < other → one ≢ other
  apart one other less same = omega arith

  -- a room of the second world was one of the first, of the same name and terrain
  room_at : (k : ℕ) (frame : Frame) → IsRoom (world_of after) k frame
      → (room : Room) × IsRoom (world_of w) k (listed_room room).frame × ((room.name ≡ frame.name) × (room.terrain ≡ frame.grounds))
  room_at k frame there = room_as (slice_get after.rooms k) refl
    where
      room_as : (found : Option Room) → slice_get after.rooms k ≡ found → (room : Room) × IsRoom (world_of w) k (listed_room room).frame × ((room.name ≡ frame.name) × (room.terrain ≡ frame.grounds))
      room_as None is = absurd (no_frame (get (world_of after).rooms k) (frame_stored after k ∙ ap (option_map (λ (r : Room). (listed_room r).frame)) is) there)
        where
          no_frame : (found : Option Frame) → found ≡ None → found ≡ Some frame → ⊥
          no_frame found none some = cc
      room_as (Some mate) is =
          let was = kept.frames k mate is in
          let same = same_frame (listed_room mate).frame frame (get (world_of after).rooms k) (frame_at after k mate is) there in
          (was.0, frame_at w k was.0 was.1, (sym was.2 ∙ ap (λ (f : Frame). f.name) same, sym was.3 ∙ ap (λ (f : Frame). f.grounds) same))

  rules_kept : KeepsPlayers w after → (rule : Rule) (n : ℕ) → rule ≢ rules.Counts → rule ≢ rules.Sites → Broken rule n (listing_of after) → ⊥
  rules_kept accounts rules.Counts n a b h = a refl
  rules_kept accounts rules.Sites n a b h = b refl
  rules_kept accounts rules.RoomTwice n a b h =
      let one = room_at h.0 h.1 h.4 in
      let other = room_at n h.2 h.5 in
      s.rules rules.RoomTwice n a b (h.0, (listed_room one.0).frame, (listed_room other.0).frame, h.3, one.1, other.1, one.2.0 ∙ h.6 ∙ sym other.2.0)
  rules_kept accounts rules.Corner n a b h =
      let one = room_at n h.0 h.1 in
      s.rules rules.Corner n a b ((listed_room one.0).frame, one.1, subst HasOpenCorner (sym one.2.1) h.2)
  rules_kept accounts rules.Serial n a b h = kept.born n h.0 h.1 h.2
  rules_kept accounts rules.IdTwice n a b h = (let once = kept.once n in omega (arith, once, h))
  rules_kept accounts rules.Tile n a b h =
      let here = here_in n h.0 h.2 in
      let frame = same_frame h.1 (listed_room here.0).frame (get (world_of after).rooms h.0.room) h.3 (frame_at after h.0.room here.0 here.1) in
      (kept.keeps h.0.room here.0 here.1).tiles n h.0.object here.2 (subst (λ (f : Frame). IsOnWrongTile f.grounds h.0.object) frame h.4)
  rules_kept accounts rules.Shared n a b h =
      let both = both_in h.0 n h.1 h.2 h.6.room h.4 h.5 in
      both.1.shared h.0 n h.1.object h.2.object (apart h.0 n h.3) both.2 both.3 h.6.column h.6.row h.6.clash
  rules_kept accounts rules.Owner n a b h =
      let here = here_in n h.0 h.1 in
      let right = (kept.keeps h.0.room here.0 here.1).owners n h.0.object here.2 in
      wrong_owner h.0.object right h.2
    where
      listed : (player : ℕ) → players player ≡ true → (IsPlayer (world_of after) player → ⊥) → ⊥
      listed player is none = has (get (world_of after).accounts player) (accounts.players player is) none
        where
          has : (found : Option Account) → is_some found ≡ true → (((account : Account) × (found ≡ Some account)) → ⊥) → ⊥
          has None is none = cc
          has (Some account) is none = none (account, refl)

      wrong_owner : (o : Object) → HasRightOwner players o → HasWrongOwner (world_of after) o → ⊥
      wrong_owner o right (inl (some, inl none)) = listed o.owner (right.owner some).0 none
      wrong_owner o right (inl (some, inr kind)) = both_ways (may_have_owner o.kind) kind (right.owner some).1
      wrong_owner o right (inr (some, inl none)) = listed o.other (right.other some).0 none
      wrong_owner o right (inr (some, inr kind)) = both_ways (is_controller o.kind) kind (right.other some).1
  rules_kept accounts rules.Controllers n a b h =
      let both = both_in h.0 h.1 h.2 h.3 (h.7 ∙ sym h.8) h.5 h.6 in
      both.1.controllers h.0 h.1 h.2.object h.3.object (apart h.0 h.1 h.4) both.2 both.3 h.9 h.10
  rules_kept accounts rules.Range n a b h =
      let here = here_in n h.0 h.1 in
      (kept.keeps h.0.room here.0 here.1).ranges n h.0.object here.2 (λ r. h.2 (in_ranges h.0.object.kind h.0.object r))
  rules_kept accounts rules.PlayerTwice n a b h = s.rules rules.PlayerTwice n a b (let few = accounts.fewer n in omega (arith, few, h))

  -- The second world is sound too.
  pub kept_sound : KeepsPlayers w after → IsSound after
  kept_sound accounts = record {
    places = λ k mate at. (let was = kept.frames k mate at in was.4 ∙ s.places k was.0 was.1);
    tables = all_at (λ room. IsRising room.table.objects) after.rooms kept.rising;
    rooms = all_at IsSoundRoom after.rooms (λ k mate at. (let now = kept.keeps k mate at in record { begun = now.begun; tiles = all_found IsOnTile mate.table.objects (kept.rising k mate at) (λ id o found. now.inside id o (get_part mate id ∙ found)) }));
    accounts = accounts.rising;
    rules = rules_kept accounts;
  }
