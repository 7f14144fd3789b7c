-- The rooms in the course of the entries: ready for each, what each makes of them, and the sums of what was done.
use Rattle.std.proofs.Common.{◌≡◌, ℕ, suc, ◌+◌, ◌^◌, ◌<◌, ◌≤◌, ◌==◌, Bool, true, false, cond, List, [], ◌∷◌, ◌++◌, map, length, get_or, set, take, drop, Option, Some, None, option_map, slice_get, refl, sym, ap, subst, ◌∙◌, arith, append-nil}
use Rattle.std.specs.Option.{option_to_list, unwrap_or}
use Rattle.std.specs.Ordering.{nat_cmp}
use Rattle.std.specs.FinMap.{get-empty}
use Rattle.std.proofs.lemmas.Bool.{eq-eqb, eqb-true}
use Rattle.std.proofs.Math.Seq.{drop-cons}
use Rattle.std.proofs.lemmas.List.{length-set, length_push, map_push, take_more}
use Rattle.std.proofs.lemmas.Option.{slice_get-map, slice_get_within, get_or_from_slice_get}
use Rattle.room_table.specs.declared.tally.Tally.{Tally}
use Rattle.object_store.specs.declared.world.Room.{Room}
use Rattle.room_table.specs.Tables.{Table}
use Rattle.room_table.specs.Tallies.{no_tallies, no_tally, tally_of}
use Rattle.object_store.specs.Stored.{Stored}
use Rattle.room_table.proofs.Moved.{count_head}
use Rattle.kept_entries.specs.declared.entries.Entry.{Entry}
use Rattle.kept_entries.specs.Turns.{placed}
use Rattle.world_rules.specs.World.{World, ListedRoom, listed_room, world_listed, world_of}
use Rattle.world_rules.specs.RoomParts.{RoomPart, in_room, in_frame, part_at}
use Rattle.world_rules.specs.RuleBook.{Harm}
use Rattle.world_rules.specs.Tick.{book, harms_in}
use Rattle.world_rules.specs.Sound.{IsSound, HaveSerials, serials_bound}
use Rattle.world_rules.proofs.Lifting.{frame_stored}
use Rattle.world_rules.proofs.Same.{same_lists}
use Rattle.room_rules.specs.Calls.{IsReady}
use Rattle.room_rules.specs.Within.{within}
use Rattle.room_rules.specs.RoomRules.{is_player}
use Rattle.room_rules.specs.Followed.{part_stored, FollowsAt, FollowRooms}
use Rattle.ruled_tick.specs.inner.Entered.{entered_in, entered_all, harm_entered, harms_entered, harms_entered_in, many_in, widened, IsRuled, IsRuledIn, HasRoomFor, HasSumsOf, IsActed}
use Rattle.ruled_tick.proofs.Actions.{entered_append, harms_append}
use Rattle.ruled_tick.proofs.Entered.{begins_at, came_from, follow_then, frame_at, is_ready, part_of_stored, ruled_world, unborn_here}
use Rattle.ruled_tick.proofs.Places.{get_set}
use Rattle.ruled_tick.proofs.Summing.{summed_more, summed_none}

-- those who have accounts
abbrev players_of : Stored → ℕ → Bool
players_of stored = is_player (world_of stored)

-- ---- before the first entry

module _ (stored : Stored) (entries : List Entry) (rooms : List Room) (sound : IsSound stored)
    (are : (k : ℕ) → slice_get rooms k ≡ option_map (widened (many_in k entries)) (slice_get stored.rooms k)) where
  wide_follows : (k n : ℕ) (found : Option Room) → slice_get stored.rooms k ≡ found → FollowsAt (players_of stored) within found (option_map (widened n) found)
  wide_follows k n None is = tt
  wide_follows k n (Some room) is =
      let begins = begins_at stored sound k room is in
      record { name = refl; terrain = refl; index = refl; rising = begins.rising; follows = begins.follows; keeps = begins.keeps }

  wide_follow : FollowRooms (players_of stored) within stored (record stored { rooms = rooms })
  wide_follow k = subst (FollowsAt (players_of stored) within (slice_get stored.rooms k)) (sym (are k)) (wide_follows k (many_in k entries) (slice_get stored.rooms k) refl)

  wide_listed : (n : ℕ) (found : Option Room) → option_map listed_room (option_map (widened n) found) ≡ option_map listed_room found
  wide_listed n None = refl
  wide_listed n (Some room) = refl

  same_listed : map listed_room rooms ≡ map listed_room stored.rooms
  same_listed = same_lists (map listed_room rooms) (map listed_room stored.rooms) (λ k.
      slice_get-map listed_room rooms k
      ∙ ap (option_map listed_room) (are k)
      ∙ wide_listed (many_in k entries) (slice_get stored.rooms k)
      ∙ sym (slice_get-map listed_room stored.rooms k))

  wide_ready : HaveSerials stored.rooms → (k : ℕ) (room : Room) (found : Option Room) → slice_get stored.rooms k ≡ found → option_map (widened (many_in k entries)) found ≡ Some room
      → HasRoomFor 0 (many_in k entries) room.table × HasSumsOf [] room.table
  wide_ready serials k room None is at = absurd cc
  wide_ready serials k room (Some old) is at =
      let same : widened (many_in k entries) old ≡ room = cc in
      let inside = slice_get_within stored.rooms k old is in
      let serial : old.table.next ≤ serials_bound = subst (λ (r : Room). r.table.next ≤ serials_bound) (get_or_from_slice_get stored.rooms k old old is) (serials k old inside) in
      subst (λ (r : Room). HasRoomFor 0 (many_in k entries) r.table × HasSumsOf [] r.table) same
      (record { serial = omega arith; spare = omega arith }, summed_none (widened (many_in k entries) old).table (λ id. none_told id))
    where
      none_told : (id : ℕ) → tally_of id no_tallies ≡ no_tally
      none_told id = ap (λ (found : Option Tally). unwrap_or found no_tally) (get-empty {X = Tally} nat_cmp id)

  pub acted_first : HaveSerials stored.rooms → length rooms ≡ length stored.rooms → IsActed stored [] entries rooms
  acted_first serials many = record {
    many = many;
    follow = wide_follow;
    ready = λ k room is. (wide_ready serials k room (slice_get stored.rooms k) refl (sym (are k) ∙ is)).0;
    summed = λ k room is. (wide_ready serials k room (slice_get stored.rooms k) refl (sym (are k) ∙ is)).1;
    same = ap (λ (listed : List ListedRoom). world_listed (record { rules = 1; tick = stored.tick; rooms = listed; accounts = stored.accounts })) same_listed;
  }

-- ---- before each, and after it

module _ (stored : Stored) (sound : IsSound stored) (done : List Entry) (entry : Entry) (some : 1 ≤ entry.intent.player) (later : List Entry) (rooms : List Room) (acted : IsActed stored done (entry ∷ later) rooms) where
  abbrev world : List Room → World
  world list = world_of (record stored { rooms = list })

  abbrev change : RoomPart → RoomPart
  change part = (book.effect entry.intent part).part

  many_head : (k : ℕ) → many_in k (entry ∷ later) ≡ cond (entry.room == k) 1 0 + many_in k later
  many_head k = count_head (λ (e : Entry). e.room == k) entry later

  here : many_in entry.room (entry ∷ later) ≡ 1 + many_in entry.room later
  here = many_head entry.room ∙ ap (λ (b : Bool). cond b 1 0 + many_in entry.room later) (eq-eqb entry.room entry.room refl)

  pub acted_ready : length done < 2 ^ 18 → (room : Room) → slice_get rooms entry.room ≡ Some room → IsReady room.table
  acted_ready few room at =
      let for = acted.ready entry.room room at in
      is_ready stored sound rooms (players_of stored) acted.follow entry.room room at (omega (arith, for.serial)) (omega (arith, for.spare, here))

  fewer : (k : ℕ) → many_in k later ≤ many_in k (entry ∷ later)
  fewer k = omega (arith, many_head k)

  others_ready : (k : ℕ) (room : Room) → HasRoomFor (length done) (many_in k (entry ∷ later)) room.table → HasRoomFor (length (done ++ entry ∷ [])) (many_in k later) room.table
  others_ready k room for = record { serial = omega (arith, for.serial, length_push done entry); spare = omega (arith, for.spare, fewer k) }

  pushed : entered_all (world_of stored) (map placed (done ++ entry ∷ [])) ≡ entered_in entry.intent (entered_all (world_of stored) (map placed done)) (Some entry.room)
  pushed = ap (entered_all (world_of stored)) (map_push placed done entry) ∙ entered_append (world_of stored) (map placed done) (placed entry ∷ [])

  -- what the entry does, in the room as those before left it
  abbrev one_harm : List (ℕ × Harm)
  one_harm = harm_entered entry.intent (world rooms) (Some entry.room)

  pushed_harms : harms_entered (world_of stored) (map placed (done ++ entry ∷ [])) ≡ harms_entered (world_of stored) (map placed done) ++ one_harm
  pushed_harms =
      ap (harms_entered (world_of stored)) (map_push placed done entry)
      ∙ harms_append (world_of stored) (map placed done) (placed entry ∷ [])
      ∙ ap (λ (w : World). harms_entered (world_of stored) (map placed done) ++ (harm_entered entry.intent w (Some entry.room) ++ [])) (sym acted.same)
      ∙ ap (λ (one : List (ℕ × Harm)). harms_entered (world_of stored) (map placed done) ++ one) (append-nil one_harm)

  filtered : (k : ℕ) (one other : List (ℕ × Harm)) → map (λ (h : ℕ × Harm). h.1) (harms_in k (one ++ other)) ≡ map (λ (h : ℕ × Harm). h.1) (harms_in k one) ++ map (λ (h : ℕ × Harm). h.1) (harms_in k other)
  filtered k [] other = refl
  filtered k (h ∷ one) other =
      let rest = filtered k one other in
      elim (h.0 == k) as (λ b. map (λ (h : ℕ × Harm). h.1) (cond b (h ∷ harms_in k (one ++ other)) (harms_in k (one ++ other)))
      ≡ map (λ (h : ℕ × Harm). h.1) (cond b (h ∷ harms_in k one) (harms_in k one)) ++ map (λ (h : ℕ × Harm). h.1) (harms_in k other)) [
        | true ↦ ap (λ (more : List Harm). h.1 ∷ more) rest
        | false ↦ rest
      ]

  abbrev before_in : ℕ → List Harm
  before_in k = harms_entered_in k (world_of stored) (map placed done)

  in_room_then : (k : ℕ) → harms_entered_in k (world_of stored) (map placed (done ++ entry ∷ [])) ≡ before_in k ++ map (λ (h : ℕ × Harm). h.1) (harms_in k one_harm)
  in_room_then k = ap (λ (all : List (ℕ × Harm)). map (λ (h : ℕ × Harm). h.1) (harms_in k all)) pushed_harms ∙ filtered k (harms_entered (world_of stored) (map placed done)) one_harm

  -- of another room nothing is done
  none_elsewhere : (k : ℕ) → (entry.room == k) ≡ false → harms_in k one_harm ≡ []
  none_elsewhere k apart = none_of (part_at (world rooms) entry.room)
    where
      none_of : (found : Option RoomPart) → harms_in k (option_to_list (option_map (λ (part : RoomPart). (entry.room, book.harm entry.intent part)) found)) ≡ []
      none_of None = refl
      none_of (Some part) = ap (λ (b : Bool). cond b ((entry.room, book.harm entry.intent part) ∷ []) []) apart

  summed_elsewhere : (k : ℕ) (room : Room) → (entry.room == k) ≡ false → HasSumsOf (before_in k) room.table → HasSumsOf (harms_entered_in k (world_of stored) (map placed (done ++ entry ∷ []))) room.table
  summed_elsewhere k room apart has =
      let stays : harms_entered_in k (world_of stored) (map placed (done ++ entry ∷ [])) ≡ before_in k = in_room_then k ∙ ap (λ (h : List (ℕ × Harm)). before_in k ++ map (λ (one : ℕ × Harm). one.1) h) (none_elsewhere k apart) ∙ append-nil (before_in k) in
      subst (λ (harms : List Harm). HasSumsOf harms room.table) (sym stays) has

  acted_unchanged : slice_get rooms entry.room ≡ None → IsActed stored (done ++ entry ∷ []) later rooms
  acted_unchanged none = record {
    many = acted.many;
    follow = acted.follow;
    ready = λ k room is. others_ready k room (acted.ready k room is);
    summed = λ k room is. elim (entry.room == k) as (λ b. (entry.room == k) ≡ b → HasSumsOf (harms_entered_in k (world_of stored) (map placed (done ++ entry ∷ []))) room.table) [
      | true ↦ λ same. (let gone : None ≡ Some room = sym none ∙ ap (slice_get rooms) (eqb-true entry.room k same) ∙ is in absurd cc)
      | false ↦ λ apart. summed_elsewhere k room apart (acted.summed k room is)
    ] refl;
    same = sym (ap (in_frame change entry.room (world rooms)) (frame_stored (record stored { rooms = rooms }) entry.room ∙ ap frame_at none))
        ∙ ap (in_room change entry.room) acted.same
        ∙ sym pushed;
  }

  module _ (room : Room) (table : Table) (at : slice_get rooms entry.room ≡ Some room) (ruled : IsRuled room.terrain entry.intent room.table table) where
    abbrev other : Room
    other = record room { table = table }

    ruled_ready : HasRoomFor (length (done ++ entry ∷ [])) (many_in entry.room later) table
    ruled_ready =
        let for = acted.ready entry.room room at in
        record {
          serial = omega (arith, for.serial, ruled.keeps.made, length_push done entry);
          spare = omega (arith, for.spare, here, ruled.keeps.used, ruled.keeps.made);
        }

    -- the part of the room, in the world
    part_here : part_at (world rooms) entry.room ≡ Some (part_stored room)
    part_here = part_of_stored stored sound rooms (players_of stored) acted.follow entry.room room at

    harm_here : map (λ (h : ℕ × Harm). h.1) (harms_in entry.room one_harm) ≡ book.harm entry.intent (part_stored room) ∷ []
    harm_here =
        ap (λ (found : Option RoomPart). map (λ (h : ℕ × Harm). h.1) (harms_in entry.room (option_to_list (option_map (λ (part : RoomPart). (entry.room, book.harm entry.intent part)) found)))) part_here
        ∙ ap (λ (b : Bool). map (λ (h : ℕ × Harm). h.1) (cond b ((entry.room, book.harm entry.intent (part_stored room)) ∷ []) [])) (eq-eqb entry.room entry.room refl)

    summed_here : HasSumsOf (harms_entered_in entry.room (world_of stored) (map placed (done ++ entry ∷ []))) table
    summed_here =
        subst (λ (harms : List Harm). HasSumsOf harms table) (sym (in_room_then entry.room ∙ ap (λ (h : List Harm). before_in entry.room ++ h) harm_here))
        (summed_more (before_in entry.room) entry.intent room.terrain room.table table (came_from stored sound rooms (players_of stored) acted.follow entry.room room at).2.rising ruled
        (unborn_here stored sound rooms (players_of stored) acted.follow entry.room room at) (acted.summed entry.room room at))

    at_then : (k : ℕ) (found : Room) → slice_get (set rooms entry.room other) k ≡ Some found
        → HasRoomFor (length (done ++ entry ∷ [])) (many_in k later) found.table × HasSumsOf (harms_entered_in k (world_of stored) (map placed (done ++ entry ∷ []))) found.table
    at_then k found is =
        let Both : ℕ → Room → Type 0 = λ n r. HasRoomFor (length (done ++ entry ∷ [])) (many_in n later) r.table × HasSumsOf (harms_entered_in n (world_of stored) (map placed (done ++ entry ∷ []))) r.table in
        elim (k == entry.room) as (λ b. (k == entry.room) ≡ b → cond b (Some other) (slice_get rooms k) ≡ Some found → Both k found) [
          | true ↦ λ same there.
              let one : other ≡ found = cc in
              subst (λ (n : ℕ). Both n found) (sym (eqb-true k entry.room same)) (subst (Both entry.room) one (ruled_ready, summed_here))
          | false ↦ λ apart there. (others_ready k found (acted.ready k found there), summed_elsewhere k found (turned k apart) (acted.summed k found there))
        ] refl (sym (get_set rooms entry.room k other (slice_get_within rooms entry.room room at)) ∙ is)
      where
        turned : (k : ℕ) → (k == entry.room) ≡ false → (entry.room == k) ≡ false
        turned k apart = grind arith

    acted_in : IsActed stored (done ++ entry ∷ []) later (set rooms entry.room other)
    acted_in = record {
      many = length-set rooms entry.room other ∙ acted.many;
      follow = follow_then stored sound rooms (players_of stored) acted.follow entry.room room at entry.intent some table ruled;
      ready = λ k found is. (at_then k found is).0;
      summed = λ k found is. (at_then k found is).1;
      same = sym (ruled_world stored sound rooms (players_of stored) acted.follow entry.room room at entry.intent some table ruled) ∙ ap (in_room change entry.room) acted.same ∙ sym pushed;
    }

  acted_found : (found : Option Room) (points : ℕ) (new : List Room) → slice_get rooms entry.room ≡ found → IsRuledIn found entry.room entry.intent points rooms new → IsActed stored (done ++ entry ∷ []) later new
  acted_found None points new at stays = subst (IsActed stored (done ++ entry ∷ []) later) (sym stays.0) (acted_unchanged at)
  acted_found (Some room) points new at d = subst (IsActed stored (done ++ entry ∷ []) later) (sym d.1) (acted_in room d.0 at d.2)

  -- after one entry more
  pub acted_more : (points : ℕ) (new : List Room) → IsRuledIn (slice_get rooms entry.room) entry.room entry.intent points rooms new → IsActed stored (done ++ entry ∷ []) later new
  acted_more points new d = acted_found (slice_get rooms entry.room) points new refl d

-- ---- along the entries

pub acted_next : (stored : Stored) (entries : List Entry) (i : ℕ) (entry : Entry) (rooms : List Room) → i < length entries → entry ≡ get_or entries i entry → IsActed stored (take i entries) (drop i entries) rooms → IsActed stored (take i entries) (entry ∷ drop (i + 1) entries) rooms
acted_next stored entries i entry rooms inside is acted =
    let next : suc i ≡ i + 1 = omega arith in
    subst (λ (later : List Entry). IsActed stored (take i entries) later rooms)
    (drop-cons entries i entry inside ∙ ap (λ (e : Entry). e ∷ drop (suc i) entries) (sym is) ∙ ap (λ (n : ℕ). entry ∷ drop n entries) next) acted

pub acted_then : (stored : Stored) (entries : List Entry) (i : ℕ) (entry : Entry) (rooms : List Room) → i < length entries → entry ≡ get_or entries i entry → IsActed stored (take i entries ++ entry ∷ []) (drop (i + 1) entries) rooms → IsActed stored (take (i + 1) entries) (drop (i + 1) entries) rooms
acted_then stored entries i entry rooms inside is acted =
    subst (λ (done : List Entry). IsActed stored done (drop (i + 1) entries) rooms) (ap (λ (e : Entry). take i entries ++ e ∷ []) is ∙ sym (take_more entries i entry inside)) acted
