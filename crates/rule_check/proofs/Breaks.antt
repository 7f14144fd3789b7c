-- Each rule of the world, in terms of the rooms and accounts.
use Rattle.std.proofs.Common.{◌≡◌, ℕ, ◌+◌, ◌/◌, ◌%◌, ◌^◌, ◌<◌, ◌≤◌, ◌==◌, ◌&&◌, List, [], ◌∷◌, map, Option, Some, None, refl, sym, ap, subst, ◌∙◌, arith, inl, inr}
use Rattle.std.specs.Prelude.{slice_get}
use Rattle.std.specs.List.{count_by, AllByRecursion}
use Rattle.std.proofs.lemmas.List.{length-map}
use Rattle.std.proofs.lemmas.Option.{same_Some}
use Rattle.game_tables.specs.Limits.{most_sites}
use Rattle.room_table.specs.declared.object.Object.{Object}
use Rattle.object_store.specs.declared.account.Account.{Account}
use Rattle.world_rules.specs.declared.rule.Rule.TheVariants as rules
use Rattle.game_tables.specs.Kinds.{is_controller, is_site}
use Rattle.world_rules.specs.World.{Placed, Frame, placed, placed_from, world_listed}
use Rattle.world_rules.specs.Rules.{Broken, IsWithinCounts, HasOpenCorner, HasNoBirth, IsOnWrongTile, HasWrongOwner, IsInRangeAs}
use Rattle.rule_check.specs.declared.view.RoomView.{RoomView}
use Rattle.rule_check.specs.Views.{viewed_room, IsOrdered}
use Rattle.rule_check.specs.inner.Checks.{IsLeast, RoomAt, AnyOf, AnyObject, AreWithinCounts, HasNameBefore, IsUnborn, HasWrongHolder, ids_in, owners_in}
use Rattle.rule_check.specs.Kept.{IsBlocked}
use Rattle.rule_check.proofs.Minima.{least_like, all_at}
use Rattle.rule_check.proofs.Twice.{count_two, count_cons, two_of, TwoOf}
use Rattle.rule_check.proofs.Found.{times}
use Rattle.rule_check.proofs.Placing.{the_world, frame_at, room_at, player_listed, listed_player, InRoom, stands_in, EachOnce, one_stands, some_stands, count_placed, count_owners_in, length_placed, times_ids, ids_rise, places_rise}

-- ---- counts and rooms

within_counts : (rooms : List RoomView) (accounts : List Account) → AreWithinCounts rooms accounts → IsWithinCounts (the_world rooms accounts)
within_counts rooms accounts is = record {
  some = rw (length-map rooms viewed_room) is.0;
  rooms = rw (length-map rooms viewed_room) is.1;
  objects = rw (length_placed rooms 0) is.3;
  players = is.2;
}

counts_within : (rooms : List RoomView) (accounts : List Account) → IsWithinCounts (the_world rooms accounts) → AreWithinCounts rooms accounts
counts_within rooms accounts is = (rw (length-map rooms viewed_room) at is.some, rw (length-map rooms viewed_room) at is.rooms, is.players, rw (length_placed rooms 0) at is.objects)

pub least_counts_kept : (rooms : List RoomView) (accounts : List Account) → AreWithinCounts rooms accounts → IsLeast (λ n. Broken rules.Counts n (the_world rooms accounts)) None
least_counts_kept rooms accounts is n broken = broken.1 (within_counts rooms accounts is)

pub least_counts_broken : (rooms : List RoomView) (accounts : List Account) → (AreWithinCounts rooms accounts → ⊥) → IsLeast (λ n. Broken rules.Counts n (the_world rooms accounts)) (Some 0)
least_counts_broken rooms accounts not_within = ((refl, λ is. not_within (counts_within rooms accounts is)), λ m less broken. omega arith)

pub least_name : (rooms : List RoomView) (accounts : List Account) (found : Option ℕ) → IsLeast (RoomAt (λ index room. HasNameBefore rooms index room.name) rooms) found → IsLeast (λ n. Broken rules.RoomTwice n (the_world rooms accounts)) found
least_name rooms accounts found =
    least_like (RoomAt (λ index room. HasNameBefore rooms index room.name) rooms) (λ n. Broken rules.RoomTwice n (the_world rooms accounts)) found
    (λ n at. (
      at.is.earlier,
      (viewed_room at.is.room).frame,
      (viewed_room at.room).frame,
      at.is.before,
      frame_at rooms accounts at.is.earlier at.is.room at.is.place,
      frame_at rooms accounts n at.room at.place,
      at.is.named,
    ))
    (λ n broken.
    let first = room_at rooms accounts broken.0 broken.1 broken.4 in
    let second = room_at rooms accounts n broken.2 broken.5 in
    record {
      room = second.0;
      place = second.1;
      is = record { earlier = broken.0; room = first.0; before = broken.3; place = first.1; named = ap (λ (f : Frame). f.name) first.2 ∙ broken.6 ∙ ap (λ (f : Frame). f.name) (sym second.2) };
    })

pub least_corner : (rooms : List RoomView) (accounts : List Account) (found : Option ℕ) → IsLeast (RoomAt (λ index room. HasOpenCorner room.terrain.now) rooms) found → IsLeast (λ n. Broken rules.Corner n (the_world rooms accounts)) found
least_corner rooms accounts found =
    least_like (RoomAt (λ index room. HasOpenCorner room.terrain.now) rooms) (λ n. Broken rules.Corner n (the_world rooms accounts)) found
    (λ n at. ((viewed_room at.room).frame, frame_at rooms accounts n at.room at.place, at.is))
    (λ n broken.
    let room = room_at rooms accounts n broken.0 broken.1 in
    record { room = room.0; place = room.1; is = subst (λ (f : Frame). HasOpenCorner f.grounds) (sym room.2) broken.2 })

-- ---- ids

unborn : (rooms : List RoomView) (accounts : List Account) (id : ℕ) → IsUnborn rooms id → HasNoBirth (world_listed (the_world rooms accounts)) id
unborn rooms accounts id is =
    elim is [
      | inl late ↦ inl (λ frame at. let room = room_at rooms accounts (id / 2 ^ 32) frame at in subst (λ (f : Frame). f.next ≤ id % 2 ^ 32) room.2 (late room.0 room.1))
      | inr zero_serial ↦ inr zero_serial
    ]

no_birth : (rooms : List RoomView) (accounts : List Account) (id : ℕ) → HasNoBirth (world_listed (the_world rooms accounts)) id → IsUnborn rooms id
no_birth rooms accounts id is =
    elim is [
      | inl late ↦ inl (λ room at. late (viewed_room room).frame (frame_at rooms accounts (id / 2 ^ 32) room at))
      | inr zero_serial ↦ inr zero_serial
    ]

-- the object of a room, for the search of the least
any_in : (so : RoomView → Object → Type 0) (rooms : List RoomView) (n : ℕ) (p : Placed) (in_room : InRoom rooms 0 n p) → so in_room.room p.object → AnyOf (λ room. AnyObject (so room) room.objects.now) rooms n
any_in so rooms n p at is = record { index = at.index; one = at.room; place = at.in_rooms; is = record { index = at.place; object = p.object; place = at.in_room; id = at.id; is = is } }

pub serial_breaks : (rooms : List RoomView) (accounts : List Account) → (n : ℕ) → AnyOf (λ room. AnyObject (λ object. IsUnborn rooms object.id) room.objects.now) rooms n → Broken rules.Serial n (the_world rooms accounts)
serial_breaks rooms accounts n any =
    let stands = some_stands rooms accounts any.index any.one any.is.index any.is.object n any.place any.is.place any.is.id in
    (stands.0, stands.1, unborn rooms accounts n (subst (IsUnborn rooms) any.is.id any.is.is))

pub serial_broken : (rooms : List RoomView) (accounts : List Account) → (n : ℕ) → Broken rules.Serial n (the_world rooms accounts) → AnyOf (λ room. AnyObject (λ object. IsUnborn rooms object.id) room.objects.now) rooms n
serial_broken rooms accounts n broken =
    let at = stands_in rooms accounts n broken.0 broken.1 in
    any_in (λ room object. IsUnborn rooms object.id) rooms n broken.0 at (subst (IsUnborn rooms) (sym at.id) (no_birth rooms accounts n broken.2))

pub least_serial : (rooms : List RoomView) (accounts : List Account) (found : Option ℕ) → IsLeast (AnyOf (λ room. AnyObject (λ object. IsUnborn rooms object.id) room.objects.now) rooms) found → IsLeast (λ n. Broken rules.Serial n (the_world rooms accounts)) found
least_serial rooms accounts found = least_like (AnyOf (λ room. AnyObject (λ object. IsUnborn rooms object.id) room.objects.now) rooms) (λ n. Broken rules.Serial n (the_world rooms accounts)) found (serial_breaks rooms accounts) (serial_broken rooms accounts)

pub ids_breaks : (rooms : List RoomView) (accounts : List Account) → (n : ℕ) → 2 ≤ count_by (λ m. m == n) (ids_in rooms) → Broken rules.IdTwice n (the_world rooms accounts)
ids_breaks rooms accounts n many =
    subst (λ (k : ℕ). 2 ≤ k) (times_ids rooms n) many

pub ids_broken : (rooms : List RoomView) (accounts : List Account) → (n : ℕ) → Broken rules.IdTwice n (the_world rooms accounts) → 2 ≤ count_by (λ m. m == n) (ids_in rooms)
ids_broken rooms accounts n many =
    subst (λ (k : ℕ). 2 ≤ k) (sym (times_ids rooms n)) many

pub least_id : (rooms : List RoomView) (accounts : List Account) (found : Option ℕ) → IsLeast (λ n. 2 ≤ count_by (λ m. m == n) (ids_in rooms)) found → IsLeast (λ n. Broken rules.IdTwice n (the_world rooms accounts)) found
least_id rooms accounts found = least_like (λ n. 2 ≤ count_by (λ m. m == n) (ids_in rooms)) (λ n. Broken rules.IdTwice n (the_world rooms accounts)) found (ids_breaks rooms accounts) (ids_broken rooms accounts)

-- after that rule no id is there twice
pub each_once : (rooms : List RoomView) (accounts : List Account) → ((n : ℕ) → Broken rules.IdTwice n (the_world rooms accounts) → ⊥) → EachOnce rooms accounts
each_once rooms accounts kept n =
    let not_twice : 2 ≤ times n (placed (the_world rooms accounts)) → ⊥ = kept n in
    omega arith

-- ---- single objects

placed_in : (rooms : List RoomView) (n : ℕ) (p : Placed) (at : InRoom rooms 0 n p) → slice_get rooms p.room ≡ Some at.room
placed_in rooms n p at = let same : p.room ≡ at.index = (let named : p.room ≡ 0 + at.index = at.named in omega arith) in ap (slice_get rooms) same ∙ at.in_rooms

pub tile_breaks : (rooms : List RoomView) (accounts : List Account) → EachOnce rooms accounts → (n : ℕ) → AnyOf (λ room. AnyObject (λ object. IsOnWrongTile room.terrain.now object) room.objects.now) rooms n → Broken rules.Tile n (the_world rooms accounts)
tile_breaks rooms accounts once n any = (
  record { room = any.index; object = any.is.object },
  (viewed_room any.one).frame,
  one_stands rooms accounts once any.index any.one any.is.index any.is.object n any.place any.is.place any.is.id,
  frame_at rooms accounts any.index any.one any.place,
  any.is.is,
)

pub tile_broken : (rooms : List RoomView) (accounts : List Account) → EachOnce rooms accounts → (n : ℕ) → Broken rules.Tile n (the_world rooms accounts) → AnyOf (λ room. AnyObject (λ object. IsOnWrongTile room.terrain.now object) room.objects.now) rooms n
tile_broken rooms accounts once n broken =
    let at = stands_in rooms accounts n broken.0 broken.2 in
    let room = room_at rooms accounts broken.0.room broken.1 broken.3 in
    let one : room.0 ≡ at.room = same_Some room.0 at.room (sym room.1 ∙ placed_in rooms n broken.0 at) in
    let grounds : broken.1.grounds ≡ at.room.terrain.now = ap (λ (f : Frame). f.grounds) (sym room.2) ∙ ap (λ (r : RoomView). r.terrain.now) one in
    any_in (λ r object. IsOnWrongTile r.terrain.now object) rooms n broken.0 at (subst (λ g. IsOnWrongTile g broken.0.object) grounds broken.4)

pub least_tile : (rooms : List RoomView) (accounts : List Account) (found : Option ℕ) → EachOnce rooms accounts → IsLeast (AnyOf (λ room. AnyObject (λ object. IsOnWrongTile room.terrain.now object) room.objects.now) rooms) found
    → IsLeast (λ n. Broken rules.Tile n (the_world rooms accounts)) found
least_tile rooms accounts found once = least_like (AnyOf (λ room. AnyObject (λ object. IsOnWrongTile room.terrain.now object) room.objects.now) rooms) (λ n. Broken rules.Tile n (the_world rooms accounts)) found (tile_breaks rooms accounts once) (tile_broken rooms accounts once)

wrong_owner : (rooms : List RoomView) (accounts : List Account) (object : Object) → HasWrongHolder accounts object → HasWrongOwner (world_listed (the_world rooms accounts)) object
wrong_owner rooms accounts object is =
    elim is [
      | inl owner ↦ inl (owner.0, elim owner.1 [ inl unlisted ↦ inl (λ player. unlisted (player_listed rooms accounts object.owner player)) | inr kind ↦ inr kind ])
      | inr other ↦ inr (other.0, elim other.1 [ inl unlisted ↦ inl (λ player. unlisted (player_listed rooms accounts object.other player)) | inr kind ↦ inr kind ])
    ]

owner_wrong : (rooms : List RoomView) (accounts : List Account) (object : Object) → HasWrongOwner (world_listed (the_world rooms accounts)) object → HasWrongHolder accounts object
owner_wrong rooms accounts object is =
    elim is [
      | inl owner ↦ inl (owner.0, elim owner.1 [ inl nobody ↦ inl (λ listed. nobody (listed_player rooms accounts object.owner listed)) | inr kind ↦ inr kind ])
      | inr other ↦ inr (other.0, elim other.1 [ inl nobody ↦ inl (λ listed. nobody (listed_player rooms accounts object.other listed)) | inr kind ↦ inr kind ])
    ]

pub owner_breaks : (rooms : List RoomView) (accounts : List Account) → EachOnce rooms accounts → (n : ℕ) → AnyOf (λ room. AnyObject (λ object. HasWrongHolder accounts object) room.objects.now) rooms n → Broken rules.Owner n (the_world rooms accounts)
owner_breaks rooms accounts once n any = (
  record { room = any.index; object = any.is.object },
  one_stands rooms accounts once any.index any.one any.is.index any.is.object n any.place any.is.place any.is.id,
  wrong_owner rooms accounts any.is.object any.is.is,
)

pub owner_broken : (rooms : List RoomView) (accounts : List Account) → EachOnce rooms accounts → (n : ℕ) → Broken rules.Owner n (the_world rooms accounts) → AnyOf (λ room. AnyObject (λ object. HasWrongHolder accounts object) room.objects.now) rooms n
owner_broken rooms accounts once n broken =
    any_in (λ room object. HasWrongHolder accounts object) rooms n broken.0 (stands_in rooms accounts n broken.0 broken.1) (owner_wrong rooms accounts broken.0.object broken.2)

pub least_owner : (rooms : List RoomView) (accounts : List Account) (found : Option ℕ) → EachOnce rooms accounts → IsLeast (AnyOf (λ room. AnyObject (λ object. HasWrongHolder accounts object) room.objects.now) rooms) found
    → IsLeast (λ n. Broken rules.Owner n (the_world rooms accounts)) found
least_owner rooms accounts found once = least_like (AnyOf (λ room. AnyObject (λ object. HasWrongHolder accounts object) room.objects.now) rooms) (λ n. Broken rules.Owner n (the_world rooms accounts)) found (owner_breaks rooms accounts once) (owner_broken rooms accounts once)

pub range_breaks : (rooms : List RoomView) (accounts : List Account) → EachOnce rooms accounts → (n : ℕ) → AnyOf (λ room. AnyObject (λ object. IsInRangeAs object.kind object → ⊥) room.objects.now) rooms n → Broken rules.Range n (the_world rooms accounts)
range_breaks rooms accounts once n any = (
  record { room = any.index; object = any.is.object },
  one_stands rooms accounts once any.index any.one any.is.index any.is.object n any.place any.is.place any.is.id,
  any.is.is,
)

pub range_broken : (rooms : List RoomView) (accounts : List Account) → EachOnce rooms accounts → (n : ℕ) → Broken rules.Range n (the_world rooms accounts) → AnyOf (λ room. AnyObject (λ object. IsInRangeAs object.kind object → ⊥) room.objects.now) rooms n
range_broken rooms accounts once n broken =
    any_in (λ room object. IsInRangeAs object.kind object → ⊥) rooms n broken.0 (stands_in rooms accounts n broken.0 broken.1) broken.2

pub least_range : (rooms : List RoomView) (accounts : List Account) (found : Option ℕ) → EachOnce rooms accounts → IsLeast (AnyOf (λ room. AnyObject (λ object. IsInRangeAs object.kind object → ⊥) room.objects.now) rooms) found
    → IsLeast (λ n. Broken rules.Range n (the_world rooms accounts)) found
least_range rooms accounts found once = least_like (AnyOf (λ room. AnyObject (λ object. IsInRangeAs object.kind object → ⊥) room.objects.now) rooms) (λ n. Broken rules.Range n (the_world rooms accounts)) found (range_breaks rooms accounts once) (range_broken rooms accounts once)

-- ---- two objects of a room

ordered_at : (rooms : List RoomView) (i : ℕ) (room : RoomView) → AllByRecursion IsOrdered rooms → slice_get rooms i ≡ Some room → IsOrdered room
ordered_at rooms i room all is = all_at IsOrdered rooms i room all is

-- two of the world that stand in one room stand at two places of it
both_in : (rooms : List RoomView) (accounts : List Account) (n m : ℕ) (p q : Placed) (at : InRoom rooms 0 n p) (other : InRoom rooms 0 m q) → p.room ≡ q.room → other.room ≡ at.room
both_in rooms accounts n m p q at other same = same_Some other.room at.room (sym (placed_in rooms m q other) ∙ ap (slice_get rooms) (sym same) ∙ placed_in rooms n p at)

pub shared_breaks : (rooms : List RoomView) (accounts : List Account) → EachOnce rooms accounts → (n : ℕ) (any : AnyOf (λ room. IsBlocked room.objects.now) rooms n) → IsOrdered any.one → Broken rules.Shared n (the_world rooms accounts)
shared_breaks rooms accounts once n any ordered =
    let rises : any.is.one.id < any.is.other.id = ids_rise rooms accounts once any.index any.one any.place ordered any.is.earlier any.is.later any.is.one any.is.other any.is.before any.is.place any.is.there in (
      any.is.one.id,
      record { room = any.index; object = any.is.one },
      record { room = any.index; object = any.is.other },
      subst (λ (k : ℕ). any.is.one.id < k) any.is.id rises,
      one_stands rooms accounts once any.index any.one any.is.earlier any.is.one any.is.one.id any.place any.is.place refl,
      one_stands rooms accounts once any.index any.one any.is.later any.is.other n any.place any.is.there any.is.id,
      record { room = refl; column = any.is.column; row = any.is.row; clash = any.is.clashes },
    )

pub shared_broken : (rooms : List RoomView) (accounts : List Account) → AllByRecursion IsOrdered rooms → EachOnce rooms accounts → (n : ℕ) → Broken rules.Shared n (the_world rooms accounts) → AnyOf (λ room. IsBlocked room.objects.now) rooms n
shared_broken rooms accounts ordered once n broken =
    let at = stands_in rooms accounts broken.0 broken.1 broken.4 in
    let other = stands_in rooms accounts n broken.2 broken.5 in
    let same : other.room ≡ at.room = both_in rooms accounts broken.0 n broken.1 broken.2 at other broken.6.room in
    let there : slice_get at.room.objects.now other.place ≡ Some broken.2.object = ap (λ (r : RoomView). slice_get r.objects.now other.place) (sym same) ∙ other.in_room in
    let less : broken.1.object.id < broken.2.object.id = (let low : broken.0 < n = broken.3 in let one : broken.1.object.id ≡ broken.0 = at.id in let two : broken.2.object.id ≡ n = other.id in omega arith) in
    record {
      index = at.index;
      one = at.room;
      place = at.in_rooms;
      is = record {
        earlier = at.place;
        later = other.place;
        one = broken.1.object;
        other = broken.2.object;
        before = places_rise at.room (ordered_at rooms at.index at.room ordered at.in_rooms) at.place other.place broken.1.object broken.2.object less at.in_room there;
        place = at.in_room;
        there = there;
        id = other.id;
        column = broken.6.column;
        row = broken.6.row;
        clashes = broken.6.clash;
      };
    }

pub least_shared_tile : (rooms : List RoomView) (accounts : List Account) (found : Option ℕ) → AllByRecursion IsOrdered rooms → EachOnce rooms accounts → IsLeast (AnyOf (λ room. IsBlocked room.objects.now) rooms) found
    → IsLeast (λ n. Broken rules.Shared n (the_world rooms accounts)) found
least_shared_tile rooms accounts found ordered once = least_like (AnyOf (λ room. IsBlocked room.objects.now) rooms) (λ n. Broken rules.Shared n (the_world rooms accounts)) found (λ n any. shared_breaks rooms accounts once n any (ordered_at rooms any.index any.one ordered any.place)) (shared_broken rooms accounts ordered once)

pub controllers_breaks : (rooms : List RoomView) (accounts : List Account) → EachOnce rooms accounts → (n : ℕ) (at : RoomAt (λ index room. 2 ≤ count_by (λ object. is_controller object.kind) room.objects.now) rooms n) → IsOrdered at.room → Broken rules.Controllers n (the_world rooms accounts)
controllers_breaks rooms accounts once n at ordered =
    let two : TwoOf (λ object. is_controller object.kind) at.room.objects.now = two_of (λ object. is_controller object.kind) at.room.objects.now at.is in (
      two.one.id,
      two.other.id,
      record { room = n; object = two.one },
      record { room = n; object = two.other },
      ids_rise rooms accounts once n at.room at.place ordered two.first two.second two.one two.other two.less two.place two.later,
      one_stands rooms accounts once n at.room two.first two.one two.one.id at.place two.place refl,
      one_stands rooms accounts once n at.room two.second two.other two.other.id at.place two.later refl,
      refl,
      refl,
      two.is,
      two.too,
    )

pub controllers_broken : (rooms : List RoomView) (accounts : List Account) → AllByRecursion IsOrdered rooms → EachOnce rooms accounts → (n : ℕ) → Broken rules.Controllers n (the_world rooms accounts) → RoomAt (λ index room. 2 ≤ count_by (λ object. is_controller object.kind) room.objects.now) rooms n
controllers_broken rooms accounts ordered once n broken =
    let at = stands_in rooms accounts broken.0 broken.2 broken.5 in
    let other = stands_in rooms accounts broken.1 broken.3 broken.6 in
    let same : other.room ≡ at.room = both_in rooms accounts broken.0 broken.1 broken.2 broken.3 at other (broken.7 ∙ sym broken.8) in
    let there : slice_get at.room.objects.now other.place ≡ Some broken.3.object = ap (λ (r : RoomView). slice_get r.objects.now other.place) (sym same) ∙ other.in_room in
    let less : broken.2.object.id < broken.3.object.id = (let low : broken.0 < broken.1 = broken.4 in let one : broken.2.object.id ≡ broken.0 = at.id in let two : broken.3.object.id ≡ broken.1 = other.id in omega arith) in
    let before : at.place < other.place = places_rise at.room (ordered_at rooms at.index at.room ordered at.in_rooms) at.place other.place broken.2.object broken.3.object less at.in_room there in
    record {
      room = at.room;
      place = ap (slice_get rooms) (sym broken.7) ∙ placed_in rooms broken.0 broken.2 at;
      is = count_two (λ object. is_controller object.kind) at.room.objects.now at.place other.place broken.2.object broken.3.object before at.in_room there broken.9 broken.10;
    }

pub least_controllers : (rooms : List RoomView) (accounts : List Account) (found : Option ℕ) → AllByRecursion IsOrdered rooms → EachOnce rooms accounts
    → IsLeast (RoomAt (λ index room. 2 ≤ count_by (λ object. is_controller object.kind) room.objects.now) rooms) found → IsLeast (λ n. Broken rules.Controllers n (the_world rooms accounts)) found
least_controllers rooms accounts found ordered once = least_like (RoomAt (λ index room. 2 ≤ count_by (λ object. is_controller object.kind) room.objects.now) rooms) (λ n. Broken rules.Controllers n (the_world rooms accounts)) found (λ n at. controllers_breaks rooms accounts once n at (ordered_at rooms n at.room ordered at.place)) (controllers_broken rooms accounts ordered once)

-- ---- players

count_players : (n : ℕ) (accounts : List Account) → count_by (λ m. m == n) (map (λ account. account.player) accounts) ≡ count_by (λ account. account.player == n) accounts
count_players n [] = refl
count_players n (account ∷ accounts) =
    let rest : count_by (λ m. m == n) (map (λ (a : Account). a.player) accounts) ≡ count_by (λ (a : Account). a.player == n) accounts = count_players n accounts in
    omega (arith, count_cons (λ (m : ℕ). m == n) account.player (map (λ (a : Account). a.player) accounts), count_cons (λ (a : Account). a.player == n) account accounts)

pub least_player : (rooms : List RoomView) (accounts : List Account) (found : Option ℕ) → IsLeast (λ n. 2 ≤ count_by (λ m. m == n) (map (λ account. account.player) accounts)) found → IsLeast (λ n. Broken rules.PlayerTwice n (the_world rooms accounts)) found
least_player rooms accounts found =
    least_like (λ n. 2 ≤ count_by (λ m. m == n) (map (λ account. account.player) accounts)) (λ n. Broken rules.PlayerTwice n (the_world rooms accounts)) found
    (λ n many. subst (λ (k : ℕ). 2 ≤ k) (count_players n accounts) many)
    (λ n many. subst (λ (k : ℕ). 2 ≤ k) (sym (count_players n accounts)) many)

-- the sites of a player among all entries
all_sites : (rooms : List RoomView) (n : ℕ) → count_by (λ entry. is_site entry.1.object.kind && (entry.1.object.owner == n)) (placed_from 0 (map viewed_room rooms)) ≡ count_by (λ owner. owner == n) (owners_in rooms)
all_sites rooms n = count_placed (λ entry. is_site entry.1.object.kind && (entry.1.object.owner == n)) (λ object. is_site object.kind && (object.owner == n)) (λ base object. refl) rooms 0 ∙ sym (count_owners_in n rooms)

pub sites_breaks : (rooms : List RoomView) (accounts : List Account) → (n : ℕ) → AnyOf (λ account n. (account.player ≡ n) × (most_sites < count_by (λ owner. owner == n) (owners_in rooms))) accounts n → Broken rules.Sites n (the_world rooms accounts)
sites_breaks rooms accounts n any =
    (listed_player rooms accounts n (record { index = any.index; account = any.one; place = any.place; is = any.is.0 }), subst (λ (k : ℕ). most_sites < k) (sym (all_sites rooms n)) any.is.1)

pub sites_broken : (rooms : List RoomView) (accounts : List Account) → (n : ℕ) → Broken rules.Sites n (the_world rooms accounts) → AnyOf (λ account n. (account.player ≡ n) × (most_sites < count_by (λ owner. owner == n) (owners_in rooms))) accounts n
sites_broken rooms accounts n broken =
    let listed = player_listed rooms accounts n broken.0 in record { index = listed.index; one = listed.account; place = listed.place; is = (listed.is, subst (λ (k : ℕ). most_sites < k) (all_sites rooms n) broken.1) }

pub least_sites : (rooms : List RoomView) (accounts : List Account) (found : Option ℕ) → IsLeast (AnyOf (λ account n. (account.player ≡ n) × (most_sites < count_by (λ owner. owner == n) (owners_in rooms))) accounts) found
    → IsLeast (λ n. Broken rules.Sites n (the_world rooms accounts)) found
least_sites rooms accounts found = least_like (AnyOf (λ account n. (account.player ≡ n) × (most_sites < count_by (λ owner. owner == n) (owners_in rooms))) accounts) (λ n. Broken rules.Sites n (the_world rooms accounts)) found (sites_breaks rooms accounts) (sites_broken rooms accounts)
