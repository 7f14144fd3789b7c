-- A generated world as the test of the rules looks at it.
use Rattle.std.proofs.Common.{◌≡◌, ℕ, zero, suc, ◌+◌, ◌*◌, ◌<◌, List, ◌∷◌, map, refl, ap, sym, subst, ◌∙◌, arith}
use Rattle.std.specs.List.{AllByRecursion, range_with_len}
use Rattle.room_table.specs.declared.object.Object.{Object}
use Rattle.object_store.specs.declared.world.Room.{Room}
use Rattle.world_rules.specs.World.{listed_room}
use Rattle.rule_check.specs.declared.view.RoomView.{RoomView}
use Rattle.rule_check.specs.Views.{viewed_room}
use Rattle.rule_check.specs.inner.Checks.{AnyObject, AnyOf, RoomAt}
use Rattle.rule_check.proofs.Minima.{all_at}
use Rattle.world_gen.specs.Generator.{made_room, rooms_from, state_after}
use Rattle.made_worlds.proofs.Places.{at_place}

abbrev pub view_of : Room → RoomView
view_of room = record {
  name = room.name;
  terrain = record { ref_ptr = (0, 0); now = room.terrain };
  next = room.table.next;
  objects = record { ref_ptr = (0, 0); now = room.table.objects };
}

-- the room of an index
abbrev pub room_of : ℕ → ℕ → ℕ → Room
room_of seed players index = made_room players index (state_after seed (2306 * index))

abbrev pub view_at : ℕ → ℕ → ℕ → RoomView
view_at seed players index = view_of (room_of seed players index)

-- the first rooms
abbrev pub views : ℕ → ℕ → ℕ → List RoomView
views seed players count = map (view_at seed players) (range_with_len 0 count)

same_rooms : (seed players a n : ℕ)
    → map viewed_room (map (view_at seed players) (range_with_len a n))
    ≡ map listed_room (map (room_of seed players) (range_with_len a n))
same_rooms seed players a zero = refl
same_rooms seed players a (suc n) =
    ap (λ rest. listed_room (room_of seed players a) ∷ rest) (same_rooms seed players (a + 1) n)

pub views_are : (seed players count : ℕ)
    → map viewed_room (views seed players count) ≡ map listed_room (rooms_from seed players count)
unfolding rooms_from
views_are seed players count = same_rooms seed players 0 count

-- ---- what no room and no object is

pub no_room : (so : ℕ → RoomView → Type 0) (seed players count n : ℕ)
    → ((index : ℕ) → index < count → so index (view_at seed players index) → ⊥)
    → RoomAt so (views seed players count) n → ⊥
no_room so seed players count n never at =
    let here = at_place (view_at seed players) 0 count n at.room at.place in
    let same : 0 + n ≡ n = omega arith in
    let room : view_at seed players n ≡ at.room = ap (view_at seed players) (sym same) ∙ here.1 in
    never n here.0 (subst (so n) (sym room) at.is)

pub no_object : (so : RoomView → Object → Type 0) (seed players count n : ℕ)
    → ((index : ℕ) → index < count
    → AllByRecursion (λ o. so (view_at seed players index) o → ⊥) (room_of seed players index).table.objects)
    → AnyOf (λ room. AnyObject (so room) room.objects.now) (views seed players count) n → ⊥
no_object so seed players count n never any =
    let here = at_place (view_at seed players) 0 count any.index any.one any.place in
    let each : AllByRecursion (λ o. so any.one o → ⊥) any.one.objects.now =
    subst (λ (r : RoomView). AllByRecursion (λ o. so r o → ⊥) r.objects.now) here.1
    (never (0 + any.index) (let less : any.index < count = here.0 in omega arith)) in
    all_at (λ o. so any.one o → ⊥) any.one.objects.now any.is.index any.is.object each any.is.place any.is.is
