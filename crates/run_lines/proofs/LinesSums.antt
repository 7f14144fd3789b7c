-- What is counted over all placed objects is the sum over the rooms.
use Rattle.std.proofs.Common.{◌≡◌, ℕ, suc, ◌+◌, List, [], ◌∷◌, ◌++◌, map, length, refl, sym, ◌∙◌, ap, arith}
use Rattle.std.specs.List.{sum_by}
use Rattle.std.proofs.lemmas.List.{length-map, length-append, take_all}
use Rattle.std.proofs.lemmas.List.Sums.{sum_by-cons, sum_by-append, sum_by_more}
use Rattle.object_store.specs.declared.world.Room.{Room}
use Rattle.world_rules.specs.World.{Placed, placed_from, listed_room}

-- the number of a room's objects
abbrev pub room_count : Room → ℕ
room_count room = length room.table.objects

-- the energy of a room's objects
abbrev pub room_total : Room → ℕ
room_total room = sum_by (λ object. object.energy) room.table.objects

pub sum_by-map : {A B : Type 0} (f : B → ℕ) (g : A → B) (xs : List A) → sum_by f (map g xs) ≡ sum_by (λ x. f (g x)) xs
sum_by-map f g [] = refl
sum_by-map f g (x ∷ xs) =
    sum_by-cons f (g x) (map g xs) ∙ (ap (λ n. f (g x) + n) (sum_by-map f g xs) ∙ sym (sum_by-cons (λ y. f (g y)) x xs))

pub length-placed : (index : ℕ) (rooms : List Room) → length (placed_from index (map listed_room rooms)) ≡ sum_by room_count rooms
length-placed index [] = refl
length-placed index (room ∷ rooms) =
    length-append (map (λ object. (object.id, record { room = index; object = object })) room.table.objects) (placed_from (suc index) (map listed_room rooms))
    ∙ (rw (length-map {B = ℕ × Placed} room.table.objects (λ object. (object.id, record { room = index; object = object })), length-placed (suc index) rooms, sum_by-cons room_count room rooms))

pub energy-placed : (index : ℕ) (rooms : List Room)
    → sum_by (λ entry. entry.1.object.energy) (placed_from index (map listed_room rooms)) ≡ sum_by room_total rooms
energy-placed index [] = refl
energy-placed index (room ∷ rooms) =
    sum_by-append (λ (entry : ℕ × Placed). entry.1.object.energy) (map (λ object. (object.id, record { room = index; object = object })) room.table.objects) (placed_from (suc index) (map listed_room rooms))
    ∙ (rw (sum_by-map (λ (entry : ℕ × Placed). entry.1.object.energy) (λ object. (object.id, record { room = index; object = object })) room.table.objects, energy-placed (suc index) rooms, sum_by-cons room_total room rooms))

pub ruleset counts = (length-placed, energy-placed, sum_by_more, take_all)
