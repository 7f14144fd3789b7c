use Rattle.std.proofs.Common.{◌≡◌, ◌<◌, ◌≤◌, ◌+◌, ◌*◌, ◌^◌, ℕ, List, length, get_or, sym, ap, subst, ◌∙◌, arith}
use Rattle.std.specs.List.Sorted.{IsPartitionPoint}
use Rattle.std.proofs.lemmas.List.{length-map, get_or-map, get_or_read}
use Rattle.std.proofs.lemmas.List.Elements.{All-from_recursion}
use Rattle.room_terrain.specs.declared.name.RoomName.{RoomName}
use Rattle.object_store.specs.declared.world.Room.{Room}
use Rattle.object_store.specs.inner.Naming.{name_number, no_name, room_names, sort_number}
use Rattle.object_store.specs.Stored.{Stored, IsRoomNamed}
use Rattle.object_store.proofs.Named.{named_at, is_named, same_name, none_past, least_of_name, none_of_name}
use Rattle.object_store.proofs.world.World.find_room.Goals as goal

-- the place that the search gave is one of the order that is kept
abbrev At : List RoomName → ℕ → List ℕ → ℕ → Type 0
At names number order place = IsPartitionPoint (λ room. sort_number names room < number * 2 ^ 32 + 0) (λ room. number * 2 ^ 32 + 0 ≤ sort_number names room) order place

at_place : {rooms seen_rooms : List Room} {order seen_order : List ℕ} (number place : ℕ) → seen_rooms ≡ rooms → seen_order ≡ order → At (room_names seen_rooms) number seen_order place → At (room_names rooms) number order place
at_place {seen_rooms = seen_rooms} {order = order} number place same_rooms same_order point =
    subst (λ rs. At (room_names rs) number order place) same_rooms (subst (λ os. At (room_names seen_rooms) number os place) same_order point)

pub returns-then-place-len-clause-none : goal.returns-then-place-len-clause-none
returns-then-place-len-clause-none c k named =
    let rooms = c.self.inside.rooms.items in
    let order = c.self.inside.by_name.items in
    let place = c.name_place-place.result in
    let number = c.name_number-number.result in
    let is = c.name_number-number.ensures.is in
    let count = length-map rooms (λ (r : Room). r.name) in
    let point = at_place number place c.deref.ensures.value c.deref-2.ensures.value c.name_place-place.ensures.between in
    let past : length order ≤ place = omega (arith, c.if-place-len.true, c.len.ensures, c.self.inside.by_name.ok.0) in
    let at = named_at c.args.name rooms k (subst (λ (rs : List Room). IsRoomNamed c.args.name rs k) (sym (ap (λ (w : Stored). w.rooms) c.self.view_is)) named) in
    none_past (room_names rooms) order place number (omega (arith, c.self.invariant.0, count)) c.self.invariant.1 point past k at.0 (ap name_number at.1 ∙ sym is)

pub returns-then-found-number-clause-some : goal.returns-then-found-number-clause-some
returns-then-found-number-clause-some c =
    let rooms = c.self.inside.rooms.items in
    let names = room_names rooms in
    let order = c.self.inside.by_name.items in
    let place = c.name_place-place.result in
    let number = c.name_number-number.result in
    let is = c.name_number-number.ensures.is in
    let sorted = c.self.invariant.1 in
    let same = ap (λ (w : Stored). w.rooms) c.self.view_is in
    let count = length-map rooms (λ (r : Room). r.name) in
    let small : length names < 2 ^ 32 = omega (arith, c.self.invariant.0, count) in
    let point = at_place number place c.deref.ensures.value c.deref-2.ensures.value c.name_place-place.ensures.between in
    let within : place < length order = omega (arith, c.if-place-len.false, c.len.ensures, c.self.inside.by_name.ok.0) in
    let index : c.index-index.result.now ≡ get_or order place 0 = get_or_read order place c.index-index.result.now within c.index-index.ensures 0 in
    let known : c.index-index.result.now < length rooms = omega (arith, All-from_recursion (λ k. k < length names) order sorted.known place 0 within, index, count) in
    let read : c.index.result.now.name ≡ get_or names c.index-index.result.now no_name = ap (λ (r : Room). r.name) c.index.ensures ∙ sym (get_or-map (λ (r : Room). r.name) rooms c.index-index.result.now c.index.result.now no_name known) in
    let found = same_name c.index.result.now.name c.args.name c.name_number-found.result number c.name_number-found.ensures c.name_number-number.ensures c.if-found-number.true in
    let its : name_number (get_or names (get_or order place 0) no_name) ≡ number = ap (λ n. name_number (get_or names n no_name)) (sym index) ∙ ap name_number (sym read ∙ found) ∙ sym is in
    subst (λ (rs : List Room). IsRoomNamed c.args.name rs c.index-index.result.now × ((k : ℕ) → k < c.index-index.result.now → IsRoomNamed c.args.name rs k → ⊥)) same (
      is_named c.args.name rooms c.index-index.result.now known (sym read ∙ found),
      λ k lt named.
          let at = named_at c.args.name rooms k named in
          let least = least_of_name names order place number small sorted point within its k at.0 (ap name_number at.1 ∙ sym is) in
          omega (arith, least, index, lt),
    )

pub returns-clause-none : goal.returns-clause-none
returns-clause-none c k named =
    let rooms = c.self.inside.rooms.items in
    let names = room_names rooms in
    let order = c.self.inside.by_name.items in
    let place = c.name_place-place.result in
    let number = c.name_number-number.result in
    let is = c.name_number-number.ensures.is in
    let sorted = c.self.invariant.1 in
    let count = length-map rooms (λ (r : Room). r.name) in
    let small : length names < 2 ^ 32 = omega (arith, c.self.invariant.0, count) in
    let point = at_place number place c.deref.ensures.value c.deref-2.ensures.value c.name_place-place.ensures.between in
    let within : place < length order = omega (arith, c.if-place-len.false, c.len.ensures, c.self.inside.by_name.ok.0) in
    let index : c.index-index.result.now ≡ get_or order place 0 = get_or_read order place c.index-index.result.now within c.index-index.ensures 0 in
    let known : c.index-index.result.now < length rooms = omega (arith, All-from_recursion (λ k. k < length names) order sorted.known place 0 within, index, count) in
    let read : c.index.result.now.name ≡ get_or names c.index-index.result.now no_name = ap (λ (r : Room). r.name) c.index.ensures ∙ sym (get_or-map (λ (r : Room). r.name) rooms c.index-index.result.now c.index.result.now no_name known) in
    let at = named_at c.args.name rooms k (subst (λ (rs : List Room). IsRoomNamed c.args.name rs k) (sym (ap (λ (w : Stored). w.rooms) c.self.view_is)) named) in
    none_of_name names order place number small sorted point within (λ its. c.if-found-number.false (c.name_number-found.ensures.is ∙ ap name_number read ∙ ap (λ n. name_number (get_or names n no_name)) index ∙ its)) k at.0 (ap name_number at.1 ∙ sym is)
