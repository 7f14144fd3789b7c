use Rattle.std.proofs.Common.{◌≡◌, ◌<◌, ◌≤◌, ◌+◌, ◌*◌, ◌^◌, ◌∷◌, [], ◌++◌, ℕ, List, length, sym, ap, subst, ◌∙◌, arith}
use Rattle.std.specs.List.{insert}
use Rattle.std.specs.List.Sorted.{IsPartitionPoint}
use Rattle.std.specs.Vec.{vec_len, vec_capacity}
use Rattle.std.proofs.lemmas.Bool.{cond-true}
use Rattle.std.proofs.lemmas.List.{length-map, length_push, map_push}
use Rattle.object_store.specs.declared.world.Room.{Room}
use Rattle.object_store.specs.inner.Naming.{name_number, room_names, sort_number, AreByName}
use Rattle.object_store.specs.Stored.{Stored}
use Rattle.object_store.proofs.Named.{by_name_more}
use Rattle.object_store.proofs.world.World.push_room.Goals as goal

pub invariant_of-self-2 : goal.invariant_of-self-2
invariant_of-self-2 c =
    let was = c.self.inside in
    let rooms = was.rooms.items in
    let names = room_names rooms in
    let order = was.by_name.items in
    let place = c.name_place-place.result in
    let name = c.args.name in
    let room : Room = record { name = name; terrain = c.args.terrain; table = c.args.table } in
    let count : length names ≡ length rooms = length-map rooms (λ (r : Room). r.name) in
    let small : length names < 2 ^ 32 = omega (arith, c.self.invariant.0, count) in
    let long : c.len-index.result ≡ length names = omega (arith, c.len-index.ensures, was.rooms.ok.0, count) in
    let within : place ≤ length order = subst (λ (os : List ℕ). place ≤ length os) c.deref-2.ensures.value c.name_place-place.ensures.within in
    let seen = subst (λ (rs : List Room). IsPartitionPoint (λ k. sort_number (room_names rs) k < c.name_number.result * 2 ^ 32 + c.len-index.result) (λ k. c.name_number.result * 2 ^ 32 + c.len-index.result ≤ sort_number (room_names rs) k) c.deref-2.result.now place) c.deref.ensures.value c.name_place-place.ensures.between in
    let same_order = subst (λ (os : List ℕ). IsPartitionPoint (λ k. sort_number names k < c.name_number.result * 2 ^ 32 + c.len-index.result) (λ k. c.name_number.result * 2 ^ 32 + c.len-index.result ≤ sort_number names k) os place) c.deref-2.ensures.value seen in
    let same_number = subst (λ n. IsPartitionPoint (λ k. sort_number names k < n * 2 ^ 32 + c.len-index.result) (λ k. n * 2 ^ 32 + c.len-index.result ≤ sort_number names k) order place) c.name_number.ensures.is same_order in
    let point = subst (λ n. IsPartitionPoint (λ k. sort_number names k < name_number name * 2 ^ 32 + n) (λ k. name_number name * 2 ^ 32 + n ≤ sort_number names k) order place) long same_number in
    let reserved : c.reserve.new.self.items ≡ order = c.reserve.ensures.items in
    let room_for_one : vec_len c.reserve.new.self < vec_capacity c.reserve.new.self = omega (arith, c.in_ok-reserve.ensures.ok) in
    let new_order : c.insert.new.self.items ≡ insert order place (length names) = c.insert.ensures.items ∙ cond-true _ _ _ (c.insert.ensures.succeeds room_for_one) ∙ ap (λ (os : List ℕ). insert os place c.len-index.result) reserved ∙ ap (insert order place) long in
    let new_rooms : c.push.new.self.items ≡ rooms ++ room ∷ [] = c.in_ok-push.ensures.items in
    let new_names : room_names c.push.new.self.items ≡ names ++ name ∷ [] = ap room_names new_rooms ∙ map_push (λ (r : Room). r.name) rooms room in
    let more = ap length (ap (λ (w : Stored). w.rooms) c.self.view_is) in
    let sorted = by_name_more names order place name small c.self.invariant.1 within point in (
      omega (arith, ap length new_rooms, length_push rooms room, more, c.requires.room),
      subst (λ ns. AreByName ns c.insert.new.self.items) (sym new_names) (subst (λ os. AreByName (names ++ name ∷ []) os) (sym new_order) sorted),
      c.self.invariant.2,
      c.self.invariant.3,
    )
