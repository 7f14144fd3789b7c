-- The points of all rooms are those of the tick.
use Rattle.std.proofs.Common.{◌≡◌, ℕ, suc, ◌+◌, ◌==◌, if◌then◌else◌, List, [], ◌∷◌, ◌++◌, length, map, Some, slice_get, refl, sym, ap, subst, ◌∙◌, arith}
use Rattle.std.specs.List.{sum_by}
use Rattle.std.proofs.lemmas.List.Sums.{sum_by-cons}
use Rattle.intent_book.specs.declared.intent.Intent.{Intent}
use Rattle.object_store.specs.declared.world.Room.{Room}
use Rattle.object_store.specs.Stored.{Stored}
use Rattle.world_rules.specs.World.{Frame, World, framed_from, listed_room, world_of}
use Rattle.world_rules.specs.RoomTick.{RoomCourse, room_tick}
use Rattle.world_rules.specs.Sound.{IsSound}
use Rattle.world_rules.specs.Intents.{those_in}
use Rattle.world_rules.specs.Tick.{Gain, book, gained, gains_in, inner, points_of, total_for}
use Rattle.world_rules.proofs.Lifting.{frames_stored}
use Rattle.world_rules.proofs.Orderly.{book_orderly}
use Rattle.room_commutes.specs.Schedules.{alone_course}
use Rattle.room_commutes.proofs.Births.{used_stored}
use Rattle.room_commutes.proofs.Points.{gains_alone, points_summed}
use Rattle.room_rules.specs.Followed.{part_stored}
use Rattle.room_step.specs.inner.Rooms.{earned_from}
use Rattle.room_step.proofs.Inside.{at_room, tick_of}

-- with a room more
pub earned_more : (lists : ℕ → List Intent) (index : ℕ) (done : List Room) (room : Room) (player : ℕ)
    → earned_from lists index (done ++ room ∷ []) player ≡ earned_from lists index done player + total_for (room_tick book (lists (index + length done)) (part_stored room)).points player
earned_more lists index [] room player =
    let here : total_for (room_tick book (lists index) (part_stored room)).points player ≡ total_for (room_tick book (lists (index + 0)) (part_stored room)).points player =
    ap (λ (n : ℕ). total_for (room_tick book (lists n) (part_stored room)).points player) (plus_none index) in
    omega (arith, here)
  where
    plus_none : (n : ℕ) → n ≡ n + 0
    plus_none n = omega arith
earned_more lists index (first ∷ done) room player =
    let last = ap (λ (n : ℕ). total_for (room_tick book (lists n) (part_stored room)).points player) (same index (length done)) in
    omega (arith, earned_more lists (suc index) done room player, last)
  where
    same : (n m : ℕ) → suc n + m ≡ n + suc m
    same n m = omega arith

-- points as they are told
told_points : (player : ℕ) (gains : List Gain) → total_for (map (λ (gain : Gain). (gain.player, gain.points)) gains) player ≡ points_of player gains
told_points player [] = refl
told_points player (gain ∷ gains) =
    let tell : Gain → ℕ × ℕ = λ g. (g.player, g.points) in
    let amount : ℕ × ℕ → ℕ = λ g. if g.0 == player then g.1 else 0 in
    let points : Gain → ℕ = λ g. if g.player == player then g.points else 0 in
    omega (arith, sum_by-cons amount (tell gain) (map tell gains), sum_by-cons points gain gains, told_points player gains)

-- the indices of rooms, one after the other
summed_from : (f : ℕ → ℕ) (lists : ℕ → List Intent) (player index : ℕ) (rooms : List Room)
    → ((k : ℕ) (room : Room) → slice_get rooms k ≡ Some room → f (index + k) ≡ total_for (room_tick book (lists (index + k)) (part_stored room)).points player)
    → sum_by f (map (λ (e : ℕ × Frame). e.0) (framed_from index (map listed_room rooms))) ≡ earned_from lists index rooms player
summed_from f lists player index [] each = refl
summed_from f lists player index (room ∷ rooms) each =
    let rest = summed_from f lists player (suc index) rooms (λ k mate at. subst (λ (n : ℕ). f n ≡ total_for (room_tick book (lists n) (part_stored mate)).points player) (same index k) (each (suc k) mate at)) in
    let here : f index ≡ total_for (room_tick book (lists index) (part_stored room)).points player = subst (λ (n : ℕ). f n ≡ total_for (room_tick book (lists n) (part_stored room)).points player) (none index) (each 0 room refl) in
    omega (arith, sum_by-cons f index (map (λ (e : ℕ × Frame). e.0) (framed_from (suc index) (map listed_room rooms))), rest, here)
  where
    same : (n m : ℕ) → n + suc m ≡ suc n + m
    same n m = omega arith

    none : (n : ℕ) → n + 0 ≡ n
    none n = omega arith

-- the points of a room that is alone are those of its tick
pub alone_points : (stored : Stored) → IsSound stored → (list : List Intent) (k : ℕ) (room : Room) (player : ℕ) → slice_get stored.rooms k ≡ Some room
    → points_of player (alone_course book (world_of stored) list k).gains ≡ total_for (room_tick book (those_in (world_of stored) k list) (part_stored room)).points player
alone_points stored sound list k room player at =
    let world : World = world_of stored in
    ap (points_of player) (sym (gains_alone book book_orderly world (used_stored stored sound) list k))
    ∙ sym (told_points player (gains_in k (inner book world list).gains))
    ∙ ap (λ (points : List (ℕ × ℕ)). total_for points player) (at_room stored sound list k room at).gains
    ∙ ap (λ (course : RoomCourse). total_for course.points player) (sym (tick_of stored sound list k room at))

-- The points that a player gains in all rooms are those that he gains in the tick.
pub all_earned : (stored : Stored) → IsSound stored → (list : List Intent) (lists : ℕ → List Intent) → ((k : ℕ) (room : Room) → slice_get stored.rooms k ≡ Some room → lists k ≡ those_in (world_of stored) k list) → (player : ℕ)
    → earned_from lists 0 stored.rooms player ≡ gained book (world_of stored) list player
all_earned stored sound list lists split player =
    let world : World = world_of stored in
    let used = used_stored stored sound in
    let points : ℕ → ℕ = λ k. points_of player (alone_course book world list k).gains in
    let each : (k : ℕ) (room : Room) → slice_get stored.rooms k ≡ Some room → points k ≡ total_for (room_tick book (lists k) (part_stored room)).points player = λ k room at.
    alone_points stored sound list k room player at
    ∙ ap (λ (those : List Intent). total_for (room_tick book those (part_stored room)).points player) (sym (split k room at)) in
    sym (
    sym (points_summed book book_orderly world used list player)
    ∙ ap (λ (es : List (ℕ × Frame)). sum_by points (map (λ (e : ℕ × Frame). e.0) es)) (frames_stored stored)
    ∙ summed_from points lists player 0 stored.rooms (λ k room at. subst (λ (n : ℕ). points n ≡ total_for (room_tick book (lists n) (part_stored room)).points player) (from_none k) (each k room at)))
  where
    from_none : (n : ℕ) → n ≡ 0 + n
    from_none n = omega arith
