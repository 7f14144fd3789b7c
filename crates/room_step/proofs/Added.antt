-- Rooms that are stepped one after the other.
use Rattle.std.proofs.Common.{◌≡◌, ℕ, zero, suc, ◌+◌, ◌-◌, ◌^◌, ◌==◌, if◌then◌else◌, min, List, [], ◌∷◌, ◌++◌, length, map, replicate, slice_get, refl, sym, ap, subst, ◌∙◌, append-nil, append_assoc, arith}
use Rattle.std.proofs.lemmas.List.{length_push, map_push}
use Rattle.intent_book.specs.declared.intent.Intent.{Intent}
use Rattle.object_store.specs.declared.account.Account.{Account}
use Rattle.object_store.specs.declared.world.Room.{Room}
use Rattle.object_store.specs.Stored.{Stored}
use Rattle.room_table.specs.Tables.{Table}
use Rattle.world_rules.specs.RoomParts.{RoomPart}
use Rattle.world_rules.specs.RoomTick.{room_tick}
use Rattle.world_rules.specs.Tick.{book, total_for}
use Rattle.room_rules.specs.Followed.{part_stored}
use Rattle.exit_crossing.specs.declared.leaving.Crosser.{Crosser}
use Rattle.exit_crossing.specs.Crossing.{crossers_of, rested_room}
use Rattle.exit_crossing.specs.inner.Leaving.{crossers_among}
use Rattle.ruled_tick.specs.inner.Entered.{AreGains}
use Rattle.ruled_tick.proofs.Gaining.{gained_first}
use Rattle.room_step.specs.Stepping.{IsStepped}
use Rattle.room_step.specs.declared.rooms.Underway.{Underway}
use Rattle.room_step.specs.declared.step.StepDone.{StepDone}
use Rattle.room_step.specs.Steps.{list_at}
use Rattle.room_step.specs.inner.Rooms.{earned_from, with_points, HasStepped, IsAdded, IsLeft, IsLeftAt}
use Rattle.room_step.proofs.Earned.{earned_more}
use Rattle.room_step.proofs.Following.{tick_follows}

-- before the first room
pub stepped_none : (tick : ℕ) (accounts : List Account) (lists : List (List Intent)) (now : Underway) → now.world ≡ record { tick = tick; rooms = []; accounts = [] } → now.crossers.items ≡ [] → now.gains.items ≡ replicate (length accounts) 0
    → HasStepped tick accounts lists [] now
stepped_none tick accounts lists now world crossers gains = record {
  left = [];
  world = world;
  each = λ index. tt;
  many = refl;
  crossers = crossers;
  gains = subst (AreGains (λ player. 0) accounts) (sym gains) (gained_first accounts);
}

-- The index of a table stays.
pub index_left : (grounds_room : Room) (entries : List Intent) (done : StepDone) → IsStepped grounds_room.terrain entries grounds_room.table done → done.room.index ≡ grounds_room.table.index
index_left room entries done step =
    ap (λ (t : Table). t.index) step.room ∙ ap (λ (p : RoomPart). p.index) step.tick ∙ (tick_follows entries (part_stored room)).index

each_push : (lists : ℕ → List Intent) (done left : List Room) (room mate : Room) → length left ≡ length done → ((k : ℕ) → IsLeftAt (lists k) (slice_get done k) (slice_get left k)) → IsLeft (lists (length done)) room mate
    → (k : ℕ) → IsLeftAt (lists k) (slice_get (done ++ room ∷ []) k) (slice_get (left ++ mate ∷ []) k)
each_push lists [] [] room mate many each is zero = is
each_push lists [] [] room mate many each is (suc k) = tt
each_push lists [] (other ∷ left) room mate many each is k = absurd (omega (arith, many))
each_push lists (first ∷ done) [] room mate many each is k = absurd (omega (arith, many))
each_push lists (first ∷ done) (other ∷ left) room mate many each is zero = each 0
each_push lists (first ∷ done) (other ∷ left) room mate many each is (suc k) = each_push (λ n. lists (suc n)) done left room mate (omega (arith, many)) (λ n. each (suc n)) is k

among_push : (left : List Room) (mate : Room) → crossers_among (left ++ mate ∷ []) ≡ crossers_among left ++ crossers_of mate.table
among_push [] mate = append-nil (crossers_of mate.table)
among_push (first ∷ left) mate =
    ap (λ (more : List Crosser). crossers_of first.table ++ more) (among_push left mate) ∙ sym (append_assoc (crossers_of first.table) (crossers_among left) (crossers_of mate.table))

module _ (tick : ℕ) (accounts : List Account) (lists : List (List Intent)) (done : List Room) (old new : Underway) (has : HasStepped tick accounts lists done old) (room : Room) (added : IsAdded accounts room (list_at lists (length done)) old new) where
  abbrev entries : List Intent
  entries = list_at lists (length done)

  -- the room as its tick leaves it
  abbrev mate : Room
  mate = record room { table = added.step.left }

  mate_left : IsLeft entries room mate
  mate_left = record {
    name = refl;
    terrain = refl;
    tick = added.step.tick;
    rising = added.step.rising;
    tiles = added.step.tiles;
    sums = added.step.sums;
    memory = added.step.memory;
  }

  earned : (player : ℕ) → with_points added.done.player added.done.points (earned_from (list_at lists) 0 done) player ≡ earned_from (list_at lists) 0 (done ++ room ∷ []) player
  earned player =
      let more = earned_more (list_at lists) 0 done room player in
      let own : total_for (room_tick book (list_at lists (0 + length done)) (part_stored room)).points player ≡ (if added.done.player == player then added.done.points else 0) =
      subst (λ (n : ℕ). total_for (room_tick book (list_at lists n) (part_stored room)).points player ≡ (if added.done.player == player then added.done.points else 0)) (from_none (length done)) (added.step.points.gained player) in
      omega (arith, more, own)
    where
      from_none : (n : ℕ) → n ≡ 0 + n
      from_none n = omega arith

  -- with one room more
  pub stepped_more : HasStepped tick accounts lists (done ++ room ∷ []) new
  stepped_more = record {
    left = has.left ++ mate ∷ [];
    world = added.world
        ∙ ap (λ (w : Stored). record w { rooms = w.rooms ++ record room { table = added.done.room } ∷ [] }) has.world
        ∙ (λ i. record { tick = tick; rooms = map rested_room has.left ++ record room { table = added.step.room i } ∷ []; accounts = [] })
        ∙ (λ i. record { tick = tick; rooms = sym (map_push rested_room has.left mate) i; accounts = [] });
    each = each_push (list_at lists) done has.left room mate has.many has.each mate_left;
    many = length_push has.left mate ∙ ap (λ (n : ℕ). n + 1) has.many ∙ sym (length_push done room);
    crossers = added.crossers ∙ (λ i. has.crossers i ++ added.step.crossers i) ∙ sym (among_push has.left mate);
    gains = added.gains (earned_from (list_at lists) 0 done) has.gains ∙ (λ i. map (λ (account : Account). min (2 ^ 64 - 1) (earned account.player i)) accounts);
  }
