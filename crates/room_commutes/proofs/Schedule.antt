-- Rooms that are taken alone, one by one in any order, give what happens inside the rooms of the whole world.
use Rattle.std.proofs.Common.{◌≡◌, ◌≢◌, ◌⊎◌, inl, inr, ℕ, ◌+◌, ◌==◌, ◌&&◌, if◌then◌else◌, Bool, true, false, cond, List, [], ◌∷◌, Option, Some, None, is_some, option_and_then, refl, sym, ap, subst, ◌∙◌, arith}
use Rattle.std.specs.Prelude.{nat_lt}
use Rattle.std.specs.List.{count_by}
use Rattle.std.specs.FinMap.{get}
use Rattle.std.proofs.lemmas.Bool.{eqb-true, eqb-false, ne_eqb, ltb-true, and_parts}
use Rattle.std.proofs.lemmas.List.Sums.{sum_by-cons}
use Rattle.room_table.specs.declared.object.Object.{Object}
use Rattle.intent_book.specs.declared.intent.Intent.{Intent}
use Rattle.world_rules.specs.World.{Placed, Frame, World}
use Rattle.world_rules.specs.RoomParts.{objects_in}
use Rattle.world_rules.specs.RuleBook.{RuleBook, IsOrderly}
use Rattle.world_rules.specs.Tick.{inner, ruled}
use Rattle.room_commutes.specs.Serials.{AreSerialsUsed}
use Rattle.world_rules.specs.Seen.{Seen, seen}
use Rattle.room_commutes.specs.Schedules.{alone_course, Event, draw, done, draws, ends, AllEnd, IsFull, with_frame_from, with_room_from, after_events, after, HasRooms}
use Rattle.world_rules.proofs.Parts.{only, get_objects_in, seen_here, seen_there, same_world}
use Rattle.room_commutes.proofs.InTick.{IsInTick, standing}
use Rattle.room_commutes.proofs.Inner.{in_inner, inner_alike}

-- ---- events

-- A worker is done with the room.
abbrev IsDone : ℕ → List Event → Type 0
IsDone room [] = ⊥
IsDone room (draw worker index ∷ later) = IsDone room later
IsDone room (done worker index ∷ later) = (index ≡ room) ⊎ IsDone room later

done_by : (worker room : ℕ) (events : List Event) → count_by (ends worker room) events ≡ 1 → IsDone room events
done_by worker room [] is = absurd (omega arith)
done_by worker room (draw by index ∷ later) is = done_by worker room later (omega (arith, is, sum_by-cons (λ e. cond (ends worker room e) 1 0) (draw by index) later))
done_by worker room (done by index ∷ later) is =
    let all = sum_by-cons (λ e. cond (ends worker room e) 1 0) (done by index) later in
    elim ((by == worker) && (index == room)) as (λ b. ((by == worker) && (index == room)) ≡ b → cond b 1 0 + count_by (ends worker room) later ≡ 1 → (index ≡ room) ⊎ IsDone room later) [
      | true ↦ λ at sum. inl (eqb-true index room (and_parts (by == worker) (index == room) at).1)
      | false ↦ λ at sum. inr (done_by worker room later (omega (arith, sum)))
    ] refl (sym all ∙ is)

-- a room that is drawn has its end
drawn_done : (room : ℕ) (events : List Event) → count_by (draws room) events ≡ 1 → AllEnd events → IsDone room events
drawn_done room [] is all = absurd (omega arith)
drawn_done room (draw worker index ∷ later) is all =
    elim (index == room) as (λ b. (index == room) ≡ b → cond b 1 0 + count_by (draws room) later ≡ 1 → IsDone room later) [
      | true ↦ λ at sum. subst (λ (n : ℕ). IsDone n later) (eqb-true index room at) (done_by worker index later all.0)
      | false ↦ λ at sum. drawn_done room later (omega (arith, sum)) all.1
    ] refl (sym (sum_by-cons (λ e. cond (draws room e) 1 0) (draw worker index) later) ∙ is)
drawn_done room (done worker index ∷ later) is all = inr (drawn_done room later (omega (arith, is, sum_by-cons (λ e. cond (draws room e) 1 0) (done worker index) later)) all)

not_some : {A : Type 0} (found : Option A) → is_some found ≡ false → found ≡ None
not_some None is = refl
not_some (Some x) is = absurd (cc)

-- ---- a world in which some rooms are done

module _ (book : RuleBook) (orderly : IsOrderly book) (before : World) (used : AreSerialsUsed before) (list : List Intent) where
  abbrev whole : World
  whole = (inner book before list).world

  abbrev lone : ℕ → World
  lone k = (alone_course book before list k).world

  -- Each room is as it was before or as it is in the end.
  record IsMixed (now : World) : Type 0 where
    pub rules : now.rules ≡ before.rules
    pub tick : now.tick ≡ before.tick
    pub accounts : now.accounts ≡ before.accounts
    pub rooms : (k : ℕ) → (seen now k ≡ seen before k) ⊎ (seen now k ≡ seen (inner book before list).world k)

  in_whole : IsInTick before (inner book before list).world
  in_whole = in_inner book orderly before used list

  same_alone : (k : ℕ) → seen (inner book before list).world k ≡ seen (alone_course book before list k).world k
  same_alone k = (inner_alike book orderly before used list k).world

  -- a room that the world does not have stays as it was
  lacking : (k : ℕ) → get (alone_course book before list k).world.rooms k ≡ None → (now : World) → IsMixed now → seen now k ≡ seen (inner book before list).world k
  lacking k none now mixed =
      let in_end : get (inner book before list).world.rooms k ≡ None = ap (λ (s : Seen). s.frame) (same_alone k) ∙ none in
      let at_first : get before.rooms k ≡ None = not_some (get before.rooms k) (sym (in_whole.keeps k) ∙ ap is_some in_end) in
      elim (mixed.rooms k) [ inl first ↦ first ∙ sym (in_whole.absent k at_first) | inr last ↦ last ]

  only_apart : (index : ℕ) (found : Option Placed) → ((q : Placed) → found ≡ Some q → q.room ≢ index) → option_and_then (only index) found ≡ None
  only_apart index None apart = refl
  only_apart index (Some q) apart = ap (λ (b : Bool). if b then Some q.object else None) (ne_eqb q.room index (apart q refl))

  module _ (k : ℕ) (now : World) (mixed : IsMixed now) where
    -- what stands in a room in the end stands in no other room
    apart : (index id : ℕ) (object : Object) → index ≢ k → get (objects_in (alone_course book before list k).world k) id ≡ Some object → option_and_then (only index) (get now.objects id) ≡ None
    apart index id object other found =
        let there = standing k object (get (inner book before list).world.objects id) (sym (get_objects_in (inner book before list).world k id) ∙ ap (λ (s : Seen). get s.objects id) (same_alone k) ∙ found) in
        elim (mixed.rooms index) [
          | inl first ↦
              sym (get_objects_in now index id) ∙ ap (λ (s : Seen). get s.objects id) first ∙ get_objects_in before index id
              ∙ only_apart index (get before.objects id) (λ q is at. other (sym at ∙ in_whole.stood id there.0 q there.1 is ∙ there.2))
          | inr last ↦
              sym (get_objects_in now index id) ∙ ap (λ (s : Seen). get s.objects id) last ∙ get_objects_in (inner book before list).world index id
              ∙ only_apart index (get (inner book before list).world.objects id) (λ q is at.
              let same : q ≡ there.0 = let got : Some q ≡ Some there.0 = sym is ∙ there.1 in cc in
              other (sym at ∙ ap (λ (p : Placed). p.room) same ∙ there.2))
        ]

    rules_now : now.rules ≡ (alone_course book before list k).world.rules
    rules_now = mixed.rules ∙ sym in_whole.rules ∙ ap (λ (s : Seen). s.rules) (same_alone k)

    frame_done : (found : Option Frame) → get (alone_course book before list k).world.rooms k ≡ found → seen (with_frame_from (alone_course book before list k).world k now found) k ≡ seen (inner book before list).world k
    frame_done None is = lacking k is now mixed
    frame_done (Some frame) is =
        seen_here now k frame (objects_in (alone_course book before list k).world k)
        ∙ (λ i. record { rules = rules_now i; frame = sym is i; objects = objects_in (alone_course book before list k).world k })
        ∙ sym (same_alone k)

    frame_other : (index : ℕ) → index ≢ k → (found : Option Frame) → seen (with_frame_from (alone_course book before list k).world k now found) index ≡ seen now index
    frame_other index other None = refl
    frame_other index other (Some frame) = seen_there now k index frame (objects_in (alone_course book before list k).world k) other (λ id object found. apart index id object other found)

    -- with its end a room is as in the end, and the others are as they were
    room_done : seen (with_room_from (alone_course book before list k).world k now) k ≡ seen (inner book before list).world k
    room_done = frame_done (get (alone_course book before list k).world.rooms k) refl

    room_other : (index : ℕ) → index ≢ k → seen (with_room_from (alone_course book before list k).world k now) index ≡ seen now index
    room_other index other = frame_other index other (get (alone_course book before list k).world.rooms k)

    frame_mixed : (found : Option Frame) → ((index : ℕ) → (seen (with_frame_from (alone_course book before list k).world k now found) index ≡ seen before index) ⊎ (seen (with_frame_from (alone_course book before list k).world k now found) index ≡ seen (inner book before list).world index))
        → IsMixed (with_frame_from (alone_course book before list k).world k now found)
    frame_mixed None rooms = mixed
    frame_mixed (Some frame) rooms = record { rules = mixed.rules; tick = mixed.tick; accounts = mixed.accounts; rooms = rooms }

    done_mixed : IsMixed (with_room_from (alone_course book before list k).world k now)
    done_mixed = frame_mixed (get (alone_course book before list k).world.rooms k) (λ index. elim (index == k) as (λ b. (index == k) ≡ b → (seen (with_room_from (alone_course book before list k).world k now) index ≡ seen before index) ⊎ (seen (with_room_from (alone_course book before list k).world k now) index ≡ seen (inner book before list).world index)) [
      | true ↦ λ at. inr (subst (λ (n : ℕ). seen (with_room_from (alone_course book before list k).world k now) n ≡ seen (inner book before list).world n) (sym (eqb-true index k at)) room_done)
      | false ↦ λ at. let other = eqb-false index k at in elim (mixed.rooms index) [ inl first ↦ inl (room_other index other ∙ first) | inr last ↦ inr (room_other index other ∙ last) ]
    ] refl)

    -- a room that is as in the end stays so
    stays : (index : ℕ) → seen now index ≡ seen (inner book before list).world index → seen (with_room_from (alone_course book before list k).world k now) index ≡ seen (inner book before list).world index
    stays index last = elim (index == k) as (λ b. (index == k) ≡ b → seen (with_room_from (alone_course book before list k).world k now) index ≡ seen (inner book before list).world index) [
      | true ↦ λ at. subst (λ (n : ℕ). seen (with_room_from (alone_course book before list k).world k now) n ≡ seen (inner book before list).world n) (sym (eqb-true index k at)) room_done
      | false ↦ λ at. room_other index (eqb-false index k at) ∙ last
    ] refl

  -- ---- all events

  events_mixed : (events : List Event) (now : World) → IsMixed now → IsMixed (after_events book before list events now)
  events_mixed [] now mixed = mixed
  events_mixed (draw worker k ∷ later) now mixed = events_mixed later now mixed
  events_mixed (done worker k ∷ later) now mixed = events_mixed later (with_room_from (alone_course book before list k).world k now) (done_mixed k now mixed)

  events_stay : (room : ℕ) (events : List Event) (now : World) → IsMixed now → seen now room ≡ seen (inner book before list).world room → seen (after_events book before list events now) room ≡ seen (inner book before list).world room
  events_stay room [] now mixed last = last
  events_stay room (draw worker k ∷ later) now mixed last = events_stay room later now mixed last
  events_stay room (done worker k ∷ later) now mixed last = events_stay room later (with_room_from (alone_course book before list k).world k now) (done_mixed k now mixed) (stays k now mixed room last)

  events_done : (room : ℕ) (events : List Event) (now : World) → IsMixed now → IsDone room events → seen (after_events book before list events now) room ≡ seen (inner book before list).world room
  events_done room [] now mixed is = absurd is
  events_done room (draw worker k ∷ later) now mixed is = events_done room later now mixed is
  events_done room (done worker k ∷ later) now mixed (inl same) =
      events_stay room later (with_room_from (alone_course book before list k).world k now) (done_mixed k now mixed) (subst (λ (n : ℕ). seen (with_room_from (alone_course book before list k).world k now) n ≡ seen (inner book before list).world n) same (room_done k now mixed))
  events_done room (done worker k ∷ later) now mixed (inr is) = events_done room later (with_room_from (alone_course book before list k).world k now) (done_mixed k now mixed) is

  at_first : IsMixed before
  at_first = record { rules = refl; tick = refl; accounts = refl; rooms = λ k. inl refl }

  module _ (n : ℕ) (rooms : HasRooms before n) (events : List Event) (full : IsFull events n) where
    each_room : (k : ℕ) → seen (after_events book before list events before) k ≡ seen (inner book before list).world k
    each_room k = elim (nat_lt k n) as (λ b. nat_lt k n ≡ b → seen (after_events book before list events before) k ≡ seen (inner book before list).world k) [
      | true ↦ λ is. events_done k events before at_first (drawn_done k events (full.once k (ltb-true k n is)) full.ends)
      | false ↦ λ is.
          let none : get before.rooms k ≡ None = not_some (get before.rooms k) (rooms k ∙ is) in
          elim ((events_mixed events before at_first).rooms k) [ inl first ↦ first ∙ sym (in_whole.absent k none) | inr last ↦ last ]
    ] refl

    -- every full schedule gives what happens inside the rooms of the whole world
    events_inner : after_events book before list events before ≡ (inner book before list).world
    events_inner =
        let mixed = events_mixed events before at_first in
        same_world (after_events book before list events before) (inner book before list).world (mixed.tick ∙ sym in_whole.tick) (mixed.accounts ∙ sym in_whole.accounts) each_room

    pub schedule_ruled : (crossed : World → World) → after book crossed before list events ≡ ruled book crossed before list
    schedule_ruled crossed = ap (λ (world : World). record (crossed world) { tick = (crossed world).tick + 1 }) events_inner
