-- What stays true of a world through the changes of a tick, each of which makes no object but under new ids of its room.
use Rattle.std.proofs.Common.{◌≡◌, ◌≢◌, ◌⊎◌, inl, inr, ℕ, ◌+◌, ◌*◌, ◌^◌, ◌<◌, ◌≤◌, ◌==◌, not, if◌then◌else◌, Bool, true, false, cond, Option, Some, None, is_some, option_and_then, refl, sym, ap, subst, ◌∙◌, arith}
use Rattle.std.specs.Option.{option_or}
use Rattle.std.specs.FinMap.{get}
use Rattle.std.proofs.lemmas.Bool.{eq-eqb, eqb-true, ne_eqb}
use Rattle.room_table.specs.declared.object.Object.{Object}
use Rattle.world_rules.specs.World.{Placed, Frame, World, alone}
use Rattle.world_rules.specs.RoomParts.{RoomPart, part_of, with_part, in_frame, in_room}
use Rattle.world_rules.specs.RuleBook.{IsNew, StaysInRoom}
use Rattle.room_commutes.specs.Serials.{AreSerialsUsed}
use Rattle.world_rules.specs.Seen.{seen}
use Rattle.world_rules.proofs.Parts.{only, except, where_test, put_in, get_objects_in, get_with_room, get_alone, room_with, room_alone, seen_there}

-- There is such a room, with its serial at most this.
abbrev pub Had : World → ℕ → ℕ → Type 0
Had world room next = (frame : Frame) × (get world.rooms room ≡ Some frame) × (frame.next ≤ next)

-- The second world comes after the first in one tick, before crossings.
pub record IsInTick (before now : World) : Type 0 where
  pub began : AreSerialsUsed before
  pub used : AreSerialsUsed now
  pub rules : now.rules ≡ before.rules
  pub tick : now.tick ≡ before.tick
  pub accounts : now.accounts ≡ before.accounts
  pub rooms : (room : ℕ) (frame : Frame) → get now.rooms room ≡ Some frame → Had before room frame.next
  pub keeps : (room : ℕ) → is_some (get now.rooms room) ≡ is_some (get before.rooms room)
  pub stood : (id : ℕ) (p q : Placed) → get now.objects id ≡ Some p → get before.objects id ≡ Some q → q.room ≡ p.room
  pub absent : (room : ℕ) → get before.rooms room ≡ None → seen now room ≡ seen before room

-- An object of this id stands in this room of the world.
abbrev pub StoodIn : World → ℕ → ℕ → Type 0
StoodIn world id room = (q : Placed) × (get world.objects id ≡ Some q) × (q.room ≡ room)

pub standing : (room : ℕ) (object : Object) (found : Option Placed) → option_and_then (only room) found ≡ Some object → (q : Placed) × (found ≡ Some q) × (q.room ≡ room)
standing room object None is = absurd (cc)
standing room object (Some p) is =
    elim (p.room == room) as (λ b. (p.room == room) ≡ b → (if b then Some p.object else None) ≡ Some object → (q : Placed) × (Some p ≡ Some q) × (q.room ≡ room)) [
      | true ↦ λ at got. (p, refl, eqb-true p.room room at)
      | false ↦ λ at got. absurd (cc)
    ] refl is

pub elsewhere : (test : Placed → Bool) (p : Placed) (found : Option Placed) → option_and_then (where_test test) found ≡ Some p → found ≡ Some p
elsewhere test p None is = absurd (cc)
elsewhere test p (Some q) is =
    elim (test q) as (λ b. cond b (Some q) None ≡ Some p → Some q ≡ Some p) [ true ↦ λ got. got | false ↦ λ got. absurd (cc) ] is

-- what is found with objects put in a room was put there, or was found before
either : (room : ℕ) (p : Placed) (put : Option Object) (found : Option Placed) → option_or (put_in room put) (option_and_then (except room) found) ≡ Some p
    → ((object : Object) × (put ≡ Some object) × (p.room ≡ room)) ⊎ (found ≡ Some p)
either room p None found is = inr (elsewhere (λ q. not (q.room == room)) p found is)
either room p (Some object) found is = let same : record { room = room; object = object } ≡ p = cc in inl (object, refl, sym (ap (λ (q : Placed). q.room) same))

module _ (before now : World) (in_tick : IsInTick before now) (change : RoomPart → RoomPart) (own : StaysInRoom change) (room : ℕ) where
  module _ (frame : Frame) (is : get now.rooms room ≡ Some frame) where
    abbrev part : RoomPart
    part = part_of now room frame

    abbrev after : RoomPart
    after = change part

    abbrev outcome : World
    outcome = with_part now room frame after

    -- a new id is free
    free : (id : ℕ) (p : Placed) → IsNew part after.next id → get now.objects id ≡ Some p → ⊥
    free id p new found =
        let there : get now.objects (room * 2 ^ 32 + new.0) ≡ Some p = subst (λ (n : ℕ). get now.objects n ≡ Some p) new.1 found in
        let used : new.0 < frame.next = in_tick.used room new.0 frame p is new.4 there in
        let unused : frame.next ≤ new.0 = new.2 in
        absurd (omega arith)

    came : (id : ℕ) (object : Object) → get after.objects id ≡ Some object → StoodIn now id room ⊎ IsNew part after.next id
    came id object found = elim ((own part).own id (object, found)) [
      | inl stands ↦ inl (standing room stands.0 (get now.objects id) (sym (get_objects_in now room id) ∙ stands.1))
      | inr new ↦ inr new
    ]

    came_from : (id : ℕ) (p : Placed) → get outcome.objects id ≡ Some p → StoodIn now id p.room ⊎ ((p.room ≡ room) × IsNew part after.next id)
    came_from id p found = elim (either room p (get after.objects id) (get now.objects id) (sym (get_with_room now room (record frame { next = after.next }) after.objects id) ∙ found)) [
      | inl put ↦ elim (came id put.0 put.1) [
        | inl stood ↦ inl (stood.0, stood.1, stood.2 ∙ sym put.2)
        | inr new ↦ inr (put.2, new)
      ]
      | inr there ↦ inl (p, there, refl)
    ]

    frame_before : (index : ℕ) (later : Frame) → get outcome.rooms index ≡ Some later → Had now index later.next
    frame_before index later found =
        elim (index == room) as (λ b. (index == room) ≡ b → cond b (Some (record frame { next = after.next })) (get now.rooms index) ≡ Some later → Had now index later.next) [
          | true ↦ λ at got.
              let same : record frame { next = after.next } ≡ later = cc in
              let serial : frame.next ≤ after.next = (own part).serial in
              (frame, ap (get now.rooms) (eqb-true index room at) ∙ is, subst (λ (f : Frame). frame.next ≤ f.next) same serial)
          | false ↦ λ at got. (later, got, omega arith)
        ] refl (sym (room_with now room (record frame { next = after.next }) after.objects index) ∙ found)

    next_then : (later : Frame) → get outcome.rooms room ≡ Some later → after.next ≡ later.next
    next_then later found =
        let same : record frame { next = after.next } ≡ later = let got : Some (record frame { next = after.next }) ≡ Some later = sym (ap (λ (b : Bool). cond b (Some (record frame { next = after.next })) (get now.rooms room)) (eq-eqb room room refl)) ∙ sym (room_with now room (record frame { next = after.next }) after.objects room) ∙ found in cc in
        ap (λ (f : Frame). f.next) same

    used_then : AreSerialsUsed outcome
    used_then index serial later p found small there = elim (came_from (index * 2 ^ 32 + serial) p there) [
      | inl stood ↦
          let had = frame_before index later found in
          let less : serial < had.0.next = in_tick.used index serial had.0 stood.0 had.1 small stood.1 in
          let most : had.0.next ≤ later.next = had.2 in
          omega arith
      | inr new ↦
          let id : index * 2 ^ 32 + serial ≡ room * 2 ^ 32 + new.1.0 = new.1.1 in
          let bound : new.1.0 < 2 ^ 32 = new.1.4 in
          let same : index ≡ room = omega arith in
          let one : serial ≡ new.1.0 = omega arith in
          let less : new.1.0 < after.next = new.1.3 in
          let last : after.next ≡ later.next = next_then later (subst (λ (k : ℕ). get outcome.rooms k ≡ Some later) same found) in
          omega arith
    ]

    not_there : (index id : ℕ) (object : Object) → index ≢ room → get after.objects id ≡ Some object → option_and_then (only index) (get now.objects id) ≡ None
    not_there index id object apart found = elim (get now.objects id) as (λ r. get now.objects id ≡ r → option_and_then (only index) r ≡ None) [
      | None ↦ λ e. refl
      | Some p ↦ λ e. elim (came id object found) [
        | inl stood ↦
            let same : p ≡ stood.0 = let got : Some p ≡ Some stood.0 = sym e ∙ stood.1 in cc in
            ap (λ (b : Bool). if b then Some p.object else None) (ne_eqb p.room index (λ at. apart (sym at ∙ ap (λ (q : Placed). q.room) same ∙ stood.2)))
        | inr new ↦ absurd (free id p new e)
      ]
    ] refl

    seen_apart : (index : ℕ) → index ≢ room → seen outcome index ≡ seen now index
    seen_apart index apart = seen_there now room index (record frame { next = after.next }) after.objects apart (λ id object found. not_there index id object apart found)

    kept_room : (index : ℕ) → is_some (get outcome.rooms index) ≡ is_some (get now.rooms index)
    kept_room index =
        ap is_some (room_with now room (record frame { next = after.next }) after.objects index)
        ∙ elim (index == room) as (λ b. (index == room) ≡ b → is_some (cond b (Some (record frame { next = after.next })) (get now.rooms index)) ≡ is_some (get now.rooms index)) [
          | true ↦ λ at. sym (ap is_some (ap (get now.rooms) (eqb-true index room at) ∙ is))
          | false ↦ λ at. refl
        ] refl

    lacks : (index : ℕ) → get before.rooms index ≡ None → index ≢ room
    lacks index none same =
        let had = in_tick.rooms room frame is in
        let there : get before.rooms index ≡ Some had.0 = ap (get before.rooms) same ∙ had.1 in
        absurd (cc)

    in_tick_then : IsInTick before outcome
    in_tick_then = record {
      began = in_tick.began;
      used = used_then;
      rules = in_tick.rules;
      tick = in_tick.tick;
      accounts = in_tick.accounts;
      rooms = λ index later found.
          let had = frame_before index later found in
          let first = in_tick.rooms index had.0 had.1 in
          let one : first.0.next ≤ had.0.next = first.2 in
          let other : had.0.next ≤ later.next = had.2 in
          (first.0, first.1, omega arith);
      stood = λ id p q found old. elim (came_from id p found) [
        | inl stood ↦ in_tick.stood id stood.0 q stood.1 old ∙ stood.2
        | inr new ↦
            let had = in_tick.rooms room frame is in
            let there : get before.objects (room * 2 ^ 32 + new.1.0) ≡ Some q = subst (λ (n : ℕ). get before.objects n ≡ Some q) new.1.1 old in
            let used : new.1.0 < had.0.next = in_tick.began room new.1.0 had.0 q had.1 new.1.4 there in
            let most : had.0.next ≤ frame.next = had.2 in
            let unused : frame.next ≤ new.1.0 = new.1.2 in
            absurd (omega arith)
      ];
      keeps = λ index. kept_room index ∙ in_tick.keeps index;
      absent = λ index none. seen_apart index (lacks index none) ∙ in_tick.absent index none;
    }

  in_tick_frame : (found : Option Frame) → get now.rooms room ≡ found → IsInTick before (in_frame change room now found)
  in_tick_frame None is = in_tick
  in_tick_frame (Some frame) is = in_tick_then frame is

  pub in_tick_room : IsInTick before (in_room change room now)
  in_tick_room = in_tick_frame (get now.rooms room) refl

  frame_apart : (index : ℕ) → index ≢ room → (found : Option Frame) → get now.rooms room ≡ found → seen (in_frame change room now found) index ≡ seen now index
  frame_apart index apart None is = refl
  frame_apart index apart (Some frame) is = seen_apart frame is index apart

  -- a change of a room leaves the others
  pub others : (index : ℕ) → index ≢ room → seen (in_room change room now) index ≡ seen now index
  others index apart = frame_apart index apart (get now.rooms room) refl

-- a world at the start of a tick
pub at_start : (world : World) → AreSerialsUsed world → IsInTick world world
at_start world used = record {
  began = used;
  used = used;
  rules = refl;
  tick = refl;
  accounts = refl;
  rooms = λ room frame is. (frame, is, omega arith);
  keeps = λ room. refl;
  absent = λ room none. refl;
  stood = λ id p q one other. let same : q ≡ p = let got : Some q ≡ Some p = sym other ∙ one in cc in ap (λ (r : Placed). r.room) same;
}

alone_frame : (b : Bool) (found : Option Frame) (frame : Frame) → cond b found None ≡ Some frame → found ≡ Some frame
alone_frame true found frame is = is
alone_frame false found frame is = absurd (cc)

pub used_alone : (world : World) (room : ℕ) → AreSerialsUsed world → AreSerialsUsed (alone world room)
used_alone world room used index serial frame p found small there =
    used index serial frame p
    (alone_frame (index == room) (get world.rooms index) frame (sym (room_alone world room index) ∙ found)) small
    (elsewhere (λ q. q.room == room) p (get world.objects (index * 2 ^ 32 + serial)) (sym (get_alone world room (index * 2 ^ 32 + serial)) ∙ there))
