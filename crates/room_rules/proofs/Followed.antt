-- Where each room follows and keeps its rules, a sound world is followed by a sound one.
use Rattle.std.proofs.Common.{◌≡◌, ◌≢◌, ℕ, suc, ◌+◌, ◌*◌, ◌/◌, ◌%◌, ◌^◌, ◌<◌, ◌≤◌, ◌==◌, ◌⊎◌, Bool, true, false, cond, List, [], ◌∷◌, Option, Some, None, option_map, option_and_then, slice_get, refl, sym, ap, subst, ◌∙◌, inl, inr, arith}
use Rattle.std.specs.List.{AllByRecursion, sum_by}
use Rattle.std.specs.Ordering.{nat_cmp}
use Rattle.std.specs.Cmp.{nat_cmp_total, unsigned_tied}
use Rattle.std.specs.FinMap.{find, get, get-from_entries}
use Rattle.std.proofs.lemmas.Bool.{eqb-true, eqb-false}
use Rattle.std.proofs.lemmas.List.Sums.{sum_by-cons}
use Rattle.room_table.specs.declared.object.Object.{Object}
use Rattle.object_store.specs.declared.world.Room.{Room}
use Rattle.room_table.specs.Tables.{IsRising}
use Rattle.object_store.specs.Stored.{Stored}
use Rattle.world_rules.specs.declared.rule.Rule.TheVariants as rules
use Rattle.world_rules.specs.World.{Placed, Frame, listed_room, listing_of, placed, world_of}
use Rattle.world_rules.specs.RuleBook.{IsNew}
use Rattle.world_rules.specs.RuleBook.{Stands as StandsIn}
use Rattle.world_rules.specs.Rules.{Stands, IsRoom, HasNoBirth}
use Rattle.world_rules.specs.Sound.{IsSound}
use Rattle.world_rules.proofs.Keys.{keyed}
use Rattle.world_rules.proofs.Lifting.{AreIdsOnce, times_in, times_room, times_rooms, found_in_table, stands_placed, frame_stored}
use Rattle.world_rules.proofs.Same.{once}
use Rattle.room_rules.specs.Within.{Stage, between}
use Rattle.room_rules.specs.RoomRules.{Holds, is_player}
use Rattle.room_rules.specs.Followed.{part_stored, FollowsRoom, FollowsAt, FollowRooms, KeepsPlayers}
use Rattle.room_rules.proofs.Sound.{get_part, sound_keeps}
use Rattle.room_rules.proofs.Rooms.{frame_at, same_frame, in_room, kept_sound}

-- ---- how often an id stands in a table

not_same : (m n : ℕ) → m ≢ n → (m == n) ≡ false
not_same m n apart = grind arith

none_in : (id : ℕ) (objects : List Object) → find nat_cmp id (keyed (λ object. object.id) objects) ≡ None → times_in id objects ≡ 0
none_in id [] none = refl
none_in id (o ∷ objects) none =
    let all = sum_by-cons (λ (p : Object). cond {A = ℕ} (p.id == id) 1 0) o objects in
    elim (id == o.id) as (λ b. (id == o.id) ≡ b → cond b (Some o) (find nat_cmp id (keyed (λ object. object.id) objects)) ≡ None → times_in id (o ∷ objects) ≡ 0) [
      | true ↦ λ same is. absurd (cc)
      | false ↦ λ apart is. (
          let rest = none_in id objects is in
          let zeroth : cond {A = ℕ} (o.id == id) 1 0 ≡ 0 = ap (λ (b : Bool). cond {A = ℕ} b 1 0) (not_same o.id id (λ e. eqb-false id o.id apart (sym e))) in
          omega arith
          )
    ] refl (sym (ap (λ (b : Bool). cond b (Some o) (find nat_cmp id (keyed (λ object. object.id) objects))) (unsigned_tied id o.id)) ∙ none)

above_none : (n id : ℕ) (objects : List Object) → id ≤ n → AllByRecursion (λ later. n < later.id) objects → times_in id objects ≡ 0
above_none n id [] less above = refl
above_none n id (o ∷ objects) less above =
    let all = sum_by-cons (λ (p : Object). cond {A = ℕ} (p.id == id) 1 0) o objects in
    let rest = above_none n id objects less above.1 in
    let first : n < o.id = above.0 in
    let zeroth : cond {A = ℕ} (o.id == id) 1 0 ≡ 0 = ap (λ (b : Bool). cond {A = ℕ} b 1 0) (greater o.id id (omega arith)) in
    omega arith
  where
    greater : (m n : ℕ) → n < m → (m == n) ≡ false
    greater m n less = grind arith

-- where they rise, an id stands once
once_in : (id : ℕ) (objects : List Object) → IsRising objects → times_in id objects ≤ 1
once_in id [] rise = omega arith
once_in id (o ∷ objects) rise =
    let all = sum_by-cons (λ (p : Object). cond {A = ℕ} (p.id == id) 1 0) o objects in
    let rest = once_in id objects rise.1 in
    elim (o.id == id) as (λ b. (o.id == id) ≡ b → times_in id (o ∷ objects) ≤ 1) [
      | true ↦ λ same. (
          let first : cond {A = ℕ} (o.id == id) 1 0 ≡ 1 = ap (λ (b : Bool). cond {A = ℕ} b 1 0) same in
          let at = eqb-true o.id id same in
          let none = above_none o.id id objects (omega arith) rise.0 in
          omega arith
          )
      | false ↦ λ apart. (let zeroth : cond {A = ℕ} (o.id == id) 1 0 ≡ 0 = ap (λ (b : Bool). cond {A = ℕ} b 1 0) apart in omega arith)
    ] refl

-- what stands in a table is found there
found_in : (id : ℕ) (room : Room) → 1 ≤ times_room id room → (o : Object) × Holds (part_stored room) id o
found_in id room some =
    elim (find nat_cmp id (keyed (λ (o : Object). o.id) room.table.objects)) as (λ found. find nat_cmp id (keyed (λ (o : Object). o.id) room.table.objects) ≡ found → (o : Object) × Holds (part_stored room) id o) [
      | None ↦ λ is. (let none = none_in id room.table.objects is in absurd (omega arith))
      | Some o ↦ λ is. (o, get_part room id ∙ is)
    ] refl

-- ---- sums over rooms

sum_zero : (f : Room → ℕ) (rooms : List Room) → ((k : ℕ) (r : Room) → slice_get rooms k ≡ Some r → f r ≡ 0) → sum_by f rooms ≡ 0
sum_zero f [] zeros = refl
sum_zero f (room ∷ rooms) zeros = omega (arith, sum_by-cons f room rooms, zeros 0 room refl, sum_zero f rooms (λ k r is. zeros (suc k) r is))

sum_one : (f : Room → ℕ) (rooms : List Room) → ((k : ℕ) (r : Room) → slice_get rooms k ≡ Some r → f r ≤ 1)
    → ((j k : ℕ) (r t : Room) → slice_get rooms j ≡ Some r → slice_get rooms k ≡ Some t → 1 ≤ f r → 1 ≤ f t → j ≡ k) → sum_by f rooms ≤ 1
sum_one f [] few one = omega arith
sum_one f (room ∷ rooms) few one =
    elim (f room == 0) as (λ b. (f room == 0) ≡ b → sum_by f (room ∷ rooms) ≤ 1) [
      | true ↦ λ is.
          let none = eqb-true (f room) 0 is in
          let rest = sum_one f rooms (λ k r at. few (suc k) r at) (λ j k r t at there a b. earlier j k (one (suc j) (suc k) r t at there a b)) in
          omega (arith, sum_by-cons f room rooms)
      | false ↦ λ is.
          let some : 1 ≤ f room = positive (f room) is in
          let rest = sum_zero f rooms (λ k r at. elim (f r == 0) as (λ b. (f r == 0) ≡ b → f r ≡ 0) [
            | true ↦ λ zeroth. eqb-true (f r) 0 zeroth
            | false ↦ λ more. absurd (first k (one 0 (suc k) room r refl at some (positive (f r) more)))
          ] refl) in
          omega (arith, sum_by-cons f room rooms, few 0 room refl)
    ] refl
  where
    positive : (n : ℕ) → (n == 0) ≡ false → 1 ≤ n
    positive n is = grind arith

    earlier : (j k : ℕ) → suc j ≡ suc k → j ≡ k
    earlier j k is = omega arith

    first : (k : ℕ) → 0 ≡ suc k → ⊥
    first k is = omega arith

-- ---- two worlds

module _ (w after : Stored) (s : IsSound w) (stage : Stage) (players : ℕ → Bool) (follow : FollowRooms players stage w after) where
  abbrev pub Came : ℕ → Room → Type 0
  Came k mate = (room : Room) × (slice_get w.rooms k ≡ Some room) × FollowsRoom players stage room mate

  came_as : (k : ℕ) (mate : Room) (found there : Option Room) → slice_get w.rooms k ≡ found → there ≡ Some mate → FollowsAt players stage found there → Came k mate
  came_as k mate None None is at f = absurd (cc)
  came_as k mate None (Some other) is at f = absurd f
  came_as k mate (Some room) None is at f = absurd f
  came_as k mate (Some room) (Some other) is at f = (room, is, (let same : other ≡ mate = cc in subst (FollowsRoom players stage room) same f))

  pub came : (k : ℕ) (mate : Room) → slice_get after.rooms k ≡ Some mate → Came k mate
  came k mate at = came_as k mate (slice_get w.rooms k) (slice_get after.rooms k) refl at (follow k)

  abbrev Goes : ℕ → Room → Type 0
  Goes k room = (mate : Room) × (slice_get after.rooms k ≡ Some mate) × FollowsRoom players stage room mate

  goes_as : (k : ℕ) (room : Room) (found there : Option Room) → slice_get after.rooms k ≡ there → found ≡ Some room → FollowsAt players stage found there → Goes k room
  goes_as k room None None is at f = absurd (cc)
  goes_as k room None (Some other) is at f = absurd f
  goes_as k room (Some first) None is at f = absurd f
  goes_as k room (Some first) (Some mate) is at f = (mate, is, (let same : first ≡ room = cc in subst (λ (r : Room). FollowsRoom players stage r mate) same f))

  goes : (k : ℕ) (room : Room) → slice_get w.rooms k ≡ Some room → Goes k room
  goes k room at = goes_as k room (slice_get w.rooms k) (slice_get after.rooms k) refl at (follow k)

  -- ---- ids

  stood : (k id : ℕ) (room : Room) (o : Object) → slice_get w.rooms k ≡ Some room → Holds (part_stored room) id o → Stands (world_of w) id (record { room = k; object = o })
  stood k id room o at h =
      get-from_entries nat_cmp_total (placed (listing_of w)) id
      ∙ stands_placed w.rooms k id o (once w s) (ap (option_and_then (found_in_table id)) at ∙ sym (get_part room id) ∙ h)

  -- an id that is new in a room stood nowhere
  new_nowhere : (k id next : ℕ) (room : Room) (p : Placed) → slice_get w.rooms k ≡ Some room → IsNew (part_stored room) next id → Stands (world_of w) id p → ⊥
  new_nowhere k id next room p at new there = s.rules rules.Serial id (λ e. cc) (λ e. cc) (
    p,
    there,
    inl (λ frame is.
        (let place : room.table.index ≡ k = s.places k room at in
        let least : room.table.next ≤ new.0 = new.2 in
        let serial : id % 2 ^ 32 ≡ new.0 = omega (arith, new.1, new.4) in
        let here : id / 2 ^ 32 ≡ k = omega (arith, new.1, new.4, place) in
        let same = same_frame frame (listed_room room).frame (get (world_of w).rooms k) (subst (λ (n : ℕ). IsRoom (world_of w) n frame) here is) (frame_at w k room at) in
        let next : frame.next ≡ room.table.next = ap (λ (f : Frame). f.next) same in
        omega arith)),
  )

  same_place : (id j k : ℕ) (r t : Room) → slice_get after.rooms j ≡ Some r → slice_get after.rooms k ≡ Some t → 1 ≤ times_room id r → 1 ≤ times_room id t → j ≡ k
  same_place id j k r t at there one other =
      let p = came j r at in
      let q = came k t there in
      let first : StandsIn (part_stored p.0) id ⊎ IsNew (part_stored p.0) r.table.next id = p.2.follows.own id (found_in id r one) in
      let second : StandsIn (part_stored q.0) id ⊎ IsNew (part_stored q.0) t.table.next id = q.2.follows.own id (found_in id t other) in
      elim first [
        | inl a ↦ elim second [
          | inl b ↦ one_room j k a.0 b.0 (get (world_of w).objects id) (stood j id p.0 a.0 p.1 a.1) (stood k id q.0 b.0 q.1 b.1)
          | inr b ↦ absurd (new_nowhere k id t.table.next q.0 (record { room = j; object = a.0 }) q.1 b (stood j id p.0 a.0 p.1 a.1))
        ]
        | inr a ↦ elim second [
          | inl b ↦ absurd (new_nowhere j id r.table.next p.0 (record { room = k; object = b.0 }) p.1 a (stood k id q.0 b.0 q.1 b.1))
          | inr b ↦ (
              let one_place : p.0.table.index ≡ j = s.places j p.0 p.1 in
              let other_place : q.0.table.index ≡ k = s.places k q.0 q.1 in
              two_news id j k p.0.table.index q.0.table.index a.0 b.0 one_place other_place a.1 b.1 a.4 b.4
              )
        ]
      ]
    where
      one_placed : (one other : Placed) (found : Option Placed) → found ≡ Some one → found ≡ Some other → one ≡ other
      one_placed one other found is that = cc

      one_room : (j k : ℕ) (a b : Object) (found : Option Placed) → found ≡ Some (record { room = j; object = a }) → found ≡ Some (record { room = k; object = b }) → j ≡ k
      one_room j k a b found is that =
          let one : Placed = record { room = j; object = a } in
          let other : Placed = record { room = k; object = b } in
          ap (λ (p : Placed). p.room) (one_placed one other found is that)

      two_news : (id j k one other s₁ s₂ : ℕ) → one ≡ j → other ≡ k → id ≡ one * 2 ^ 32 + s₁ → id ≡ other * 2 ^ 32 + s₂ → s₁ < 2 ^ 32 → s₂ < 2 ^ 32 → j ≡ k
      two_news id j k one other s₁ s₂ a b c d e f = omega arith

  -- Each id stands once in the second world.
  once_after : AreIdsOnce after.rooms
  once_after id =
      let sum = sum_one (times_room id) after.rooms (λ k r at. once_in id r.table.objects (came k r at).2.rising) (λ j k r t at there a b. same_place id j k r t at there a b) in
      omega (arith, sum, times_rooms id 0 after.rooms)

  -- ---- the rules

  no_birth : (id : ℕ) (p : Placed) → Stands (world_of after) id p → HasNoBirth (world_of after) id → ⊥
  no_birth id p there none =
      let here = in_room after once_after id p there in
      let was = came p.room here.0 here.1 in
      let own : StandsIn (part_stored was.0) id ⊎ IsNew (part_stored was.0) here.0.table.next id = was.2.follows.own id (p.object, here.2) in
      elim own [
        | inl a ↦ old p.room was.0 a.0 was.1 a.1 none
        | inr b ↦ new was.0 here.0 (s.places p.room was.0 was.1) (was.2.index ∙ s.places p.room was.0 was.1) here.1 (sound_keeps w s p.room was.0 was.1).begun b none
      ]
    where
      old : (k : ℕ) (room : Room) (o : Object) → slice_get w.rooms k ≡ Some room → Holds (part_stored room) id o → HasNoBirth (world_of after) id → ⊥
      old k room o at h none = s.rules rules.Serial id (λ e. cc) (λ e. cc) (record { room = k; object = o }, stood k id room o at h, unborn none)
        where
          later : (birth : ℕ) (frame : Frame) (found : Option Room) → slice_get w.rooms birth ≡ found → IsRoom (world_of w) birth frame → ((next : Frame) → IsRoom (world_of after) birth next → next.next ≤ id % 2 ^ 32) → frame.next ≤ id % 2 ^ 32
          later birth frame None is there all = absurd (no_frame (frame_stored w birth ∙ ap (option_map (λ (r : Room). (listed_room r).frame)) is) there)
            where
              no_frame : {found : Option Frame} → found ≡ None → found ≡ Some frame → ⊥
              no_frame none some = cc
          later birth frame (Some room) is there all =
              let mate = goes birth room is in
              let rises : room.table.next ≤ mate.0.table.next = mate.2.follows.serial in
              let most : mate.0.table.next ≤ id % 2 ^ 32 = all (listed_room mate.0).frame (frame_at after birth mate.0 mate.1) in
              let same : frame.next ≡ room.table.next = ap (λ (f : Frame). f.next) (same_frame frame (listed_room room).frame (get (world_of w).rooms birth) there (frame_at w birth room is)) in
              omega arith

          unborn : HasNoBirth (world_of after) id → HasNoBirth (world_of w) id
          unborn (inl all) = inl (λ frame there. later (id / 2 ^ 32) frame (slice_get w.rooms (id / 2 ^ 32)) refl there all)
          unborn (inr zeroth) = inr zeroth

      new : (room mate : Room) → room.table.index ≡ p.room → mate.table.index ≡ p.room → slice_get after.rooms p.room ≡ Some mate → 1 ≤ room.table.next → IsNew (part_stored room) mate.table.next id → HasNoBirth (world_of after) id → ⊥
      new room mate place now at begun is (inl all) =
          let serial : id % 2 ^ 32 ≡ is.0 = omega (arith, is.1, is.4) in
          let here : id / 2 ^ 32 ≡ p.room = omega (arith, is.1, is.4, place) in
          let most : mate.table.next ≤ id % 2 ^ 32 = all (listed_room mate).frame (subst (λ (n : ℕ). IsRoom (world_of after) n (listed_room mate).frame) (sym here) (frame_at after p.room mate at)) in
          let less : is.0 < mate.table.next = is.3 in
          omega arith
      new room mate place now at begun is (inr zeroth) =
          let serial : id % 2 ^ 32 ≡ is.0 = omega (arith, is.1, is.4) in
          let least : room.table.next ≤ is.0 = is.2 in
          omega arith

-- Rooms that follow those of a sound world, at any stage of a tick, have each id once.
pub followed_once : (w after : Stored) → IsSound w → (stage : Stage) → (players : ℕ → Bool) → FollowRooms players stage w after → AreIdsOnce after.rooms
followed_once w after sound stage players follow = once_after w after sound stage players follow

-- Between ticks the second world is sound too.
pub followed_sound : (w after : Stored) → IsSound w → FollowRooms (is_player (world_of w)) between w after → KeepsPlayers w after → IsSound after
followed_sound w after sound follow accounts = kept_sound w after sound (record {
  frames = λ k mate at. (let was = came w after sound between (is_player (world_of w)) follow k mate at in (was.0, was.1, was.2.name, was.2.terrain, was.2.index));
  rising = λ k mate at. (came w after sound between (is_player (world_of w)) follow k mate at).2.rising;
  keeps = λ k mate at. (came w after sound between (is_player (world_of w)) follow k mate at).2.keeps;
  once = followed_once w after sound between (is_player (world_of w)) follow;
  born = no_birth w after sound between (is_player (world_of w)) follow;
}) accounts
