-- A sound world stays sound where a creep goes to another room.
use Rattle.std.proofs.Common.{◌≡◌, ◌≢◌, ◌⊎◌, inl, inr, ℕ, zero, suc, ◌+◌, ◌/◌, ◌^◌, ◌<◌, ◌≤◌, ◌==◌, not, nat_lt, Bool, true, false, cond, List, [], ◌∷◌, ◌++◌, Option, Some, option_map, slice_get, slice_set, refl, sym, ap, subst, ◌∙◌, arith}
use Rattle.std.specs.List.{AllByRecursion, filter, sum_by}
use Rattle.std.specs.FinMap.{get}
use Rattle.std.proofs.lemmas.Bool.{cases_eq, eqb-true, ltb-true}
use Rattle.std.proofs.lemmas.List.Sums.{sum_by-cons, sum_by-append}
use Rattle.game_tables.specs.Kinds.{clash, is_controller, is_creep, is_pile, is_source}
use Rattle.game_tables.specs.declared.kind.Kind.{Kind}
use Rattle.game_tables.specs.declared.kind.Kind.TheVariants.{Creep, Pile}
use Rattle.room_terrain.specs.Tiles.{IsBorder}
use Rattle.room_table.specs.declared.object.Object.{Object}
use Rattle.object_store.specs.declared.world.Room.{Room}
use Rattle.room_table.specs.Tables.{IsRising, find_object, first_on, with_new, without}
use Rattle.object_store.specs.Stored.{Stored}
use Rattle.room_table.proofs.Rising.{all_filter, all_weaker}
use Rattle.world_rules.specs.World.{Placed, Frame, listed_room, world_of}
use Rattle.world_rules.specs.RoomParts.{RoomPart}
use Rattle.world_rules.specs.Changes.{without as without_in_part}
use Rattle.world_rules.specs.Rules.{Stands, HasNoBirth, IsOnWrongTile, IsCreep}
use Rattle.world_rules.specs.declared.rule.Rule.TheVariants as rules
use Rattle.world_rules.specs.Sound.{IsSound}
use Rattle.world_rules.proofs.Lifting.{AreIdsOnce, times_in, times_room, times_rooms, frame_stored}
use Rattle.world_rules.proofs.Same.{once, tables_at}
use Rattle.world_rules.proofs.TableParts.{get_table_part, part_new, part_values, part_without, put_in_part}
use Rattle.room_rules.specs.Within.{between, IsInRangeIn}
use Rattle.room_rules.specs.RoomRules.{Holds, KeepsRoomRules, is_player}
use Rattle.room_rules.specs.Followed.{part_stored}
use Rattle.room_rules.specs.Crossed.{left_by, entered_by, HasCrossed}
use Rattle.room_rules.proofs.Keeps.{Joins, keeps_joined, keeps_without, put_or_before}
use Rattle.room_rules.proofs.Falls.{is_creep_kind}
use Rattle.room_rules.proofs.Sound.{born_of, sound_keeps, stands}
use Rattle.room_rules.proofs.Rooms.{in_room, kept_sound}
use Rattle.room_rules.proofs.Changed.{left_without}
use Rattle.room_rules.proofs.Built.{no_creep}

-- ---- a room in the place of another

set_here : (rooms : List Room) (k : ℕ) (was now : Room) → slice_get rooms k ≡ Some was → slice_get (slice_set rooms k now) k ≡ Some now
set_here [] k was now is = absurd (cc)
set_here (first ∷ rooms) zero was now is = refl
set_here (first ∷ rooms) (suc k) was now is = set_here rooms k was now is

set_there : (rooms : List Room) (j k : ℕ) (now : Room) → j ≢ k → slice_get (slice_set rooms k now) j ≡ slice_get rooms j
set_there [] j k now apart = refl
set_there (first ∷ rooms) zero zero now apart = absurd (apart refl)
set_there (first ∷ rooms) zero (suc k) now apart = refl
set_there (first ∷ rooms) (suc j) zero now apart = refl
set_there (first ∷ rooms) (suc j) (suc k) now apart = set_there rooms j k now (λ same. apart (ap suc same))

sum_set : (f : Room → ℕ) (rooms : List Room) (k : ℕ) (was now : Room) → slice_get rooms k ≡ Some was → sum_by f (slice_set rooms k now) + f was ≡ sum_by f rooms + f now
sum_set f [] k was now is = absurd (cc)
sum_set f (first ∷ rooms) zero was now is =
    let same : first ≡ was = cc in
    omega (arith, sum_by-cons f first rooms, sum_by-cons f now rooms, ap f same)
sum_set f (first ∷ rooms) (suc k) was now is =
    omega (arith, sum_by-cons f first rooms, sum_by-cons f first (slice_set rooms k now), sum_set f rooms k was now is)

abbrev frame_in : Option Room → Option Frame
frame_in found = option_map (λ (room : Room). (listed_room room).frame) found

frames_set : (rooms : List Room) (k : ℕ) (was now : Room) → slice_get rooms k ≡ Some was → (listed_room now).frame ≡ (listed_room was).frame → (j : ℕ) → frame_in (slice_get (slice_set rooms k now) j) ≡ frame_in (slice_get rooms j)
frames_set [] k was now is same j = absurd (cc)
frames_set (first ∷ rooms) zero was now is same zero = (let one : was ≡ first = cc in ap Some same ∙ ap (λ (room : Room). Some (listed_room room).frame) one)
frames_set (first ∷ rooms) zero was now is same (suc j) = refl
frames_set (first ∷ rooms) (suc k) was now is same zero = refl
frames_set (first ∷ rooms) (suc k) was now is same (suc j) = frames_set rooms k was now is same j

-- ---- how often ids stand

times_head : (id : ℕ) (o : Object) (objects : List Object) → times_in id (o ∷ objects) ≡ cond {A = ℕ} (o.id == id) 1 0 + times_in id objects
times_head id o objects = sum_by-cons (λ (p : Object). cond {A = ℕ} (p.id == id) 1 0) o objects

found_times : (id : ℕ) (objects : List Object) (o : Object) → find_object id objects ≡ Some o → 1 ≤ times_in id objects
found_times id [] o is = absurd (cc)
found_times id (first ∷ objects) o is =
    elim (first.id == id) as (λ b. (first.id == id) ≡ b → cond b (Some first) (find_object id objects) ≡ Some o → 1 ≤ times_in id (first ∷ objects)) [
      | true ↦ λ same got. omega (arith, times_head id first objects, ap (λ (b : Bool). cond {A = ℕ} b 1 0) same)
      | false ↦ λ apart got. omega (arith, times_head id first objects, found_times id objects o got)
    ] refl is

filter_times : (id : ℕ) (test : Object → Bool) (objects : List Object) → times_in id (filter test objects) ≤ times_in id objects
filter_times id test [] = omega arith
filter_times id test (o ∷ objects) =
    let rest = filter_times id test objects in
    elim (test o) as (λ b. times_in id (cond b (o ∷ filter test objects) (filter test objects)) ≤ times_in id (o ∷ objects)) [
      | true ↦ omega (arith, rest, times_head id o objects, times_head id o (filter test objects))
      | false ↦ omega (arith, rest, times_head id o objects)
    ]

gone_times : (id : ℕ) (objects : List Object) → times_in id (without id objects) ≡ 0
gone_times id [] = refl
gone_times id (o ∷ objects) =
    let rest = gone_times id objects in
    elim (o.id == id) as (λ b. (o.id == id) ≡ b → times_in id (cond (not b) (o ∷ without id objects) (without id objects)) ≡ 0) [
      | true ↦ λ is. rest
      | false ↦ λ is. omega (arith, rest, times_head id o (without id objects), ap (λ (b : Bool). cond {A = ℕ} b 1 0) is)
    ] refl

-- those below a number and those above are no more than all
parted_times : (id n : ℕ) (objects : List Object) → times_in id (filter (λ o. nat_lt o.id n) objects) + times_in id (filter (λ o. nat_lt n o.id) objects) ≤ times_in id objects
parted_times id n [] = omega arith
parted_times id n (o ∷ objects) =
    let low : List Object = filter (λ p. nat_lt p.id n) objects in
    let high : List Object = filter (λ p. nat_lt n p.id) objects in
    let rest : times_in id low + times_in id high ≤ times_in id objects = parted_times id n objects in
    elim (nat_lt o.id n) as (λ b. nat_lt o.id n ≡ b → times_in id (cond b (o ∷ low) low) + times_in id (cond (nat_lt n o.id) (o ∷ high) high) ≤ times_in id (o ∷ objects)) [
      | true ↦ λ below. elim (nat_lt n o.id) as (λ c. nat_lt n o.id ≡ c → times_in id (o ∷ low) + times_in id (cond c (o ∷ high) high) ≤ times_in id (o ∷ objects)) [
        | true ↦ λ above. (let less : o.id < n = ltb-true o.id n below in let more : n < o.id = ltb-true n o.id above in absurd (omega (arith, less, more)))
        | false ↦ λ other. omega (arith, rest, times_head id o objects, times_head id o low)
      ] refl
      | false ↦ λ other. elim (nat_lt n o.id) as (λ c. times_in id low + times_in id (cond c (o ∷ high) high) ≤ times_in id (o ∷ objects)) [
        | true ↦ omega (arith, rest, times_head id o objects, times_head id o high)
        | false ↦ omega (arith, rest, times_head id o objects)
      ]
    ] refl

new_times : (id : ℕ) (object : Object) (objects : List Object) → times_in id (with_new object objects) ≤ times_in id objects + cond {A = ℕ} (object.id == id) 1 0
new_times id object objects =
    let low : List Object = filter (λ o. nat_lt o.id object.id) objects in
    let high : List Object = filter (λ o. nat_lt object.id o.id) objects in
    omega (arith, parted_times id object.id objects, times_head id object high, sum_by-append (λ (p : Object). cond {A = ℕ} (p.id == id) 1 0) low (object ∷ high))

-- an object that goes from one table to another makes no id stand more often
both_times : (id : ℕ) (objects more : List Object) (old object : Object) → find_object object.id objects ≡ Some old → times_in id (without object.id objects) + times_in id (with_new object more) ≤ times_in id objects + times_in id more
both_times id objects more old object stood =
    let new = new_times id object more in
    elim (object.id == id) as (λ b. (object.id == id) ≡ b → times_in id (without object.id objects) + times_in id (with_new object more) ≤ times_in id objects + times_in id more) [
      | true ↦ λ is.
          let same : object.id ≡ id = eqb-true object.id id is in
          let none : times_in id (without object.id objects) ≡ 0 = subst (λ (n : ℕ). times_in id (without n objects) ≡ 0) (sym same) (gone_times id objects) in
          let some : 1 ≤ times_in id objects = subst (λ (n : ℕ). 1 ≤ times_in n objects) same (found_times object.id objects old stood) in
          omega (arith, none, some, new, ap (λ (b : Bool). cond {A = ℕ} b 1 0) is)
      | false ↦ λ is. omega (arith, filter_times id (λ o. not (o.id == object.id)) objects, new, ap (λ (b : Bool). cond {A = ℕ} b 1 0) is)
    ] refl

-- ---- tables that rise

filter_rises : (test : Object → Bool) (objects : List Object) → IsRising objects → IsRising (filter test objects)
filter_rises test [] rise = tt
filter_rises test (o ∷ objects) rise =
    elim (test o) as (λ b. IsRising (cond b (o ∷ filter test objects) (filter test objects))) [
      | true ↦ (all_filter (λ later. o.id < later.id) test objects rise.0, filter_rises test objects rise.1)
      | false ↦ filter_rises test objects rise.1
    ]

-- all that a filter leaves pass its test
filter_passes : (P : Object → Type 0) (test : Object → Bool) → ((o : Object) → test o ≡ true → P o) → (objects : List Object) → AllByRecursion P (filter test objects)
filter_passes P test passes [] = tt
filter_passes P test passes (o ∷ objects) =
    elim (test o) as (λ b. test o ≡ b → AllByRecursion P (cond b (o ∷ filter test objects) (filter test objects))) [
      | true ↦ λ is. (passes o is, filter_passes P test passes objects)
      | false ↦ λ is. filter_passes P test passes objects
    ] refl

all_joined : (P : Object → Type 0) (one other : List Object) → AllByRecursion P one → AllByRecursion P other → AllByRecursion P (one ++ other)
all_joined P [] other all more = more
all_joined P (o ∷ one) other all more = (all.0, all_joined P one other all.1 more)

-- objects below a number, and then others from there on
joined_rises : (n : ℕ) (one other : List Object) → IsRising one → IsRising other → AllByRecursion (λ o. o.id < n) one → AllByRecursion (λ o. n ≤ o.id) other → IsRising (one ++ other)
joined_rises n [] other rise also below above = also
joined_rises n (o ∷ one) other rise also below above = (
  all_joined (λ later. o.id < later.id) one other rise.0 (all_weaker (λ later. n ≤ later.id) (λ later. o.id < later.id) (λ later most. (let less : o.id < n = below.0 in omega (arith, most, less))) other above),
  joined_rises n one other rise.1 also below.1 above,
)

new_rises : (object : Object) (objects : List Object) → IsRising objects → IsRising (with_new object objects)
new_rises object objects rise =
    let high : List Object = filter (λ o. nat_lt object.id o.id) objects in
    let above : AllByRecursion (λ o. object.id < o.id) high = filter_passes (λ o. object.id < o.id) (λ o. nat_lt object.id o.id) (λ o is. ltb-true object.id o.id is) objects in
    joined_rises object.id (filter (λ o. nat_lt o.id object.id) objects) (object ∷ high)
    (filter_rises (λ o. nat_lt o.id object.id) objects rise)
    (above, filter_rises (λ o. nat_lt object.id o.id) objects rise)
    (filter_passes (λ o. o.id < object.id) (λ o. nat_lt o.id object.id) (λ o is. ltb-true o.id object.id is) objects)
    (omega arith, all_weaker (λ o. object.id < o.id) (λ o. object.id ≤ o.id) (λ o less. omega (arith, less)) high above)

-- ---- what may stand on a border tile

border_kind : (k : Kind) → clash Creep k ≡ true → (is_creep k ≡ true) ⊎ ((is_creep k ≡ false) × (is_pile k ≡ false))
border_kind Creep is = inl refl
border_kind Pile is = absurd (cc)
border_kind k is = inr (refl, refl)

border_kind_turned : (k : Kind) → clash k Creep ≡ true → (is_creep k ≡ true) ⊎ ((is_creep k ≡ false) × (is_pile k ≡ false))
border_kind_turned Creep is = inl refl
border_kind_turned Pile is = absurd (cc)
border_kind_turned k is = inr (refl, refl)

creep_fields : (x y : ℕ) (o : Object) → IsCreep o → IsCreep (record o { x = x; y = y })
creep_fields x y o s = record { owner = s.owner; hits = s.hits; energy = s.energy; timer = s.timer; extra = s.extra; progress = s.progress; other = s.other; other_ticks = s.other_ticks; some_parts = s.some_parts; parts = s.parts }

creep_moved : (x y : ℕ) (k : Kind) (o : Object) → is_creep k ≡ true → IsInRangeIn k between o → IsInRangeIn k between (record o { x = x; y = y })
creep_moved x y Creep o is r = creep_fields x y o r
creep_moved x y k o is r = absurd (cc)

creep_free : (k : Kind) → is_creep k ≡ true → (is_source k ≡ false) × (is_controller k ≡ false)
creep_free Creep is = (refl, refl)
creep_free k is = absurd (cc)

-- ---- the world after a creep went

module _ (w old : Stored) (s : IsSound w) (c : HasCrossed w old) where
  abbrev players : ℕ → Bool
  players = is_player (world_of w)

  abbrev gone : Room
  gone = left_by c.creep.id c.was

  abbrev came : Object
  came = record c.creep { x = c.x; y = c.y }

  abbrev now : Room
  now = entered_by came c.other

  abbrev first : List Room
  first = slice_set w.rooms c.from gone

  abbrev after : Stored
  after = record w { rooms = slice_set first c.to now }

  entered : slice_get first c.to ≡ Some c.other
  entered = set_there w.rooms c.to c.from gone (λ same. c.apart (sym same)) ∙ c.entered

  -- ---- its rooms

  abbrev Mate : ℕ → Room → Type 0
  Mate k mate = ((k ≡ c.to) × (mate ≡ now)) ⊎ (((k ≡ c.from) × (mate ≡ gone)) ⊎ (slice_get w.rooms k ≡ Some mate))

  only : (one other : Room) (found : Option Room) → found ≡ Some one → found ≡ Some other → one ≡ other
  only one other found is at = cc

  mate_of : (k : ℕ) (mate : Room) → slice_get after.rooms k ≡ Some mate → Mate k mate
  mate_of k mate at = elim (cases_eq k c.to) [
    | inl to ↦ inl (to, only mate now (slice_get after.rooms k) at (ap (slice_get after.rooms) to ∙ set_here first c.to c.other now entered))
    | inr apart ↦
        let at_first : slice_get first k ≡ Some mate = sym (set_there first k c.to now apart) ∙ at in
        elim (cases_eq k c.from) [
          | inl from ↦ inr (inl (from, only mate gone (slice_get first k) at_first (ap (slice_get first) from ∙ set_here w.rooms c.from c.was gone c.left)))
          | inr elsewhere ↦ inr (inr (sym (set_there w.rooms k c.from gone elsewhere) ∙ at_first))
        ]
  ]

  abbrev Framed : ℕ → Room → Type 0
  Framed k mate = (room : Room) × (slice_get w.rooms k ≡ Some room) × (mate.name ≡ room.name) × (mate.terrain ≡ room.terrain) × (mate.table.index ≡ room.table.index)

  framed : (k : ℕ) (mate : Room) → Mate k mate → Framed k mate
  framed k mate (inl h) = (c.other, ap (slice_get w.rooms) h.0 ∙ c.entered, ap (λ (r : Room). r.name) h.1, ap (λ (r : Room). r.terrain) h.1, ap (λ (r : Room). r.table.index) h.1)
  framed k mate (inr (inl h)) = (c.was, ap (slice_get w.rooms) h.0 ∙ c.left, ap (λ (r : Room). r.name) h.1, ap (λ (r : Room). r.terrain) h.1, ap (λ (r : Room). r.table.index) h.1)
  framed k mate (inr (inr h)) = (mate, h, refl, refl, refl)

  rising : (k : ℕ) (mate : Room) → Mate k mate → IsRising mate.table.objects
  rising k mate (inl h) = subst (λ (r : Room). IsRising r.table.objects) (sym h.1) (new_rises came c.other.table.objects (tables_at w.rooms c.to c.other s.tables c.entered))
  rising k mate (inr (inl h)) = subst (λ (r : Room). IsRising r.table.objects) (sym h.1) (filter_rises (λ o. not (o.id == c.creep.id)) c.was.table.objects (tables_at w.rooms c.from c.was s.tables c.left))
  rising k mate (inr (inr h)) = tables_at w.rooms k mate s.tables h

  -- ---- each keeps its rules

  was_keeps : KeepsRoomRules players between (part_stored c.was)
  was_keeps = sound_keeps w s c.from c.was c.left

  other_keeps : KeepsRoomRules players between (part_stored c.other)
  other_keeps = sound_keeps w s c.to c.other c.entered

  stood : Holds (part_stored c.was) c.creep.id c.creep
  stood = get_table_part c.was.terrain c.was.table c.creep.id ∙ c.stood

  kind : c.creep.kind ≡ Creep
  kind = is_creep_kind c.creep.kind c.kind

  gone_keeps : KeepsRoomRules players between (part_stored gone)
  gone_keeps = subst (KeepsRoomRules players between) (sym (part_without c.was.terrain c.was.table c.creep.id)) (keeps_without players between (part_stored c.was) was_keeps c.creep.id)

  nobody : (m : ℕ) (q : Object) → Holds (part_stored c.other) m q → is_creep q.kind ≡ true → q.x ≡ c.x → q.y ≡ c.y → ⊥
  nobody m q h creep x y =
      no_creep (part_stored c.other) c.x c.y m q
      (ap (first_on c.x c.y Creep) (part_values c.other.terrain c.other.table (tables_at w.rooms c.to c.other s.tables c.entered)) ∙ c.free)
      h creep x y

  beside : (m : ℕ) (q : Object) → Holds (part_stored c.other) m q → q.x ≡ c.x → q.y ≡ c.y → (is_creep q.kind ≡ true) ⊎ ((is_creep q.kind ≡ false) × (is_pile q.kind ≡ false)) → ⊥
  beside m q h x y (inl creep) = nobody m q h creep x y
  beside m q h x y (inr neither) = other_keeps.tiles m q h (inr (neither.0, neither.1, subst (λ (n : ℕ). IsBorder n q.y) (sym x) (subst (λ (n : ℕ). IsBorder c.x n) (sym y) c.border)))

  right_tile : IsOnWrongTile c.other.terrain came → ⊥
  right_tile (inl h) = c.passable h.2
  right_tile (inr h) = (let creep = c.kind in let none = h.0 in absurd (cc))

  joins : Joins players between (part_stored c.other) c.other.table.next came
  joins = record {
    born = λ at. born_of w s c.to c.other c.entered c.creep.id (record { room = c.from; object = c.creep }) (stands w s c.from c.was c.left c.creep.id c.creep stood) at;
    inside = record { column = c.column; row = c.row };
    tile = right_tile;
    alone = λ m q h x y. (
      (λ clashes. beside m q h x y (border_kind q.kind (ap (λ (k : Kind). clash k q.kind) (sym kind) ∙ clashes))),
      (λ clashes. beside m q h x y (border_kind_turned q.kind (ap (clash q.kind) (sym kind) ∙ clashes))),
    );
    owner = let right = was_keeps.owners c.creep.id c.creep stood in record { owner = right.owner; other = right.other };
    controller = (creep_free c.creep.kind c.kind).1;
    range = λ out. was_keeps.ranges c.creep.id c.creep stood (λ r. out (creep_moved c.x c.y c.creep.kind c.creep c.kind r));
  }

  now_keeps : KeepsRoomRules players between (part_stored now)
  now_keeps = subst (KeepsRoomRules players between) (sym (part_new c.other.terrain c.other.table came)) (keeps_joined players between (part_stored c.other) other_keeps c.other.table.next (omega arith) came joins)

  keeps : (k : ℕ) (mate : Room) → slice_get after.rooms k ≡ Some mate → Mate k mate → KeepsRoomRules players between (part_stored mate)
  keeps k mate at (inl h) = subst (λ (r : Room). KeepsRoomRules players between (part_stored r)) (sym h.1) now_keeps
  keeps k mate at (inr (inl h)) = subst (λ (r : Room). KeepsRoomRules players between (part_stored r)) (sym h.1) gone_keeps
  keeps k mate at (inr (inr h)) = sound_keeps w s k mate h

  -- ---- ids

  once_after : AreIdsOnce after.rooms
  once_after id =
      omega (
        arith,
        once w s id,
        times_rooms id 0 w.rooms,
        times_rooms id 0 after.rooms,
        sum_set (times_room id) w.rooms c.from c.was gone c.left,
        sum_set (times_room id) first c.to c.other now entered,
        both_times id c.was.table.objects c.other.table.objects c.creep came c.stood,
      )

  -- what stands in the world stood in it
  abbrev Stood : ℕ → Type 0
  Stood id = (p : Placed) × Stands (world_of w) id p

  stood_in : (id k : ℕ) (mate : Room) (o : Object) → Mate k mate → Holds (part_stored mate) id o → Stood id
  stood_in id k mate o (inl h) holds =
      let here : Holds (put_in_part came (part_stored c.other)) id o = subst (λ (p : RoomPart). Holds p id o) (part_new c.other.terrain c.other.table came) (subst (λ (r : Room). Holds (part_stored r) id o) h.1 holds) in
      put_or_before (part_stored c.other) c.creep.id came id o here
      (λ at one. (record { room = c.from; object = c.creep }, subst (λ (n : ℕ). Stands (world_of w) n (record { room = c.from; object = c.creep })) (sym at) (stands w s c.from c.was c.left c.creep.id c.creep stood)))
      (λ before. (record { room = c.to; object = o }, stands w s c.to c.other c.entered id o before))
  stood_in id k mate o (inr (inl h)) holds =
      let here : Holds (without_in_part c.creep.id (part_stored c.was)) id o = subst (λ (p : RoomPart). Holds p id o) (part_without c.was.terrain c.was.table c.creep.id) (subst (λ (r : Room). Holds (part_stored r) id o) h.1 holds) in
      (record { room = c.from; object = o }, stands w s c.from c.was c.left id o (left_without (part_stored c.was) c.creep.id id o here).1)
  stood_in id k mate o (inr (inr h)) holds = (record { room = k; object = o }, stands w s k mate h id o holds)

  same_frames : (k : ℕ) → get (world_of after).rooms k ≡ get (world_of w).rooms k
  same_frames k =
      frame_stored after k
      ∙ frames_set first c.to c.other now entered refl k
      ∙ frames_set w.rooms c.from c.was gone c.left refl k
      ∙ sym (frame_stored w k)

  unborn : (id : ℕ) → HasNoBirth (world_of after) id → HasNoBirth (world_of w) id
  unborn id (inl all) = inl (λ frame there. all frame (same_frames (id / 2 ^ 32) ∙ there))
  unborn id (inr zeroth) = inr zeroth

  no_birth : (id : ℕ) (p : Placed) → Stands (world_of after) id p → HasNoBirth (world_of after) id → ⊥
  no_birth id p there none =
      let here = in_room after once_after id p there in
      let was = stood_in id p.room here.0 p.object (mate_of p.room here.0 here.1) here.2 in
      s.rules rules.Serial id (λ e. cc) (λ e. cc) (was.0, was.1, unborn id none)

  crossed_world : IsSound after
  crossed_world = kept_sound w after s (record {
    frames = λ k mate at. framed k mate (mate_of k mate at);
    rising = λ k mate at. rising k mate (mate_of k mate at);
    keeps = λ k mate at. keeps k mate at (mate_of k mate at);
    once = once_after;
    born = no_birth;
  }) (record { rising = s.accounts; players = λ player is. is; fewer = λ player. omega arith })

-- The world is sound after a creep went to another room.
pub crossed_sound : (stored after : Stored) → IsSound stored → HasCrossed stored after → IsSound after
crossed_sound stored after sound crossed = subst IsSound (sym crossed.crossed) (crossed_world stored after sound crossed)
