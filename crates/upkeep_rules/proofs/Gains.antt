-- The gains of spawns.
use Rattle.std.proofs.Common.{◌≡◌, ℕ, zero, suc, ◌+◌, ◌<◌, ◌≤◌, ◌==◌, ◌&&◌, min, Bool, true, false, cond, if◌then◌else◌, nat_lt, List, [], ◌∷◌, ◌++◌, length, take, drop, Option, Some, None, slice_get, refl, sym, ap, subst, ◌∙◌, arith}
use Rattle.std.specs.List.{AllByRecursion, filter, sum_by}
use Rattle.std.specs.FinMap.{values}
use Rattle.std.proofs.lemmas.Bool.{eq-eqb, le-ltb, lt-ltb, ltb-true}
use Rattle.std.proofs.lemmas.List.Sums.{sum_by-cons}
use Rattle.game_tables.specs.declared.kind.Kind.{Kind}
use Rattle.game_tables.specs.declared.kind.Kind.TheVariants.{Spawn}
use Rattle.room_terrain.specs.declared.terrain.Ground.{Ground}
use Rattle.room_table.specs.declared.object.Object.{Object}
use Rattle.room_table.specs.Tables.{Table, IsOnTile, IsRising, find_object, with_object}
use Rattle.world_rules.specs.RoomParts.{RoomPart, table_part}
use Rattle.world_rules.specs.Changes.{with_object as with_in_part}
use Rattle.world_rules.specs.Steps.{by_object, over_ids}
use Rattle.world_rules.specs.Upkeep.{filled, filled_as, spawn_capacity}
use Rattle.world_rules.specs.Spawns.{held_by, holds_for_creeps}
use Rattle.world_rules.proofs.TableParts.{get_table_part, part_replaced, part_values, tiles_replaced}
use Rattle.upkeep_rules.specs.declared.filling.Held.{Held}
use Rattle.upkeep_rules.specs.inner.Filled.{gains, has_room, IsFilled, IsFilledTo, IsKnown}
use Rattle.upkeep_rules.specs.inner.Worn.{ahead, ids_of}
use Rattle.upkeep_rules.proofs.Passing.{all_read, found_there, replaced_middle}
use Rattle.upkeep_rules.proofs.Split.{cut_at, drop_at, front_long}
use Rattle.upkeep_rules.proofs.Turns.{keys_of_table, nothing_ahead}

-- ---- what an owner holds

-- what an object holds for an owner
abbrev pub holds_of : ℕ → Object → ℕ
holds_of owner object = if holds_for_creeps object.kind && (object.owner == owner) then object.energy else 0

pub held_more : (owner : ℕ) (object : Object) (objects : List Object) → held_by owner (object ∷ objects) ≡ holds_of owner object + held_by owner objects
held_more owner object objects =
    let some : List Object = filter (λ (o : Object). holds_for_creeps o.kind && (o.owner == owner)) objects in
    elim (holds_for_creeps object.kind && (object.owner == owner)) as (λ b. sum_by (λ (o : Object). o.energy) (cond b (object ∷ some) some) ≡ (if b then object.energy else 0) + held_by owner objects) [
      | true ↦ sum_by-cons (λ (o : Object). o.energy) object some
      | false ↦ omega arith
    ]

held_joined : (owner : ℕ) (xs ys : List Object) → held_by owner (xs ++ ys) ≡ held_by owner xs + held_by owner ys
held_joined owner [] ys = omega arith
held_joined owner (x ∷ xs) ys = omega (arith, held_more owner x (xs ++ ys), held_more owner x xs, held_joined owner xs ys)

spawn_holds : (kind : Kind) → kind ≡ Spawn → holds_for_creeps kind ≡ true
spawn_holds kind is = ap holds_for_creeps is

-- ---- one gain

none_gains : (kind : Kind) (object : Object) (part : RoomPart) → has_room kind object.energy ≡ false → filled_as kind object part ≡ part
none_gains Spawn object part none = ap (λ (b : Bool). if b && nat_lt (held_by object.owner (values part.objects)) spawn_capacity then with_in_part (record object { energy = object.energy + 1 }) part else part) none
none_gains kind object part none = refl

-- what has room
is_spawn : (kind : Kind) (energy : ℕ) → has_room kind energy ≡ true → (kind ≡ Spawn) × (energy < 300)
is_spawn Spawn energy some = (refl, ltb-true energy 300 some)
is_spawn kind energy some = absurd (cc)

spawn_gains : (spawn : Object) (part : RoomPart) → spawn.kind ≡ Spawn → gains spawn part ≡ filled_as Spawn spawn part
spawn_gains spawn part is = ap (λ (k : Kind). filled_as k spawn part) is

gain_by : Bool → Object → RoomPart → RoomPart
gain_by b spawn part = if b then with_in_part (record spawn { energy = spawn.energy + 1 }) part else part

full_and : (a b : Bool) → b ≡ false → (a && b) ≡ false
full_and true b is = is
full_and false b is = refl

module _ (place : ℕ) (old : Table) (object : Object) (at : slice_get old.objects place ≡ Some object) (rise : IsRising old.objects) (tiles : AllByRecursion IsOnTile old.objects) where
  -- the table stays
  filled_none : ((grounds : List Ground) → gains object (table_part grounds old) ≡ table_part grounds old) → IsFilled place old old
  filled_none same = record {
    table = refl;
    tiles = tiles;
    many = refl;
    ahead = refl;
    rule = λ grounds. sym (ap (by_object gains (table_part grounds old)) at ∙ same grounds);
  }

  pub filled_other : has_room object.kind object.energy ≡ false → IsFilled place old old
  filled_other none = filled_none (λ grounds. none_gains object.kind object (table_part grounds old) none)

  pub filled_held : 300 ≤ held_by object.owner old.objects → has_room object.kind object.energy ≡ true → IsFilled place old old
  filled_held full has = let is : object.kind ≡ Spawn = (is_spawn object.kind object.energy has).0 in filled_none (λ grounds.
      spawn_gains object (table_part grounds old) is
      ∙ ap (λ (b : Bool). if b then with_in_part (record object { energy = object.energy + 1 }) (table_part grounds old) else table_part grounds old)
      (full_and (nat_lt object.energy spawn_capacity) (nat_lt (held_by object.owner (values (table_part grounds old).objects)) spawn_capacity)
      (ap (λ (xs : List Object). nat_lt (held_by object.owner xs) spawn_capacity) (part_values grounds old rise) ∙ le-ltb (held_by object.owner old.objects) 300 full)))

  abbrev more : Object
  more = record object { energy = object.energy + 1 }

  abbrev raised : Table
  raised = record old { objects = with_object more old.objects }

  pub found_here : find_object object.id old.objects ≡ Some object
  found_here = found_there old.objects place object object.id rise at refl

  pub more_on_tile : IsOnTile more
  more_on_tile = let on = all_read IsOnTile old.objects place object tiles at in record { column = on.column; row = on.row }

  whole : old.objects ≡ take place old.objects ++ object ∷ drop (suc place) old.objects
  whole = cut_at old.objects place object at

  raised_objects : with_object more old.objects ≡ take place old.objects ++ more ∷ drop (suc place) old.objects
  raised_objects = ap (with_object more) whole ∙ replaced_middle (take place old.objects) object (drop (suc place) old.objects) (subst IsRising whole rise) more refl

  ahead_raised : ahead (place + 1) raised ≡ ahead (place + 1) old
  ahead_raised =
      let next : place + 1 ≡ suc (length (take place old.objects)) = omega (arith, front_long old.objects place object at) in
      ap (drop (place + 1)) raised_objects ∙ ap (λ (n : ℕ). drop n (take place old.objects ++ more ∷ drop (suc place) old.objects)) next ∙ behind (take place old.objects) more (drop (suc place) old.objects) ∙ ap (λ (n : ℕ). drop n old.objects) (sym after_place)
    where
      after_place : place + 1 ≡ suc place
      after_place = omega arith

      behind : (xs : List Object) (x : Object) (ys : List Object) → drop (suc (length xs)) (xs ++ x ∷ ys) ≡ ys
      behind [] x ys = refl
      behind (first ∷ xs) x ys = behind xs x ys

  filled_by : object.kind ≡ Spawn → object.energy < 300 → held_by object.owner old.objects < 300 → IsFilled place old raised
  filled_by is room few = record {
    table = refl;
    tiles = tiles_replaced more old.objects more_on_tile tiles;
    many = long_map old.objects;
    ahead = ahead_raised;
    rule = λ grounds.
        part_replaced grounds old more (object, found_here)
        ∙ sym (
        ap (by_object gains (table_part grounds old)) at
        ∙ spawn_gains object (table_part grounds old) is
        ∙ ap (λ (b : Bool). if b && nat_lt (held_by object.owner (values (table_part grounds old).objects)) spawn_capacity then with_in_part more (table_part grounds old) else table_part grounds old) (lt-ltb object.energy 300 room)
        ∙ ap (λ (b : Bool). if b then with_in_part more (table_part grounds old) else table_part grounds old) (ap (λ (xs : List Object). nat_lt (held_by object.owner xs) spawn_capacity) (part_values grounds old rise) ∙ lt-ltb (held_by object.owner old.objects) 300 few)
        );
  }
    where
      long_map : (xs : List Object) → length (with_object more xs) ≡ length xs
      long_map [] = refl
      long_map (x ∷ xs) = ap suc (long_map xs)

  pub filled_more : has_room object.kind object.energy ≡ true → held_by object.owner old.objects < 300 → (new : Table) → new ≡ raised → IsFilled place old new
  filled_more has few new new_is = let both = is_spawn object.kind object.energy has in subst (IsFilled place old) (sym new_is) (filled_by both.0 both.1 few)

  held_raised : object.kind ≡ Spawn → held_by object.owner (with_object more old.objects) ≡ held_by object.owner old.objects + 1
  held_raised is =
      let owner = object.owner in
      let front = take place old.objects in
      let back = drop (suc place) old.objects in
      let passes : (holds_for_creeps object.kind && (object.owner == object.owner)) ≡ true = ap (λ (b : Bool). b && (object.owner == object.owner)) (spawn_holds object.kind is) ∙ eq-eqb object.owner object.owner refl in
      let one = ap (λ (b : Bool). if b then object.energy else 0) passes in
      let two = ap (λ (b : Bool). if b then object.energy + 1 else 0) passes in
      let new = ap (held_by object.owner) raised_objects ∙ held_joined object.owner front (more ∷ back) in
      let was = ap (held_by object.owner) whole ∙ held_joined object.owner front (object ∷ back) in
      omega (arith, new, was, held_more object.owner more back, held_more object.owner object back, one, two)

  -- What is known of the owner stays known.
  pub known_raised : has_room object.kind object.energy ≡ true → (owner held : ℕ) → owner ≡ object.owner → held < 300 → held ≡ min spawn_capacity (held_by object.owner old.objects) → (new : Table) → new ≡ raised
      → held + 1 ≡ min spawn_capacity (held_by owner new.objects)
  known_raised has owner held owner_is few held_is new new_is =
      let more_is = held_raised (is_spawn object.kind object.energy has).0 in
      let there : held + 1 ≡ min 300 (held_by object.owner (with_object more old.objects)) = omega (arith, more_is, few, held_is) in
      there ∙ sym (λ i. min 300 (held_by (owner_is i) (new_is i).objects))

-- ---- all gains

pub first_filled : (start : Table) → IsRising start.objects → AllByRecursion IsOnTile start.objects → IsFilledTo start 0 None start
first_filled start rise tiles = record {
  table = refl;
  tiles = tiles;
  held = tt;
  rule = λ grounds. ap (λ (ids : List ℕ). over_ids gains ids (table_part grounds start)) (sym (keys_of_table grounds start rise));
}

next_place : (n : ℕ) → n + 1 ≡ suc n
next_place n = omega arith

read_inside : (xs : List Object) (i : ℕ) → i < length xs → (x : Object) × (slice_get xs i ≡ Some x)
read_inside [] i inside = absurd (omega (arith, inside))
read_inside (x ∷ xs) zero inside = (x, refl)
read_inside (x ∷ xs) (suc i) inside = read_inside xs i (omega (arith, inside))

next_from : (start : Table) (place : ℕ) (known : Option Held) (now : Table) → IsFilledTo start place known now → (object : Object) → slice_get now.objects place ≡ Some object → IsRising now.objects
    → (after : Option Held) (new : Table) → IsKnown after new.objects → IsFilled place now new → IsFilledTo start (place + 1) after new
next_from start place known now upto object at rise after new knows one = record {
  table = one.table ∙ ap (λ (t : Table). record t { objects = new.objects }) upto.table;
  tiles = one.tiles;
  held = knows;
  rule = λ grounds.
      ap (λ (xs : List Object). over_ids gains (ids_of xs) (table_part grounds new)) (one.ahead ∙ ap (λ (n : ℕ). drop n now.objects) (next_place place))
      ∙ ap (over_ids gains (ids_of (drop (suc place) now.objects))) (
      one.rule grounds
      ∙ ap (by_object gains (table_part grounds now)) (at ∙ sym (get_table_part grounds now object.id ∙ found_there now.objects place object object.id rise at refl)))
      ∙ ap (λ (xs : List Object). over_ids gains (ids_of xs) (table_part grounds now)) (sym (drop_at now.objects place object at))
      ∙ upto.rule grounds;
}

pub next_filled : (start : Table) (place : ℕ) (known : Option Held) (now : Table) → IsFilledTo start place known now → place < length now.objects → IsRising now.objects
    → (after : Option Held) (new : Table) → IsKnown after new.objects → IsFilled place now new → IsFilledTo start (place + 1) after new
next_filled start place known now upto inside rise after new knows one = let read = read_inside now.objects place inside in next_from start place known now upto read.0 read.1 rise after new knows one

pub all_filled : (start : Table) (place : ℕ) (known : Option Held) (now : Table) → IsFilledTo start place known now → length now.objects ≤ place → (grounds : List Ground) → table_part grounds now ≡ filled (table_part grounds start)
all_filled start place known now upto past grounds =
    ap (λ (xs : List Object). over_ids gains (ids_of xs) (table_part grounds now)) (sym (nothing_ahead now.objects place past)) ∙ upto.rule grounds
