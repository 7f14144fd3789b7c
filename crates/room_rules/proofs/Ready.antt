-- A room that keeps its rules is ready for movement, and for steps that make objects.
use Rattle.std.proofs.Common.{◌≡◌, ◌≢◌, inl, inr, ℕ, ◌+◌, ◌-◌, ◌*◌, ◌^◌, ◌<◌, ◌≤◌, nat_lt, if◌then◌else◌, Bool, true, false, cond, List, [], ◌∷◌, length, Option, Some, None, refl, sym, ap, ◌∙◌, arith}
use Rattle.std.specs.List.{AllByRecursion, AllPairs, count_by}
use Rattle.std.specs.Ordering.{nat_cmp}
use Rattle.std.specs.Cmp.{unsigned_tied}
use Rattle.std.specs.FinMap.{find}
use Rattle.std.proofs.lemmas.Bool.{cases_lt, eq-eqb, ne_eqb, false_from_ne_true}
use Rattle.std.proofs.lemmas.List.Elements.{All-from_recursion}
use Rattle.std.proofs.lemmas.List.Kept.{AllPairs-cons}
use Rattle.std.proofs.lemmas.List.Sums.{sum_by-cons}
use Rattle.game_tables.specs.Bodies.{most_parts, same_part, part_hits, live_parts, load_room}
use Rattle.game_tables.specs.Kinds.{clash, hits_max, is_creep}
use Rattle.game_tables.specs.declared.kind.Kind.{Kind}
use Rattle.game_tables.specs.declared.kind.Kind.TheVariants.{Creep}
use Rattle.game_tables.specs.declared.kind.Part.{Part}
use Rattle.game_tables.specs.declared.kind.Part.TheVariants.{Carry}
use Rattle.room_table.specs.declared.object.Object.{Object}
use Rattle.object_store.specs.declared.world.Room.{Room}
use Rattle.room_table.specs.Tables.{IsRising, IsOnTile, find_object}
use Rattle.world_rules.proofs.Keys.{keyed}
use Rattle.world_rules.proofs.TableParts.{get_table_part}
use Rattle.room_rules.specs.Within.{Stage, between, moved, summed, settled, within, IsInRangeIn}
use Rattle.room_rules.specs.RoomRules.{KeepsRoomRules}
use Rattle.room_rules.specs.Followed.{part_stored}
use Rattle.room_rules.specs.Calls.{AreApart, IsLoadWithin, IsMovable, IsReadyFor}
use Rattle.room_rules.proofs.Sound.{found_all, found_id, get_part}
use Rattle.room_rules.proofs.Rooms.{all_found}

-- ---- pairs of objects that rise

found_first : (first : Object) (objects : List Object) → find nat_cmp first.id (keyed (λ o. o.id) (first ∷ objects)) ≡ Some first
found_first first objects = ap (λ (b : Bool). cond b (Some first) (find nat_cmp first.id (keyed (λ o. o.id) objects))) (unsigned_tied first.id first.id ∙ eq-eqb first.id first.id refl)

found_later : (first : Object) (objects : List Object) (id : ℕ) → id ≢ first.id → find nat_cmp id (keyed (λ o. o.id) (first ∷ objects)) ≡ find nat_cmp id (keyed (λ o. o.id) objects)
found_later first objects id apart = ap (λ (b : Bool). cond b (Some first) (find nat_cmp id (keyed (λ o. o.id) objects))) (unsigned_tied id first.id ∙ ne_eqb id first.id apart)

later_apart : (first : Object) (objects : List Object) (id : ℕ) (o : Object) → AllByRecursion (λ later. first.id < later.id) objects → find nat_cmp id (keyed (λ p. p.id) objects) ≡ Some o → id ≢ first.id
later_apart first objects id o above found same =
    let less : first.id < o.id = found_all (λ later. first.id < later.id) objects id o above found in
    let own : o.id ≡ id = found_id objects id o found in
    omega (arith, less, own, same)

-- what holds of each two objects that are found under two ids holds of all pairs, where they rise
pairs_found : (P : Object → Object → Type 0) (objects : List Object) → IsRising objects
    → ((i j : ℕ) (o p : Object) → i ≢ j → find nat_cmp i (keyed (λ q. q.id) objects) ≡ Some o → find nat_cmp j (keyed (λ q. q.id) objects) ≡ Some p → P o p) → AllPairs P objects
pairs_found P [] rise each = λ i j d less last. absurd (omega arith)
pairs_found P (first ∷ objects) rise each =
    AllPairs-cons P first objects
    (All-from_recursion (P first) objects (all_found (P first) objects rise.1 (λ id o found.
    (let apart = later_apart first objects id o rise.0 found in
    each first.id id first o (λ e. apart (sym e)) (found_first first objects) (found_later first objects id apart ∙ found)))))
    (pairs_found P objects rise.1 (λ i j o p apart one other.
    each i j o p apart (found_later first objects i (later_apart first objects i o rise.0 one) ∙ one) (found_later first objects j (later_apart first objects j p rise.0 other) ∙ other)))

-- ---- loads

-- no more parts live than there are
live_most : (test : Part → Bool) (hits : ℕ) (parts : List Part) → count_by test (live_parts hits parts) ≤ length parts
live_most test hits [] = omega arith
live_most test hits (part ∷ rest) =
    let few : List Part = live_parts hits rest in
    let later : count_by test few ≤ length rest = live_most test hits rest in
    elim (nat_lt 0 (part_hits hits (length rest))) as (λ b. count_by test (if b then part ∷ few else few) ≤ length (part ∷ rest)) [
      | true ↦ elim (test part) as (λ c. test part ≡ c → count_by test (part ∷ few) ≤ length (part ∷ rest)) [
        | true ↦ λ is. omega (arith, later, sum_by-cons (λ p. cond {A = ℕ} (test p) 1 0) part few, ap (λ (c : Bool). cond {A = ℕ} c 1 0) is)
        | false ↦ λ is. omega (arith, later, sum_by-cons (λ p. cond {A = ℕ} (test p) 1 0) part few, ap (λ (c : Bool). cond {A = ℕ} c 1 0) is)
      ] refl
      | false ↦ omega (arith, later)
    ]

load_most : (energy hits : ℕ) (parts : List Part) → energy ≤ load_room hits parts → length parts ≤ most_parts → energy ≤ 50 * most_parts
load_most energy hits parts load few = omega (arith, load, few, live_most (same_part Carry) hits parts)

-- A creep in its ranges carries at most what a body can.
pub creep_load : (stage : Stage) (k : Kind) (o : Object) → is_creep k ≡ true → IsInRangeIn k stage o → o.energy ≤ 50 * most_parts
creep_load between Creep o is r = load_most o.energy o.hits o.body r.energy r.parts
creep_load moved Creep o is r = load_most o.energy o.hits o.body r.rested.energy r.rested.parts
creep_load summed Creep o is r = load_most o.energy o.hits o.body r.rested.energy r.rested.parts
creep_load settled Creep o is r = load_most o.energy (hits_max Creep o.body) o.body r.within.energy r.within.parts
creep_load within Creep o is r = load_most o.energy (hits_max Creep o.body) o.body r.energy r.parts
creep_load stage k o is r = absurd (cc)

-- ---- rooms that keep their rules

module _ (players : ℕ → Bool) (stage : Stage) (room : Room) (k : KeepsRoomRules players stage (part_stored room)) (rise : IsRising room.table.objects) where
  all_on_tiles : AllByRecursion IsOnTile room.table.objects
  all_on_tiles = all_found IsOnTile room.table.objects rise (λ id o found. k.inside id o (get_part room id ∙ found))

  load_within : (id : ℕ) (o : Object) → find nat_cmp id (keyed (λ q. q.id) room.table.objects) ≡ Some o → IsLoadWithin o
  load_within id o found creep = elim (cases_lt (50 * most_parts) o.energy) [
    | inl more ↦ absurd (k.ranges id o (get_part room id ∙ found) (λ r. (let few = creep_load stage o.kind o creep r in omega (arith, more, few))))
    | inr few ↦ omega (arith, few)
  ]

  all_apart : AreApart room.table.objects
  all_apart = pairs_found (λ one other. one.x ≡ other.x → one.y ≡ other.y → clash one.kind other.kind ≡ false) room.table.objects rise
      (λ i j o p apart one other x y. false_from_ne_true (clash o.kind p.kind) (k.shared i j o p apart (get_part room i ∙ one) (get_part room j ∙ other) x y))

  -- The room is ready for movement.
  pub movable : IsMovable room.table
  movable = record { tiles = all_on_tiles; apart = all_apart; loads = all_found IsLoadWithin room.table.objects rise load_within }

  pub unborn : (serial : ℕ) → room.table.next ≤ serial → serial < 2 ^ 32 → (found : Option Object) → find_object (room.table.index * 2 ^ 32 + serial) room.table.objects ≡ found → found ≡ None
  unborn serial later below None is = refl
  unborn serial later below (Some o) is =
      let id : ℕ = room.table.index * 2 ^ 32 + serial in
      let given = k.born id o (get_table_part room.terrain room.table id ∙ is) (omega (arith, below)) in
      absurd (omega (arith, given.1, later, below))

  -- It is ready for a step that makes so many objects, where it has memory and serials for them.
  pub ready_for : (n : ℕ) → n ≤ room.table.spare → room.table.next + n ≤ 2 ^ 32 - 1 → IsReadyFor n room.table
  ready_for n spare serial = record {
    spare = spare;
    serial = serial;
    fresh = λ number later below. (let id : ℕ = room.table.index * 2 ^ 32 + number in unborn number later below (find_object id room.table.objects) refl);
    tiles = all_on_tiles;
  }
