-- A place on which a creep stands, in the world and in the room's table.
use Rattle.std.proofs.Common.{◌≡◌, ℕ, ◌==◌, ◌&&◌, ◌||◌, Bool, true, false, cond, List, [], ◌∷◌, map, Some, None, refl, sym, ap, ◌∙◌}
use Rattle.std.specs.List.{list_any}
use Rattle.std.specs.List as lists
use Rattle.std.specs.Ordering.{nat_cmp, eq_by_cmp}
use Rattle.std.specs.Cmp.{unsigned_tied}
use Rattle.std.specs.FinMap.{find, get, entries, entries_sorted, get-entries}
use Rattle.std.proofs.lemmas.Bool.{eq-eqb, eqb-true, ne_eqb, and_from, and_parts, both_ways}
use Rattle.game_tables.specs.Kinds.{is_creep}
use Rattle.game_tables.specs.Numbers.{kind_number}
use Rattle.game_tables.specs.declared.kind.Kind.{Kind}
use Rattle.game_tables.specs.declared.kind.Kind.TheVariants.{Source, Controller, Creep, Spawn, Extension, Storage, Container, Road, Pile, Site, Tower, Rampart, Wall, Tombstone}
use Rattle.room_table.specs.declared.object.Object.{Object}
use Rattle.room_table.specs.Tables.{find_object, first_on}
use Rattle.world_rules.specs.World.{Placed, World}
use Rattle.world_rules.specs.Crossings.{Place, is_taken}
use Rattle.world_rules.proofs.Keys.{AreKeysOnce, once_of_sorted}

-- ---- any of the values of entries

record Held (test : Placed → Bool) (es : List (ℕ × Placed)) : Type 0 where
  pub id : ℕ
  pub placed : Placed
  pub found : find nat_cmp id es ≡ Some placed
  pub passes : test placed ≡ true

apart_from : (q key : ℕ) (es : List (ℕ × Placed)) (p : Placed) → find nat_cmp key es ≡ None → find nat_cmp q es ≡ Some p → eq_by_cmp nat_cmp q key ≡ false
apart_from q key es p none some = unsigned_tied q key ∙ ne_eqb q key (λ same. let both : None ≡ Some p = sym none ∙ ap (λ (n : ℕ). find nat_cmp n es) (sym same) ∙ some in cc)

any_held : (test : Placed → Bool) (es : List (ℕ × Placed)) → AreKeysOnce es → list_any test (map (λ (e : ℕ × Placed). e.1) es) ≡ true → Held test es
any_held test [] once is = absurd cc
any_held test (e ∷ es) once is =
    elim (test e.1) as (λ b. test e.1 ≡ b → (b || list_any test (map (λ (f : ℕ × Placed). f.1) es)) ≡ true → Held test (e ∷ es)) [
      | true ↦ λ passes got. record { id = e.0; placed = e.1; found = ap (λ (b : Bool). cond b (Some e.1) (find nat_cmp e.0 es)) (unsigned_tied e.0 e.0 ∙ eq-eqb e.0 e.0 refl); passes = passes }
      | false ↦ λ fails got.
          let rest = any_held test es once.1 got in
          record { id = rest.id; placed = rest.placed; found = ap (λ (b : Bool). cond b (Some e.1) (find nat_cmp rest.id es)) (apart_from rest.id e.0 es rest.placed once.0 rest.found) ∙ rest.found; passes = rest.passes }
    ] refl is

held_any : (test : Placed → Bool) (es : List (ℕ × Placed)) (q : ℕ) (p : Placed) → find nat_cmp q es ≡ Some p → test p ≡ true → list_any test (map (λ (e : ℕ × Placed). e.1) es) ≡ true
held_any test [] q p is passes = absurd cc
held_any test (e ∷ es) q p is passes =
    elim (eq_by_cmp nat_cmp q e.0) as (λ b. cond b (Some e.1) (find nat_cmp q es) ≡ Some p → (test e.1 || list_any test (map (λ (f : ℕ × Placed). f.1) es)) ≡ true) [
      | true ↦ λ here. let same : e.1 ≡ p = cc in ap (λ (b : Bool). b || list_any test (map (λ (f : ℕ × Placed). f.1) es)) (ap test same ∙ passes)
      | false ↦ λ later. ap (λ (b : Bool). test e.1 || b) (held_any test es q p later passes) ∙ any_true (test e.1)
    ] is
  where
    any_true : (b : Bool) → (b || true) ≡ true
    any_true true = refl
    any_true false = refl

-- ---- kinds

creep_number : (kind : Kind) → is_creep kind ≡ true → (kind_number kind == kind_number Creep) ≡ true
creep_number Creep is = refl
creep_number Source is = absurd cc
creep_number Controller is = absurd cc
creep_number Spawn is = absurd cc
creep_number Extension is = absurd cc
creep_number Storage is = absurd cc
creep_number Container is = absurd cc
creep_number Road is = absurd cc
creep_number Pile is = absurd cc
creep_number Site is = absurd cc
creep_number Tower is = absurd cc
creep_number Rampart is = absurd cc
creep_number Wall is = absurd cc
creep_number Tombstone is = absurd cc

number_creep : (kind : Kind) → (kind_number kind == kind_number Creep) ≡ true → is_creep kind ≡ true
number_creep Creep is = refl
number_creep Source is = absurd cc
number_creep Controller is = absurd cc
number_creep Spawn is = absurd cc
number_creep Extension is = absurd cc
number_creep Storage is = absurd cc
number_creep Container is = absurd cc
number_creep Road is = absurd cc
number_creep Pile is = absurd cc
number_creep Site is = absurd cc
number_creep Tower is = absurd cc
number_creep Rampart is = absurd cc
number_creep Wall is = absurd cc
number_creep Tombstone is = absurd cc

-- ---- tables

-- The object is a creep on this tile.
pub record IsCreepOn (x y : ℕ) (object : Object) : Type 0 where
  pub creep : is_creep object.kind ≡ true
  pub column : object.x ≡ x
  pub row : object.y ≡ y

found_passes : (test : Object → Bool) (objects : List Object) (found : Object) → lists.find test objects ≡ Some found → test found ≡ true
found_passes test [] found is = absurd cc
found_passes test (object ∷ objects) found is =
    elim (test object) as (λ b. test object ≡ b → cond b (Some object) (lists.find test objects) ≡ Some found → test found ≡ true) [
      | true ↦ λ passes here. let same : object ≡ found = cc in ap test (sym same) ∙ passes
      | false ↦ λ fails later. found_passes test objects found later
    ] refl is

none_passes : (test other : Object → Bool) (objects : List Object) (found : Object) → lists.find test objects ≡ None → lists.find other objects ≡ Some found → test found ≡ true → ⊥
none_passes test other [] found none is passes = cc
none_passes test other (object ∷ objects) found none is passes =
    elim (test object) as (λ b. test object ≡ b → cond b (Some object) (lists.find test objects) ≡ None → ⊥) [
      | true ↦ λ here some. cc
      | false ↦ λ fails later. elim (other object) as (λ b. cond b (Some object) (lists.find other objects) ≡ Some found → ⊥) [
        | true ↦ λ here. let same : object ≡ found = cc in both_ways (test object) fails (ap test same ∙ passes)
        | false ↦ λ more. none_passes test other objects found later more passes
      ] is
    ] refl none

abbrev on : ℕ → ℕ → Object → Bool
on x y o = (o.x == x) && (o.y == y) && (kind_number o.kind == kind_number Creep)

pub first_creep : (x y : ℕ) (objects : List Object) (object : Object) → first_on x y Creep objects ≡ Some object → IsCreepOn x y object
first_creep x y objects object is =
    let passes = found_passes (on x y) objects object is in
    let parts = and_parts ((object.x == x) && (object.y == y)) (kind_number object.kind == kind_number Creep) passes in
    let tiles = and_parts (object.x == x) (object.y == y) parts.0 in
    record { creep = number_creep object.kind parts.1; column = eqb-true object.x x tiles.0; row = eqb-true object.y y tiles.1 }

-- no creep is found on a free tile
pub free_of : (x y id : ℕ) (objects : List Object) (object : Object) → first_on x y Creep objects ≡ None → find_object id objects ≡ Some object → IsCreepOn x y object → ⊥
free_of x y id objects object free found stands =
    none_passes (on x y) (λ o. o.id == id) objects object free found
    (and_from ((object.x == x) && (object.y == y)) (kind_number object.kind == kind_number Creep)
    (and_from (object.x == x) (object.y == y) (eq-eqb object.x x stands.column) (eq-eqb object.y y stands.row))
    (creep_number object.kind stands.creep))

-- ---- places

module _ (world : World) (place : Place) where
  abbrev test : Placed → Bool
  test placed =
      (placed.room == place.room)
      && is_creep placed.object.kind
      && (placed.object.x == place.x)
      && (placed.object.y == place.y)

  -- who stands on a place that is taken
  pub record Taker : Type 0 where
    pub id : ℕ
    pub placed : Placed
    pub stands : get world.objects id ≡ Some placed
    pub room : placed.room ≡ place.room
    pub creep : IsCreepOn place.x place.y placed.object

  pub taken_by : is_taken world place ≡ true → Taker
  taken_by is =
      let held = any_held test (entries world.objects) (once_of_sorted _ (entries_sorted world.objects)) is in
      let p = held.placed in
      let parts = and_parts ((p.room == place.room) && is_creep p.object.kind && (p.object.x == place.x)) (p.object.y == place.y) held.passes in
      let more = and_parts ((p.room == place.room) && is_creep p.object.kind) (p.object.x == place.x) parts.0 in
      let most = and_parts (p.room == place.room) (is_creep p.object.kind) more.0 in
      record {
        id = held.id;
        placed = p;
        stands = get-entries world.objects held.id ∙ held.found;
        room = eqb-true p.room place.room most.0;
        creep = record { creep = most.1; column = eqb-true p.object.x place.x more.1; row = eqb-true p.object.y place.y parts.1 };
      }

  pub is_taken_by : (id : ℕ) (p : Placed) → get world.objects id ≡ Some p → p.room ≡ place.room → IsCreepOn place.x place.y p.object → is_taken world place ≡ true
  is_taken_by id p is room creep =
      held_any test (entries world.objects) id p (sym (get-entries world.objects id) ∙ is)
      (and_from ((p.room == place.room) && is_creep p.object.kind && (p.object.x == place.x)) (p.object.y == place.y)
      (and_from ((p.room == place.room) && is_creep p.object.kind) (p.object.x == place.x)
      (and_from (p.room == place.room) (is_creep p.object.kind) (eq-eqb p.room place.room room) creep.creep)
      (eq-eqb p.object.x place.x creep.column))
      (eq-eqb p.object.y place.y creep.row))
