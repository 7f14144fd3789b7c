-- What the turn of a spawn leaves of the others, and of the memory.
use Rattle.std.proofs.Common.{◌≡◌, ℕ, ◌+◌, ◌-◌, ◌*◌, ◌^◌, ◌<◌, ◌==◌, nat_lt, Bool, true, false, if◌then◌else◌, List, [], ◌∷◌, ◌++◌, Some, refl, sym, ap, ◌∙◌, inl, inr, arith}
use Rattle.std.specs.List.{filter}
use Rattle.room_terrain.specs.declared.terrain.Ground.{Ground}
use Rattle.game_tables.specs.declared.kind.Kind.TheVariants.{Spawn}
use Rattle.room_table.specs.declared.object.Object.{Object}
use Rattle.room_table.specs.Tables.{Table, IsOnTile, IsRising, HasNoId, find_object, with_new, with_object}
use Rattle.room_table.proofs.Rising.{all_filter, rises-replaced}
use Rattle.world_rules.specs.RoomParts.{table_part}
use Rattle.world_rules.specs.Changes.{with_new as new_in_part, with_object as with_in_part}
use Rattle.world_rules.specs.Spawns.{hatched_as, hatched_on, newborn, tile_for}
use Rattle.world_rules.proofs.TableParts.{absent_new, absent_replaced, all_found, part_replaced, tiles_new, tiles_replaced}
use Rattle.room_rules.specs.Calls.{IsReadyFor, KeepsUpTo}
use Rattle.spawn_rules.specs.inner.Hatching.{HaveIds, KeepsOthers}
use Rattle.spawn_rules.proofs.InTurn.{left_new, left_with}
use Rattle.spawn_rules.proofs.Made.{part_made}

less_ready : (many : ℕ) (table : Table) → IsReadyFor (many + 1) table → IsReadyFor many table
less_ready many table ready = record { spare = omega (arith, ready.spare); serial = omega (arith, ready.serial); fresh = ready.fresh; tiles = ready.tiles }

ids_with : (object : Object) (objects : List Object) → object.id < 2 ^ 64 → HaveIds objects → HaveIds (with_object object objects)
ids_with object [] less have = tt
ids_with object (x ∷ xs) less have =
    elim (x.id == object.id) as (λ b. HaveIds ((if b then object else x) ∷ with_object object xs)) [
      | true ↦ (less, ids_with object xs less have.1)
      | false ↦ (have.0, ids_with object xs less have.1)
    ]

ids_both : (xs ys : List Object) → HaveIds xs → HaveIds ys → HaveIds (xs ++ ys)
ids_both [] ys one other = other
ids_both (x ∷ xs) ys one other = (one.0, ids_both xs ys one.1 other)

ids_new : (object : Object) (objects : List Object) → object.id < 2 ^ 64 → HaveIds objects → HaveIds (with_new object objects)
ids_new object objects less have =
    ids_both (filter (λ (o : Object). nat_lt o.id object.id) objects) (object ∷ filter (λ (o : Object). nat_lt object.id o.id) objects)
    (all_filter (λ o. o.id < 2 ^ 64) (λ o. nat_lt o.id object.id) objects have)
    (less, all_filter (λ o. o.id < 2 ^ 64) (λ o. nat_lt object.id o.id) objects have)

-- the table with an object in the place of that of its id
abbrev pub set_in : Object → Table → Table
set_in object table = record table { objects = with_object object table.objects }

-- the table with a new object under its next serial
abbrev pub added_in : (ℕ → Object) → Table → Table
added_in make table = record table {
  next = table.next + 1;
  objects = with_new (make (table.index * 2 ^ 32 + table.next)) table.objects;
  spare = table.spare - 1;
}

set_ready : (many : ℕ) (table : Table) (object : Object) → IsOnTile object → IsReadyFor many table → IsReadyFor many (set_in object table)
set_ready many table object on ready = record {
  spare = ready.spare;
  serial = ready.serial;
  fresh = λ serial later less. absent_replaced (table.index * 2 ^ 32 + serial) object table.objects (ready.fresh serial later less);
  tiles = tiles_replaced object table.objects on ready.tiles;
}

added_ready : (many : ℕ) (table : Table) (make : ℕ → Object) → ((n : ℕ) → (make n).id ≡ n) → IsOnTile (make (table.index * 2 ^ 32 + table.next)) → IsReadyFor (many + 1) table → IsReadyFor many (added_in make table)
added_ready many table make own on ready = record {
  spare = omega (arith, ready.spare);
  serial = omega (arith, ready.serial);
  fresh = λ serial later less. elim (absent_new (table.index * 2 ^ 32 + serial) (make (table.index * 2 ^ 32 + table.next)) table.objects (ready.fresh serial (omega (arith, later)) less)) [
    | inl none ↦ none
    | inr same ↦ (let its = own (table.index * 2 ^ 32 + table.next) in absurd (omega (arith, same, its, later)))
  ];
  tiles = tiles_new (make (table.index * 2 ^ 32 + table.next)) table.objects on ready.tiles;
}

-- ---- a spawn that is found

module _ (old : Table) (spawn : Object) (there : find_object spawn.id old.objects ≡ Some spawn) (kind : spawn.kind ≡ Spawn) (ready : IsReadyFor 1 old) where
  pub spawn_tile : IsOnTile spawn
  spawn_tile = all_found IsOnTile (λ o. o.id == spawn.id) old.objects spawn ready.tiles there

  its_id : HaveIds old.objects → spawn.id < 2 ^ 64
  its_id have = all_found (λ o. o.id < 2 ^ 64) (λ o. o.id == spawn.id) old.objects spawn have there

  -- Nothing is done.
  pub keeps_none : KeepsUpTo 1 old old
  keeps_none = record { index = refl; used = refl; later = omega arith; made = omega arith; tiles = ready.tiles }

  pub others_none : KeepsOthers spawn.id old old
  others_none = record { same = λ from less. refl; ids = λ have. have; ready = λ many more. less_ready many old more }

  -- It is changed.
  pub keeps_set : (object : Object) → IsOnTile object → KeepsUpTo 1 old (set_in object old)
  keeps_set object on = record { index = refl; used = refl; later = omega arith; made = omega arith; tiles = tiles_replaced object old.objects on ready.tiles }

  pub others_set : (object : Object) → object.id ≡ spawn.id → IsOnTile object → KeepsOthers spawn.id old (set_in object old)
  others_set object own on = record {
    same = λ from less. left_with from object old.objects (omega (arith, less, own));
    ids = λ have. (let least = its_id have in ids_with object old.objects (omega (arith, least, own)) have);
    ready = λ many more. set_ready many old object on (less_ready many old more);
  }

  pub hatched_waits : (grounds : List Ground) → nat_lt 1 spawn.timer ≡ true → table_part grounds (set_in (record spawn { timer = spawn.timer - 1 }) old) ≡ hatched_as Spawn spawn (table_part grounds old)
  hatched_waits grounds more =
      part_replaced grounds old (record spawn { timer = spawn.timer - 1 }) (spawn, there)
      ∙ sym (ap (λ (b : Bool). if b then with_in_part (record spawn { timer = spawn.timer - 1 }) (table_part grounds old) else if spawn.timer == 1 then hatched_on spawn (tile_for (table_part grounds old) spawn) (table_part grounds old) else table_part grounds old) more)

  -- Its creep comes.
  module _ (rise : IsRising old.objects) (at : ℕ × ℕ) (on : (at.0 < 50) × (at.1 < 50)) where
    abbrev pub emptied : Object
    emptied = record spawn { timer = 0; body = [] }

    abbrev pub between : Table
    between = set_in emptied old

    abbrev pub after : Table
    after = added_in (newborn spawn at) between

    emptied_on : IsOnTile emptied
    emptied_on = record { column = spawn_tile.column; row = spawn_tile.row }

    newborn_on : (id : ℕ) → IsOnTile (newborn spawn at id)
    newborn_on id = record { column = omega (arith, on.0); row = omega (arith, on.1) }

    between_ready : IsReadyFor 1 between
    between_ready = set_ready 1 old emptied emptied_on ready

    pub fresh_between : HasNoId (old.index * 2 ^ 32 + old.next) between.objects
    fresh_between = (let most = ready.serial in between_ready.fresh old.next (omega arith) (omega (arith, most)))

    pub keeps_after : KeepsUpTo 1 old after
    keeps_after = (let spare = ready.spare in record {
      index = refl;
      used = omega (arith, spare);
      later = omega arith;
      made = omega arith;
      tiles = tiles_new (newborn spawn at (old.index * 2 ^ 32 + old.next)) between.objects (newborn_on (old.index * 2 ^ 32 + old.next)) between_ready.tiles;
    })

    rising_between : IsRising between.objects
    rising_between = rises-replaced (λ o. o.id) emptied old.objects rise

    pub others_after : old.index * 2 ^ 32 + old.next < 2 ^ 64 → KeepsOthers spawn.id old after
    others_after least = record {
      same = λ from less.
          left_new from (newborn spawn at (old.index * 2 ^ 32 + old.next)) between.objects rising_between fresh_between refl
          ∙ left_with from emptied old.objects less;
      ids = λ have. ids_new (newborn spawn at (old.index * 2 ^ 32 + old.next)) between.objects least (ids_with emptied old.objects (its_id have) have);
      ready = λ many more. added_ready many between (newborn spawn at) (λ n. refl) (newborn_on (old.index * 2 ^ 32 + old.next)) (set_ready (many + 1) old emptied emptied_on more);
    }

    pub hatched_after : (grounds : List Ground) → table_part grounds after ≡ hatched_on spawn (Some at) (table_part grounds old)
    hatched_after grounds =
        (let most = ready.serial in part_made grounds between (newborn spawn at) (old.spare - 1) (omega (arith, most)) refl)
        ∙ ap (new_in_part (newborn spawn at)) (part_replaced grounds old emptied (spawn, there))
