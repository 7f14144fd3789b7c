-- What changes of a table leave of what a rule's call asks and keeps.
use Rattle.std.proofs.Common.{◌≡◌, ℕ, ◌+◌, ◌*◌, ◌^◌, ◌==◌, not, Bool, true, false, cond, List, [], Option, Some, None, refl, sym, ap, ◌∙◌, inl, inr, arith}
use Rattle.std.specs.Option.{unwrap_or}
use Rattle.std.proofs.lemmas.Bool.{eqb-true}
use Rattle.std.specs.Cmp.{nat_cmp_total, unsigned_tied}
use Rattle.std.specs.FinMap.{get, remove, get-remove}
use Rattle.room_table.specs.declared.object.Object.{Object}
use Rattle.room_table.specs.declared.tally.Tally.{Tally}
use Rattle.room_table.specs.Tables.{Table, IsOnTile, HasId, HasNoId, find_object, with_new, with_object, without, removed}
use Rattle.room_table.specs.Tallies.{no_tally, tally_of}
use Rattle.room_rules.specs.Calls.{IsReady, Keeps, KeepsTallies}
use Rattle.world_rules.proofs.TableParts.{absent_new, absent_replaced, absent_without, get_table_part, part_without, tiles_filter, tiles_replaced}
use Rattle.world_rules.specs.RoomParts.{RoomPart, table_part}

-- the table with an object in the place of the one of its id
abbrev pub set_in : Object → Table → Table
set_in object table = record table { objects = with_object object table.objects }

-- A call that changes nothing keeps all.
pub keeps_itself : (table : Table) → IsReady table → Keeps table table
keeps_itself table ready = record { index = refl; used = refl; later = omega arith; made = omega arith; tiles = ready.tiles }

-- A table is ready still once an object stands in the place of another.
pub ready_set : (table : Table) (object : Object) → IsOnTile object → IsReady table → IsReady (set_in object table)
ready_set table object on ready = record {
  spare = ready.spare;
  serial = ready.serial;
  fresh = absent_replaced (table.index * 2 ^ 32 + table.next) object table.objects ready.fresh;
  tiles = tiles_replaced object table.objects on ready.tiles;
}

-- So it is once one is gone.
pub ready_without : (table : Table) (id : ℕ) → IsReady table → IsReady (removed id table)
ready_without table id ready = record {
  spare = ready.spare;
  serial = ready.serial;
  fresh = absent_without (table.index * 2 ^ 32 + table.next) id table.objects ready.fresh;
  tiles = tiles_filter (λ o. not (o.id == id)) table.objects ready.tiles;
}

-- A call that made nothing is no matter to what a later one keeps.
pub keeps_after : (old middle new : Table) → middle.index ≡ old.index → middle.next ≡ old.next → middle.spare ≡ old.spare → Keeps middle new → Keeps old new
keeps_after old middle new index next spare keeps = record {
  index = keeps.index ∙ index;
  used = omega (arith, keeps.used, next, spare);
  later = omega (arith, keeps.later, next);
  made = omega (arith, keeps.made, next);
  tiles = keeps.tiles;
}

-- ---- what was done to objects

-- What stands once an object is in the place of the one of its id stood before.
pub stood_set : (id : ℕ) (object : Object) (objects : List Object) → HasId id (with_object object objects) → HasId id objects
stood_set id object objects has = stood_as (find_object id objects) refl
  where
    stood_as : (found : Option Object) → find_object id objects ≡ found → HasId id objects
    stood_as None is = let none : ◌≡◌ {A = Option Object} None (Some has.0) = sym (absent_replaced id object objects is) ∙ has.1 in absurd cc
    stood_as (Some o) is = (o, is)

-- So what was done to it stays.
pub tallies_set : (old table : Table) (object : Object) → KeepsTallies old table → KeepsTallies old (set_in object table)
tallies_set old table object keeps id has = keeps id (stood_set id object table.objects has)

-- What is found once an object is gone.
found_removed : (table : Table) (gone id : ℕ) → find_object id (without gone table.objects) ≡ cond (id == gone) None (find_object id table.objects)
found_removed table gone id =
    sym (get_table_part [] (removed gone table) id)
    ∙ ap (λ (part : RoomPart). get part.objects id) (part_without [] table gone)
    ∙ get-remove nat_cmp_total (table_part [] table).objects gone id
    ∙ (λ i. cond (unsigned_tied id gone i) None (get_table_part [] table id i))

-- of another object than that which is gone
tally_apart : (table : Table) (gone id : ℕ) → (id == gone) ≡ false → tally_of id (remove table.tallies gone) ≡ tally_of id table.tallies
tally_apart table gone id apart =
    ap (λ (found : Option Tally). unwrap_or found no_tally) (get-remove nat_cmp_total table.tallies gone id ∙ ap (λ (b : Bool). cond b None (get table.tallies id)) (unsigned_tied id gone ∙ apart))

none_gone : (table : Table) (gone id : ℕ) → (id == gone) ≡ true → HasNoId id (without gone table.objects)
none_gone table gone id same = found_removed table gone id ∙ ap (λ (b : Bool). cond b None (find_object id table.objects)) same

-- What was done to what still stands stays where another is gone.
pub tallies_removed : (table : Table) (gone : ℕ) → KeepsTallies table (removed gone table)
tallies_removed table gone id has = elim (id == gone) as (λ b. (id == gone) ≡ b → tally_of id (remove table.tallies gone) ≡ tally_of id table.tallies) [
  | true ↦ λ same. (let none : ◌≡◌ {A = Option Object} None (Some has.0) = sym (none_gone table gone id same) ∙ has.1 in absurd cc)
  | false ↦ tally_apart table gone id
] refl

-- So it does where a new object came then.
pub tallies_renewed : (table : Table) (gone : ℕ) (new : Object) → (new.id ≡ gone → ⊥) → (id : ℕ) → HasId id (with_new new (without gone table.objects)) → tally_of id (remove table.tallies gone) ≡ tally_of id table.tallies
tallies_renewed table gone new other id has = elim (id == gone) as (λ b. (id == gone) ≡ b → tally_of id (remove table.tallies gone) ≡ tally_of id table.tallies) [
  | true ↦ λ same. elim (absent_new id new (without gone table.objects) (none_gone table gone id same)) [
    | inl none ↦ (let not_there : ◌≡◌ {A = Option Object} None (Some has.0) = sym none ∙ has.1 in absurd cc)
    | inr its ↦ absurd (other (sym its ∙ eqb-true id gone same))
  ]
  | false ↦ tally_apart table gone id
] refl
