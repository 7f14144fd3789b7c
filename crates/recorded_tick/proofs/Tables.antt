-- The rooms of a sound world have the form of what is recorded.
use Rattle.std.proofs.Common.{◌≡◌, ℕ, ◌≤◌, true, List, [], ◌∷◌, map, length, Some, slice_get, inl, inr, refl, ap, ◌∙◌, arith}
use Rattle.std.specs.List.{AllByRecursion}
use Rattle.std.proofs.lemmas.Bool.{cases_Bool, cases_lt, both_ways}
use Rattle.game_tables.specs.Bodies.{most_parts}
use Rattle.game_tables.specs.Kinds.{is_in_rules}
use Rattle.game_tables.specs.declared.kind.Kind.{Kind}
use Rattle.game_tables.specs.declared.kind.Kind.TheVariants.{Source, Controller, Creep, Spawn, Extension, Storage, Container, Road, Pile, Site, Tower, Rampart, Wall, Tombstone}
use Rattle.game_tables.specs.declared.kind.Part.{Part}
use Rattle.room_table.specs.declared.object.Object.{Object}
use Rattle.object_store.specs.declared.world.Room.{Room}
use Rattle.object_store.specs.Stored.{Stored}
use Rattle.room_table.specs.Tables.{IsOnTile, IsRising, Table, without_spare}
use Rattle.world_rules.specs.Rules.{IsInRangeAs}
use Rattle.world_rules.specs.Sound.{IsSound}
use Rattle.room_rules.proofs.Rooms.{all_at, all_found}
use Rattle.rule_check.proofs.Minima.{all_at as holds_at}
use Rattle.room_rules.proofs.Sound.{get_part, in_ranges, sound_keeps}
use Rattle.world_bytes.specs.Forms.{HasObjectForm, HasRoomForm}
use Rattle.world_bytes.specs.Numbers.{ObjectFits, TableFits}
use Rattle.recorded_tick.proofs.Lists.{all_mapped}
use Rattle.recorded_tick.proofs.Picked.{bare_table}

-- ---- objects

abbrev Formed : Kind → Object → Type 0
Formed kind object = (is_in_rules kind 1 ≡ true) × (length object.body ≤ most_parts)

no_parts : (body : List Part) → body ≡ [] → length body ≤ most_parts
no_parts body none = let few = ap length none in omega (arith, few)

in_range_formed : (kind : Kind) (object : Object) → IsInRangeAs kind object → Formed kind object
in_range_formed Source object is = (refl, no_parts object.body is.body)
in_range_formed Controller object is = (refl, no_parts object.body is.body)
in_range_formed Creep object is = (refl, is.parts)
in_range_formed Spawn object is = (refl, is.parts)
in_range_formed Extension object is = (refl, no_parts object.body is.body)
in_range_formed Storage object is = (refl, no_parts object.body is.body)
in_range_formed Container object is = (refl, no_parts object.body is.body)
in_range_formed Road object is = (refl, no_parts object.body is.body)
in_range_formed Pile object is = (refl, no_parts object.body is.body)
in_range_formed Site object is = (refl, no_parts object.body is.body)
in_range_formed Tower object is = absurd is
in_range_formed Rampart object is = absurd is
in_range_formed Wall object is = absurd is
in_range_formed Tombstone object is = absurd is

-- A kind and a body of which it can't be that they are out of range have a form.
formed : (kind : Kind) (object : Object) → ((IsInRangeAs kind object → ⊥) → ⊥) → Formed kind object
formed kind object maybe = (
  elim (cases_Bool (is_in_rules kind 1)) [
    | inl is ↦ is
    | inr none ↦ absurd (maybe (λ is. both_ways (is_in_rules kind 1) none (in_range_formed kind object is).0))
  ],
  elim (cases_lt most_parts (length object.body)) [
    | inl many ↦ absurd (maybe (λ is. (let few = (in_range_formed kind object is).1 in omega (arith, many, few))))
    | inr few ↦ few
  ],
)

pub record IsFormed (object : Object) : Type 0 where
  pub kind : is_in_rules object.kind 1 ≡ true
  pub tile : IsOnTile object
  pub parts : length object.body ≤ most_parts

-- ---- tables

-- What is recorded of a room, but for its numbers.
pub record IsListed (table : Table) : Type 0 where
  pub some : 1 ≤ table.next
  pub rising : IsRising table.objects
  pub objects : AllByRecursion IsFormed table.objects

room_listed : (stored : Stored) → IsSound stored → (k : ℕ) (room : Room) → slice_get stored.rooms k ≡ Some room → IsListed (bare_table room)
room_listed stored sound k room at =
    let keeps = sound_keeps stored sound k room at in
    let rising : IsRising room.table.objects = holds_at (λ (r : Room). IsRising r.table.objects) stored.rooms k room sound.tables at in
    record {
      some = keeps.begun;
      rising = rising;
      objects = all_found IsFormed room.table.objects rising (λ id object found.
          let holds = get_part room id ∙ found in
          let is = formed object.kind object (λ out. keeps.ranges id object holds (λ within. out (in_ranges object.kind object within))) in
          record { kind = is.0; tile = keeps.inside id object holds; parts = is.1 });
    }

pub tables_listed : (stored : Stored) → IsSound stored → AllByRecursion IsListed (map bare_table stored.rooms)
tables_listed stored sound = all_mapped IsListed bare_table stored.rooms (all_at (λ (room : Room). IsListed (bare_table room)) stored.rooms (room_listed stored sound))

object_forms : (objects : List Object) → AllByRecursion IsFormed objects → AllByRecursion ObjectFits objects → AllByRecursion HasObjectForm objects
object_forms [] are fit = tt
object_forms (object ∷ objects) are fit =
    let is = are.0 in
    let fits = fit.0 in (
      record {
        kind = is.kind;
        tile = is.tile;
        parts = is.parts;
        id = fits.id;
        owner = fits.owner;
        hits = fits.hits;
        energy = fits.energy;
        timer = fits.timer;
        extra = fits.extra;
        progress = fits.progress;
        other = fits.other;
        other_ticks = fits.other_ticks;
      },
      object_forms objects are.1 fit.1,
    )

-- The table as it is read says all of the form but the numbers.
pub room_form : (table : Table) → IsListed (without_spare table) → TableFits table → HasRoomForm table
room_form table is fit = record {
  some = is.some;
  rising = is.rising;
  objects = object_forms table.objects is.objects fit.objects;
  index = fit.index;
  next = fit.next;
  count = fit.count;
}
