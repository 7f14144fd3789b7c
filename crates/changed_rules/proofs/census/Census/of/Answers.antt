use Rattle.std.proofs.Common.{◌≡◌, ◌∙◌, ◌<◌, ℕ, List, true, Some, length, sym, subst, ap, arith}
use Rattle.std.specs.Prelude.{slice_get}
use Rattle.std.specs.List.{AllByRecursion}
use Rattle.std.proofs.lemmas.Option.{slice_get_within}
use Rattle.object_store.specs.declared.world.Room.{Room}
use Rattle.object_store.specs.Stored.{Stored}
use Rattle.changed_rules.specs.declared.counted.Counted.{Counted}
use Rattle.changed_rules.specs.declared.tally.Tally.{Tally}
use Rattle.changed_rules.specs.declared.counted.Counted.TheVariants.{Ids, SiteOwners}
use Rattle.changed_rules.specs.Census.{ArePlaced, KeepsElsewhere, tally_of}
use Rattle.changed_rules.specs.Counts.{is_among, tallied, times_apart}
use Rattle.changed_rules.proofs.Apart.{apart_all}
use Rattle.changed_rules.proofs.census.Census.of.Goals as goal

-- All rooms are left out.
abbrev AreAll : List ℕ → Stored → Type 0
AreAll places world = (index : ℕ) → index < length world.rooms → is_among index places ≡ true

left_out : (places : List ℕ) (world : Stored) → ArePlaced world.rooms → AreAll places world → (i : ℕ) (room : Room) → slice_get world.rooms i ≡ Some room → is_among room.table.index places ≡ true
left_out places world placed all i room at = subst (λ (n : ℕ). is_among n places ≡ true) (sym (placed i room at)) (all i (slice_get_within world.rooms i room at))

none_elsewhere : (places : List ℕ) (world : Stored) → ArePlaced world.rooms → AreAll places world → KeepsElsewhere places world
none_elsewhere places world placed all = record {
  each = λ i room at apart. (let among = left_out places world placed all i room at in absurd cc);
  few = λ counted n. omega (arith, apart_all counted n places world.rooms (left_out places world placed all));
}

pub enter_rooms-requires-clause-rest : goal.enter_rooms-requires-clause-rest
enter_rooms-requires-clause-rest c = subst (λ (places : List ℕ). KeepsElsewhere places c.args.world.now) (sym c.deref.ensures.value) (none_elsewhere c.in_ok-places.places.items c.args.world.now c.requires (λ index less. c.in_ok-places.ensures.all index (omega (arith, c.rooms.ensures))))

-- in a census of two tallies with no number there is none
counts_none : (ids owners : Tally) → ((n : ℕ) → tallied ids n ≡ 0) → ((n : ℕ) → tallied owners n ≡ 0) → (counted : Counted) (n : ℕ) → tallied (tally_of counted (record { ids = ids; owners = owners })) n ≡ 0
counts_none ids owners no_id no_owner Ids n = no_id n
counts_none ids owners no_id no_owner SiteOwners n = no_owner n

pub enter_rooms-requires-clause-census : goal.enter_rooms-requires-clause-census
enter_rooms-requires-clause-census c counted n =
    let none : times_apart counted n c.deref.result.now c.args.world.now.rooms ≡ 0 =
    ap (λ (places : List ℕ). times_apart counted n places c.args.world.now.rooms) c.deref.ensures.value
    ∙ apart_all counted n c.in_ok-places.places.items c.args.world.now.rooms (left_out c.in_ok-places.places.items c.args.world.now c.requires (λ index less. c.in_ok-places.ensures.all index (omega (arith, c.rooms.ensures)))) in
    counts_none c.new.result c.new-2.result c.new.ensures c.new-2.ensures counted n ∙ sym none

pub enter_rooms-requires-clause-rooms : goal.enter_rooms-requires-clause-rooms
enter_rooms-requires-clause-rooms c = rw c.deref.ensures.value (subst (λ (most : ℕ). AllByRecursion (λ place. place < most) c.in_ok-places.places.items) c.rooms.ensures c.in_ok-places.ensures.within)
