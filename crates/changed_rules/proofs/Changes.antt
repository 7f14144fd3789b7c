-- A world with other tables in the place of some.
use Rattle.std.proofs.Common.{◌≡◌, ◌/◌, ◌%◌, ◌^◌, ◌<◌, ◌≤◌, ◌==◌, ℕ, zero, suc, Bool, true, false, cond, List, [], ◌∷◌, map, Option, Some, None, unwrap_or, MatchBool, refl, sym, ap, subst, ◌∙◌, inl, inr, arith, length}
use Rattle.std.specs.Prelude.{slice_get}
use Rattle.std.specs.List.{AllByRecursion, find}
use Rattle.std.proofs.lemmas.Bool.{MatchBool-at_true, eq-eqb, eqb-true, or_left, or_right}
use Rattle.std.proofs.lemmas.List.{length-map}
use Rattle.std.proofs.lemmas.Option.{same_Some}
use Rattle.object_store.specs.declared.account.Account.{Account}
use Rattle.room_table.specs.declared.object.Object.{Object}
use Rattle.object_store.specs.declared.world.Room.{Room}
use Rattle.object_store.specs.Stored.{Stored, HasAccount, HaveRisingTables}
use Rattle.room_table.specs.Tables.{Table}
use Rattle.rule_check.specs.Kept.{KeepsObjectRules}
use Rattle.rule_check.specs.inner.Checks.{IsListed}
use Rattle.rule_check.proofs.Found.{mapped_at, mapped_back}
use Rattle.rule_check.proofs.Minima.{all_at}
use Rattle.changed_rules.specs.declared.census.Census.{Census}
use Rattle.changed_rules.specs.declared.counted.Counted.{Counted}
use Rattle.changed_rules.specs.Census.{ArePlaced, HasLeft, IsCensusApart, IsChanged, IsUnborn, IsWronglyHeld, KeepsElsewhere, KeepsHere, KeepsSerials, indices, room_with}
use Rattle.changed_rules.specs.Counts.{is_among, most_of, times_apart, times_in}
use Rattle.changed_rules.proofs.Apart.{apart_less, apart_same}
use Rattle.changed_rules.proofs.Lists.{all_weaker, sum_map, sum_same}
use Rattle.changed_rules.proofs.Split.{has_listed, held_less, listed_has, split_from}

-- ---- the first table of an index

-- A table of the index stands in the list.
record IsThere (index : ℕ) (tables : List Table) (table : Table) : Type 0 where
  place : ℕ
  at : slice_get tables place ≡ Some table
  named : table.index ≡ index

there : (index : ℕ) (tables : List Table) (table : Table) → find (λ t. t.index == index) tables ≡ Some table → IsThere index tables table
there index [] table is = absurd cc
there index (first ∷ tables) table is =
    elim (first.index == index) as (λ b. (first.index == index) ≡ b → cond b (Some first) (find (λ (t : Table). t.index == index) tables) ≡ Some table → IsThere index (first ∷ tables) table) [
      | true ↦ λ tied found. record { place = 0; at = found; named = ap (λ (t : Table). t.index) (sym (same_Some first table found)) ∙ eqb-true first.index index tied }
      | false ↦ λ tied found. let rest = there index tables table found in record { place = suc rest.place; at = rest.at; named = rest.named }
    ] refl is

among_there : (index : ℕ) (tables : List Table) (place : ℕ) (table : Table) → slice_get tables place ≡ Some table → table.index ≡ index → is_among index (indices tables) ≡ true
among_there index [] place table at named = absurd cc
among_there index (first ∷ tables) zero table at named = or_left (index == first.index) (is_among index (indices tables)) (eq-eqb index first.index (sym named ∙ ap (λ (t : Table). t.index) (sym (same_Some first table at))))
among_there index (first ∷ tables) (suc place) table at named = or_right (index == first.index) (is_among index (indices tables)) (among_there index tables place table at named)

pub indices_within : (most : ℕ) (tables : List Table) → AllByRecursion (λ table. table.index < most) tables → AllByRecursion (λ index. index < most) (indices tables)
indices_within most [] all = tt
indices_within most (table ∷ tables) all = (all.0, indices_within most tables all.1)

-- What a room is with the tables: as it was, or with one of them that has its index.
with_cases : (tables : List Table) (room : Room) (P : Room → Type 0) → P room → ((table : Table) → IsThere room.table.index tables table → P (record room { table = table })) → P (room_with tables room)
with_cases tables room P same other =
    let go : (found : Option Table) → find (λ (t : Table). t.index == room.table.index) tables ≡ found → P (record room { table = unwrap_or found room.table }) =
    λ found. elim found as (λ f. find (λ (t : Table). t.index == room.table.index) tables ≡ f → P (record room { table = unwrap_or f room.table })) [
      | None ↦ λ is. same
      | Some table ↦ λ is. other table (there room.table.index tables table is)
    ] in
    go (find (λ (t : Table). t.index == room.table.index) tables) refl

pub with_index : (tables : List Table) (room : Room) → (room_with tables room).table.index ≡ room.table.index
with_index tables room = with_cases tables room (λ r. r.table.index ≡ room.table.index) refl (λ table is. is.named)

with_none : (tables : List Table) (room : Room) → is_among room.table.index (indices tables) ≡ false → room_with tables room ≡ room
with_none tables room apart = with_cases tables room (λ r. r ≡ room) refl (λ table is. let among = among_there room.table.index tables is.place table is.at is.named in absurd cc)

-- ---- counts

apart_with : (counted : Counted) (n : ℕ) (tables : List Table) (rooms : List Room) → times_apart counted n (indices tables) (map (room_with tables) rooms) ≡ times_apart counted n (indices tables) rooms
apart_with counted n tables rooms =
    let f : Room → ℕ = λ room. cond (is_among room.table.index (indices tables)) 0 (times_in counted n room.table.objects) in
    let one : (room : Room) → f (room_with tables room) ≡ f room =
    λ room. elim (is_among room.table.index (indices tables)) as (λ b. is_among room.table.index (indices tables) ≡ b → f (room_with tables room) ≡ cond b 0 (times_in counted n room.table.objects)) [
      | true ↦ λ among. ap (λ (b : Bool). cond b 0 (times_in counted n (room_with tables room).table.objects)) (ap (λ (m : ℕ). is_among m (indices tables)) (with_index tables room) ∙ among)
      | false ↦ λ apart. ap f (with_none tables room apart) ∙ ap (λ (b : Bool). cond b 0 (times_in counted n room.table.objects)) apart
    ] refl in
    sum_map f (room_with tables) rooms ∙ sum_same (λ room. f (room_with tables room)) f rooms (λ i room at. one room)

pub left_census : (tables : List Table) (places : List ℕ) (before after : Stored) (census : Census) → ((m : ℕ) → is_among m places ≡ is_among m (indices tables)) → IsChanged tables before after → IsCensusApart places before census
    → IsCensusApart (indices tables) after census
left_census tables places before after census same changed is counted n =
    is counted n
    ∙ apart_same counted n places (indices tables) before.rooms same
    ∙ sym (apart_with counted n tables before.rooms)
    ∙ ap (times_apart counted n (indices tables)) (sym changed.rooms)

-- ---- serials

-- each room's next serial is at least what it was
serial_with : (tables : List Table) (rooms : List Room) (i : ℕ) (room : Room) → ArePlaced rooms → slice_get rooms i ≡ Some room → AllByRecursion (KeepsSerials rooms) tables → room.table.next ≤ (room_with tables room).table.next
serial_with tables rooms i room placed at all =
    with_cases tables room (λ r. room.table.next ≤ r.table.next) (omega arith)
    (λ table is. all_at (KeepsSerials rooms) tables is.place table all is.at room (ap (slice_get rooms) (is.named ∙ placed i room at) ∙ at))

born_with : (tables : List Table) (rooms : List Room) (id : ℕ) → ArePlaced rooms → AllByRecursion (KeepsSerials rooms) tables → IsUnborn (map (room_with tables) rooms) id → IsUnborn rooms id
born_with tables rooms id placed all is =
    elim is [
      | inl late ↦ inl (λ room at.
          let up : room.table.next ≤ (room_with tables room).table.next = serial_with tables rooms (id / 2 ^ 32) room placed at all in
          let low : (room_with tables room).table.next ≤ id % 2 ^ 32 = late (room_with tables room) (mapped_at (room_with tables) rooms (id / 2 ^ 32) room at) in
          omega arith)
      | inr zero_serial ↦ inr zero_serial
    ]

-- ---- players

listed_with : (accounts others : List Account) (player : ℕ) → map (λ account. account.player) others ≡ map (λ account. account.player) accounts → IsListed accounts player → IsListed others player
listed_with accounts others player same is =
    let back = mapped_back (λ (account : Account). account.player) others is.index is.account.player (ap (λ players. slice_get players is.index) same ∙ mapped_at (λ (account : Account). account.player) accounts is.index is.account is.place) in
    record { index = is.index; account = back.0; place = back.1; is = back.2 ∙ is.is }

has_with : (accounts others : List Account) → map (λ account. account.player) others ≡ map (λ account. account.player) accounts → (player : ℕ) → HasAccount player accounts → HasAccount player others
has_with accounts others same player has = listed_has others player (listed_with accounts others player same (has_listed accounts player has))

-- ---- the rules elsewhere

here_with : (tables : List Table) (before after : Stored) (room : Room) → ArePlaced before.rooms → AllByRecursion (KeepsSerials before.rooms) tables → IsChanged tables before after → KeepsHere before room → KeepsHere after room
here_with tables before after room placed serials changed here = record {
  rising = here.rising;
  tiles = here.tiles;
  rules = here.rules;
  born = all_weaker (λ (object : Object). IsUnborn before.rooms object.id → ⊥) (λ (object : Object). IsUnborn after.rooms object.id → ⊥) room.table.objects
      (λ object born unborn. born (born_with tables before.rooms object.id placed serials (subst (λ rooms. IsUnborn rooms object.id) changed.rooms unborn))) here.born;
  held = all_weaker (λ (object : Object). IsWronglyHeld before.accounts object → ⊥) (λ (object : Object). IsWronglyHeld after.accounts object → ⊥) room.table.objects
      (λ object held wrongly. held (held_less object (λ player. HasAccount player after.accounts) (λ player. HasAccount player before.accounts) (has_with before.accounts after.accounts changed.same) wrongly)) here.held;
}

pub left_kept : (tables : List Table) (before after : Stored) → ArePlaced before.rooms → AllByRecursion (KeepsSerials before.rooms) tables → IsChanged tables before after → KeepsElsewhere [] before → KeepsElsewhere (indices tables) after
left_kept tables before after placed serials changed kept = record {
  each = λ i room at apart.
      let back = mapped_back (room_with tables) before.rooms i room (ap (λ rooms. slice_get rooms i) (sym changed.rooms) ∙ at) in
      let index : back.0.table.index ≡ room.table.index = sym (with_index tables back.0) ∙ ap (λ (r : Room). r.table.index) back.2 in
      let same : back.0 ≡ room = sym (with_none tables back.0 (ap (λ (m : ℕ). is_among m (indices tables)) index ∙ apart)) ∙ back.2 in
      here_with tables before after room placed serials changed (subst (KeepsHere before) same (kept.each i back.0 back.1 refl));
  few = λ counted n. (
      let fits : times_apart counted n [] before.rooms ≤ most_of counted = kept.few counted n in
      let one : times_apart counted n (indices tables) after.rooms ≡ times_apart counted n (indices tables) before.rooms = ap (times_apart counted n (indices tables)) changed.rooms ∙ apart_with counted n tables before.rooms in
      omega (arith, apart_less counted n (indices tables) before.rooms)
      );
}

-- ---- between leave and enter

placed_with : (tables : List Table) (rooms : List Room) → ArePlaced rooms → ArePlaced (map (room_with tables) rooms)
placed_with tables rooms placed i room at =
    let back = mapped_back (room_with tables) rooms i room at in
    ap (λ (r : Room). r.table.index) (sym back.2) ∙ with_index tables back.0 ∙ placed i back.0 back.1

pub has_left : (tables : List Table) (places : List ℕ) (before after : Stored) (census : Census) (kept : Bool) → ArePlaced before.rooms → AllByRecursion (λ table. table.index < length before.rooms) tables → HaveRisingTables before.rooms
    → KeepsObjectRules before → ((m : ℕ) → is_among m places ≡ is_among m (indices tables)) → IsCensusApart places before census
    → MatchBool kept (AllByRecursion (KeepsSerials before.rooms) tables) (AllByRecursion (KeepsSerials before.rooms) tables → ⊥) → IsChanged tables before after → HasLeft tables after census kept
has_left tables places before after census kept placed within rising rules same is serials changed = record {
  rooms = subst (λ (most : ℕ). AllByRecursion (λ table. table.index < most) tables) (sym (ap length changed.rooms ∙ length-map before.rooms (room_with tables))) within;
  places = subst ArePlaced (sym changed.rooms) (placed_with tables before.rooms placed);
  counts = left_census tables places before after census same changed is;
  rest = λ yes. left_kept tables before after placed (MatchBool-at_true (AllByRecursion (KeepsSerials before.rooms) tables) (AllByRecursion (KeepsSerials before.rooms) tables → ⊥) yes serials) changed (split_from before rules rising);
}
