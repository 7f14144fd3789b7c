-- Tables that are put in the place of others one by one, the last first.
use Rattle.std.proofs.Common.{◌≡◌, ◌≢◌, ℕ, zero, suc, ◌+◌, ◌<◌, ◌==◌, cond, List, [], ◌∷◌, ◌++◌, map, Some, unwrap_or, refl, sym, ap, subst, ◌∙◌, arith}
use Rattle.std.specs.Prelude.{slice_get}
use Rattle.std.specs.List.{AllByRecursion, find}
use Rattle.std.proofs.lemmas.Bool.{eq-eqb, ne_eqb}
use Rattle.changed_rules.specs.Census.{ArePlaced}
use Rattle.object_store.specs.declared.world.Room.{Room}
use Rattle.object_store.specs.Lending.{with_table}
use Rattle.object_store.specs.Stored.{Stored}
use Rattle.room_table.specs.Tables.{Table}
use Rattle.record_follows.specs.Follows.{room_after}
use Rattle.record_follows.specs.inner.Parts.{with_rooms}

-- The rooms stand in their places from one on.
abbrev StandFrom : ℕ → List Room → Type 0
StandFrom n rooms = (k : ℕ) (room : Room) → slice_get rooms k ≡ Some room → room.table.index ≡ n + k

later_stand : (n : ℕ) (room : Room) (rooms : List Room) → StandFrom n (room ∷ rooms) → StandFrom (suc n) rooms
later_stand n room rooms stand k other is = let at = stand (suc k) other is in omega (arith, at)

other_put : (table : Table) (tables : List Table) (room : Room) → table.index ≢ room.table.index → room_after (table ∷ tables) room ≡ room_after tables room
other_put table tables room other = ap (λ b. record room { table = unwrap_or (cond b (Some table) (find (λ (t : Table). t.index == room.table.index) tables)) room.table }) (ne_eqb table.index room.table.index other)

own_put : (table : Table) (tables : List Table) (room : Room) → table.index ≡ room.table.index → room_after (table ∷ tables) room ≡ record room { table = table }
own_put table tables room own = ap (λ b. record room { table = unwrap_or (cond b (Some table) (find (λ (t : Table). t.index == room.table.index) tables)) room.table }) (eq-eqb table.index room.table.index own)

-- a table of an earlier place changes nothing
none_put : (n : ℕ) (table : Table) (tables : List Table) (rooms : List Room) → StandFrom n rooms → table.index < n → map (room_after tables) rooms ≡ map (room_after (table ∷ tables)) rooms
none_put n table tables [] stand less = refl
none_put n table tables (room ∷ rooms) stand less =
    let at = stand 0 room refl in
    let here = other_put table tables room (λ same. (omega (arith, same, at, less))) in
    let rest = none_put (suc n) table tables rooms (later_stand n room rooms stand) (omega (arith, less)) in
    λ i. sym here i ∷ rest i

one_put : (n k : ℕ) (table : Table) (tables : List Table) (rooms : List Room) → StandFrom n rooms → table.index ≡ n + k → with_table k table (map (room_after tables) rooms) ≡ map (room_after (table ∷ tables)) rooms
one_put n k table tables [] stand is = refl
one_put n zero table tables (room ∷ rooms) stand is =
    let at = stand 0 room refl in
    let here = own_put table tables room (omega (arith, at, is)) in
    let rest = none_put (suc n) table tables rooms (later_stand n room rooms stand) (omega (arith, is)) in
    λ i. sym here i ∷ rest i
one_put n (suc k) table tables (room ∷ rooms) stand is =
    let at = stand 0 room refl in
    let here = other_put table tables room (λ same. (omega (arith, same, at, is))) in
    let rest = one_put (suc n) k table tables rooms (later_stand n room rooms stand) (omega (arith, is)) in
    λ i. sym here i ∷ rest i

-- A table that is put where others were put before comes before them.
pub table_put : (world now : Stored) (table : Table) (tables : List Table) (index : ℕ) → ArePlaced world.rooms → index ≡ table.index → now ≡ with_rooms tables world
    → record now { rooms = with_table index table now.rooms } ≡ with_rooms (table ∷ tables) world
table_put world now table tables index placed is so_far =
    ap (λ (w : Stored). record w { rooms = with_table index table w.rooms }) so_far
    ∙ ap (λ (rooms : List Room). record world { rooms = rooms }) (one_put 0 index table tables world.rooms (λ k room there. (let at = placed k room there in omega (arith, at))) (omega (arith, is)))

none_taken : (rooms : List Room) → map (room_after []) rooms ≡ rooms
none_taken [] = refl
none_taken (room ∷ rooms) = ap (λ (rest : List Room). room ∷ rest) (none_taken rooms)

pub nothing_put : (world : Stored) → with_rooms [] world ≡ world
nothing_put world = ap (λ (rooms : List Room). record world { rooms = rooms }) (none_taken world.rooms)

-- ---- the table that is taken from the end

all_behind : (most : ℕ) (front : List Table) (table : Table) (later : List Table) → AllByRecursion (λ (t : Table). t.index < most) ((front ++ table ∷ []) ++ later) → table.index < most
all_behind most [] table later all = all.0
all_behind most (first ∷ front) table later all = all_behind most front table later all.1

pub all_middle : (tables front later : List Table) (table : Table) (most : ℕ) → tables ≡ (front ++ table ∷ []) ++ later → AllByRecursion (λ (t : Table). t.index < most) tables → table.index < most
all_middle tables front later table most is all = all_behind most front table later (subst (AllByRecursion (λ (t : Table). t.index < most)) is all)
