-- The rooms and the accounts of a world, one after the other.
use Rattle.std.proofs.Common.{◌≡◌, ℕ, zero, suc, ◌+◌, ◌*◌, ◌/◌, ◌%◌, ◌^◌, ◌<◌, ◌≤◌, pos, List, [], ◌∷◌, ◌++◌, map, length, refl, ap, sym, subst, ◌∙◌, arith}
use Rattle.std.specs.List.{AllByRecursion, range_with_len}
use Rattle.std.proofs.lemmas.List.FromFn.{map-range_with_len_more, length-map-range_with_len}
use Rattle.room_terrain.specs.declared.name.RoomName.{RoomName}
use Rattle.room_terrain.specs.declared.terrain.Ground.{Ground}
use Rattle.object_store.specs.declared.account.Account.{Account}
use Rattle.object_store.specs.declared.world.Room.{Room}
use Rattle.object_store.specs.Stored.{Stored, IsLast}
use Rattle.room_table.specs.Tables.{Table}
use Rattle.world_gen.specs.Generator.{account, accounts_to, draw, grounds, made_room, made_table, rooms_from, state_after}
use Rattle.world_gen.proofs.Drawn.{draw_behind, state_behind}

-- ---- rooms

pub rooms_none : (seed players : ℕ) → rooms_from seed players 0 ≡ []
unfolding rooms_from
rooms_none seed players = refl

rooms_more : (seed players n : ℕ) → rooms_from seed players (n + 1)
    ≡ rooms_from seed players n ++ made_room players n (state_after seed (2306 * n)) ∷ []
unfolding rooms_from
rooms_more seed players n =
    map-range_with_len_more (λ index. made_room players index (state_after seed (2306 * index))) 0 n n (omega arith)

rooms_long : (seed players n : ℕ) → length (rooms_from seed players n) ≡ n
unfolding rooms_from
rooms_long seed players n =
    length-map-range_with_len (λ index. made_room players index (state_after seed (2306 * index))) 0 n

index_of : (players n u v : ℕ) → (made_table players n u v).index ≡ n
unfolding made_table
index_of players n u v = refl

pub room_at_place : (seed players n u v : ℕ) (before world : Stored) (table : Table)
    → world ≡ record before { rooms = rooms_from seed players n } → table ≡ made_table players n u v
    → table.index ≡ length world.rooms
room_at_place seed players n u v before world table e is =
    ap (λ (t : Table). t.index) is ∙ index_of players n u v ∙ sym (rooms_long seed players n)
    ∙ ap (λ (w : Stored). length w.rooms) (sym e)

pub rooms_fit : (seed players n : ℕ) (before world : Stored)
    → world ≡ record before { rooms = rooms_from seed players n } → n < 400
    → length world.rooms + 1 < 2 ^ 32
rooms_fit seed players n before world e few =
    let long : length world.rooms ≡ n = ap (λ (w : Stored). length w.rooms) e ∙ rooms_long seed players n in
    omega arith

pub room_next : (seed players n t u : ℕ) (before world after : Stored) (name : RoomName)
    (terrain : List Ground) (table : Table)
    → world ≡ record before { rooms = rooms_from seed players n }
    → t ≡ state_after seed (2306 * n)
    → name ≡ record { column = pos (n % 20); row = pos (n / 20) }
    → terrain ≡ grounds t
    → u ≡ state_after t 2304
    → table ≡ made_table players n (draw u 0) (draw u 1)
    → after ≡ record world {
      rooms = world.rooms ++ record { name = name; terrain = terrain; table = table } ∷ [];
    }
    → after ≡ record before { rooms = rooms_from seed players (n + 1) }
room_next seed players n t u before world after name terrain table e at named ground behind made h =
    let first : draw u 0 ≡ draw t 2304 = ap (λ v. draw v 0) behind ∙ draw_behind t 2304 0 in
    let second : draw u 1 ≡ draw t 2305 = ap (λ v. draw v 1) behind ∙ draw_behind t 2304 1 in
    let stands : table ≡ made_table players n (draw t 2304) (draw t 2305) =
    made ∙ ap (λ v. made_table players n v (draw u 1)) first ∙ ap (λ v. made_table players n (draw t 2304) v) second in
    let room : Room = record { name = name; terrain = terrain; table = table } in
    let same : room ≡ made_room players n (state_after seed (2306 * n)) =
    ap (λ v. let r : Room = record { name = v; terrain = terrain; table = table } in r) named
    ∙ ap (λ v. let r : Room = record { name = record { column = pos (n % 20); row = pos (n / 20) }; terrain = v; table = table } in r) ground
    ∙ ap (λ v. let r : Room = record { name = record { column = pos (n % 20); row = pos (n / 20) }; terrain = grounds t; table = v } in r) stands
    ∙ ap (λ v. made_room players n v) at in
    h ∙ ap (λ (w : Stored). let s : Stored = record w { rooms = w.rooms ++ room ∷ [] } in s) e
    ∙ ap (λ v. let s : Stored = record before { rooms = rooms_from seed players n ++ v ∷ [] } in s) same
    ∙ ap (λ v. let s : Stored = record before { rooms = v } in s) (sym (rooms_more seed players n))

pub room_state : (seed n t u v : ℕ)
    → t ≡ state_after seed (2306 * n) → u ≡ state_after t 2304 → v ≡ state_after u 2
    → v ≡ state_after seed (2306 * (n + 1))
room_state seed n t u v at ground source =
    let on : 2306 * n + 2306 ≡ 2306 * (n + 1) = omega arith in
    source ∙ ap (λ w. state_after w 2) ground ∙ state_behind t 2304 2
    ∙ ap (λ w. state_after w 2306) at ∙ state_behind seed (2306 * n) 2306 ∙ ap (λ k. state_after seed k) on

-- ---- accounts

pub accounts_none : accounts_to 0 ≡ []
unfolding accounts_to
accounts_none = refl

accounts_more : (n : ℕ) → accounts_to (n + 1) ≡ accounts_to n ++ account (n + 1) ∷ []
unfolding accounts_to
accounts_more n = map-range_with_len_more account 1 n (n + 1) (omega arith)

accounts_long : (n : ℕ) → length (accounts_to n) ≡ n
unfolding accounts_to
accounts_long n = length-map-range_with_len account 1 n

below : (a n player : ℕ) → a + n ≤ player
    → AllByRecursion (λ (earlier : Account). earlier.player < player) (map account (range_with_len a n))
below a zero player h = tt
below a (suc n) player h = (omega arith, below (a + 1) n player (omega arith))

below_next : (n : ℕ) → IsLast (n + 1) (accounts_to n)
unfolding accounts_to
below_next n = below 1 n (n + 1) (omega arith)

pub account_last : (n : ℕ) (one : Account) (before world : Stored)
    → world ≡ record before { accounts = accounts_to n } → one ≡ account (n + 1)
    → IsLast one.player world.accounts
account_last n one before world e is =
    subst (λ (w : Stored). IsLast one.player w.accounts) (sym e)
    (subst (λ (a : Account). IsLast a.player (accounts_to n)) (sym is) (below_next n))

pub accounts_fit : (n : ℕ) (before world : Stored)
    → world ≡ record before { accounts = accounts_to n } → n < 8 → length world.accounts + 1 < 2 ^ 32
accounts_fit n before world e few =
    let long : length world.accounts ≡ n = ap (λ (w : Stored). length w.accounts) e ∙ accounts_long n in
    omega arith

pub account_next : (n : ℕ) (one : Account) (before world after : Stored)
    → world ≡ record before { accounts = accounts_to n } → one ≡ account (n + 1)
    → after ≡ record world { accounts = world.accounts ++ one ∷ [] }
    → after ≡ record before { accounts = accounts_to (n + 1) }
account_next n one before world after e is h =
    h ∙ ap (λ (w : Stored). let s : Stored = record w { accounts = w.accounts ++ one ∷ [] } in s) e
    ∙ ap (λ v. let s : Stored = record before { accounts = accounts_to n ++ v ∷ [] } in s) is
    ∙ ap (λ v. let s : Stored = record before { accounts = v } in s) (sym (accounts_more n))

-- ---- a world to which nothing was added yet

pub no_rooms_yet : (seed players : ℕ) (world : Stored)
    → world.rooms ≡ [] → world ≡ record world { rooms = rooms_from seed players 0 }
no_rooms_yet seed players world none =
    ap (λ v. let s : Stored = record world { rooms = v } in s) (none ∙ sym (rooms_none seed players))

pub no_accounts_yet : (world : Stored)
    → world.accounts ≡ [] → world ≡ record world { accounts = accounts_to 0 }
no_accounts_yet world none =
    ap (λ v. let s : Stored = record world { accounts = v } in s) (none ∙ sym accounts_none)
