-- Tables and accounts that are put in the place of others.
use Rattle.std.proofs.Common.{drop-cons, ◌≡◌, ◌≢◌, ℕ, zero, suc, ◌+◌, ◌<◌, ◌==◌, Bool, true, false, cond, List, [], ◌∷◌, map, length, drop, get_or, set, Option, Some, None, option_map, unwrap_or, refl, sym, ap, subst, ◌∙◌, arith, add-one, replicate, get_or-set_same, get_or-set_other}
use Rattle.std.specs.Prelude.{slice_get, slice_set}
use Rattle.std.specs.Borrow.{Bor}
use Rattle.std.specs.List.{AllByRecursion, find}
use Rattle.std.proofs.lemmas.Bool.{eqb-true, eq-eqb, ne_eqb}
use Rattle.std.proofs.lemmas.Option.{slice_get-get_or}
use Rattle.object_store.specs.declared.account.Account.{Account}
use Rattle.object_store.specs.declared.world.Room.{Room}
use Rattle.object_store.specs.Lending.{with_table}
use Rattle.object_store.specs.Stored.{Stored, HasAccount, find_account, with_account}
use Rattle.room_table.specs.Tables.{Table}
use Rattle.rule_check.proofs.Minima.{all_at}
use Rattle.record_follows.specs.Follows.{account_after, room_after}
use Rattle.record_follows.specs.inner.Parts.{AreFirst, first_mapped, noted, with_accounts}

-- ---- accounts

pub player_stays : (accounts : List Account) (account : Account) → (account_after accounts account).player ≡ account.player
player_stays [] account = refl
player_stays (first ∷ later) account =
    elim (first.player == account.player) as (λ b. (first.player == account.player) ≡ b → (unwrap_or (cond b (Some first) (find_account account.player later)) account).player ≡ account.player) [
      | true ↦ λ is. eqb-true first.player account.player is
      | false ↦ λ is. player_stays later account
    ] refl

one_more : (first : Account) (later : List Account) (account : Account)
    → cond ((account_after later account).player == first.player) first (account_after later account) ≡ account_after (first ∷ later) account
one_more first later account =
    elim (first.player == account.player) as (λ b. (first.player == account.player) ≡ b
    → cond ((account_after later account).player == first.player) first (account_after later account) ≡ unwrap_or (cond b (Some first) (find_account account.player later)) account) [
      | true ↦ λ is. ap (λ (b : Bool). cond b first (account_after later account)) (eq-eqb (account_after later account).player first.player (player_stays later account ∙ sym (eqb-true first.player account.player is)))
      | false ↦ λ is. ap (λ (b : Bool). cond b first (account_after later account)) (ne_eqb (account_after later account).player first.player
          (λ same. let tied : (first.player == account.player) ≡ true = eq-eqb first.player account.player (sym same ∙ player_stays later account) in absurd cc))
    ] refl

-- An account that is put in the place of its player's comes before those that were put there.
pub put_one : (first : Account) (later accounts : List Account) → with_account first (map (account_after later) accounts) ≡ map (account_after (first ∷ later)) accounts
put_one first later [] = refl
put_one first later (account ∷ accounts) =
    ap (λ (a : Account). a ∷ with_account first (map (account_after later) accounts)) (one_more first later account)
    ∙ ap (λ (rest : List Account). account_after (first ∷ later) account ∷ rest) (put_one first later accounts)

pub put_none : (accounts : List Account) → map (account_after []) accounts ≡ accounts
put_none [] = refl
put_none (account ∷ accounts) = ap (λ (rest : List Account). account ∷ rest) (put_none accounts)

found_after : (later accounts : List Account) (player : ℕ) → find_account player (map (account_after later) accounts) ≡ option_map (account_after later) (find_account player accounts)
found_after later [] player = refl
found_after later (account ∷ accounts) player =
    ap (λ (n : ℕ). cond (n == player) (Some (account_after later account)) (find_account player (map (account_after later) accounts))) (player_stays later account)
    ∙ elim (account.player == player) as (λ b. cond b (Some (account_after later account)) (find_account player (map (account_after later) accounts)) ≡ option_map (account_after later) (cond b (Some account) (find_account player accounts))) [
      | true ↦ refl
      | false ↦ found_after later accounts player
    ]

pub has_after : (later accounts : List Account) (player : ℕ) → HasAccount player accounts → HasAccount player (map (account_after later) accounts)
has_after later accounts player has = (account_after later has.0, found_after later accounts player ∙ ap (option_map (account_after later)) has.1)

-- ---- the first table of each index

-- One more table in front is the first of its index.
pub note_one : (firsts : List (Option (Bor Table))) (lent : Bor Table) (later : List Table) → lent.now.index < length firsts → AreFirst firsts later → AreFirst (set firsts lent.now.index (Some lent)) (lent.now ∷ later)
note_one firsts lent later within first index =
    elim (lent.now.index == index) as (λ b. (lent.now.index == index) ≡ b
    → noted (set firsts lent.now.index (Some lent)) index ≡ cond b (Some lent.now) (find (λ (table : Table). table.index == index) later)) [
      | true ↦ λ is. let same : lent.now.index ≡ index = eqb-true lent.now.index index is in
          ap (λ (n : ℕ). option_map (λ (one : Bor Table). one.now) (get_or (set firsts lent.now.index (Some lent)) n None)) (sym same)
          ∙ ap (option_map (λ (one : Bor Table). one.now)) (get_or-set_same firsts lent.now.index (Some lent) None within)
      | false ↦ λ is.
          let apart : index ≢ lent.now.index = λ same. (let tied : (lent.now.index == index) ≡ true = eq-eqb lent.now.index index (sym same) in absurd cc) in
          ap (option_map (λ (one : Bor Table). one.now)) (get_or-set_other firsts lent.now.index index (Some lent) None apart) ∙ first index
    ] refl

-- ---- rooms

pub set_same : {X : Type 0} (xs : List X) (i : ℕ) (x : X) → slice_get xs i ≡ Some x → slice_set xs i x ≡ xs
set_same [] i x is = absurd cc
set_same (first ∷ xs) zero x is = let same : x ≡ first = cc in ap (λ y. y ∷ xs) same
set_same (first ∷ xs) (suc i) x is = ap (λ rest. first ∷ rest) (set_same xs i x is)

-- what a loan of a table leaves
pub lent_set : (rooms : List Room) (index : ℕ) (room : Room) (table : Table) → slice_get rooms index ≡ Some room → with_table index table rooms ≡ slice_set rooms index (record room { table = table })
lent_set [] index room table is = absurd cc
lent_set (first ∷ rooms) zero room table is = let same : first ≡ room = cc in ap (λ (r : Room). record r { table = table } ∷ rooms) same
lent_set (first ∷ rooms) (suc index) room table is = ap (λ rest. first ∷ rest) (lent_set rooms index room table is)

pub unmapped_at : {X : Type 0} (f : X → X) (count : ℕ) (xs : List X) → slice_get (first_mapped f count xs) count ≡ slice_get xs count
unmapped_at f zero xs = refl
unmapped_at f (suc count) [] = refl
unmapped_at f (suc count) (x ∷ xs) = unmapped_at f count xs

pub map_one : {X : Type 0} (f : X → X) (count : ℕ) (xs : List X) (x : X) → slice_get xs count ≡ Some x → slice_set (first_mapped f count xs) count (f x) ≡ first_mapped f (suc count) xs
map_one f count [] x is = absurd cc
map_one f zero (first ∷ xs) x is = let same : x ≡ first = cc in ap (λ y. f y ∷ xs) same
map_one f (suc count) (first ∷ xs) x is = ap (λ rest. f first ∷ rest) (map_one f count xs x is)

pub map_all : {X : Type 0} (f : X → X) (xs : List X) → first_mapped f (length xs) xs ≡ map f xs
map_all f [] = refl
map_all f (x ∷ xs) = ap (λ rest. f x ∷ rest) (map_all f xs)

pub length_mapped : {X : Type 0} (f : X → X) (count : ℕ) (xs : List X) → length (first_mapped f count xs) ≡ length xs
length_mapped f zero xs = refl
length_mapped f (suc count) [] = refl
length_mapped f (suc count) (x ∷ xs) = ap suc (length_mapped f count xs)

-- ---- the steps of the loops

pub put_step : (world now new : Stored) (accounts : List Account) (at i : ℕ) (one copy : Account) → at ≡ suc i → i < length accounts → now ≡ with_accounts (drop at accounts) world → one ≡ get_or accounts i one → copy ≡ one
    → new ≡ record now { accounts = with_account copy now.accounts } → new ≡ with_accounts (drop i accounts) world
put_step world now new accounts at i one copy next within so_far here copied put =
    put
    ∙ ap (λ (a : Account). record now { accounts = with_account a now.accounts }) (copied ∙ here)
    ∙ ap (λ (w : Stored). record w { accounts = with_account (get_or accounts i one) w.accounts }) (so_far ∙ ap (λ (n : ℕ). with_accounts (drop n accounts) world) next)
    ∙ ap (λ (all : List Account). record world { accounts = all }) (put_one (get_or accounts i one) (drop (suc i) accounts) world.accounts)
    ∙ ap (λ (all : List Account). with_accounts all world) (sym (drop-cons accounts i one within))

pub index_fits : (tables : List Table) (rooms i : ℕ) (one : Table) → i < length tables → one ≡ get_or tables i one → AllByRecursion (λ (t : Table). t.index < rooms) tables → one.index < rooms
index_fits tables rooms i one within here all = subst (λ (t : Table). t.index < rooms) (sym here) (all_at (λ (t : Table). t.index < rooms) tables i (get_or tables i one) all (slice_get-get_or tables i one within))

pub note_step : (firsts : List (Option (Bor Table))) (lent : Bor Table) (tables : List Table) (at i index : ℕ) → at ≡ suc i → i < length tables → lent.now ≡ get_or tables i lent.now → index ≡ lent.now.index → index < length firsts
    → AreFirst firsts (drop at tables) → AreFirst (set firsts index (Some lent)) (drop i tables)
note_step firsts lent tables at i index next within here is fits first =
    subst (AreFirst (set firsts index (Some lent))) (ap (λ (t : Table). t ∷ drop (suc i) tables) here ∙ sym (drop-cons tables i lent.now within))
    (subst (λ (n : ℕ). AreFirst (set firsts n (Some lent)) (lent.now ∷ drop (suc i) tables)) (sym is)
    (note_one firsts lent (drop (suc i) tables) (subst (λ (n : ℕ). n < length firsts) is fits) (subst (λ (n : ℕ). AreFirst firsts (drop n tables)) next first)))

pub none_noted : (count index : ℕ) → noted (replicate count None) index ≡ None
none_noted zero index = refl
none_noted (suc count) zero = refl
none_noted (suc count) (suc index) = none_noted count index

pub found_room : (firsts : List (Option (Bor Table))) (tables : List Table) (room : Room) (index : ℕ) (found : Option Table) → AreFirst firsts tables → index ≡ room.table.index → found ≡ noted firsts index → room_after tables room ≡ record room { table = unwrap_or found room.table }
found_room firsts tables room index found first at is = ap (λ (o : Option Table). record room { table = unwrap_or o room.table }) (sym (first room.table.index) ∙ ap (noted firsts) (sym at) ∙ sym is)

one_there : {X : Type 0} (xs : List X) (i : ℕ) → i < length xs → (x : X) × (slice_get xs i ≡ Some x)
one_there [] i within = absurd (omega arith)
one_there (x ∷ xs) zero within = (x, refl)
one_there (x ∷ xs) (suc i) within = one_there xs i (omega arith)

pub room_step : (world now new : Stored) (tables : List Table) (place : ℕ) → place < length world.rooms → now ≡ record world { rooms = first_mapped (room_after tables) place world.rooms }
    → ((room : Room) → slice_get now.rooms place ≡ Some room → new ≡ record now { rooms = slice_set now.rooms place (room_after tables room) })
    → new ≡ record world { rooms = first_mapped (room_after tables) (place + 1) world.rooms }
room_step world now new tables place within so_far put =
    let f = room_after tables in
    let one = one_there world.rooms place within in
    put one.0 (ap (λ (w : Stored). slice_get w.rooms place) so_far ∙ unmapped_at f place world.rooms ∙ one.1)
    ∙ ap (λ (w : Stored). record w { rooms = slice_set w.rooms place (f one.0) }) so_far
    ∙ ap (λ (rooms : List Room). record world { rooms = rooms }) (map_one f place world.rooms one.0 one.1)
    ∙ ap (λ (n : ℕ). record world { rooms = first_mapped f n world.rooms }) (sym (add-one place))
