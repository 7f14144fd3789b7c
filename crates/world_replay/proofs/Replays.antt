-- How a replay ends.
use Rattle.std.proofs.Common.{◌≡◌, ◌≢◌, ℕ, ◌+◌, ◌*◌, ◌^◌, ◌-◌, ◌<◌, ◌≤◌, ◌==◌, true, cond, List, [], ◌∷◌, ◌++◌, length, append_assoc, map, take, Option, Some, None, inl, inr, arith, below_more, refl, sym, ap, subst, ◌∙◌}
use Rattle.std.specs.Prelude.{slice_get, IfSome}
use Rattle.std.specs.List.{AllByRecursion, flat_map}
use Rattle.std.proofs.lemmas.Bool.{cases_Bool, eqb-true}
use Rattle.std.proofs.lemmas.List.{length-append, length-map, take_all, take_more}
use Rattle.std.proofs.lemmas.Option.{get_or_from_slice_get, slice_get_within}
use Rattle.game_tables.specs.Limits.{most_players}
use Rattle.object_store.specs.declared.account.Account.{Account}
use Rattle.object_store.specs.declared.world.Room.{Room}
use Rattle.room_table.specs.Tables.{Table}
use Rattle.object_store.specs.Stored.{Stored, AreRising, HasAccount, find_account}
use Rattle.intent_book.specs.Records.{entries_bound}
use Rattle.intent_book.specs.declared.intent.Intent.{Intent}
use Rattle.world_bytes.specs.Forms.{room_bytes}
use Rattle.world_rules.specs.Tick.{plain_world}
use Rattle.world_rules.specs.World.{World, world_of}
use Rattle.world_rules.specs.Sound.{IsSound}
use Rattle.hosted_tick.specs.Hosting.{IsHosted}
use Rattle.record_follows.specs.Courses.{world_after}
use Rattle.record_follows.specs.Follows.{Fits, account_after, after, room_after}
use Rattle.record_follows.proofs.Placing.{player_stays}
use Rattle.rule_check.proofs.Found.{mapped_at}
use Rattle.world_io.specs.Causes.{Rose}
use Rattle.rule_check.specs.Kept.{KeepsObjectRules}
use Rattle.world_journal.specs.Answers.{IsRecoverFaultOf}
use Rattle.world_journal.specs.Counted.{IsCounted}
use Rattle.world_journal.specs.Faults.{FailsAt}
use Rattle.world_journal.specs.Walking.{HasPassed, HasWalked}
use Rattle.world_journal.specs.declared.untested.UntestedWalk.{UntestedWalk}
use Rattle.world_journal.specs.declared.walk.Walk.{Walk}
use Rattle.world_journal.specs.declared.fault.RecoverFault.{RecoverFault}
use Rattle.world_journal.specs.declared.fault.RecoverFault.TheVariants as recover_faults
use Rattle.world_journal.specs.Journals.{IsCourse, IsJournal}
use Rattle.world_journal.proofs.Journals.{journal_once, journal_some, journal_whole}
use Rattle.recorded_tick.specs.Recording.{AreAlike, AreReadAlike, HaveSameFrame, ground_of}
use Rattle.recorded_tick.proofs.Alike.{fits_alike, led_alike, worlds_alike}
use Rattle.recorded_tick.proofs.Grounds.{grounds_ruled}
use Rattle.recorded_tick.proofs.Leading.{as_many_rooms}
use Rattle.recorded_tick.proofs.Players.{players_raised}
use Rattle.tick_journal.specs.BaseForms.{room_as_read, world_as_read}
use Rattle.tick_journal.specs.TickForms.{HasRunForm, HasTickForm, IsRisingBy}
use Rattle.tick_journal.specs.declared.entries.RunEntry.{RunEntry}
use Rattle.tick_journal.specs.declared.tick_record.TickRecord.{TickRecord}
use Rattle.world_replay.specs.Listed.{listed}
use Rattle.world_replay.specs.Replayed.{AllRuled, AreRuled, DifferIn, DiffersAt, ExhaustedAt, IsNotReplayed, forms, recorded_forms, ruled_forms, wanted}
use Rattle.world_replay.specs.Differing.{DifferAt}
use Rattle.world_replay.specs.Serials.{HasSerials, IsExhausted}
use Rattle.run_status.specs.Unread.{status_unread}
use Rattle.world_replay.specs.inner.Ruling.{AreAlikeTo, AreUnlike, BreaksRules, IsUnlike, IsUnruled, IsUnruledAs, StopsAt}
use Rattle.run_status.specs.declared.status.Status.{Status}
use Rattle.run_status.specs.declared.status.Status.TheVariants as statuses
use Rattle.world_replay.proofs.Equal.{same_differ}
use Rattle.world_replay.proofs.Listing.{file_listed}
use Rattle.world_replay.proofs.Untested.{accounts_rise}

-- ---- what is wanted is of few players, all with accounts

abbrev player_of : RunEntry → ℕ
player_of run = run.player

abbrev HaveAccounts : List Account → List RunEntry → Type 0
HaveAccounts accounts runs = AllByRecursion (λ (run : RunEntry). HasAccount run.player accounts) runs

same_Some : {A : Type 0} (x y : A) → Some x ≡ Some y → x ≡ y
same_Some x y same = cc

-- an account of a player above another's stands behind it
behind : (player : ℕ) (first : Account) (accounts : List Account) → first.player < player → HasAccount player (first ∷ accounts) → HasAccount player accounts
behind player first accounts above has = elim (cases_Bool (first.player == player)) [
  | inl at ↦ absurd (let same = eqb-true first.player player at in omega (arith, same, above))
  | inr off ↦ (has.0, sym (ap (λ b. cond b (Some first) (find_account player accounts)) off) ∙ has.1)
]

all_behind : (first : Account) (accounts : List Account) (runs : List RunEntry) → AllByRecursion (λ (run : RunEntry). first.player < run.player) runs → HaveAccounts (first ∷ accounts) runs → HaveAccounts accounts runs
all_behind first accounts [] above have = tt
all_behind first accounts (run ∷ runs) above have = (behind run.player first accounts above.0 have.0, all_behind first accounts runs above.1 have.1)

above_all : (low : ℕ) (run : RunEntry) (runs : List RunEntry) → low ≤ run.player → AllByRecursion (λ (other : RunEntry). run.player < other.player) runs → AllByRecursion (λ (other : RunEntry). low < other.player) runs
above_all low run [] most above = tt
above_all low run (other ∷ runs) most above = (omega (arith, most, above.0), above_all low run runs most above.1)

account_above : (low player : ℕ) (accounts : List Account) → AllByRecursion (λ (later : Account). low < later.player) accounts → HasAccount player accounts → low < player
account_above low player [] rising has = absurd (let bad : None ≡ Some has.0 = has.1 in cc)
account_above low player (account ∷ accounts) rising has = elim (cases_Bool (account.player == player)) [
  | inl at ↦ subst (λ (n : ℕ). low < n) (eqb-true account.player player at) rising.0
  | inr off ↦ account_above low player accounts rising.1 (has.0, sym (ap (λ b. cond b (Some account) (find_account player accounts)) off) ∙ has.1)
]

-- Players that rise and have accounts are no more than the accounts.
few_runs : (runs : List RunEntry) (accounts : List Account) → AreRising accounts → IsRisingBy player_of runs → HaveAccounts accounts runs → length runs ≤ length accounts
few_runs [] accounts rising rise have = omega arith
few_runs (run ∷ runs) [] rising rise have = absurd (let bad : None ≡ Some have.0.0 = have.0.1 in cc)
few_runs (run ∷ runs) (account ∷ accounts) rising rise have = elim (cases_Bool (account.player == run.player)) [
  | inl at ↦ (
      let same = eqb-true account.player run.player at in
      let above = above_all account.player run runs (omega (arith, same)) rise.0 in
      let rest = few_runs runs accounts rising.1 rise.1 (all_behind account accounts runs above have.1) in
      omega (arith, rest))
  | inr off ↦ (
      let here : HasAccount run.player accounts = (have.0.0, sym (ap (λ b. cond b (Some account) (find_account run.player accounts)) off) ∙ have.0.1) in
      let low = account_above account.player run.player accounts rising.0 here in
      let above = above_all account.player run runs (omega (arith, low)) rise.0 in
      let rest = few_runs (run ∷ runs) accounts rising.1 rise (here, all_behind account accounts runs above have.1) in
      omega (arith, rest))
]

few_each : (runs : List RunEntry) → AllByRecursion HasRunForm runs → length (flat_map (λ (run : RunEntry). run.intents) runs) ≤ entries_bound * length runs
few_each [] formed = omega arith
few_each (run ∷ runs) formed =
    let rest = few_each runs formed.1 in
    let here : length run.intents ≤ entries_bound = formed.0.intents.most in
    let sum = length-append run.intents (flat_map (λ (run : RunEntry). run.intents) runs) in
    omega (arith, rest, here, sum)

module _ (before : Stored) (entry : TickRecord) (hosted : IsHosted before) (formed : HasTickForm entry) (fits : Fits before entry) where
  pub few_wanted : length (wanted entry) ≤ 2 ^ 18
  few_wanted =
      let runs = few_runs entry.runs before.accounts hosted.sound.accounts formed.runs_rising fits.runs in
      let each = few_each entry.runs formed.runs in
      let most : length before.accounts ≤ most_players = hosted.players in
      omega (arith, runs, each, most)

  pub tick_fits : before.tick < 2 ^ 64 - 1
  tick_fits = let next = fits.tick in let most = formed.tick in omega (arith, next, most)

-- ---- forms

form_as_read : (room : Room) → room_bytes (room_as_read room).table ≡ room_bytes room.table
unfolding room_bytes
form_as_read room = refl

forms_as_read : (rooms : List Room) → forms (map room_as_read rooms) ≡ forms rooms
forms_as_read [] = refl
forms_as_read (room ∷ rooms) = let rest = forms_as_read rooms in let here = form_as_read room in λ i. here i ∷ rest i

-- tables that are written alike have one form
pub form_alike : (one other : Table) → AreAlike one other → room_bytes one ≡ room_bytes other
unfolding room_bytes
form_alike one other same = ap room_bytes same

-- what is ruled has the forms that are listed of it
pub forms_ruled : (before : Stored) (entry : TickRecord) → IsHosted before → HasTickForm entry → Fits before entry → (next : Stored) (list : List Intent) → list ≡ wanted entry
    → world_of next ≡ plain_world (world_of before) list → IsSound next → forms next.rooms ≡ ruled_forms before entry
forms_ruled before entry hosted formed fits next list same is sound =
    sym (forms_as_read next.rooms) ∙ sym (ap (λ (w : Stored). forms w.rooms) (file_listed next sound)) ∙ ap (λ (w : World). forms (listed w).rooms) (is ∙ ap (plain_world (world_of before)) same)

-- it has the rooms and the players of the world before
pub frame_ruled : (before next : Stored) (list : List Intent) → IsSound before → IsSound next → world_of next ≡ plain_world (world_of before) list → HaveSameFrame before next
frame_ruled before next list sound well is = record {
  rooms = grounds_ruled before next list (ap (λ (w : World). w.rooms) is);
  players = players_raised before next list sound.accounts well.accounts is;
}

-- The world after a record has the rooms and the players of the one before, and so have worlds that are read alike.
abbrev player_in : Account → ℕ
player_in account = account.player

grounds_read : (rooms : List Room) → map ground_of (map room_as_read rooms) ≡ map ground_of rooms
grounds_read [] = refl
grounds_read (room ∷ rooms) = ap (λ grounds. ground_of room ∷ grounds) (grounds_read rooms)

grounds_led : (tables : List Table) (rooms : List Room) → map ground_of (map (room_after tables) rooms) ≡ map ground_of rooms
grounds_led tables [] = refl
grounds_led tables (room ∷ rooms) = ap (λ grounds. ground_of room ∷ grounds) (grounds_led tables rooms)

players_led : (list accounts : List Account) → map player_in (map (account_after list) accounts) ≡ map player_in accounts
players_led list [] = refl
players_led list (account ∷ accounts) = let first = player_stays list account in let rest = players_led list accounts in λ i. first i ∷ rest i

pub frame_after : (own ruled after_it : Stored) (entry : TickRecord) → HaveSameFrame own ruled → AreReadAlike after_it (after own entry) → HaveSameFrame ruled after_it
frame_after own ruled after_it entry frame same = record {
  rooms =
      sym frame.rooms
      ∙ (sym (grounds_led entry.rooms own.rooms)
      ∙ (sym (grounds_read (after own entry).rooms)
      ∙ (ap (λ (world : Stored). map ground_of world.rooms) (sym same) ∙ grounds_read after_it.rooms)));
  players =
      sym frame.players
      ∙ (sym (players_led entry.accounts own.accounts) ∙ ap (λ (world : Stored). map player_in world.accounts) (sym same));
}

pub many_framed : (ruled after_it : Stored) → HaveSameFrame ruled after_it → length after_it.rooms ≡ length ruled.rooms
many_framed ruled after_it frame = sym (as_many_rooms ruled.rooms after_it.rooms frame.rooms)

-- ---- rooms, one after the other

-- one more of a list's front
front_more : {A : Type 0} (xs : List A) (i : ℕ) (x : A) → slice_get xs i ≡ Some x → take (i + 1) xs ≡ take i xs ++ x ∷ []
front_more xs i x at = take_more xs i x (slice_get_within xs i x at) ∙ ap (λ y. take i xs ++ y ∷ []) (get_or_from_slice_get xs i x x at)

module _ (kept ruled : List Room) (i : ℕ) (one other : Room) (first : slice_get kept i ≡ Some one) (second : slice_get ruled i ≡ Some other) (same : take i (forms kept) ≡ take i (forms ruled)) where
  one_at : slice_get (forms kept) i ≡ Some (room_bytes one.table)
  one_at = mapped_at (λ (room : Room). room_bytes room.table) kept i one first

  other_at : slice_get (forms ruled) i ≡ Some (room_bytes other.table)
  other_at = mapped_at (λ (room : Room). room_bytes room.table) ruled i other second

  pub same_more : room_bytes one.table ≡ room_bytes other.table → take (i + 1) (forms kept) ≡ take (i + 1) (forms ruled)
  same_more here =
      front_more (forms kept) i (room_bytes one.table) one_at
      ∙ (λ j. same j ++ here j ∷ [])
      ∙ sym (front_more (forms ruled) i (room_bytes other.table) other_at)

  differ_here : (room at : ℕ) (k r : Option ℕ) → room ≡ i → DifferAt at k r (room_bytes one.table) (room_bytes other.table) → DifferIn room at k r (forms kept) (forms ruled)
  differ_here room at k r is differ = subst (λ (n : ℕ). DifferIn n at k r (forms kept) (forms ruled)) (sym is) (record {
    same = same;
    one = room_bytes one.table;
    one_is = one_at;
    other = room_bytes other.table;
    other_is = other_at;
    differ = differ;
  })

  pub unlike_here : (tick : ℕ) (status : Status) → IsUnlike tick i (room_bytes one.table) (room_bytes other.table) status → AreUnlike tick (forms kept) (forms ruled) status
  unlike_here tick (statuses.Differs number room at k r) is = (is.0, differ_here room at k r is.1 is.2)
  unlike_here tick statuses.Memory is = tt
  unlike_here tick status is = absurd is

same_some_room : (x y : Room) → Some x ≡ Some y → x ≡ y
same_some_room x y same = cc

-- one more room that is written alike
pub alike_more : (kept ruled : List Room) (i : ℕ) (one other : Room) → slice_get kept i ≡ Some one → slice_get ruled i ≡ Some other → AreAlikeTo i kept ruled → AreAlike one.table other.table → AreAlikeTo (i + 1) kept ruled
alike_more kept ruled i one other first second so_far here =
    below_more (λ k. (x y : Room) → slice_get kept k ≡ Some x → slice_get ruled k ≡ Some y → AreAlike x.table y.table) i so_far
    (λ x y a b.
    let mine : Some one ≡ Some x = sym first ∙ a in
    let its : Some other ≡ Some y = sym second ∙ b in
    subst (λ (r : Room). AreAlike r.table y.table) (same_some_room one x mine) (subst (λ (r : Room). AreAlike one.table r.table) (same_some_room other y its) here))

-- where all rooms are gone through
pub forms_same : (kept ruled : List Room) (i : ℕ) → length kept ≡ length ruled → length kept ≤ i → take i (forms kept) ≡ take i (forms ruled) → forms kept ≡ forms ruled
forms_same kept ruled i many past same =
    let one : length (forms kept) ≤ i = (let n = length-map kept (λ (room : Room). room_bytes room.table) in omega (arith, n, past)) in
    let other : length (forms ruled) ≤ i = (let n = length-map ruled (λ (room : Room). room_bytes room.table) in omega (arith, n, past, many)) in
    sym (take_all i (forms kept) one) ∙ same ∙ take_all i (forms ruled) other

-- ---- records, one after the other

ruled_one : (base : Stored) (entries : List TickRecord) (entry : TickRecord) → AllRuled base entries → HasSerials (world_of (world_after base entries)) → AreRuled (world_after base entries) entry → AllRuled base (entries ++ entry ∷ [])
ruled_one base [] entry all serials ruled = (serials, ruled, tt)
ruled_one base (first ∷ entries) entry all serials ruled = (all.0, all.1, ruled_one (after base first) entries entry all.2 serials ruled)

ruled_at : (base : Stored) (entries : List TickRecord) (entry : TickRecord) (later : List TickRecord) → AllRuled base (entries ++ entry ∷ later) → HasSerials (world_of (world_after base entries)) × AreRuled (world_after base entries) entry
ruled_at base [] entry later all = (all.0, all.1)
ruled_at base (first ∷ entries) entry later all = ruled_at (after base first) entries entry later all.2

-- Worlds that are read alike are ruled alike.
pub forms_alike : (one other : Stored) → AreReadAlike one other → forms one.rooms ≡ forms other.rooms
forms_alike one other same = sym (forms_as_read one.rooms) ∙ (ap (λ (world : Stored). forms world.rooms) same ∙ forms_as_read other.rooms)

serials_alike : (one other : Stored) → AreReadAlike one other → HasSerials (world_of one) → HasSerials (world_of other)
serials_alike one other same = subst HasSerials (worlds_alike one other same)

module _ (one other : Stored) (entry : TickRecord) (same : AreReadAlike one other) where
  ruled_forms_alike : ruled_forms one entry ≡ ruled_forms other entry
  ruled_forms_alike = ap (λ (world : World). forms (listed (plain_world world (wanted entry))).rooms) (worlds_alike one other same)

  recorded_alike : recorded_forms one entry ≡ recorded_forms other entry
  recorded_alike = forms_alike (after one entry) (after other entry) (led_alike one other same entry)

  ruled_alike : AreRuled one entry → AreRuled other entry
  ruled_alike is = sym recorded_alike ∙ (is ∙ ruled_forms_alike)

  unruled_alike : (status : Status) → IsUnruled one entry status → IsUnruled other entry status
  unruled_alike (statuses.Differs tick room at k r) is = (
    is.0,
    serials_alike one other same is.1,
    subst (λ (others : List (List ℕ)). DifferIn room at k r (recorded_forms other entry) others) ruled_forms_alike
        (subst (λ (ones : List (List ℕ)). DifferIn room at k r ones (ruled_forms one entry)) recorded_alike is.2),
  )
  unruled_alike (statuses.IdsExhausted index) is = subst (λ (world : World). IsExhausted world index) (worlds_alike one other same) is
  unruled_alike statuses.Memory is = tt
  unruled_alike status is = absurd is

module _ (base : Stored) (entries : List TickRecord) (entry : TickRecord) where
  pub stops_here : AllRuled base entries → (status : Status) → IsUnruled (world_after base entries) entry status → StopsAt base (entries ++ entry ∷ []) status
  stops_here all (statuses.Differs tick room at k r) is = record {
    earlier = entries;
    entry = entry;
    later = [];
    ordered = refl;
    ruled_before = all;
    tick_is = is.0;
    serials = is.1;
    differ = is.2;
  }
  stops_here all (statuses.IdsExhausted index) is = record {
    earlier = entries;
    entry = entry;
    later = [];
    ordered = refl;
    ruled_before = all;
    exhausted = is;
  }
  stops_here all statuses.Memory is = tt
  stops_here all status is = absurd is

  -- the record of a world that is read as the one behind the records before
  module _ (own before : Stored) (led : before ≡ world_after base entries) (alike : AreReadAlike own before) (all : AllRuled base entries) where
    same : AreReadAlike own (world_after base entries)
    same = subst (AreReadAlike own) led alike

    pub ruled_more : HasSerials (world_of own) → AreRuled own entry → AllRuled base (entries ++ entry ∷ [])
    ruled_more serials ruled = ruled_one base entries entry all (serials_alike own (world_after base entries) same serials) (ruled_alike own (world_after base entries) entry same ruled)

    pub stopped_more : (status : Status) → IsUnruled own entry status → StopsAt base (entries ++ entry ∷ []) status
    stopped_more status unruled = stops_here all status (unruled_alike own (world_after base entries) entry same status unruled)

-- What stops a replay of some records stops one of more.
pub stops_still : (base : Stored) (entries more : List TickRecord) (status : Status) → StopsAt base entries status → StopsAt base (entries ++ more) status
stops_still base entries more (statuses.Differs tick room at k r) is = record {
  earlier = is.earlier;
  entry = is.entry;
  later = is.later ++ more;
  ordered = ap (λ l. l ++ more) is.ordered ∙ append_assoc is.earlier (is.entry ∷ is.later) more;
  ruled_before = is.ruled_before;
  tick_is = is.tick_is;
  serials = is.serials;
  differ = is.differ;
}
stops_still base entries more (statuses.IdsExhausted index) is = record {
  earlier = is.earlier;
  entry = is.entry;
  later = is.later ++ more;
  ordered = ap (λ l. l ++ more) is.ordered ∙ append_assoc is.earlier (is.entry ∷ is.later) more;
  ruled_before = is.ruled_before;
  exhausted = is.exhausted;
}
stops_still base entries more statuses.Memory is = tt
stops_still base entries more status is = absurd is

-- a record is not ruled where its rooms are unlike
pub unruled_here : (before : Stored) (entry : TickRecord) (kept ruled after_forms : List (List ℕ)) → kept ≡ after_forms → ruled ≡ ruled_forms before entry → HasSerials (world_of before)
    → (status : Status) → AreUnlike entry.tick kept ruled status → IsUnruledAs before entry after_forms status
unruled_here before entry kept ruled after_forms one other serials (statuses.Differs tick room at k r) is =
    (is.0, serials, subst (λ (forms_two : List (List ℕ)). DifferIn room at k r after_forms forms_two) other (subst (λ (forms_one : List (List ℕ)). DifferIn room at k r forms_one ruled) one is.1))
unruled_here before entry kept ruled after_forms one other serials statuses.Memory is = tt
unruled_here before entry kept ruled after_forms one other serials status is = absurd is

-- ---- a record that is told without its tables

module _ (own before after_it : Stored) (entry told : TickRecord) (rest : told ≡ record entry { rooms = [] }) (alike : AreReadAlike own before) (fits : Fits before entry) (leads : after_it ≡ after before entry) where
  pub told_fits : Fits own told
  told_fits =
      let whole = fits_alike own before alike entry fits in
      let bare : Fits own (record entry { rooms = [] }) = record { tick = whole.tick; rooms = tt; runs = whole.runs; accounts = whole.accounts; uploads = whole.uploads } in
      subst (Fits own) (sym rest) bare

  pub told_form : HasTickForm entry → HasTickForm told
  told_form form =
      let bare : HasTickForm (record entry { rooms = [] }) = record {
        uploads = form.uploads;
        runs = form.runs;
        runs_rising = form.runs_rising;
        accounts = form.accounts;
        rooms = tt;
        rooms_rising = tt;
        tick = form.tick;
        uploads_count = form.uploads_count;
        runs_count = form.runs_count;
        rooms_count = omega arith;
      } in
      subst HasTickForm (sym rest) bare

  led : AreReadAlike after_it (after own entry)
  led = ap world_as_read leads ∙ sym (led_alike own before alike entry)

  pub told_frame : HaveSameFrame own after_it
  told_frame = frame_after own own after_it entry (record { rooms = refl; players = refl }) led

  pub told_rising : AreRising own.accounts → AreRising after_it.accounts
  told_rising rising = accounts_rise own after_it entry rising led

  forms_led : forms after_it.rooms ≡ recorded_forms own entry
  forms_led = forms_alike after_it (after own entry) led

  forms_told : ruled_forms own told ≡ ruled_forms own entry
  forms_told = ap (ruled_forms own) rest

  pub told_ruled : forms after_it.rooms ≡ ruled_forms own told → AreRuled own entry
  told_ruled same = sym forms_led ∙ (same ∙ forms_told)

  pub told_unruled : (status : Status) → IsUnruledAs own told (forms after_it.rooms) status → IsUnruled own entry status
  told_unruled (statuses.Differs tick room at k r) is = (
    is.0 ∙ ap (λ (e : TickRecord). e.tick) rest,
    is.1,
    subst (λ (others : List (List ℕ)). DifferIn room at k r (recorded_forms own entry) others) forms_told
        (subst (λ (ones : List (List ℕ)). DifferIn room at k r ones (ruled_forms own told)) forms_led is.2),
  )
  told_unruled (statuses.IdsExhausted index) is = is
  told_unruled statuses.Memory is = tt
  told_unruled status is = absurd is

-- ---- a reading that tests the rules again

pub walked_tested : (base : Stored) (entries : List TickRecord) (one : UntestedWalk) (other : Walk) (seen : Option (List ℕ)) → HasPassed base entries one seen → other.world ≡ one.world → other.gate ≡ one.gate → IsCounted other.world other.census → HasWalked base entries other seen
walked_tested base entries one other seen passed world gate counted = record {
  course = passed.course;
  world = world ∙ passed.world;
  count = rw gate passed.count;
  front = rw gate passed.front;
  counted = counted;
}

-- ---- a record whose world breaks the rules

pub broken_rules : (seen : Option (List ℕ)) (before now : ℕ) (world : Stored) (gate : ℕ) (status : Status) → BreaksRules world gate status → ((KeepsObjectRules world → ⊥) → IfSome seen (FailsAt gate)) → IsNotReplayed seen before now status
broken_rules seen before now world gate (statuses.NotAJournal at) breaks fails = subst (λ (n : ℕ). IfSome seen (FailsAt n)) (sym breaks.0) (fails breaks.1)
broken_rules seen before now world gate statuses.Memory breaks fails = tt
broken_rules seen before now world gate status breaks fails = absurd breaks

pub untested_fault : (world : Stored) (gate : ℕ) (fault : RecoverFault) → (fault ≢ recover_faults.Memory → (fault ≡ recover_faults.NotAJournal gate) × (KeepsObjectRules world → ⊥)) → BreaksRules world gate (status_unread fault)
untested_fault world gate recover_faults.Empty told = absurd (let h = (told (λ e. cc)).0 in cc)
untested_fault world gate recover_faults.DiskFault told = absurd (let h = (told (λ e. cc)).0 in cc)
untested_fault world gate (recover_faults.NotAJournal at) told =
    let h = told (λ e. cc) in
    let is : recover_faults.NotAJournal at ≡ recover_faults.NotAJournal gate = h.0 in
    (cc, h.1)
untested_fault world gate recover_faults.Memory told = tt

-- ---- the whole journal

pub unread : (seen : Option (List ℕ)) (before now : ℕ) (fault : RecoverFault) → IsRecoverFaultOf seen before now fault → IsNotReplayed seen before now (status_unread fault)
unread seen before now recover_faults.Empty h = h
unread seen before now recover_faults.DiskFault h = h
unread seen before now (recover_faults.NotAJournal at) h = h
unread seen before now recover_faults.Memory h = tt

pub not_replayed : (disk : Option (List ℕ)) (before now : ℕ) (base : Stored) (entries : List TickRecord) → IsCourse base entries → IfSome disk (IsJournal base entries)
    → (status : Status) → StopsAt base entries status → IsNotReplayed disk before now status
not_replayed disk before now base entries course journal (statuses.Differs tick room at k r) is = (base, entries, course, journal, is)
not_replayed disk before now base entries course journal (statuses.IdsExhausted index) is = (base, entries, course, journal, is)
not_replayed disk before now base entries course journal statuses.Memory is = tt
not_replayed disk before now base entries course journal status is = absurd is

-- a replay that stops is not that of records that all are ruled
not_differing : (tick room at : ℕ) (k r : Option ℕ) (base : Stored) (entries : List TickRecord) → AllRuled base entries → DiffersAt tick room at k r base entries → ⊥
not_differing tick room at k r base entries all is =
    let ruled = ruled_at base is.earlier is.entry is.later (subst (AllRuled base) is.ordered all) in
    let same : Some is.differ.one ≡ Some is.differ.other = sym is.differ.one_is ∙ ap (λ (l : List (List ℕ)). slice_get l room) ruled.1 ∙ is.differ.other_is in
    same_differ at k r is.differ.one is.differ.other (same_Some is.differ.one is.differ.other same) is.differ.differ

not_exhausted : (index : ℕ) (base : Stored) (entries : List TickRecord) → AllRuled base entries → ExhaustedAt index base entries → ⊥
not_exhausted index base entries all is =
    let ruled = ruled_at base is.earlier is.entry is.later (subst (AllRuled base) is.ordered all) in
    let within = ruled.0 index is.exhausted.frame is.exhausted.stands in
    let above = is.exhausted.above in
    omega (arith, within, above)

replayed_or_wanted : (bytes : List ℕ) (before now : ℕ) (base : Stored) (entries : List TickRecord) → IsJournal base entries bytes → AllRuled base entries → (Rose before now → ⊥)
    → (status : Status) → IsNotReplayed (Some bytes) before now status → status ≡ statuses.Memory
replayed_or_wanted bytes before now base entries is all fine (statuses.Differs tick room at k r) h =
    absurd (let same = journal_once bytes h.0 base h.1 entries h.3 is in
    not_differing tick room at k r h.0 h.1 (subst (λ (b : Stored). AllRuled b h.1) (sym same.0) (subst (AllRuled base) (sym same.1) all)) h.4)
replayed_or_wanted bytes before now base entries is all fine (statuses.IdsExhausted index) h =
    absurd (let same = journal_once bytes h.0 base h.1 entries h.3 is in
    not_exhausted index h.0 h.1 (subst (λ (b : Stored). AllRuled b h.1) (sym same.0) (subst (AllRuled base) (sym same.1) all)) h.4)
replayed_or_wanted bytes before now base entries is all fine statuses.NoJournal h = absurd (journal_some bytes base entries is h)
replayed_or_wanted bytes before now base entries is all fine (statuses.NotAJournal at) h = absurd (journal_whole bytes base entries at is h)
replayed_or_wanted bytes before now base entries is all fine statuses.DiskFault h = absurd (fine h)
replayed_or_wanted bytes before now base entries is all fine statuses.Memory h = refl
replayed_or_wanted bytes before now base entries is all fine status h = absurd h

-- Of a journal whose records all are ruled a disk that doesn't fail is replayed, or memory is wanted.
pub all_or_wanted : (seen : Option (List ℕ)) (bytes : List ℕ) (before now : ℕ) (base : Stored) (entries : List TickRecord) (status : Status) → seen ≡ Some bytes → IsJournal base entries bytes → AllRuled base entries
    → (Rose before now → ⊥) → IsNotReplayed seen before now status → status ≡ statuses.Memory
all_or_wanted seen bytes before now base entries status told is all fine h =
    replayed_or_wanted bytes before now base entries is all fine status
    (subst (λ (disk : Option (List ℕ)). IsNotReplayed disk before now status) told h)
