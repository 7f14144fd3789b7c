-- A tick of what is stored, with its accounts after the runs, is the next world.
use Rattle.std.proofs.Common.{◌≡◌, ℕ, ◌+◌, ◌-◌, ◌^◌, min, List, [], ◌∷◌, map, length, refl, sym, ap, subst, ◌∙◌}
use Rattle.std.specs.Ordering.{nat_cmp}
use Rattle.std.specs.FinMap.{FinMap, from_entries, entries}
use Rattle.intent_book.specs.declared.intent.Intent.{Intent}
use Rattle.object_store.specs.declared.account.Account.{Account}
use Rattle.object_store.specs.Stored.{Stored}
use Rattle.kept_entries.specs.declared.entries.Entry.{Entry}
use Rattle.kept_entries.specs.Turns.{AreKept}
use Rattle.world_rules.specs.World.{World, world_of}
use Rattle.world_rules.specs.Crossings.{crossed, crossed_over}
use Rattle.world_rules.specs.Tick.{account_raised, book, gained, plain_world, ruled}
use Rattle.world_rules.specs.Sound.{IsSound}
use Rattle.world_rules.proofs.Keys.{keyed, accounts_sorted, entries_of_sorted}
use Rattle.object_store.specs.declared.world.Room.{Room}
use Rattle.exit_crossing.specs.declared.leaving.Crosser.{Crosser}
use Rattle.exit_crossing.specs.Crossing.{AreCrossers, AreForgotten, IsReadyToCross, KeepsFrames}
use Rattle.ruled_tick.specs.inner.Entered.{AreGains}
use Rattle.ruled_tick.specs.inner.Ticked.{raised_by, IsRuledRooms}
use Rattle.ruled_tick.proofs.Follows.{changed-IsSound}
use Rattle.ruled_tick.proofs.Leaving.{as_many, over_accounts, over_other, over_tick}

abbrev player_of : Account → ℕ
player_of account = account.player

-- accounts that change by the points that their players gained
module _ (change : ℕ → ℕ → Account → Account) (same : (gain : ℕ) (account : Account) → (change gain account.player account).player ≡ account.player) where
  abbrev pub earned : (ℕ → ℕ) → Account → Account
  earned gain account = change (gain account.player) account.player account

  earned_keyed : (gain : ℕ → ℕ) (accounts : List Account)
      → map (λ (e : ℕ × Account). (e.0, change (gain e.0) e.0 e.1)) (keyed player_of accounts) ≡ keyed player_of (map (earned gain) accounts)
  earned_keyed gain [] = refl
  earned_keyed gain (account ∷ accounts) =
      let rest = earned_keyed gain accounts in
      λ i. (sym (same (gain account.player) account) i, change (gain account.player) account.player account) ∷ rest i

  -- the world after the rooms of a tick, with its accounts changed
  abbrev pub with_earned : World → List Intent → World
  with_earned world list =
      let after : World = ruled book crossed world list in
      record after { accounts = from_entries (map (λ (e : ℕ × Account). (e.0, change (gained book world list e.0) e.0 e.1)) (entries after.accounts)) }

  -- a world that is ruled but for its accounts, with those changed
  pub earned_is : (w : Stored) (after_rooms : World) (list : List Intent) → IsSound w → after_rooms.accounts ≡ (world_of w).accounts → after_rooms ≡ ruled book crossed (world_of w) list
      → record after_rooms { accounts = from_entries (keyed player_of (map (earned (gained book (world_of w) list)) w.accounts)) } ≡ with_earned (world_of w) list
  earned_is w after_rooms list sound accounts is =
      let gain : ℕ → ℕ = gained book (world_of w) list in
      let changed : List (ℕ × Account) → List (ℕ × Account) = λ es. map (λ (e : ℕ × Account). (e.0, change (gain e.0) e.0 e.1)) es in
      let with_accounts : List (ℕ × Account) → World = λ es. record after_rooms { accounts = from_entries es } in
      sym (
      ap (λ (world : World). record world { accounts = from_entries (changed (entries world.accounts)) }) (sym is)
      ∙ ap (λ (all : FinMap nat_cmp Account). with_accounts (changed (entries all))) accounts
      ∙ ap (λ (es : List (ℕ × Account)). with_accounts (changed es)) (entries_of_sorted (keyed player_of w.accounts) (accounts_sorted w.accounts sound.accounts))
      ∙ ap with_accounts (earned_keyed gain w.accounts)
      )

-- The first world is ruled rooms with these accounts, and the second comes of it by the crossings.
module _ (w : Stored) (Tells : List Intent → Type 0) (sound : IsSound w) (next : Stored) (crossers : List Crosser) (r : IsRuledRooms w Tells next crossers) (f : Account → Account) (same : (account : Account) → (f account).player ≡ account.player)
    (pushed : Stored) (is : pushed ≡ record next { accounts = map f w.accounts }) where
  ids : List ℕ
  ids = map (λ crosser. crosser.id) crossers

  pushed_is : pushed ≡ record r.rested { tick = w.tick + 1; accounts = map f w.accounts }
  pushed_is = is ∙ ap (λ (s : Stored). record s { accounts = map f w.accounts }) r.next

  pub pushed-IsSound : IsSound pushed
  pushed-IsSound =
      subst IsSound (sym (pushed_is ∙ (λ i. record r.rested { tick = w.tick + 1; accounts = map f (sym r.accounts i) }))) (changed-IsSound f same r.rested (w.tick + 1) r.sound)

  pub pushed_rooms : pushed.rooms ≡ r.rested.rooms
  pushed_rooms = ap (λ (s : Stored). s.rooms) pushed_is

  pub pushed_forgotten : AreForgotten pushed.rooms
  pushed_forgotten = subst AreForgotten (sym pushed_rooms) r.forgotten

  pub pushed_ready : IsReadyToCross pushed.rooms
  pushed_ready = subst IsReadyToCross (sym pushed_rooms) r.ready

  pub pushed_crossers : AreCrossers pushed.rooms crossers
  pushed_crossers = subst (λ (rooms : List Room). AreCrossers rooms crossers) (sym pushed_rooms) r.crossers

  -- the world before its accounts change
  abbrev gone : World
  gone = crossed_over (map (λ crosser. crosser.id) crossers) (world_of r.rested)

  abbrev pub after_rooms : World
  after_rooms = record gone { tick = w.tick + 1 }

  pub gone_accounts : gone.accounts ≡ (world_of w).accounts
  gone_accounts =
      over_accounts (map (λ crosser. crosser.id) crossers) (world_of r.rested) ∙ ap (λ (accounts : List Account). from_entries {R = nat_cmp} (keyed player_of accounts)) r.accounts

  pub is_ruled : (intents : List Intent) → Tells intents → after_rooms ≡ ruled book crossed (world_of w) intents
  is_ruled intents are =
      let tick : gone.tick ≡ w.tick = over_tick (map (λ crosser. crosser.id) crossers) (world_of r.rested) ∙ r.tick in
      (λ i. record gone { tick = sym tick i + 1 })
      ∙ ap (λ (world : World). record world { tick = world.tick + 1 }) (r.same intents are)

  module _ (later : Stored) (crossing : world_of later ≡ crossed_over (map (λ crosser. crosser.id) crossers) (world_of pushed)) where
    pub later_is : world_of later ≡ record after_rooms { accounts = from_entries (keyed player_of (map f w.accounts)) }
    later_is =
        crossing
        ∙ ap (λ (s : Stored). crossed_over (map (λ crosser. crosser.id) crossers) (world_of s)) pushed_is
        ∙ over_other (w.tick + 1) (from_entries (keyed player_of (map f w.accounts))) (map (λ crosser. crosser.id) crossers) (world_of r.rested)

    pub many : KeepsFrames pushed later → length later.rooms ≡ length w.rooms
    many keeps = as_many pushed.rooms later.rooms keeps.rooms ∙ ap length pushed_rooms ∙ r.rooms

-- with the points raised
pub plain-IsRuled : (w : Stored) (Tells : List Intent → Type 0) → IsSound w → (next : Stored) (crossers : List Crosser) → IsRuledRooms w Tells next crossers → (pushed later : Stored) → (intents : List Intent)
    → pushed ≡ record next { accounts = map (raised_by (gained book (world_of w) intents)) w.accounts }
    → world_of later ≡ crossed_over (map (λ crosser. crosser.id) crossers) (world_of pushed) → Tells intents → world_of later ≡ plain_world (world_of w) intents
plain-IsRuled w Tells sound next crossers r pushed later intents is crossing are =
    let f : Account → Account = raised_by (gained book (world_of w) intents) in
    later_is w Tells sound next crossers r f (λ account. refl) pushed is later crossing
    ∙ earned_is (λ gain player account. account_raised gain account) (λ gain account. refl) w (after_rooms w Tells sound next crossers r f (λ account. refl) pushed is) intents sound
    (gone_accounts w Tells sound next crossers r f (λ account. refl) pushed is)
    (is_ruled w Tells sound next crossers r f (λ account. refl) pushed is intents are)

-- what is read beside the accounts
pub read_gains : (gain : ℕ → ℕ) (accounts read : List Account) (gains got : List ℕ) → read ≡ accounts → got ≡ gains → AreGains gain accounts gains → AreGains gain read got
read_gains gain accounts read gains got same beside are = beside ∙ are ∙ (λ i. map (λ (account : Account). min (2 ^ 64 - 1) (gain account.player)) (sym same i))

-- The accounts were pushed with what their players gained, as it was read beside them.
pub pushed_as : (change : (ℕ → ℕ) → Account → Account) (w next pushed : Stored) (accounts read : List Account) (gains got : List ℕ) → read ≡ accounts → got ≡ gains → accounts ≡ w.accounts
    → ((gain : ℕ → ℕ) → AreGains gain read got → pushed ≡ record next { accounts = map (change gain) read }) → (gain : ℕ → ℕ) → AreGains gain accounts gains → pushed ≡ record next { accounts = map (change gain) w.accounts }
pushed_as change w next pushed accounts read gains got same beside stored push gain are =
    push gain (read_gains gain accounts read gains got same beside are) ∙ ap (λ (list : List Account). record next { accounts = map (change gain) list }) (same ∙ stored)

-- ---- a copy of a world

-- The second world is a tick of the first with any entries of which these are the ones that count.
abbrev pub TicksWith : List Entry → Stored → Stored → Type 0
TicksWith list w next = (intents : List Intent) → AreKept (world_of w) intents list → world_of next ≡ plain_world (world_of w) intents

pub copy_ticks : (copy w next : Stored) (list kept : List Entry) (intents : List Intent) → copy ≡ w → list ≡ kept → AreKept (world_of w) intents kept → TicksWith list copy next → world_of next ≡ plain_world (world_of w) intents
copy_ticks copy w next list kept intents same read are is =
    let of_w : TicksWith list w next = subst (λ (v : Stored). TicksWith list v next) same is in
    of_w intents (subst (AreKept (world_of w) intents) (sym read) are)
