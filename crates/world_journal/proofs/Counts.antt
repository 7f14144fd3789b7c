-- Counts of uploads.
use Rattle.std.proofs.Common.{◌≡◌, ◌≢◌, inl, inr, ℕ, zero, suc, ◌+◌, ◌-◌, ◌<◌, ◌≤◌, ◌^◌, min, true, false, cond, eqb, List, [], ◌∷◌, ◌++◌, length, get_or, set, map, refl, sym, arith, eq-eqb, append-nil, length-append}
use Rattle.std.specs.List.{AllByRecursion}
use Rattle.std.proofs.lemmas.Bool.{ne_eqb}
use Rattle.std.proofs.lemmas.Bool.Decides.{eqb_tells}
use Rattle.std.proofs.lemmas.List.Elements.{All-from_recursion, filter-append}
use Rattle.object_store.specs.declared.account.Account.{Account}
use Rattle.object_store.specs.Stored.{AreRising}
use Rattle.object_store.proofs.Accounts.{player_of, rises_from_accounts}
use Rattle.room_table.proofs.Rising.{Parted, Rises}
use Rattle.tick_journal.specs.declared.entries.UploadEntry.{UploadEntry}
use Rattle.world_journal.specs.Recovering.{last_result}
use Rattle.world_journal.specs.declared.recovered.UploadCount.{UploadCount}
use Rattle.world_journal.specs.inner.Counting.{count_for, counted, uploads_from}

abbrev pub counted_player : UploadCount → ℕ
counted_player count = count.player

-- ---- one upload among the counts of all players

module _ (player number : ℕ) where
  counted_other : (count : UploadCount) → count.player ≢ player → counted player number count ≡ count
  counted_other count other = rw (ne_eqb count.player player other) refl

  pub counted_here : (count : UploadCount) (sum : ℕ) → count.player ≡ player → sum ≡ min (count.uploads + 1) (2 ^ 64 - 1) → record { player = player; uploads = sum; last = number } ≡ counted player number count
  counted_here count sum here is = rw (eq-eqb count.player player here) (λ i. record { player = sym here i; uploads = is i; last = number })

  counted_above : (counts : List UploadCount) → AllByRecursion (λ count. player < count.player) counts → map (counted player number) counts ≡ counts
  counted_above [] above = refl
  counted_above (count ∷ counts) above =
      let here = above.0 in
      let first = counted_other count (λ e. omega arith) in
      let rest = counted_above counts above.1 in
      cc

  above_least : (count : UploadCount) (counts : List UploadCount) → player ≤ count.player → AllByRecursion (λ later. count.player < later.player) counts → AllByRecursion (λ later. player < later.player) counts
  above_least count [] least all = tt
  above_least count (c ∷ counts) least all = let here = all.0 in (omega arith, above_least count counts least all.1)

  pub counted_at : (counts : List UploadCount) (i : ℕ) (d now : UploadCount) → Rises counted_player counts → i < length counts → (get_or counts i d).player ≡ player → now ≡ counted player number (get_or counts i d) → set counts i now ≡ map (counted player number) counts
  counted_at [] i d now rises within here is = absurd (omega arith)
  counted_at (count ∷ counts) zero d now rises within here is =
      let rest = counted_above counts (above_least count counts (omega arith) rises.0) in
      cc
  counted_at (count ∷ counts) (suc i) d now rises within here is =
      let lower : i < length counts = omega arith in
      let below : count.player < (get_or counts i d).player = All-from_recursion (λ later. count.player < later.player) counts rises.0 i d lower in
      let first = counted_other count (λ e. omega arith) in
      let rest = counted_at counts i d now rises.1 lower here is in
      cc

  pub counted_absent : (counts : List UploadCount) (i : ℕ) → Rises counted_player counts → Parted counted_player player counts i → ((d : UploadCount) → i < length counts → (get_or counts i d).player ≢ player) → counts ≡ map (counted player number) counts
  counted_absent [] i rises parts other = refl
  counted_absent (count ∷ counts) zero rises parts other =
      let least : player ≤ count.player = parts.0 in
      let not_here : count.player ≢ player = other count (omega arith) in
      sym (counted_above (count ∷ counts) (omega arith, above_least count counts least rises.0))
  counted_absent (count ∷ counts) (suc i) rises parts other =
      let below : count.player < player = parts.0 in
      let first = counted_other count (λ e. omega arith) in
      let rest = counted_absent counts i rises.1 parts.1 (λ d lt. other d (omega arith)) in
      cc

  player_stays : (count : UploadCount) → (counted player number count).player ≡ count.player
  player_stays count = elim (eqb count.player player) as (λ b. (cond b (record { player = count.player; uploads = min (count.uploads + 1) (2 ^ 64 - 1); last = number }) count).player ≡ count.player) [ true ↦ refl | false ↦ refl ]

  all_counted : (n : ℕ) (counts : List UploadCount) → AllByRecursion (λ later. n < later.player) counts → AllByRecursion (λ later. n < later.player) (map (counted player number) counts)
  all_counted n [] all = tt
  all_counted n (count ∷ counts) all = let here = all.0 in (omega (arith, player_stays count), all_counted n counts all.1)

  pub rises_counted : (counts : List UploadCount) → Rises counted_player counts → Rises counted_player (map (counted player number) counts)
  rises_counted [] rises = tt
  rises_counted (count ∷ counts) rises = (rw (player_stays count) (all_counted count.player counts rises.0), rises_counted counts rises.1)

-- ---- the counts after one upload more

last_push : (none : ℕ) (uploads : List UploadEntry) (upload : UploadEntry) → last_result none (uploads ++ upload ∷ []) ≡ upload.result_number
last_push none [] upload = refl
last_push none (u ∷ uploads) upload = last_push u.result_number uploads upload

count_more : (player : ℕ) (uploads : List UploadEntry) (upload : UploadEntry) → counted upload.player upload.result_number (count_for player uploads) ≡ count_for player (uploads ++ upload ∷ [])
count_more player uploads upload =
    let parts = filter-append (λ (u : UploadEntry). eqb u.player player) uploads (upload ∷ []) in
    elim (eqb_tells player upload.player) [
      | inl here ↦ rw (here.0, parts, eq-eqb upload.player player (sym here.1)) (λ i. record {
        player = player;
        uploads = more (length (uploads_from player uploads)) (length (uploads_from player uploads ++ upload ∷ [])) (length-append (uploads_from player uploads) (upload ∷ [])) i;
        last = sym (last_push 255 (uploads_from player uploads) upload) i;
      })
      | inr there ↦ rw (there.0, parts, ne_eqb upload.player player (λ e. there.1 (sym e)), append-nil (uploads_from player uploads)) refl
    ]
  where
    more : (m n : ℕ) → n ≡ m + 1 → min (min m (2 ^ 64 - 1) + 1) (2 ^ 64 - 1) ≡ min n (2 ^ 64 - 1)
    more m n is = omega arith

pub counts_more : (accounts : List Account) (uploads : List UploadEntry) (upload : UploadEntry) → map (counted upload.player upload.result_number) (map (λ account. count_for account.player uploads) accounts) ≡ map (λ account. count_for account.player (uploads ++ upload ∷ [])) accounts
counts_more [] uploads upload = refl
counts_more (account ∷ accounts) uploads upload =
    let first = count_more account.player uploads upload in
    let rest = counts_more accounts uploads upload in
    cc

-- ---- the counts before all uploads

none_above : (n : ℕ) (accounts : List Account) → AllByRecursion (λ later. n < later.player) accounts → AllByRecursion (λ later. n < later.player) (map (λ account. count_for account.player []) accounts)
none_above n [] all = tt
none_above n (account ∷ accounts) all = (all.0, none_above n accounts all.1)

rises_none : (accounts : List Account) → Rises player_of accounts → Rises counted_player (map (λ account. count_for account.player []) accounts)
rises_none [] rises = tt
rises_none (account ∷ accounts) rises = (none_above account.player accounts rises.0, rises_none accounts rises.1)

pub rising_none : (accounts : List Account) → AreRising accounts → Rises counted_player (map (λ account. count_for account.player []) accounts)
rising_none accounts rising = rises_none accounts (rises_from_accounts accounts rising)
