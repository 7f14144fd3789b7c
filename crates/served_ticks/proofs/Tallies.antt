-- The counts of players' uploads, a tick further.
use Rattle.std.proofs.Common.{◌≡◌, ℕ, List, [], ◌∷◌, ◌++◌, map, refl, sym, ap, ◌∙◌}
use Rattle.object_store.specs.Stored.{Stored}
use Rattle.object_store.specs.declared.account.Account.{Account}
use Rattle.record_follows.specs.Courses.{world_after}
use Rattle.record_follows.specs.Follows.{after}
use Rattle.record_follows.proofs.Lasting.{after_alike}
use Rattle.tick_journal.specs.declared.entries.UploadEntry.{UploadEntry}
use Rattle.tick_journal.specs.declared.tick_record.TickRecord.{TickRecord}
use Rattle.world_journal.specs.Recovering.{count_of}
use Rattle.world_journal.specs.declared.recovered.UploadCount.{UploadCount}
use Rattle.world_journal.specs.inner.Counting.{count_for}
use Rattle.world_run.specs.declared.kept.Kept.{Kept}
use Rattle.world_run.specs.inner.Held.{IsAt}
use Rattle.served_ticks.proofs.Handed.{uploads_in, uploads_more}

abbrev pub players_of : List Account → List ℕ
players_of accounts = map (λ (account : Account). account.player) accounts

abbrev pub counts_for : List Account → List UploadEntry → List UploadCount
counts_for accounts uploads = map (λ (account : Account). count_for account.player uploads) accounts

by_players : (accounts : List Account) (uploads : List UploadEntry) → counts_for accounts uploads ≡ map (λ (player : ℕ). count_for player uploads) (players_of accounts)
by_players [] uploads = refl
by_players (account ∷ accounts) uploads = ap (λ (l : List UploadCount). count_for account.player uploads ∷ l) (by_players accounts uploads)

pub counts_same : (one other : List Account) (uploads : List UploadEntry) → players_of one ≡ players_of other → counts_for one uploads ≡ counts_for other uploads
counts_same one other uploads same =
    by_players one uploads ∙ (ap (λ (l : List ℕ). map (λ (player : ℕ). count_for player uploads) l) same ∙ sym (by_players other uploads))

pub players_after : (base : Stored) (entries : List TickRecord) → players_of (world_after base entries).accounts ≡ players_of base.accounts
players_after base [] = refl
players_after base (entry ∷ later) = players_after (after base entry) later ∙ (after_alike base entry).players

-- A world at the end of a journal has the players of the journal's world.
pub players_at : (base : Stored) (entries : List TickRecord) (kept : Kept) → IsAt base entries kept.hosted → players_of kept.hosted.world.accounts ≡ players_of base.accounts
players_at base entries kept at = ap (λ (w : Stored). players_of w.accounts) at.world ∙ players_after base entries

pub counts_there : (base : Stored) (entries : List TickRecord) (kept : Kept) (counts : List UploadCount) → IsAt base entries kept.hosted → counts ≡ map (count_of entries) base.accounts → counts ≡ map (count_of entries) kept.hosted.world.accounts
counts_there base entries kept counts at is = is ∙ counts_same base.accounts kept.hosted.world.accounts (uploads_in entries) (sym (players_at base entries kept at))

pub counts_one : (base : Stored) (entries : List TickRecord) (entry : TickRecord) (kept next : Kept) (counts : List UploadCount) (judged : List UploadEntry) → IsAt base entries kept.hosted → IsAt base (entries ++ entry ∷ []) next.hosted → entry.uploads ≡ judged
    → counts ≡ counts_for kept.hosted.world.accounts (uploads_in entries ++ judged) → counts ≡ map (count_of (entries ++ entry ∷ [])) next.hosted.world.accounts
counts_one base entries entry kept next counts judged at then_at same is =
    let players = players_at base entries kept at ∙ sym (players_at base (entries ++ entry ∷ []) next then_at) in
    is ∙ (ap (λ (l : List UploadEntry). counts_for kept.hosted.world.accounts (uploads_in entries ++ l)) (sym same)
    ∙ (ap (counts_for kept.hosted.world.accounts) (sym (uploads_more entries entry)) ∙ counts_same kept.hosted.world.accounts next.hosted.world.accounts (uploads_in (entries ++ entry ∷ [])) players))
