-- The bytes of journals.
use Rattle.std.proofs.Common.{◌≡◌, ℕ, inl, inr, List, [], subst}
use Rattle.frame_log.specs.Frames.{IsEmpty, Spells}
use Rattle.frame_log.proofs.Fronts.{front_goes_on, front_some}
use Rattle.frame_log.proofs.Once.{stand_once}
use Rattle.object_store.specs.Stored.{Stored}
use Rattle.tick_journal.specs.declared.tick_record.TickRecord.{TickRecord}
use Rattle.world_journal.specs.Faults.{FailsAt}
use Rattle.world_journal.specs.Journals.{AreContents, IsJournal, IsWholeJournal}
use Rattle.world_journal.proofs.Contents.{contents_begin, contents_once}

-- A journal with nothing behind its closed gate is one.
pub whole_is_journal : (base : Stored) (entries : List TickRecord) (bytes : List ℕ) → IsWholeJournal base entries bytes → IsJournal base entries bytes
whole_is_journal base entries bytes is = record {
  contents = is.contents;
  stand = record { front = is.front; spelled = is.spelled; rest = []; split = is.split };
  are = is.are;
}

pub journal_once : (bytes : List ℕ) (base other : Stored) (entries others : List TickRecord) → IsJournal base entries bytes → IsJournal other others bytes → (base ≡ other) × (entries ≡ others)
journal_once bytes base other entries others is also =
    let same = stand_once bytes also.contents is.contents also.stand is.stand in
    contents_once is.are (subst (λ (contents : List (List ℕ)). AreContents other others contents) same also.are)

pub journal_some : (bytes : List ℕ) (base : Stored) (entries : List TickRecord) → IsJournal base entries bytes → IsEmpty bytes → ⊥
journal_some bytes base entries is empty =
    front_some _ (subst (λ (contents : List (List ℕ)). Spells is.stand.front contents) is.are.split is.stand.spelled) (subst IsEmpty is.stand.split empty)

pub journal_whole : (bytes : List ℕ) (base : Stored) (entries : List TickRecord) (at : ℕ) → IsJournal base entries bytes → FailsAt at bytes → ⊥
journal_whole bytes base entries at is fails =
    elim (front_goes_on bytes is.stand.front fails.front is.contents fails.contents is.stand.rest fails.rest is.stand.spelled is.stand.split fails.spelled fails.split) [
      | inl shut ↦ fails.goes_on shut
      | inr next ↦ fails.fails next.0 next.1 next.3 (contents_begin fails.contents next.0 next.2 (subst (λ (contents : List (List ℕ)). AreContents base entries contents) next.4 is.are))
    ]
