-- How a show of a tick ends.
use Rattle.std.proofs.Common.{◌≡◌, ℕ, ◌+◌, ◌<◌, ◌≤◌, List, Option, Some, length, ◌⊎◌, inl, inr, arith, refl, subst}
use Rattle.object_store.specs.Stored.{Stored}
use Rattle.record_follows.specs.Courses.{IsWorldAt}
use Rattle.tick_journal.specs.declared.tick_record.TickRecord.{TickRecord}
use Rattle.world_io.specs.Causes.{Rose}
use Rattle.world_journal.specs.Faults.{HasNoWorld}
use Rattle.world_journal.specs.Journals.{IsJournal}
use Rattle.world_journal.proofs.Journals.{journal_once, journal_some, journal_whole}
use Rattle.world_tools.specs.Shown.{IsNotShown}
use Rattle.run_status.specs.declared.status.Status.{Status}
use Rattle.run_status.specs.declared.status.Status.TheVariants as statuses

within : (tick first last start count size : ℕ) → first ≡ start → last ≡ start + size → tick ≡ start + count
    → count ≤ size → (tick < first) ⊎ (last < tick) → ⊥
within tick first last start count size first_is last_is place most (inl below) = absurd (omega arith)
within tick first last start count size first_is last_is place most (inr above) = absurd (omega arith)

-- The ticks of a journal's worlds are those from its first to its last.
inside : (tick : ℕ) (bytes : List ℕ) (base world : Stored) (entries : List TickRecord) (first last : ℕ)
    → IsJournal base entries bytes → IsWorldAt base entries tick world → HasNoWorld tick first last bytes → ⊥
inside tick bytes base world entries first last is found none =
    let same = journal_once bytes none.base base none.entries entries none.is is in
    let first_is = subst (λ (b : Stored). first ≡ b.tick) same.0 none.first_is in
    let last_is = subst (λ (all : List TickRecord). last ≡ base.tick + length all) same.1
    (subst (λ (b : Stored). last ≡ b.tick + length none.entries) same.0 none.last_is) in
    within tick first last base.tick found.count (length entries) first_is last_is found.place found.within none.outside

shown_or_wanted : (tick : ℕ) (bytes : List ℕ) (before now : ℕ) (base world : Stored) (entries : List TickRecord)
    (status : Status) → IsJournal base entries bytes → IsWorldAt base entries tick world → (Rose before now → ⊥)
    → IsNotShown tick (Some bytes) before now status → status ≡ statuses.Memory
shown_or_wanted tick bytes before now base world entries statuses.NoJournal is found fine h =
    absurd (journal_some bytes base entries is h)
shown_or_wanted tick bytes before now base world entries (statuses.NoSuchTick first last) is found fine h =
    absurd (inside tick bytes base world entries first last is found h)
shown_or_wanted tick bytes before now base world entries (statuses.NotAJournal at) is found fine h =
    absurd (journal_whole bytes base entries at is h)
shown_or_wanted tick bytes before now base world entries statuses.DiskFault is found fine h = absurd (fine h)
shown_or_wanted tick bytes before now base world entries statuses.Memory is found fine h = refl
shown_or_wanted tick bytes before now base world entries status is found fine h = absurd h

-- Of a journal with the tick a disk that doesn't fail gives the text, or memory is wanted.
pub told_or_wanted : (tick : ℕ) (seen : Option (List ℕ)) (bytes : List ℕ) (before now : ℕ) (base world : Stored)
    (entries : List TickRecord) (status : Status) → seen ≡ Some bytes → IsJournal base entries bytes
    → IsWorldAt base entries tick world → (Rose before now → ⊥) → IsNotShown tick seen before now status
    → status ≡ statuses.Memory
told_or_wanted tick seen bytes before now base world entries status told is found fine h =
    shown_or_wanted tick bytes before now base world entries status is found fine
    (subst (λ (disk : Option (List ℕ)). IsNotShown tick disk before now status) told h)
