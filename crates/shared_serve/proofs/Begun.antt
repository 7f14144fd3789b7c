-- A journal that was just begun, and read back.
use Rattle.std.proofs.Common.{◌≡◌, ℕ, List, [], ◌∷◌, ◌++◌, Option, Some, None, IfSome, refl, sym, subst}
use Rattle.frame_log.specs.Frames.{IsEmpty, IsLog}
use Rattle.object_store.specs.Stored.{Stored}
use Rattle.tick_journal.specs.declared.tick_record.TickRecord.{TickRecord}
use Rattle.world_io.specs.Disk.{TellsAlike}
use Rattle.world_io.specs.Moments.{Moment, Rests}
use Rattle.world_journal.specs.Answers.{IsRecoverFaultOf}
use Rattle.world_journal.specs.Faults.{FailsAt}
use Rattle.world_journal.specs.Journals.{IsJournal, IsQuiet, IsWholeJournal}
use Rattle.world_journal.specs.declared.fault.RecoverFault.{RecoverFault}
use Rattle.world_journal.specs.declared.fault.RecoverFault.TheVariants.{Empty, NotAJournal}
use Rattle.world_journal.proofs.Journals.{journal_once, journal_whole, whole_is_journal}

pub fault_empty : (e : RecoverFault) (seen : Option (List ℕ)) (before now : ℕ) → e ≡ Empty → IsRecoverFaultOf seen before now e → IfSome seen IsEmpty
fault_empty e seen before now is fault = subst (IsRecoverFaultOf seen before now) is fault

pub fault_at : (e : RecoverFault) (at : ℕ) (seen : Option (List ℕ)) (before now : ℕ) → e ≡ NotAJournal at → IsRecoverFaultOf seen before now e → IfSome seen (FailsAt at)
fault_at e at seen before now is fault = subst (IsRecoverFaultOf seen before now) is fault

module _ (base : Stored) where
  -- What is read where the journal was just begun is that journal.
  pub same_base_read : (seen : Option (List ℕ)) (other : Stored) (entries : List TickRecord) → IfSome seen (IsWholeJournal base []) → IfSome seen (IsJournal other entries) → IfSome seen (λ bytes. base ≡ other)
  same_base_read None other entries begun is = tt
  same_base_read (Some bytes) other entries begun is = (journal_once bytes base other [] entries (whole_is_journal base [] bytes begun) is).0

  pub same_entries_read : (seen : Option (List ℕ)) (other : Stored) (entries : List TickRecord) → IfSome seen (IsWholeJournal base []) → IfSome seen (IsJournal other entries) → IfSome seen (λ bytes. entries ≡ [])
  same_entries_read None other entries begun is = tt
  same_entries_read (Some bytes) other entries begun is = sym (journal_once bytes base other [] entries (whole_is_journal base [] bytes begun) is).1

  pub never_fails : (seen : Option (List ℕ)) (at : ℕ) → IfSome seen (IsWholeJournal base []) → IfSome seen (FailsAt at) → seen ≡ None
  never_fails None at begun fails = refl
  never_fails (Some bytes) at begun fails = absurd (journal_whole bytes base [] at (whole_is_journal base [] bytes begun) fails)

  pub other_untold : (seen : Option (List ℕ)) (other : Stored) → (base ≡ other → ⊥) → IfSome seen (λ bytes. base ≡ other) → seen ≡ None
  other_untold None other differ same = refl
  other_untold (Some bytes) other differ same = absurd (differ same)

  pub whole_still : (seen after : Option (List ℕ)) (other : Stored) (entries : List TickRecord) → TellsAlike seen after → IfSome seen (λ bytes. base ≡ other) → IfSome seen (λ bytes. entries ≡ []) → IfSome after (IsWholeJournal other entries)
      → IfSome after (IsWholeJournal base [])
  whole_still seen None other entries alike same none is = tt
  whole_still None (Some bytes) other entries alike same none is = absurd alike
  whole_still (Some old) (Some bytes) other entries alike same none is =
      subst (λ (b : Stored). IsWholeJournal b [] bytes) (sym same) (subst (λ (l : List TickRecord). IsWholeJournal other l bytes) none is)

  pub journal_there : (bytes : List ℕ) (seen : Option (List ℕ)) → seen ≡ Some bytes → IfSome seen (IsWholeJournal base []) → IsJournal base [] bytes
  journal_there bytes seen told begun = whole_is_journal base [] bytes (subst (λ (s : Option (List ℕ)). IfSome s (IsWholeJournal base [])) told begun)

some_same : (one other : List ℕ) → Some one ≡ Some other → other ≡ one
some_same one other same = cc

-- Where the disk tells its bytes, a crash leaves what a read of a log gives.
pub log_rests : (gate : ℕ) (seen : Option (List ℕ)) (moments : List Moment) → IsLog gate seen moments → IsQuiet seen moments
log_rests gate None moments log = tt
log_rests gate (Some bytes) moments log =
    let has = log.1 in
    let same : has.front ++ 0 ∷ [] ≡ bytes = some_same bytes (has.front ++ 0 ∷ []) has.rests.read in
    subst (λ (b : List ℕ). Rests b (Some bytes) moments) same has.rests
