-- What a crash may leave of the disk of a run.
use Rattle.std.specs.Prelude.{◌≡◌, ℕ, ◌≤◌, ◌⊎◌, List, ◌++◌, length}
use Rattle.frame_log.specs.Frames.{IsEmpty}
use Rattle.object_store.specs.Stored.{Stored}
use Rattle.tick_journal.specs.declared.tick_record.TickRecord.{TickRecord}
use Rattle.world_journal.specs.Journals.{IsJournal}

-- The image is empty, as the disk was; or a journal of the world, with the records that stood there.
abbrev pub IsOpening : List ℕ → Stored → List TickRecord → List ℕ → Type 0
IsOpening bytes base entries image = (IsEmpty bytes × IsEmpty image) ⊎ IsJournal base entries image

-- The image is a journal of the world, with the records that stood there and the first of these, at least so
-- many of them.
pub record HasAtLeast (least : ℕ) (base : Stored) (entries further : List TickRecord) (image : List ℕ)
    : Type 0 where
  pub first : List TickRecord
  pub rest : List TickRecord
  pub split : further ≡ first ++ rest
  pub enough : least ≤ length first
  pub stands : IsJournal base (entries ++ first) image
