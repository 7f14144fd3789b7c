-- Why bytes are no journal, and where.
use Rattle.std.specs.Prelude.{◌≡◌, ℕ, ◌+◌, ◌<◌, ◌⊎◌, List, [], ◌∷◌, ◌++◌, length}
use Rattle.frame_log.specs.Frames.{BeginsClosed, BeginsFrame, IsEmpty, Spells}
use Rattle.object_store.specs.Stored.{Stored}
use Rattle.tick_journal.specs.declared.tick_record.TickRecord.{TickRecord}
use Rattle.world_journal.specs.Journals.{AreContents, IsJournal}

-- A journal may begin with these contents: there is none, or they are one.
abbrev pub BeginJournal : List (List ℕ) → Type 0
BeginJournal contents =
    (contents ≡ []) ⊎ ((base : Stored) × (entries : List TickRecord) × AreContents base entries contents)

-- The bytes are not empty, and up to the place they are frames with which a journal may begin; behind them
-- stands no closed gate, and no frame that goes on with the journal.
pub record FailsAt (at : ℕ) (bytes : List ℕ) : Type 0 where
  pub some : IsEmpty bytes → ⊥
  pub front : List ℕ
  pub contents : List (List ℕ)
  pub spelled : Spells front contents
  pub begun : BeginJournal contents
  pub rest : List ℕ
  pub split : bytes ≡ front ++ rest
  pub place : at ≡ length front
  pub goes_on : BeginsClosed rest → ⊥
  pub fails : (content behind : List ℕ) → BeginsFrame rest content behind
      → BeginJournal (contents ++ content ∷ []) → ⊥

-- The bytes are a journal whose worlds are those of the ticks from the first to the last, and this is none of
-- them.
pub record HasNoWorld (tick first last : ℕ) (bytes : List ℕ) : Type 0 where
  pub base : Stored
  pub entries : List TickRecord
  pub is : IsJournal base entries bytes
  pub first_is : first ≡ base.tick
  pub last_is : last ≡ base.tick + length entries
  pub outside : (tick < first) ⊎ (last < tick)

-- The same, where the first world has no record.
pub record HasNoRecord (tick first last : ℕ) (bytes : List ℕ) : Type 0 where
  pub base : Stored
  pub entries : List TickRecord
  pub is : IsJournal base entries bytes
  pub first_is : first ≡ base.tick
  pub last_is : last ≡ base.tick + length entries
  pub outside : (tick < first + 1) ⊎ (last < tick)
