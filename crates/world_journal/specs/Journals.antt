-- What the bytes of a journal stand for: a world, and the records of ticks, each following the world before
-- it.
use Rattle.std.specs.Prelude.{◌≡◌, ℕ, ◌⊎◌, List, [], ◌∷◌, ◌++◌, Option, Some, None, ⊤}
use Rattle.std.specs.List.{AllByRecursion}
use Rattle.frame_log.specs.Frames.{HasContents, IsEmpty, Spells, Stands}
use Rattle.object_store.specs.Stored.{Stored}
use Rattle.record_follows.specs.Courses.{AreFollowing}
use Rattle.record_follows.specs.Follows.{Follows}
use Rattle.rule_check.specs.Kept.{AreOnTiles, KeepsAllButCounts}
use Rattle.tick_journal.specs.BaseForms.{HasBaseForm, SpellsBase, world_as_read}
use Rattle.tick_journal.specs.Numbers.{RecordFits, WorldFits}
use Rattle.tick_journal.specs.TickForms.{HasTickForm, SpellsTick, tick_as_read}
use Rattle.tick_journal.specs.declared.tick_record.TickRecord.{TickRecord}
use Rattle.world_io.specs.Moments.{Moment, Rests}
use Rattle.world_rules.specs.World.{listing_of}

-- ---- worlds and records

-- Each object stands on a tile of its room, and no rule is broken but maybe that of the counts.
pub record KeepsRules (world : Stored) : Type 0 where
  pub tiles : AreOnTiles world.rooms
  pub rules : KeepsAllButCounts (listing_of world)

-- The record has its form and is as it is read: without room for more objects.
pub record IsRead (entry : TickRecord) : Type 0 where
  pub form : HasTickForm entry
  pub full : entry ≡ tick_as_read entry

-- A world that has its form and keeps the rules, and records, each of which follows the world before it.
pub record IsCourse (base : Stored) (entries : List TickRecord) : Type 0 where
  pub form : HasBaseForm base
  pub rules : KeepsRules base
  pub forms : AllByRecursion IsRead entries
  pub follow : AreFollowing base entries

-- ---- bytes

-- Each content spells the record at its place.
abbrev pub AreSpelled : List (List ℕ) → List TickRecord → Type 0
AreSpelled [] [] = Unit {0}
AreSpelled (content ∷ contents) (entry ∷ entries) = SpellsTick content entry × AreSpelled contents entries
AreSpelled [] (entry ∷ entries) = ⊥
AreSpelled (content ∷ contents) [] = ⊥

-- The first content spells the world, and the others the records.
pub record AreContents (base : Stored) (entries : List TickRecord) (contents : List (List ℕ)) : Type 0 where
  pub first : List ℕ
  pub later : List (List ℕ)
  pub split : contents ≡ first ∷ later
  pub base_spelled : SpellsBase first base
  pub spelled : AreSpelled later entries
  pub course : IsCourse base entries

-- The bytes, up to the first closed gate, are a journal of this world and these records.
pub record IsJournal (base : Stored) (entries : List TickRecord) (bytes : List ℕ) : Type 0 where
  pub contents : List (List ℕ)
  pub stand : Stands contents bytes
  pub are : AreContents base entries contents

-- The same, and nothing stands behind the closed gate.
pub record IsWholeJournal (base : Stored) (entries : List TickRecord) (bytes : List ℕ) : Type 0 where
  pub front : List ℕ
  pub contents : List (List ℕ)
  pub spelled : Spells front contents
  pub split : bytes ≡ front ++ 0 ∷ []
  pub are : AreContents base entries contents

-- ---- the disk between calls

-- A read gives such a journal, which ends in its closed gate at the place; and a crash now leaves what a read
-- gives.
pub record HasJournal (base : Stored) (entries : List TickRecord) (gate : ℕ) (seen : Option (List ℕ))
    (moments : List Moment) : Type 0 where
  pub contents : List (List ℕ)
  pub has : HasContents contents gate seen moments
  pub are : AreContents base entries contents

-- Where the disk tells its bytes, a crash now leaves what a read gives.
abbrev pub IsQuiet : Option (List ℕ) → List Moment → Type 0
IsQuiet None moments = ⊤
IsQuiet (Some bytes) moments = Rests bytes (Some bytes) moments

-- ---- what a crash may leave of the calls

-- The image is empty, or a journal of this world alone.
abbrev pub IsEmptyOrBase : Stored → List ℕ → Type 0
IsEmptyOrBase base image = IsEmpty image ⊎ IsJournal base [] image

-- The image is a journal of these records, or of these and the new one.
abbrev pub IsBeforeOrAfter : Stored → List TickRecord → TickRecord → List ℕ → Type 0
IsBeforeOrAfter base entries entry image =
    IsJournal base entries image ⊎ IsJournal base (entries ++ entry ∷ []) image

-- The image is these bytes; or a journal stands in both, with the same world and records: what followed it
-- may be cut off.
abbrev pub IsKeptOrCut : List ℕ → List ℕ → Type 0
IsKeptOrCut bytes image = (image ≡ bytes)
    ⊎ ((base : Stored) × (entries : List TickRecord) × IsJournal base entries bytes
    × IsJournal base entries image)

-- ---- what may be written

-- A journal may begin with the world: as far as its numbers fit it has its form, as it is read, and it keeps
-- the rules.
pub record MayBegin (base : Stored) : Type 0 where
  pub form : WorldFits base → HasBaseForm (world_as_read base)
  pub rules : KeepsRules base

-- The record may stand behind this world: as far as its numbers fit it has its form, and as it is read it
-- follows the world.
pub record MayFollow (last : Stored) (entry : TickRecord) : Type 0 where
  pub form : RecordFits entry → HasTickForm entry
  pub follows : Follows last (tick_as_read entry)
