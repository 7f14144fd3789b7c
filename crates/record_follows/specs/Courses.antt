-- Records one behind the other.
use Rattle.std.specs.Prelude.{◌≡◌, ◌==◌, ℕ, ◌+◌, ◌≤◌, if◌then◌else◌, List, [], ◌∷◌, length, take}
use Rattle.std.specs.Ordering.{nat_cmp}
use Rattle.std.specs.FinMap.{FinMap, insert}
use Rattle.object_store.specs.Stored.{Stored}
use Rattle.tick_journal.specs.declared.entries.UploadEntry.{UploadEntry}
use Rattle.tick_journal.specs.declared.tick_record.TickRecord.{TickRecord}
use Rattle.record_follows.specs.Follows.{Follows, after}

-- Each record follows the world that those before it lead to.
abbrev pub AreFollowing : Stored → List TickRecord → Type 0
AreFollowing before [] = Unit {0}
AreFollowing before (entry ∷ later) = Follows before entry × AreFollowing (after before entry) later

-- the world that records lead to
abbrev pub world_after : Stored → List TickRecord → Stored
world_after before [] = before
world_after before (entry ∷ later) = world_after (after before entry) later

-- It is the world of this tick: that after so many of the records.
pub record IsWorldAt (base : Stored) (entries : List TickRecord) (tick : ℕ) (world : Stored) : Type 0 where
  pub count : ℕ
  pub within : count ≤ length entries
  pub place : tick ≡ base.tick + count
  pub is : world ≡ world_after base (take count entries)

-- ---- modules and uploads

-- the bytes of each player's module
abbrev pub Modules : Type 0
Modules = FinMap nat_cmp (List ℕ)

-- the modules after uploads: an accepted one is its player's
abbrev pub modules_with : Modules → List UploadEntry → Modules
modules_with modules [] = modules
modules_with modules (entry ∷ later) =
    modules_with (if entry.result_number == 0 then insert modules entry.player entry.bytes else modules) later

-- the modules after all uploads of these records
abbrev pub modules_after : Modules → List TickRecord → Modules
modules_after modules [] = modules
modules_after modules (entry ∷ later) = modules_after (modules_with modules entry.uploads) later
