-- Records one behind the other.
use Rattle.std.proofs.Common.{◌≡◌, ℕ, zero, suc, ◌+◌, List, [], ◌∷◌, ◌++◌, length, take, Some, refl, ap, arith}
use Rattle.std.specs.Prelude.{slice_get}
use Rattle.object_store.specs.Stored.{Stored}
use Rattle.tick_journal.specs.declared.tick_record.TickRecord.{TickRecord}
use Rattle.record_follows.specs.Courses.{AreFollowing, world_after}
use Rattle.record_follows.specs.Follows.{Follows, after}

-- the world after two lists of records is that after the second, from the one after the first
pub world_after_append : (before : Stored) (entries later : List TickRecord) → world_after before (entries ++ later) ≡ world_after (world_after before entries) later
world_after_append before [] later = refl
world_after_append before (entry ∷ entries) later = world_after_append (after before entry) entries later

pub world_after_one : (before : Stored) (entries : List TickRecord) (entry : TickRecord) → world_after before (entries ++ entry ∷ []) ≡ after (world_after before entries) entry
world_after_one before entries entry = world_after_append before entries (entry ∷ [])

pub following_append : (before : Stored) (entries later : List TickRecord) → AreFollowing before entries → AreFollowing (world_after before entries) later → AreFollowing before (entries ++ later)
following_append before [] later following behind = behind
following_append before (entry ∷ entries) later following behind = (following.0, following_append (after before entry) entries later following.1 behind)

pub following_one : (before : Stored) (entries : List TickRecord) (entry : TickRecord) → AreFollowing before entries → Follows (world_after before entries) entry → AreFollowing before (entries ++ entry ∷ [])
following_one before entries entry following follows = following_append before entries (entry ∷ []) following (follows, tt)

pub following_front : (before : Stored) (entries later : List TickRecord) → AreFollowing before (entries ++ later) → AreFollowing before entries
following_front before [] later following = tt
following_front before (entry ∷ entries) later following = (following.0, following_front (after before entry) entries later following.1)

pub following_back : (before : Stored) (entries later : List TickRecord) → AreFollowing before (entries ++ later) → AreFollowing (world_after before entries) later
following_back before [] later following = following
following_back before (entry ∷ entries) later following = following_back (after before entry) entries later following.1

-- ---- the first so many records

pub following_take : (before : Stored) (entries : List TickRecord) (count : ℕ) → AreFollowing before entries → AreFollowing before (take count entries)
following_take before entries zero following = tt
following_take before [] (suc count) following = tt
following_take before (entry ∷ entries) (suc count) following = (following.0, following_take (after before entry) entries count following.1)

pub world_after_more : (before : Stored) (entries : List TickRecord) (count : ℕ) (entry : TickRecord) → slice_get entries count ≡ Some entry → world_after before (take (suc count) entries) ≡ after (world_after before (take count entries)) entry
world_after_more before [] count entry is = absurd cc
world_after_more before (first ∷ entries) zero entry is = let same : first ≡ entry = cc in ap (after before) same
world_after_more before (first ∷ entries) (suc count) entry is = world_after_more (after before first) entries count entry is

-- ---- the tick

pub tick_after : (before : Stored) (entries : List TickRecord) → AreFollowing before entries → (world_after before entries).tick ≡ before.tick + length entries
tick_after before [] following = omega arith
tick_after before (entry ∷ entries) following =
    let next : entry.tick ≡ before.tick + 1 = following.0.tick in
    let rest : (world_after (after before entry) entries).tick ≡ entry.tick + length entries = tick_after (after before entry) entries following.1 in
    omega arith
