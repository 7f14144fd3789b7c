-- The moments of a disk in memory, from the bytes that it has and the calls that changed it.
use Rattle.std.specs.Prelude.{ℕ, ◌<◌, ◌≤◌, ◌⊎◌, List, [], ◌∷◌, ◌++◌, length, take, reverse, Vec, vec_len}
use Rattle.std.specs.Prelude.{vec_capacity}
use Rattle.std.specs.declared.alloc.Global.{Global}
use Rattle.world_io.specs.Disk.{written_at}
use Rattle.world_io.specs.Moments.{Moment, settled, torn, shortened, next}
use Rattle.world_io.specs.declared.change.Change.{Change}
use Rattle.world_io.specs.declared.change.Change.TheVariants.{Wrote, Grew, Cut, Synced}

-- the moments up to these bytes, after these calls, the latest first: each call is undone for the bytes
-- before it
abbrev pub moments_before : List ℕ → List Change → List Moment
moments_before bytes [] = settled bytes ∷ []
moments_before bytes (Wrote at over ∷ calls) =
    next (torn at (length over.items)) (moments_before (written_at at over.items bytes) calls)
moments_before bytes (Grew at n over ∷ calls) =
    next (torn at n) (moments_before (take at bytes ++ over.items) calls)
moments_before bytes (Cut len tail ∷ calls) =
    next (shortened len) (moments_before (bytes ++ tail.items) calls)
moments_before bytes (Synced ∷ calls) = settled bytes ∷ moments_before bytes calls

-- the moments of a disk that has these bytes, after these calls in their order
abbrev pub moments_of : List ℕ → List Change → List Moment
moments_of bytes calls = moments_before bytes (reverse calls)

-- the moment now
abbrev pub latest : List Moment → Moment
latest [] = settled []
latest (now ∷ past) = now

-- The record of a call that takes away so many bytes needs memory: for these, or as there is no room for the
-- call.
abbrev pub NeedsMemory : Vec Change Global → ℕ → Type 0
NeedsMemory calls lost = (0 < lost) ⊎ (vec_capacity calls ≤ vec_len calls)
