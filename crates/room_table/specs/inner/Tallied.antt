-- What was done to the objects of a room's table, by the slots in which they stand. For private clauses.
use Rattle.std.specs.Prelude.{◌≡◌, ℕ, ◌+◌, ◌≤◌, if◌then◌else◌, List, [], ◌∷◌, length, map, slice_index_or}
use Rattle.std.specs.Prelude.{vec_capacity}
use Rattle.std.specs.declared.alloc.Global.{Global}
use Rattle.std.specs.declared.vec.Vec.{Vec}
use Rattle.std.specs.FinMap.{from_entries}
use Rattle.std.specs.List.{AllByRecursion}
use Rattle.room_table.specs.declared.object.Object.{Object}
use Rattle.room_table.specs.declared.tally.Tally.{Tally}
use Rattle.room_table.specs.Tallies.{Tallies, is_no_tally, most_sum, no_tally}
use Rattle.room_table.specs.inner.Placed.{standing}

abbrev pub tally_in : List Tally → ℕ → Tally
tally_in tallies slot = slice_index_or tallies slot no_tally

-- the tallies of some slots
abbrev pub tallies_in : List Tally → List ℕ → List Tally
tallies_in tallies order = map (tally_in tallies) order

-- No sum passes its most.
pub record IsCapped (tally : Tally) : Type 0 where
  pub damage : tally.damage ≤ most_sum
  pub healing : tally.healing ≤ most_sum

-- Each slot has a tally beside it, and there is room for some more.
pub record AreBeside (slots : List Object) (tallies : Vec Tally Global) (spare : ℕ) : Type 0 where
  pub long : length tallies.items ≡ length slots
  pub room : length slots + spare ≤ vec_capacity tallies
  pub capped : AllByRecursion IsCapped tallies.items

-- what was done to objects, by their ids, but for those to which nothing was
abbrev pub done_to : List Object → List Tally → List (ℕ × Tally)
done_to [] tallies = []
done_to (object ∷ objects) [] = []
done_to (object ∷ objects) (tally ∷ tallies) =
    if is_no_tally tally then done_to objects tallies else (object.id, tally) ∷ done_to objects tallies

-- what was done to the objects whose slots in rising id are these
abbrev pub tallied : List Object → List Tally → List ℕ → Tallies
tallied slots tallies order = from_entries (done_to (standing slots order) (tallies_in tallies order))
