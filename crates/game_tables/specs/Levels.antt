-- The tables by a controller's level, from 0 to 8.
use Rattle.std.specs.Prelude.{ℕ, Option, Some, None, List, [], ◌∷◌, slice_index, slice_index_or}
use Rattle.game_tables.specs.declared.kind.Kind.{Kind}
use Rattle.game_tables.specs.declared.kind.Kind.TheVariants.{Spawn, Extension, Storage, Container, Road}

-- the greatest level
abbrev pub last_level : ℕ
last_level = 8

-- the progress at which the next level is reached
abbrev pub totals : List (Option ℕ)
totals =
    None ∷ Some 200 ∷ Some 45000 ∷ Some 135000 ∷ Some 405000 ∷ Some 1215000 ∷ Some 3645000 ∷ Some 10935000
    ∷ None ∷ []

-- the full timer to the loss of a level
abbrev pub downgrades : List (Option ℕ)
downgrades =
    None ∷ Some 20000 ∷ Some 10000 ∷ Some 20000 ∷ Some 40000 ∷ Some 80000 ∷ Some 120000 ∷ Some 150000
    ∷ Some 200000 ∷ []

-- how many buildings of a kind a room may have, with those that sites are for
abbrev pub counts : Kind → List ℕ
counts Spawn = 0 ∷ 1 ∷ 1 ∷ 1 ∷ 1 ∷ 1 ∷ 1 ∷ 2 ∷ 3 ∷ []
counts Extension = 0 ∷ 0 ∷ 5 ∷ 10 ∷ 20 ∷ 30 ∷ 40 ∷ 50 ∷ 60 ∷ []
counts Storage = 0 ∷ 0 ∷ 0 ∷ 0 ∷ 1 ∷ 1 ∷ 1 ∷ 1 ∷ 1 ∷ []
counts Container = 5 ∷ 5 ∷ 5 ∷ 5 ∷ 5 ∷ 5 ∷ 5 ∷ 5 ∷ 5 ∷ []
counts Road = 2500 ∷ 2500 ∷ 2500 ∷ 2500 ∷ 2500 ∷ 2500 ∷ 2500 ∷ 2500 ∷ 2500 ∷ []
counts _ = []

-- the entry of a level, and none past the last
abbrev pub total_for_next : ℕ → Option ℕ
total_for_next level = slice_index_or totals level None

abbrev pub downgrade_number : ℕ → Option ℕ
downgrade_number level = slice_index_or downgrades level None

abbrev pub allowed : Kind → ℕ → ℕ
allowed kind level = slice_index (counts kind) level
