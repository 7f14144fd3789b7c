-- How the entries of a record are kept: under each place an intent with a number, which is higher for a later
-- one.
use Rattle.std.specs.Prelude.{◌≡◌, ℕ, zero, suc, ◌<◌, ◌≤◌, nat_eq, nat_lt, if◌then◌else◌, List, [], ◌∷◌, ◌++◌}
use Rattle.std.specs.Prelude.{map, length, slice_get, Option, None, Some, MatchOption}
use Rattle.std.specs.List.{AllByRecursion}
use Rattle.intent_book.specs.declared.intent.Intent.{Intent}
use Rattle.intent_book.specs.declared.entries.Kept.{Kept}
use Rattle.intent_book.specs.Records.{place}

abbrev pub Row : Type 0
Row = (ℕ × ℕ) × Kept

-- the intents of a number
abbrev pub at_order : ℕ → List Row → List Intent
at_order order [] = []
at_order order (row ∷ rows) =
    if nat_eq row.1.order order then row.1.intent ∷ at_order order rows else at_order order rows

-- the intents of lower numbers, in rising order
abbrev pub listed : ℕ → List Row → List Intent
listed zero rows = []
listed (suc order) rows = listed order rows ++ at_order order rows

-- Each intent stands under its place.
abbrev pub IsKeyed : List Row → Type 0
IsKeyed rows = AllByRecursion (λ row. row.0 ≡ place row.1.intent) rows

-- Each number is lower.
abbrev pub IsBelow : ℕ → List Row → Type 0
IsBelow next rows = AllByRecursion (λ row. row.1.order < next) rows

-- No number is given twice.
abbrev pub IsSingle : List Row → Type 0
IsSingle rows = (order : ℕ) → length (at_order order rows) ≤ 1

-- The rows stand so, and `next` is free with all numbers above it.
abbrev pub IsKept : ℕ → List Row → Type 0
IsKept next rows = IsKeyed rows × IsBelow next rows × IsSingle rows

-- the intents, as the map has them
abbrev pub intents : List Row → List Intent
intents rows = map (λ row. row.1.intent) rows

-- No row has a number from `from` on.
abbrev pub IsFree : ℕ → List Row → Type 0
IsFree from rows = (order : ℕ) → from ≤ order → at_order order rows ≡ []

-- The pair is one of the rows with its index, and none of the others has a number from `from` on that is
-- lower.
abbrev pub IsNext : List Row → ℕ → ℕ × Kept → List Row → Type 0
IsNext rows from pair others =
    (from ≤ pair.1.order) × ((key : ℕ × ℕ) × (slice_get rows pair.0 ≡ Some (key, pair.1)))
    × ((order : ℕ) → from ≤ order → order < pair.1.order → at_order order others ≡ [])

abbrev pub Finds : List Row → ℕ → Option (ℕ × Kept) → List Row → Type 0
Finds rows from found others = MatchOption found (IsFree from others) (λ pair. IsNext rows from pair others)

-- the one of the two with the lower number
abbrev pub lower : Option (ℕ × Kept) → ℕ × Kept → Option (ℕ × Kept)
lower None other = Some other
lower (Some least) other = if nat_lt other.1.order least.1.order then Some other else Some least
