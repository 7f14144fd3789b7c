-- Texts that are given to a sink in pieces.
use Rattle.std.specs.Prelude.{◌≡◌, ℕ, List, ◌++◌, Option}
use Rattle.std.specs.Io.KnownBytes.{Appends}

-- The sink was given the piece that was to be written before and the text behind it, but for the piece that
-- is to be written after.
abbrev pub Gives : Option (List ℕ) → Option (List ℕ) → List ℕ → List ℕ → List ℕ → Type 0
Gives old new before after text =
    (given : List ℕ) × Appends old new given × (before ++ text ≡ given ++ after)
