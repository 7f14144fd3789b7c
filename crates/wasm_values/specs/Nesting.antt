-- The limit of nesting.
use Rattle.std.specs.Prelude.{ℕ}

-- So deep are blocks nested at most.
abbrev pub most_nesting : ℕ
most_nesting = 200
