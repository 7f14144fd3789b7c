-- The tables of WebAssembly Core 1.0, chapter 4.2.7, as segments are written into them.
use Rattle.std.specs.Prelude.{ℕ, ◌+◌, List, ◌++◌, Option, length, take, drop}

-- the table with `entries` from `at`, and the others as they were
abbrev pub with_entries : List (Option ℕ) → ℕ → List (Option ℕ) → List (Option ℕ)
with_entries table at entries = take at table ++ (entries ++ drop (at + length entries) table)
