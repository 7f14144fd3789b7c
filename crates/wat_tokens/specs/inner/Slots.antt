-- How the words of instructions are found: by a hash.
use Rattle.std.specs.Prelude.{ℕ, ◌+◌, ◌*◌, ◌%◌, List, [], ◌∷◌, map}
use Rattle.wat_grammar.specs.Words.{words}

unfoldable pub hash_from : ℕ → List ℕ → ℕ
hash_from hash [] = hash
hash_from hash (byte ∷ word) = hash_from ((hash * 61 + byte) % 598) word

unfoldable pub words_in_order : List (List ℕ)
words_in_order = map (λ (row : ℕ × List ℕ). row.1) words

unfoldable pub codes_in_order : List ℕ
codes_in_order = map (λ (row : ℕ × List ℕ). row.0) words
