-- Kinds of tokens.
use Rattle.std.specs.Prelude.{◌≡◌, ℕ, List}
use Rattle.wat_grammar.specs.Tokens.{Token, quoted, word}

abbrev pub IsWord : Token → Type 0
IsWord token = (text : List ℕ) × (token ≡ word text)

abbrev pub IsQuoted : Token → Type 0
IsQuoted token = (content : List ℕ) × (token ≡ quoted content)
