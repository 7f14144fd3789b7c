-- A token as it stands in a text, and the token.
use Rattle.std.specs.Prelude.{◌≡◌, ℕ, List}
use Rattle.wat_grammar.specs.Tokens.{Token, opening, closing, quoted, word, SpellsString}
use Rattle.wat_tokens.specs.declared.token.Token.{Token as Seen}
use Rattle.wat_tokens.specs.declared.token.Token.TheVariants.{Opening, Closing, Quoted, Word}

-- What stands between the quotation marks of a string spells its content.
abbrev pub IsSeen : Seen → Token → Type 0
IsSeen Opening token = token ≡ opening
IsSeen Closing token = token ≡ closing
IsSeen (Quoted inner) token =
    (content : List ℕ) × SpellsString inner.now content × (token ≡ quoted content)
IsSeen (Word bytes) token = token ≡ word bytes.now
