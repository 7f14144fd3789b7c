-- What stands at the front of a text, as the code tells it.
use Rattle.std.specs.Prelude.{◌≡◌, ℕ, ◌+◌, ◌<◌, ◌≤◌, List, [], length, take, drop, Option, None, Some}
use Rattle.wat_grammar.specs.Tokens.{opening, closing, quoted, word, SpellsString}
use Rattle.wat_grammar.specs.Fronts.{HasNoTokens, PassesTo, Starts}
use Rattle.wat_tokens.specs.declared.front.Front.{Front}
use Rattle.wat_tokens.specs.declared.front.Front.TheVariants.{End, Blank, Opening, Closing, Quoted, Word, Bad}

abbrev pub IsFront : List ℕ → Front → Type 0
IsFront text End = text ≡ []
IsFront text (Blank n) = (0 < n) × (n ≤ length text) × PassesTo text (drop n text)
IsFront text Opening = (0 < length text) × Starts opening text (drop 1 text)
IsFront text Closing = (0 < length text) × Starts closing text (drop 1 text)
IsFront text (Quoted n) = (n + 2 ≤ length text)
    × (content : List ℕ) × SpellsString (take n (drop 1 text)) content
    × Starts (quoted content) text (drop (n + 2) text)
IsFront text (Word n) = (0 < n) × (n ≤ length text) × Starts (word (take n text)) text (drop n text)
IsFront text Bad = HasNoTokens text

abbrev pub IsNoBlank : Front → Type 0
IsNoBlank (Blank n) = ⊥
IsNoBlank _ = Unit {0}

-- how many bytes a token has
abbrev pub token_length : Front → Option ℕ
token_length Opening = Some 1
token_length Closing = Some 1
token_length (Quoted n) = Some (n + 2)
token_length (Word n) = Some n
token_length _ = None
