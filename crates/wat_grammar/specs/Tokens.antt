-- The tokens of a module's text: WebAssembly Core 1.0, chapters 6.2 and 6.3, in the profile of this server.
use Rattle.std.specs.Prelude.{◌≡◌, ◌≢◌, ◌⊎◌, ℕ, suc, ◌+◌, ◌-◌, ◌*◌, ◌≤◌, List, [], ◌∷◌, ◌++◌, Option, Some}
use Rattle.std.specs.Prelude.{None, All, nat_le, ◌&&◌, ◌==◌, if◌then◌else◌}

-- A token: a parenthesis, a string by its content, or a word.
pub data Token : Type 0 where
  opening : Token
  closing : Token
  quoted : List ℕ → Token
  word : List ℕ → Token

-- ---- bytes

-- `(`, `)`, `"`, `;`, `\` and the line feed
abbrev pub left_byte : ℕ
left_byte = 0x28

abbrev pub right_byte : ℕ
right_byte = 0x29

abbrev pub quote_byte : ℕ
quote_byte = 0x22

abbrev pub semicolon : ℕ
semicolon = 0x3b

abbrev pub backslash : ℕ
backslash = 0x5c

abbrev pub line_feed : ℕ
line_feed = 0x0a

-- a space, a tab, a line feed or a carriage return
abbrev pub IsSpace : ℕ → Type 0
IsSpace byte = (byte ≡ 0x20) ⊎ (byte ≡ 0x09) ⊎ (byte ≡ line_feed) ⊎ (byte ≡ 0x0d)

-- a byte of words: `!` to `~`, but no parenthesis, quotation mark or semicolon
pub record IsWordByte (byte : ℕ) : Type 0 where
  pub least : 0x21 ≤ byte
  pub most : byte ≤ 0x7e
  pub not_left : byte ≢ left_byte
  pub not_right : byte ≢ right_byte
  pub not_quote : byte ≢ quote_byte
  pub not_semicolon : byte ≢ semicolon

-- a byte that stands for itself in a string
pub record IsPlain (byte : ℕ) : Type 0 where
  pub least : 0x20 ≤ byte
  pub not_delete : byte ≢ 0x7f
  pub not_quote : byte ≢ quote_byte
  pub not_backslash : byte ≢ backslash

-- The text does not begin with a byte of this kind.
abbrev pub BeginsWithNo : (ℕ → Type 0) → List ℕ → Type 0
BeginsWithNo P [] = Unit {0}
BeginsWithNo P (byte ∷ text) = P byte → ⊥

-- ---- digits

-- the value of a digit, `0` to `9`, and `a` to `f` or `A` to `F` where the base is 16
abbrev pub digit : ℕ → ℕ → Option ℕ
digit base byte =
    if nat_le 0x30 byte && nat_le byte 0x39 then Some (byte - 0x30)
    else if (base == 16) && (nat_le 0x41 byte && nat_le byte 0x46) then Some (byte - 0x37)
    else if (base == 16) && (nat_le 0x61 byte && nat_le byte 0x66) then Some (byte - 0x57)
    else None

-- ---- strings

-- what a byte behind a backslash stands for: a tab, a line feed, a carriage return, or itself
abbrev pub escaped : ℕ → Option ℕ
escaped byte =
    if byte == 0x74 then Some 0x09
    else if byte == 0x6e then Some line_feed
    else if byte == 0x72 then Some 0x0d
    else if byte == quote_byte then Some byte
    else if byte == 0x27 then Some byte
    else if byte == backslash then Some byte
    else None

-- What stands between the quotation marks of a string, and the string.
pub data SpellsString : List ℕ → List ℕ → Type 0 where
  string_end : SpellsString [] []
  string_plain : {byte : ℕ} {text content : List ℕ} → IsPlain byte → SpellsString text content
      → SpellsString (byte ∷ text) (byte ∷ content)
  string_escape : {byte value : ℕ} {text content : List ℕ} → escaped byte ≡ Some value
      → SpellsString text content
      → SpellsString (backslash ∷ byte ∷ text) (value ∷ content)
  string_digits : {first second high low : ℕ} {text content : List ℕ}
      → digit 16 first ≡ Some high → digit 16 second ≡ Some low → SpellsString text content
      → SpellsString (backslash ∷ first ∷ second ∷ text) ((16 * high + low) ∷ content)

-- ---- what stands between tokens

-- The text goes on to the end of so many comments that are open, `(;` to `;)`.
pub data EndsComments : ℕ → List ℕ → Type 0 where
  comments_ended : EndsComments 0 []
  comment_ends : {count : ℕ} {text : List ℕ} → EndsComments count text
      → EndsComments (suc count) (semicolon ∷ right_byte ∷ text)
  comment_begins : {count : ℕ} {text : List ℕ} → EndsComments (suc (suc count)) text
      → EndsComments (suc count) (left_byte ∷ semicolon ∷ text)
  comment_goes_on : {count byte : ℕ} {text : List ℕ}
      → (byte ≡ semicolon → BeginsWithNo (λ next. next ≡ right_byte) text)
      → (byte ≡ left_byte → BeginsWithNo (λ next. next ≡ semicolon) text)
      → EndsComments (suc count) text
      → EndsComments (suc count) (byte ∷ text)

-- no byte of the text is a line feed
abbrev pub IsInLine : List ℕ → Type 0
IsInLine = All (λ byte. byte ≢ line_feed)

-- ---- texts

-- The text is these tokens, with spaces and comments between them: `;;` to the end of the line, and `(;` to
-- `;)`. A word is as long as it can be, and the last line may be a comment without a line feed.
pub data Lexes : List ℕ → List Token → Type 0 where
  lexes_end : Lexes [] []
  lexes_space : {byte : ℕ} {text : List ℕ} {tokens : List Token} → IsSpace byte → Lexes text tokens
      → Lexes (byte ∷ text) tokens
  lexes_line : (line : List ℕ) {text : List ℕ} {tokens : List Token} → IsInLine line → Lexes text tokens
      → Lexes (semicolon ∷ semicolon ∷ (line ++ line_feed ∷ text)) tokens
  lexes_last_line : {line : List ℕ} → IsInLine line → Lexes (semicolon ∷ semicolon ∷ line) []
  lexes_comment : (comment : List ℕ) {text : List ℕ} {tokens : List Token} → EndsComments 1 comment
      → Lexes text tokens → Lexes (left_byte ∷ semicolon ∷ (comment ++ text)) tokens
  lexes_opening : {text : List ℕ} {tokens : List Token} → BeginsWithNo (λ next. next ≡ semicolon) text
      → Lexes text tokens → Lexes (left_byte ∷ text) (opening ∷ tokens)
  lexes_closing : {text : List ℕ} {tokens : List Token} → Lexes text tokens
      → Lexes (right_byte ∷ text) (closing ∷ tokens)
  lexes_quoted : (inner : List ℕ) {content text : List ℕ} {tokens : List Token} → SpellsString inner content
      → Lexes text tokens → Lexes (quote_byte ∷ (inner ++ quote_byte ∷ text)) (quoted content ∷ tokens)
  lexes_word : {first : ℕ} {more text : List ℕ} {tokens : List Token} → IsWordByte first
      → All IsWordByte more → BeginsWithNo IsWordByte text → Lexes text tokens
      → Lexes (first ∷ (more ++ text)) (word (first ∷ more) ∷ tokens)
