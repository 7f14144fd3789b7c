-- What lines ask.
use Rattle.std.specs.Prelude.{◌≡◌, ℕ, List, [], ◌∷◌, codes}
use Rattle.status_session.specs.Words.{words, IsNumber, IsToken, IsSize}
use Rattle.status_session.specs.declared.asked.Offered.{Offered}
use Rattle.status_session.specs.declared.asked.Asked.{Asked}
use Rattle.status_session.specs.declared.asked.Asked.TheVariants.{Status, Player, Upload, Quit}

-- The words behind `UPLOAD` are a player's number, a token, and the number of bytes that follow the line.
abbrev pub IsUpload : List (List ℕ) → Offered → Type 0
IsUpload words offered =
    (size : List ℕ) × (words ≡ offered.player.now ∷ offered.token.now ∷ size ∷ [])
    × IsNumber offered.player.now × IsToken offered.token.now × IsSize size offered.size

-- The words of a line ask this. A number stands for itself, by its digits.
abbrev pub Spells : List (List ℕ) → Asked → Type 0
Spells words Status = words ≡ codes "STATUS" ∷ []
Spells words (Player digits) = (words ≡ codes "PLAYER" ∷ digits.now ∷ []) × IsNumber digits.now
Spells words (Upload offered) =
    (rest : List (List ℕ)) × (words ≡ codes "UPLOAD" ∷ rest) × IsUpload rest offered
Spells words Quit = words ≡ codes "QUIT" ∷ []

-- The line asks nothing that there is.
abbrev pub IsNoRequest : List ℕ → Type 0
IsNoRequest line = (asked : Asked) → Spells (words line) asked → ⊥
