-- The lines of replies.
use Rattle.std.specs.Prelude.{ℕ, List, [], ◌++◌, ◌==◌, if◌then◌else◌, codes, decimal, option_map, unwrap_or}
use Rattle.intent_book.specs.Refusals.{refusal_name, refusal_of}
use Rattle.world_hub.specs.declared.summary.Summary.{Summary}
use Rattle.world_hub.specs.declared.summary.PlayerLine.{PlayerLine}

-- the last result of a player's uploads, by its number: `none`, `accepted` or the name of a refusal
unfoldable pub last_name : ℕ → List ℕ
last_name number =
    if number == 255 then codes "none"
    else if number == 0 then codes "accepted"
    else unwrap_or (option_map refusal_name (refusal_of number)) []

-- the reply to `STATUS`
unfoldable pub status_reply : Summary → List ℕ
status_reply summary =
    codes "tick " ++ decimal summary.tick ++ codes " rooms " ++ decimal summary.rooms
    ++ codes " objects " ++ decimal summary.objects
    ++ codes " energy " ++ decimal summary.energy ++ codes "\n"

-- the reply to `PLAYER`, with the line of that player
unfoldable pub line_reply : PlayerLine → List ℕ
line_reply line =
    codes "player " ++ decimal line.player ++ codes " uploads " ++ decimal line.uploads
    ++ codes " last " ++ last_name line.last
    ++ codes " bucket " ++ decimal line.bucket ++ codes " points " ++ decimal line.points ++ codes "\n"

-- of a player who is not listed, or has no line
abbrev pub unknown_player : List ℕ
unknown_player = codes "refused UnknownPlayer\n"

-- of an upload with another token than the player's
abbrev pub wrong_token : List ℕ
wrong_token = codes "refused WrongToken\n"

-- of an upload that waits for the next tick
abbrev pub queued : List ℕ
queued = codes "queued\n"

-- of an upload that found the queue full
abbrev pub full : List ℕ
full = codes "full\n"

-- of what is no request
abbrev pub bad : List ℕ
bad = codes "bad\n"

-- of `QUIT`
abbrev pub bye : List ℕ
bye = codes "bye\n"
