-- What a session hears and says, with the reads and offers of its pass.
use Rattle.std.specs.Prelude.{◌≡◌, ◌≢◌, ℕ, ◌+◌, ◌<◌, ◌≤◌, Bool, true, false, List, [], ◌∷◌, ◌++◌, All}
use Rattle.std.specs.Prelude.{Contains, length, codes, decimal}
use Rattle.world_hub.specs.declared.queue.Upload.{Upload as Sent}
use Rattle.world_hub.specs.declared.status.Shown.{Shown}
use Rattle.world_hub.specs.declared.summary.PlayerLine.{PlayerLine}
use Rattle.world_hub.specs.Summary.{lines_of, IsOf}
use Rattle.status_session.specs.Words.{words, HasNoFeed, IsNumber}
use Rattle.status_session.specs.Asked.{Spells, IsNoRequest}
use Rattle.status_session.specs.Replies.{status_reply, line_reply, unknown_player, wrong_token, queued}
use Rattle.status_session.specs.Replies.{full, bad, bye}
use Rattle.status_session.specs.declared.asked.Offered.{Offered}
use Rattle.status_session.specs.declared.asked.Asked.TheVariants.{Status, Upload, Quit}
use Rattle.status_session.specs.declared.session.SessionEnd.{SessionEnd}
use Rattle.status_session.specs.declared.session.SessionEnd.TheVariants.{Quit as Quits, Ended, BadRequest}
use Rattle.status_session.specs.declared.session.SessionEnd.TheVariants.{Spent}

-- These bytes are a line with its line feed, of at most 200 bytes.
pub record IsLine (line heard : List ℕ) : Type 0 where
  pub is : heard ≡ line ++ 10 ∷ []
  pub whole : HasNoFeed line
  pub short : length heard ≤ 200

-- ---- the players of the tokens, each with a number and a token

-- The digits are the number of the player of an entry.
abbrev pub IsNamed : List ℕ → ℕ × List ℕ → Type 0
IsNamed digits entry = decimal entry.0 ≡ digits

-- The entry stands in the tokens, and the digits name its player.
abbrev pub IsListed : List (ℕ × List ℕ) → List ℕ → ℕ × List ℕ → Type 0
IsListed tokens digits entry = Contains tokens entry × IsNamed digits entry

-- The digits name no player of the tokens.
abbrev pub IsStranger : List (ℕ × List ℕ) → List ℕ → Type 0
IsStranger tokens digits = All (λ entry. ¬ IsNamed digits entry) tokens

-- ---- one request

-- The bytes of a line offer an upload of as many bytes as these.
pub record Offers (offered : Offered) (heard bytes : List ℕ) : Type 0 where
  pub line : List ℕ
  pub is_line : IsLine line heard
  pub asks : Spells (words line) (Upload offered)
  pub size : length bytes ≡ offered.size

-- The bytes of a line ask for the line of the player that the digits name.
pub record AsksLine (digits heard : List ℕ) : Type 0 where
  pub line : List ℕ
  pub is_line : IsLine line heard
  pub asks : words line ≡ codes "PLAYER" ∷ digits ∷ []
  pub number : IsNumber digits

-- One request and the reply after which the session goes on. By turns: the bytes of the request, the reads
-- and the offers of the pass for it, how often the queue was found full, and the reply. The player is looked
-- for first and the token after it. A player whose token is empty has no right token, since that of a request
-- has a byte at least: every upload of his that has the form is answered by `wrong_token`.
pub data Answers (tokens : List (ℕ × List ℕ)) : List ℕ → List Shown → List Sent → ℕ → List ℕ → Type 0 where
  tells_status : (line heard : List ℕ) → IsLine line heard → Spells (words line) Status → (read : Shown)
      → Answers tokens heard (read ∷ []) [] 0 (status_reply read.summary)
  tells_player : (digits heard : List ℕ) → AsksLine digits heard
      → (entry : ℕ × List ℕ) → IsListed tokens digits entry
      → (read : Shown) (line : PlayerLine) → Contains (lines_of read.summary) line → IsOf entry.0 line
      → Answers tokens heard (read ∷ []) [] 0 (line_reply line)
  has_no_line : (digits heard : List ℕ) → AsksLine digits heard
      → (entry : ℕ × List ℕ) → IsListed tokens digits entry
      → (read : Shown) → All (λ line. ¬ IsOf entry.0 line) (lines_of read.summary)
      → Answers tokens heard (read ∷ []) [] 0 unknown_player
  is_not_listed : (digits heard : List ℕ) → AsksLine digits heard → IsStranger tokens digits
      → Answers tokens heard [] [] 0 unknown_player
  offers_for_nobody : (offered : Offered) (heard bytes : List ℕ) → Offers offered heard bytes
      → IsStranger tokens offered.player.now
      → Answers tokens (heard ++ bytes) [] [] 0 unknown_player
  offers_by_another : (offered : Offered) (heard bytes : List ℕ) → Offers offered heard bytes
      → (entry : ℕ × List ℕ) → IsListed tokens offered.player.now entry → entry.1 ≢ offered.token.now
      → Answers tokens (heard ++ bytes) [] [] 0 wrong_token
  is_queued : (offered : Offered) (heard : List ℕ) (sent : Sent) → Offers offered heard sent.bytes.items
      → (entry : ℕ × List ℕ) → IsListed tokens offered.player.now entry → entry.1 ≡ offered.token.now
      → sent.player ≡ entry.0
      → Answers tokens (heard ++ sent.bytes.items) [] (sent ∷ []) 0 queued
  finds_full : (offered : Offered) (heard bytes : List ℕ) → Offers offered heard bytes
      → (entry : ℕ × List ℕ) → IsListed tokens offered.player.now entry → entry.1 ≡ offered.token.now
      → Answers tokens (heard ++ bytes) [] [] 1 full

-- These bytes are no request. Where the input ended in them the first word is `true`.
pub data IsBad : Bool → List ℕ → Type 0 where
  is_no_request : (line heard : List ℕ) → IsLine line heard → IsNoRequest line → IsBad false heard
  is_too_long : (heard : List ℕ) → HasNoFeed heard → length heard ≡ 200 → IsBad false heard
  is_cut : (heard : List ℕ) → HasNoFeed heard → 0 < length heard → length heard < 200 → IsBad true heard
  is_cut_short : (line heard bytes : List ℕ) (offered : Offered) → IsLine line heard
      → Spells (words line) (Upload offered) → length bytes < offered.size → IsBad true (heard ++ bytes)

-- The last request of a session with its reply, or the end of the input in place of one.
pub data Lasts : List ℕ → List ℕ → SessionEnd → Type 0 where
  quits : (line heard : List ℕ) → IsLine line heard → Spells (words line) Quit → Lasts heard bye Quits
  fails : (cut : Bool) (heard : List ℕ) → IsBad cut heard → Lasts heard bad BadRequest
  ends : Lasts [] [] Ended

-- ---- a session

-- So many requests with their replies, one after the other, at most 65,536.
pub data Course (tokens : List (ℕ × List ℕ)) : ℕ → List ℕ → List Shown → List Sent → ℕ → List ℕ
    → Type 0 where
  begins : Course tokens 0 [] [] [] 0 []
  goes_on : {n : ℕ} {heard : List ℕ} {reads : List Shown} {offers : List Sent} {fulls : ℕ} {said : List ℕ}
      {next_heard : List ℕ} {next_reads : List Shown} {next_offers : List Sent} {next_fulls : ℕ}
      {next_said : List ℕ}
      → Course tokens n heard reads offers fulls said → n < 65536
      → Answers tokens next_heard next_reads next_offers next_fulls next_said
      → Course tokens (n + 1) (heard ++ next_heard) (reads ++ next_reads) (offers ++ next_offers)
      (fulls + next_fulls) (said ++ next_said)

-- The whole of a session that no fault and no want of memory ended: a course and its last request, or a
-- course of 65,536 replies.
pub data Session (tokens : List (ℕ × List ℕ)) : List ℕ → List Shown → List Sent → ℕ → List ℕ → SessionEnd
    → Type 0 where
  finishes : {n : ℕ} {heard : List ℕ} {reads : List Shown} {offers : List Sent} {fulls : ℕ} {said : List ℕ}
      {last_heard last_said : List ℕ} {end : SessionEnd}
      → Course tokens n heard reads offers fulls said → n < 65536 → Lasts last_heard last_said end
      → Session tokens (heard ++ last_heard) reads offers fulls (said ++ last_said) end
  spends : {heard : List ℕ} {reads : List Shown} {offers : List Sent} {fulls : ℕ} {said : List ℕ}
      → Course tokens 65536 heard reads offers fulls said
      → Session tokens heard reads offers fulls said Spent

-- ---- where a session is cut off

-- The hearing of a request stopped behind these bytes: they have no line feed and are fewer than a line has
-- at most, or they are the line of an upload and some of its bytes.
pub data IsPart : List ℕ → Type 0 where
  of_line : (part : List ℕ) → HasNoFeed part → length part < 200 → IsPart part
  of_upload : (line heard bytes : List ℕ) (offered : Offered) → IsLine line heard
      → Spells (words line) (Upload offered) → length bytes ≤ offered.size → IsPart (heard ++ bytes)

-- What a session was at when it was cut off: a part of a request, which has no reply, or a request that has
-- one.
pub data Step (tokens : List (ℕ × List ℕ)) : List ℕ → List Shown → List Sent → ℕ → List ℕ → Type 0 where
  stops : (part : List ℕ) → IsPart part → Step tokens part [] [] 0 []
  answers : (heard : List ℕ) (reads : List Shown) (offers : List Sent) (fulls : ℕ) (said : List ℕ)
      → Answers tokens heard reads offers fulls said → Step tokens heard reads offers fulls said
  lasts : (heard said : List ℕ) (end : SessionEnd) → Lasts heard said end → Step tokens heard [] [] 0 said
