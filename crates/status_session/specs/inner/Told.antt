-- What was told over a link. For private clauses.
use Rattle.std.specs.Prelude.{◌≡◌, ℕ, ◌⊎◌, List, [], ◌∷◌, All, Contains, Option, Result, MatchResult}
use Rattle.std.specs.Io.KnownBytes.{Appends}
use Rattle.world_io.specs.Told.{AppendsPrefix}
use Rattle.world_io.specs.Causes.{Rose}
use Rattle.world_hub.specs.declared.hub.Pass.{Pass}
use Rattle.world_hub.specs.declared.queue.Upload.{Upload as Sent}
use Rattle.world_hub.specs.declared.status.Shown.{Shown}
use Rattle.world_hub.specs.declared.summary.PlayerLine.{PlayerLine}
use Rattle.world_hub.specs.Summary.{lines_of, IsOf}
use Rattle.status_session.specs.Replies.{status_reply, line_reply, unknown_player, queued, full}
use Rattle.status_session.specs.declared.answers.Stop.{Stop}
use Rattle.status_session.specs.declared.answers.Stop.TheVariants.{Fault}
use Rattle.status_session.specs.Served.{Grew}

-- A reply was written, or a part of it where that failed.
abbrev pub SaidBy : {T E : Type 0} → Option (List ℕ) → Option (List ℕ) → List ℕ → Result T E → Type 0
SaidBy written written_now said result =
    MatchResult result (λ _. Appends written written_now said) (λ _. AppendsPrefix written written_now said)

-- A count of failures stays where a reply was written, and rose where a fault ended it.
abbrev pub Told : {T : Type 0} → ℕ → ℕ → Result T Stop → Type 0
Told before now result = MatchResult result (λ _. now ≡ before) (λ stop. stop ≡ Fault → Rose before now)

-- There was one read, and the reply to `STATUS` by it.
pub record StatusTold {T E : Type 0} (written written_now : Option (List ℕ))
    (pass pass_now : Pass) (result : Result T E) : Type 0 where
  pub shown : Shown
  pub grew : Grew pass pass_now (shown ∷ []) [] 0
  pub said : SaidBy written written_now (status_reply shown.summary) result

-- There was one read, and the reply to `PLAYER` by it.
pub record LineTold {T E : Type 0} (player : ℕ) (written written_now : Option (List ℕ))
    (pass pass_now : Pass) (result : Result T E) : Type 0 where
  pub shown : Shown
  pub grew : Grew pass pass_now (shown ∷ []) [] 0
  pub said : ((line : PlayerLine) × Contains (lines_of shown.summary) line × IsOf player line
      × SaidBy written written_now (line_reply line) result)
      ⊎ (All (λ line. ¬ IsOf player line) (lines_of shown.summary)
      × SaidBy written written_now unknown_player result)

-- There was one offer, which was queued, or came back from a full queue.
pub record UploadTold {T E : Type 0} (sent : Sent) (written written_now : Option (List ℕ))
    (pass pass_now : Pass) (result : Result T E) : Type 0 where
  pub said : (Grew pass pass_now [] (sent ∷ []) 0 × SaidBy written written_now queued result)
      ⊎ (Grew pass pass_now [] [] 1 × SaidBy written written_now full result)
