-- What one turn of a session comes to: a request is heard, and answered. For private clauses.
use Rattle.std.specs.Prelude.{◌≡◌, ℕ, ◌⊎◌, ⊤, Bool, true, List, [], Option, Result, Ok, Err}
use Rattle.std.specs.Io.KnownBytes.{Consumes, Appends, IsAtEnd}
use Rattle.world_io.specs.Causes.{Rose}
use Rattle.world_io.specs.Told.{AppendsPrefix}
use Rattle.world_hub.specs.declared.hub.Pass.{Pass}
use Rattle.world_hub.specs.declared.queue.Upload.{Upload as Sent}
use Rattle.world_hub.specs.declared.status.Shown.{Shown}
use Rattle.status_session.specs.declared.session.SessionEnd.{SessionEnd}
use Rattle.status_session.specs.declared.session.SessionEnd.TheVariants.{Quit, Ended, LinkFault, BadRequest}
use Rattle.status_session.specs.declared.session.SessionEnd.TheVariants.{Spent, Memory}
use Rattle.status_session.specs.declared.answers.Stop.{Stop}
use Rattle.status_session.specs.declared.answers.Stop.TheVariants.{Fault, Memory as NoRoom}
use Rattle.status_session.specs.declared.turn.Turn.{Turn}
use Rattle.status_session.specs.declared.turn.Turn.TheVariants.{Goes, Over}
use Rattle.status_session.specs.Replies.{bad}
use Rattle.status_session.specs.Session.{Answers, Course, Lasts, IsBad, Step}
use Rattle.status_session.specs.Served.{Grew}

module _ (tokens : List (ℕ × List ℕ)) (left left_now written written_now : Option (List ℕ))
    (pass pass_now : Pass) where
  -- So many requests were answered.
  pub record Gone (n : ℕ) : Type 0 where
    pub heard : List ℕ
    pub reads : List Shown
    pub offers : List Sent
    pub fulls : ℕ
    pub said : List ℕ
    pub course : Course tokens n heard reads offers fulls said
    pub consumed : Consumes left left_now heard
    pub appended : Appends written written_now said
    pub grew : Grew pass pass_now reads offers fulls

  -- One request more was answered.
  pub record Once : Type 0 where
    pub heard : List ℕ
    pub reads : List Shown
    pub offers : List Sent
    pub fulls : ℕ
    pub said : List ℕ
    pub answers : Answers tokens heard reads offers fulls said
    pub consumed : Consumes left left_now heard
    pub appended : Appends written written_now said
    pub grew : Grew pass pass_now reads offers fulls

  -- The last request was answered, or the input ended before one.
  pub record Last (end : SessionEnd) : Type 0 where
    pub heard : List ℕ
    pub said : List ℕ
    pub lasts : Lasts heard said end
    pub consumed : Consumes left left_now heard
    pub appended : Appends written written_now said
    pub grew : Grew pass pass_now [] [] 0

  -- A bad request was answered.
  pub record Refused : Type 0 where
    pub cut : Bool
    pub heard : List ℕ
    pub is_bad : IsBad cut heard
    pub ended : cut ≡ true → IsAtEnd left_now
    pub consumed : Consumes left left_now heard
    pub appended : Appends written written_now bad
    pub grew : Grew pass pass_now [] [] 0

  -- A fault or want of memory came.
  pub record Torn : Type 0 where
    pub heard : List ℕ
    pub reads : List Shown
    pub offers : List Sent
    pub fulls : ℕ
    pub said : List ℕ
    pub step : Step tokens heard reads offers fulls said
    pub consumed : Consumes left left_now heard
    pub appended : AppendsPrefix written written_now said
    pub grew : Grew pass pass_now reads offers fulls

  -- what the last turn comes to, by the end that it makes
  abbrev pub Ends : SessionEnd → Type 0
  Ends Quit = Last Quit
  Ends Ended = Last Ended × IsAtEnd left_now
  Ends BadRequest = Refused
  Ends Spent = ⊥
  Ends LinkFault = Torn
  Ends Memory = Torn

  -- what a turn comes to
  abbrev pub Turned : Turn → Type 0
  Turned Goes = Once
  Turned (Over end) = Ends end

-- the end that a reply that was not written makes
abbrev pub stop_end : Stop → SessionEnd
stop_end Fault = LinkFault
stop_end NoRoom = Memory

-- the turn that a reply makes
abbrev pub turn_of : {T : Type 0} → Result T Stop → Turn
turn_of (Ok _) = Goes
turn_of (Err stop) = Over (stop_end stop)

-- A fault of the link ends a session only where one of its counts rose. By turns: the count of failed reads
-- before and now, and that of failed writes.
abbrev pub EndCounted : ℕ → ℕ → ℕ → ℕ → SessionEnd → Type 0
EndCounted reads reads_now writes writes_now Quit = ⊤
EndCounted reads reads_now writes writes_now Ended = ⊤
EndCounted reads reads_now writes writes_now BadRequest = ⊤
EndCounted reads reads_now writes writes_now Spent = ⊤
EndCounted reads reads_now writes writes_now LinkFault = Rose reads reads_now ⊎ Rose writes writes_now
EndCounted reads reads_now writes writes_now Memory = ⊤

-- The counts stay where the session goes on.
abbrev pub TurnCounted : ℕ → ℕ → ℕ → ℕ → Turn → Type 0
TurnCounted reads reads_now writes writes_now Goes = (reads_now ≡ reads) × (writes_now ≡ writes)
TurnCounted reads reads_now writes writes_now (Over end) = EndCounted reads reads_now writes writes_now end

-- A reply tells of this end.
abbrev pub EndsBy : SessionEnd → Type 0
EndsBy Quit = ⊤
EndsBy Ended = ⊥
EndsBy BadRequest = ⊤
EndsBy Spent = ⊥
EndsBy LinkFault = ⊥
EndsBy Memory = ⊥

-- The last reply was written, or a part of it where that failed.
abbrev pub LastSaid : Option (List ℕ) → Option (List ℕ) → List ℕ → SessionEnd → Turn → Type 0
LastSaid written written_now said end turn =
    ((turn ≡ Over end) × Appends written written_now said)
    ⊎ ((turn ≡ Over LinkFault) × AppendsPrefix written written_now said)
