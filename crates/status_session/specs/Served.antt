-- What serving one link comes to.
use Rattle.std.specs.Prelude.{◌≡◌, ℕ, ◌<◌, ◌+◌, ◌-◌, ◌^◌, min, Bool, true, List, ◌++◌, Option, take}
use Rattle.std.specs.Io.KnownBytes.{Consumes, Appends, IsAtEnd}
use Rattle.world_hub.specs.declared.hub.Pass.{Pass}
use Rattle.world_hub.specs.declared.queue.Upload.{Upload as Sent}
use Rattle.world_hub.specs.declared.status.Shown.{Shown}
use Rattle.world_hub.specs.Hub.{hand, sight}
use Rattle.status_session.specs.Replies.{bad}
use Rattle.status_session.specs.declared.session.SessionEnd.{SessionEnd}
use Rattle.status_session.specs.declared.session.SessionEnd.TheVariants.{Quit, Ended, LinkFault, BadRequest}
use Rattle.status_session.specs.declared.session.SessionEnd.TheVariants.{Spent, Memory}
use Rattle.status_session.specs.Session.{Course, Session, IsBad, Step}

-- What a pass did: its reads and its offers grew by these, and its count of full answers rose by this number,
-- as far as the count goes.
pub record Grew (before now : Pass) (reads : List Shown) (offers : List Sent) (fulls : ℕ) : Type 0 where
  pub reads_grew : (sight now).reads ≡ (sight before).reads ++ reads
  pub offers_grew : (hand now).offers ≡ (hand before).offers ++ offers
  pub fulls_rose : (hand now).fulls ≡ min ((hand before).fulls + fulls) (2 ^ 64 - 1)

-- By turns: the tokens, what was left to read and what is, what was written and what is, and the pass before
-- and now.
module _ (tokens : List (ℕ × List ℕ)) (left left_now written written_now : Option (List ℕ))
    (pass pass_now : Pass) where
  -- A session with this end: what was read, written, read of the hub and offered is just the session's.
  pub record Whole (end : SessionEnd) : Type 0 where
    pub heard : List ℕ
    pub reads : List Shown
    pub offers : List Sent
    pub fulls : ℕ
    pub said : List ℕ
    pub session : Session tokens heard reads offers fulls said end
    pub consumed : Consumes left left_now heard
    pub appended : Appends written written_now said
    pub grew : Grew pass pass_now reads offers fulls

  -- A session that a fault or want of memory ended. Behind a course of which each reply was written whole
  -- stands a part of a request, or one request more of whose reply the first bytes were written, that many.
  pub record Broken : Type 0 where
    pub n : ℕ
    pub heard : List ℕ
    pub reads : List Shown
    pub offers : List Sent
    pub fulls : ℕ
    pub said : List ℕ
    pub last_heard : List ℕ
    pub last_reads : List Shown
    pub last_offers : List Sent
    pub last_fulls : ℕ
    pub last_said : List ℕ
    pub that_many : ℕ
    pub course : Course tokens n heard reads offers fulls said
    pub fewer : n < 65536
    pub step : Step tokens last_heard last_reads last_offers last_fulls last_said
    pub consumed : Consumes left left_now (heard ++ last_heard)
    pub appended : Appends written written_now (said ++ take that_many last_said)
    pub grew : Grew pass pass_now (reads ++ last_reads) (offers ++ last_offers) (fulls + last_fulls)

  -- A session that ended at this bad request. Where the input ended in it, nothing of the input is left.
  pub record BadAtLast : Type 0 where
    pub n : ℕ
    pub heard : List ℕ
    pub reads : List Shown
    pub offers : List Sent
    pub fulls : ℕ
    pub said : List ℕ
    pub last_heard : List ℕ
    pub cut : Bool
    pub course : Course tokens n heard reads offers fulls said
    pub fewer : n < 65536
    pub is_bad : IsBad cut last_heard
    pub ended : cut ≡ true → IsAtEnd left_now
    pub consumed : Consumes left left_now (heard ++ last_heard)
    pub appended : Appends written written_now (said ++ bad)
    pub grew : Grew pass pass_now reads offers fulls

  -- What a link was served comes to, by its end. `Ended` leaves nothing of the input.
  abbrev pub Served : SessionEnd → Type 0
  Served Quit = Whole Quit
  Served Ended = Whole Ended × IsAtEnd left_now
  Served BadRequest = Whole BadRequest × BadAtLast
  Served Spent = Whole Spent
  Served LinkFault = Broken
  Served Memory = Broken
