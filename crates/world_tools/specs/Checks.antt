-- What a check of a module answers.
use Rattle.std.specs.Prelude.{◌≡◌, ℕ, ◌+◌, ◌⊎◌, List, [], ◌++◌, Option, codes}
use Rattle.world_io.specs.Told.{GaveAll, Gave}
use Rattle.intent_book.specs.Refusals.{refusal_name}
use Rattle.intent_book.specs.declared.refusal.Refusal.TheVariants as refusals
use Rattle.upload_stream.specs.Streams.{module_bytes_bound}
use Rattle.player_run.specs.Admission.{IsAccepted, IsRefused}
use Rattle.run_status.specs.declared.status.Status.{Status}
use Rattle.run_status.specs.declared.status.Status.TheVariants as statuses

-- ---- the answer

-- The answer that these bytes call for: they are a module that a player may have, or they are refused.
abbrev pub Checks : List ℕ → Status → Type 0
Checks bytes statuses.Done = IsAccepted bytes
Checks bytes (statuses.Refused refusal) = IsRefused bytes refusal
Checks bytes status = ⊥

-- The line that is printed for an answer, and nothing for any other status.
abbrev pub answer_line : Status → List ℕ
answer_line statuses.Done = codes "accepted\n"
answer_line (statuses.Refused refusal) = codes "refused " ++ refusal_name refusal ++ codes "\n"
answer_line status = []

-- The source was read to its end, and its bytes call for this answer; or it gave one byte more than a module
-- may have, which is too large whatever comes behind.
abbrev pub ReadsAnswer : Option (List ℕ) → Option (List ℕ) → Status → Type 0
ReadsAnswer old new status =
    ((bytes : List ℕ) × GaveAll old new bytes × Checks bytes status)
    ⊎ ((status ≡ statuses.Refused refusals.TooLarge) × Gave old new (module_bytes_bound + 1))

-- ---- how a check ends, by its status

-- With an answer: the module is taken or refused.
abbrev pub IsAnswer : Status → Type 0
IsAnswer statuses.Done = Unit {0}
IsAnswer (statuses.Refused refusal) = Unit {0}
IsAnswer status = ⊥

-- Before anything was printed.
abbrev pub IsBeforeLine : Status → Type 0
IsBeforeLine statuses.Usage = Unit {0}
IsBeforeLine statuses.ReadFault = Unit {0}
IsBeforeLine statuses.Memory = Unit {0}
IsBeforeLine status = ⊥

-- A check can end so.
abbrev pub IsOfCheck : Status → Type 0
IsOfCheck statuses.Done = Unit {0}
IsOfCheck statuses.Usage = Unit {0}
IsOfCheck statuses.ReadFault = Unit {0}
IsOfCheck statuses.WriteFault = Unit {0}
IsOfCheck statuses.Memory = Unit {0}
IsOfCheck (statuses.Refused refusal) = Unit {0}
IsOfCheck status = ⊥

-- The reading of the module can end a check so.
abbrev pub IsOfReading : Status → Type 0
IsOfReading statuses.Done = Unit {0}
IsOfReading statuses.ReadFault = Unit {0}
IsOfReading statuses.Memory = Unit {0}
IsOfReading (statuses.Refused refusal) = Unit {0}
IsOfReading status = ⊥
