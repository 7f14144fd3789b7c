use Rattle.std.proofs.Common.{◌∙◌, ℕ, List, ◌++◌, Option, subst, sym}
use Rattle.std.specs.Prelude.{IfSome}
use Rattle.world_journal.specs.Journals.{IsJournal}
use Rattle.world_journal.specs.Walking.{HasWalked}
use Rattle.world_replay.proofs.Replays.{not_replayed, stops_still}
use Rattle.world_replay.proofs.replay.replayed.Goals as goal

pub returns-in_ok-read_rest-in-Unruled-clause-fault : goal.returns-in_ok-read_rest-in-Unruled-clause-fault
returns-in_ok-read_rest-in-Unruled-clause-fault g c =
    let base = c.untested.result.world in
    let come = rw c.in-Unruled.is at c.in_ok-last.ensures.come in
    let same = c.in_ok-last.ensures.reads.same in
    let walked = subst (λ (seen : Option (List ℕ)). HasWalked base come.0 c.in-Unruled.rest seen) (sym same) come.1.0 in
    let read = c.in_ok-read_rest-in-Unruled.ensures.read base come.0 walked in
    let journal = subst (λ (seen : Option (List ℕ)). IfSome seen (IsJournal base (come.0 ++ read.0))) (same ∙ c.in_ok-walk.ensures.reads.same) read.2 in
    not_replayed _ _ _ base (come.0 ++ read.0) read.1 journal c.in-Unruled.status (stops_still base come.0 read.0 c.in-Unruled.status come.1.2)
