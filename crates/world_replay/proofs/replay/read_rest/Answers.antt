use Rattle.std.proofs.Common.{◌∙◌, List, [], ◌∷◌, ◌++◌, append_assoc, subst}
use Rattle.tick_journal.specs.declared.tick_record.TickRecord.{TickRecord}
use Rattle.world_journal.specs.Walking.{HasWalked}
use Rattle.world_journal.specs.inner.Found.{IsReading}
use Rattle.world_journal.proofs.Readings.{reading_end, reading_more, walked_now}
use Rattle.world_replay.proofs.replay.read_rest.Goals as goal

pub each-preserved-in-Some : goal.each-preserved-in-Some
each-preserved-in-Some g c =
    let now = c.each.invariant in
    let told = c.in_ok-next.ensures in record {
      walked = λ base entries has.
          let come = now.walked base entries has in
          let reading : IsReading base (entries ++ come.0) c.each.walk _ _ _ _ _ _ = record { walked = come.1; length = now.length; same = now.same; crash = now.crash; steady = now.steady } in
          let next = reading_more reading c.next.new.self c.in_ok-next.field-0 c.in-Some.field-0 _ _ _ c.in-Some.is (told.stepped base (entries ++ come.0) (walked_now reading)) told.length told.reads.same told.reads.crash told.reads.steady in
          (come.0 ++ c.in-Some.field-0 ∷ [], subst (λ (all : List TickRecord). HasWalked base all c.next.new.self (g.D.Disk.seen c.args.disk.now)) (append_assoc entries come.0 (c.in-Some.field-0 ∷ [])) next.walked);
      counted = told.counted;
      length = rw now.same at told.length;
      same = told.reads.same ∙ now.same;
      crash = told.reads.crash ∙ now.crash;
      steady = told.reads.steady ∙ now.steady;
    }

pub returns-clause-read : goal.returns-clause-read
returns-clause-read g c = λ base entries has.
    let now = c.each.invariant in
    let come = now.walked base entries has in
    let reading : IsReading base (entries ++ come.0) c.each.walk _ _ _ _ _ _ = record { walked = come.1; length = now.length; same = now.same; crash = now.crash; steady = now.steady } in
    let whole = reading_end reading c.next.new.self c.in_ok-next.field-0 c.in_default.is (c.in_ok-next.ensures.stepped base (entries ++ come.0) (walked_now reading)) in
    (come.0, whole.course, whole.journal)
