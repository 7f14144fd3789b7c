use Rattle.world_journal.proofs.Readings.{reading_end, walked_now}
use Rattle.world_journal.proofs.at.records.Goals as goal

pub returns-clause-found : goal.returns-clause-found
returns-clause-found g c =
    let reading = c.each.invariant in
    let end = reading_end reading c.next.new.self c.in_ok-entry.field-0 c.in_default.is (c.in_ok-entry.ensures.stepped c.in_ok-walk.walk.world c.each.entries.items (walked_now reading)) in
    rw (c.in_ok-base.ensures, c.from_vec.ensures) (end.course, end.journal)
