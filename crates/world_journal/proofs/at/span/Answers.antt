use Rattle.std.proofs.Common.{◌∙◌, ◌∷◌, ◌++◌, []}
use Rattle.world_journal.proofs.Readings.{reading_end, reading_more, walked_now}
use Rattle.world_journal.proofs.at.span.Goals as goal

pub each-preserved-in-Some : goal.each-preserved-in-Some
each-preserved-in-Some g c =
    let base = c.in_ok-walk.walk.world in
    let entries = c.each.invariant.0 in
    let reading = c.each.invariant.1 in
    let told = c.in_ok-next.ensures in
    let next = reading_more reading c.next.new.self c.in_ok-next.field-0 c.in-Some.field-0 _ _ _ c.in-Some.is (told.stepped base entries (walked_now reading)) told.length told.reads.same told.reads.crash told.reads.steady in
    (entries ++ c.in-Some.field-0 ∷ [], next)

pub returns-clause-found : goal.returns-clause-found
returns-clause-found g c =
    let reading = c.each.invariant.1 in
    let base = c.in_ok-walk.walk.world in
    let entries = c.each.invariant.0 in
    let end = reading_end reading c.next.new.self c.in_ok-next.field-0 c.in_default.is (c.in_ok-next.ensures.stepped base entries (walked_now reading)) in
    (base, entries, end.course, end.journal, c.tick-first.ensures, c.tick.ensures ∙ end.last)
