use Rattle.std.proofs.Common.{◌∷◌, ◌++◌, []}
use Rattle.world_journal.proofs.Readings.{reading_end, reading_more, walked_now, record_answered, record_found_more, record_refused}
use Rattle.world_journal.proofs.at.tick_at.Goals as goal

pub each-preserved : goal.each-preserved
each-preserved g c =
    let base = c.in_ok-walk.walk.world in
    let entries = c.each.invariant.0 in
    let reading = c.each.invariant.1 in
    let told = c.in_ok-entry.ensures in
    let stepped = told.stepped base entries (walked_now reading) in
    let next = reading_more reading c.next.new.self c.in_ok-entry.field-0 c.in-Some.entry _ _ _ c.in-Some.is stepped told.length told.reads.same told.reads.crash told.reads.steady in
    (entries ++ c.in-Some.entry ∷ [], next, rw c.record_if-found.ensures (record_found_more base entries c.in-Some.entry c.next.new.self _ next.walked c.args.tick c.each.found c.each.invariant.2))

pub returns-clause-found : goal.returns-clause-found
returns-clause-found g c =
    let base = c.in_ok-walk.walk.world in
    let entries = c.each.invariant.0 in
    let reading = c.each.invariant.1 in
    let whole = reading_end reading c.next.new.self c.in_ok-entry.field-0 c.in_default.is (c.in_ok-entry.ensures.stepped base entries (walked_now reading)) in
    rw c.ok_or.ensures.value (record_answered base entries c.next.new.self _ whole c.args.tick c.each.found _ c.each.invariant.2)

pub returns-clause-fault : goal.returns-clause-fault
returns-clause-fault g c =
    let base = c.in_ok-walk.walk.world in
    let entries = c.each.invariant.0 in
    let reading = c.each.invariant.1 in
    let whole = reading_end reading c.next.new.self c.in_ok-entry.field-0 c.in_default.is (c.in_ok-entry.ensures.stepped base entries (walked_now reading)) in
    rw c.ok_or.ensures.value (record_refused base entries c.next.new.self _ whole c.args.tick _ _ _ _ c.tick-first.ensures c.tick-last.ensures c.each.found c.each.invariant.2)
