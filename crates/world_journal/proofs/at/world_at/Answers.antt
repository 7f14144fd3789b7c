use Rattle.std.proofs.Common.{◌∷◌, ◌++◌, []}
use Rattle.world_journal.proofs.Readings.{reading_end, reading_more, walked_now, world_answered, world_found_more, world_refused, world_ticks}
use Rattle.world_journal.proofs.at.world_at.Goals as goal

pub each-preserved-in_ok-found-2 : goal.each-preserved-in_ok-found-2
each-preserved-in_ok-found-2 g c =
    let base = c.in_ok-walk.walk.world in
    let entries = c.each.invariant.0 in
    let reading = c.each.invariant.1 in
    let told = c.in_ok-next.ensures in
    let stepped = told.stepped base entries (walked_now reading) in
    let next = reading_more reading c.next.new.self c.in_ok-next.field-0 c.in-Some.field-0 _ _ _ c.in-Some.is stepped told.length told.reads.same told.reads.crash told.reads.steady in
    (entries ++ c.in-Some.field-0 ∷ [], next, rw c.in_ok-found-2.ensures (world_found_more base entries c.in-Some.field-0 c.next.new.self _ next.walked c.args.tick c.each.found c.each.invariant.2))

pub returns-clause-found : goal.returns-clause-found
returns-clause-found g c =
    let base = c.in_ok-walk.walk.world in
    let entries = c.each.invariant.0 in
    let reading = c.each.invariant.1 in
    let whole = reading_end reading c.next.new.self c.in_ok-next.field-0 c.in_default.is (c.in_ok-next.ensures.stepped base entries (walked_now reading)) in
    rw c.ok_or.ensures.value (world_answered base entries c.next.new.self _ whole c.args.tick c.each.found _ c.each.invariant.2)

pub returns-clause-fault : goal.returns-clause-fault
returns-clause-fault g c =
    let base = c.in_ok-walk.walk.world in
    let entries = c.each.invariant.0 in
    let reading = c.each.invariant.1 in
    let whole = reading_end reading c.next.new.self c.in_ok-next.field-0 c.in_default.is (c.in_ok-next.ensures.stepped base entries (walked_now reading)) in
    rw c.ok_or.ensures.value (world_refused base entries c.next.new.self _ whole c.args.tick _ _ _ _ c.tick-first.ensures c.tick-last.ensures c.each.found c.each.invariant.2)

pub returns-clause-tick : goal.returns-clause-tick
returns-clause-tick g c =
    let base = c.in_ok-walk.walk.world in
    let entries = c.each.invariant.0 in
    let reading = c.each.invariant.1 in
    let whole = reading_end reading c.next.new.self c.in_ok-next.field-0 c.in_default.is (c.in_ok-next.ensures.stepped base entries (walked_now reading)) in
    rw c.ok_or.ensures.value (world_ticks base entries c.next.new.self _ whole c.args.tick c.each.walk.gate c.each.walk.len c.each.found _ reading.walked.count c.each.walk.place c.each.walk.limit c.each.invariant.2)
