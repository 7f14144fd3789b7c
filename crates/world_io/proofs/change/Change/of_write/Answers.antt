use Rattle.std.proofs.Common.{rules, ◌≡◌, drop, take}
use Rattle.world_io.proofs.Changes.{wrote_begun, wrote_done}
use Rattle.world_io.proofs.change.Change.of_write.Goals as goal

pub returns-then-end-bytes-clause-begun : goal.returns-then-end-bytes-clause-begun
returns-then-end-bytes-clause-begun c = λ calls.
    let over : c.in_ok-copy_of.field-0.items ≡ take c.args.count (drop c.args.at c.args.bytes.now) =
    search rules in
    wrote_begun c.args.at c.args.count c.args.bytes.now c.in_ok-copy_of.field-0.items calls c.if-end-bytes.true
    over

pub returns-then-end-bytes-clause-done : goal.returns-then-end-bytes-clause-done
returns-then-end-bytes-clause-done c = λ piece calls same.
    let over : c.in_ok-copy_of.field-0.items ≡ take c.args.count (drop c.args.at c.args.bytes.now) =
    search rules in
    wrote_done c.args.at c.args.count c.args.bytes.now c.in_ok-copy_of.field-0.items piece calls
    c.if-end-bytes.true over same
