use Rattle.std.proofs.Common.{arith, rules}
use Rattle.std.proofs.lemmas.Result.{err_from_is_err_and}
use Rattle.world_bytes.proofs.Rooms.{memory_short, memory_behind, memory_behind_short, memory_whole}
use Rattle.world_bytes.proofs.read.read_memory.Goals as goal

pub returns-in_err-length-clause-malformed : goal.returns-in_err-length-clause-malformed
returns-in_err-length-clause-malformed c =
    let p = err_from_is_err_and c.from_residual.result c.from_residual.ensures.1 in
    rw p.1 (λ _ text rest form e. memory_short text rest c.args.from.now.0 c.in_err-length.ensures.short e)

pub returns-then-length-most_memory-clause-malformed : goal.returns-then-length-most_memory-clause-malformed
returns-then-length-most_memory-clause-malformed c = λ _ text rest form e.
    let one = memory_behind text rest c.in_ok-length.length c.args.from.now.0 c.u32.new.self.0 (search rules) form c.in_ok-length.ensures.found e in
    let most = form.memory in
    omega (arith, one.0)

pub returns-in_err-part-clause-malformed : goal.returns-in_err-part-clause-malformed
returns-in_err-part-clause-malformed c =
    let p = err_from_is_err_and c.from_residual-in_err-part.result c.from_residual-in_err-part.ensures.1 in
    rw p.1 (λ _ text rest form e. memory_behind_short text rest c.in_ok-length.length c.args.from.now.0 c.u32.new.self.0 (search rules) form c.in_ok-length.ensures.found c.in_err-part.ensures.short e)

pub returns-clause-found : goal.returns-clause-found
returns-clause-found c =
    memory_whole _ _ _ _ _ _ c.in_ok-length.ensures.found c.in_ok-part.ensures.found c.in_ok-part.ensures.count c.in_ok-text_of.ensures.same (omega arith) c.in_ok-text_of.ensures.bytes
