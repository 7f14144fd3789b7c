use Rattle.std.proofs.Common.{arith}
use Rattle.wasm_machine.proofs.instance.Instance.run.Goals as goal

pub invariant_of-self : goal.invariant_of-self
invariant_of-self g c = record { room = λ func call type known. omega (arith, c.args.self.now.room func call type known, c.run_stored.ensures.capacity) }
