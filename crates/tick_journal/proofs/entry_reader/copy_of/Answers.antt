use Rattle.std.proofs.Common.{arith}
use Rattle.world_bytes.proofs.Rooms.{all_bytes}
use Rattle.tick_journal.proofs.entry_reader.copy_of.Goals as goal

pub returns-clause-bytes : goal.returns-clause-bytes
returns-clause-bytes c = all_bytes c.args.part.now (λ i. omega (arith, c.type_inv.part i))
