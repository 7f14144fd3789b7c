use Rattle.std.proofs.Common.{arith}
use Rattle.upload_stream.proofs.Words.{all_bytes}
use Rattle.upload_stream.proofs.entry.upload_from.Goals as goal

pub returns-clause-bytes : goal.returns-clause-bytes
returns-clause-bytes c = all_bytes c.args.bytes.now (λ i. omega (arith, c.type_inv.bytes i))
