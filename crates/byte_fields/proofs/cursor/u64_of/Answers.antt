use Rattle.std.proofs.Common.{arith, sym}
use Rattle.std.proofs.lemmas.Nat.{le_bytes_8}
use Rattle.byte_fields.proofs.cursor.u64_of.Goals as goal

pub returns-clause-bytes : goal.returns-clause-bytes
returns-clause-bytes c = sym (le_bytes_8 c.args.text.now c.read_u64.result c.requires (λ k. omega (arith, c.type_inv.text k)) (omega arith))
