use Rattle.byte_fields.proofs.Signed.{low_half, high_half}
use Rattle.byte_fields.proofs.leb.signed_last.Goals as goal

pub returns-then-byte-half-clause-spelled : goal.returns-then-byte-half-clause-spelled
returns-then-byte-half-clause-spelled c = low_half c.args.bits c.min.result c.args.byte c.requires.bits c.min.ensures c.if-byte-half.true

pub returns-then-byte-half-2-clause-spelled : goal.returns-then-byte-half-2-clause-spelled
returns-then-byte-half-2-clause-spelled c = high_half c.args.bits c.min.result c.args.byte c.requires.bits c.min.ensures c.requires.last c.if-byte-half-2.true
