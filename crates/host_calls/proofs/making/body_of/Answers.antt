use Rattle.std.proofs.Common.{◌∙◌}
use Rattle.host_calls.proofs.Parts.{no_part, part_is}
use Rattle.host_calls.proofs.making.body_of.Goals as goal

pub returns-in_err-of_number : goal.returns-in_err-of_number
returns-in_err-of_number c =
    c.from_residual.ensures
    ∙ no_part c.args.bytes.now c.loop-byte.byte-index _ c.loop-byte.body c.loop-byte-test.true c.loop-byte.invariant.read (part_is _ c.of_number.result c.of_number.ensures.some c.of_number.ensures.none ∙ c.in_err-of_number.was)
