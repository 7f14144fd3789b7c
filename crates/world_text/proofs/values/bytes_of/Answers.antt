use Rattle.world_text.proofs.Passes.{not_high, not_low}
use Rattle.world_text.proofs.values.bytes_of.Goals as goal

pub returns-in_default : goal.returns-in_default
returns-in_default c = λ said e. not_high c.args.digits.now said c.loop-at.at c.loop-at-test.true c.in_default.ensures e

pub returns-in_default-number_of_digit : goal.returns-in_default-number_of_digit
returns-in_default-number_of_digit c = λ said e. not_low c.args.digits.now said c.loop-at.at c.loop-at-test.true c.in_default-number_of_digit.ensures e
