use Rattle.claim_board.proofs.Steps.{apart}
use Rattle.claim_board.proofs.law.numbers_are_apart.Goals as goal

pub returns : goal.returns
returns c = apart
