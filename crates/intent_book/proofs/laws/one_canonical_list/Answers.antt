use Rattle.intent_book.proofs.Canonical.{one_canonical}
use Rattle.intent_book.proofs.laws.one_canonical_list.Goals as goal

pub returns : goal.returns
returns c = one_canonical
