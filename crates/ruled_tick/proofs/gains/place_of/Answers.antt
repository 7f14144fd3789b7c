use Rattle.std.proofs.Common.{rules}
use Rattle.std.proofs.lemmas.List.Sorted.{answers_always}
use Rattle.ruled_tick.proofs.Gaining.{searched}
use Rattle.ruled_tick.proofs.gains.place_of.Goals as goal

pub returns : goal.returns
returns c =
    let facts = c.binary_search_by_key.ensures in
    let by_key = facts.position (λ account. account.player) (answers_always _ _ _ (λ f a r g called. search rules)) in
    searched c.args.accounts.now c.requires.rising c.args.player _ facts.bound by_key
