use Rattle.std.proofs.Common.{◌≡◌, length, vec_len, take, sym, subst, ◌∙◌, rules}
use Rattle.std.proofs.lemmas.List.{map-id}
use Rattle.std.proofs.lemmas.Iterator.Adapters.{YieldsList-from_vec}
use Rattle.std.proofs.lemmas.Iterator.Consumers.{YieldsList-so_far, YieldsList-turn}
use Rattle.object_store.specs.Stored.{IsLast}
use Rattle.tick_journal.proofs.AccountLists.{comes_last}
use Rattle.tick_journal.proofs.read_base.add_accounts.Goals as goal

pub push_account-requires-clause-rising : goal.push_account-requires-clause-rising
push_account-requires-clause-rising c =
    let accounts = c.args.accounts.items in
    let done = c.loop-account.yielded in
    let long : vec_len c.args.accounts ≡ length accounts = search rules in
    let list = YieldsList-from_vec accounts c.into_iter-account-iterator.ensures.into_iter_gives.0 (c.into_iter-account-iterator.ensures.into_iter_gives.1 ∙ long) in
    let turn = YieldsList-turn list done c.loop-account.account-iterator c.loop-account.yielded_by c.next.result c.next.new.self c.in-Some.account c.in-Some.is c.next.ensures.steps in
    let so_far : done ≡ take (length done) accounts = sym (map-id done) ∙ YieldsList-so_far list done c.loop-account.account-iterator c.loop-account.yielded_by in
    rw c.loop-account.invariant (subst (IsLast c.in-Some.account.player) (sym so_far) (comes_last accounts (length done) c.in-Some.account c.requires.rising turn.0 turn.1))
