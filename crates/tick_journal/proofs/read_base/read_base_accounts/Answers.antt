use Rattle.std.proofs.Common.{rules, ◌≡◌, ◌≤◌, List, false, true, length, vec_len, ap, sym, subst, arith}
use Rattle.std.proofs.lemmas.Result.{err_from_is_err_and}
use Rattle.std.specs.List.{AllByRecursion}
use Rattle.object_store.specs.declared.account.Account.{Account}
use Rattle.tick_journal.proofs.BaseContents.{accounts_begin, accounts_lead, base_accounts_one}
use Rattle.tick_journal.proofs.read_base.read_base_accounts.Goals.{then-len-most_players-via-then-len-most_players, then-len-most_players-via-else-len-most_players+then-not-are_from_one}
use Rattle.tick_journal.proofs.read_base.read_base_accounts.Goals as goal

pub returns-in_err-accounts-clause-malformed : goal.returns-in_err-accounts-clause-malformed
returns-in_err-accounts-clause-malformed c =
    let p = err_from_is_err_and c.from_residual.result c.from_residual.ensures.1 in
    rw (p.1, p.2) (λ is accounts rest form e. c.in_err-accounts.ensures.malformed is accounts rest (accounts_begin accounts c.args.from.now.0 rest form.forms e))

pub returns-then-len-most_players-clause-malformed : goal.returns-then-len-most_players-clause-malformed
returns-then-len-most_players-clause-malformed c = λ _ accounts rest form e.
    let read = c.in_ok-accounts.accounts in
    let found = accounts_lead c.args.from.now.0 read.items c.read_accounts.new.from.0 c.in_ok-accounts.ensures.found in
    let same = (base_accounts_one read.items accounts c.args.from.now.0 c.read_accounts.new.from.0 rest found.0 form.forms found.1 e).0 in
    let long : vec_len read ≡ length read.items = search rules in
    let most = form.most in
    elim c.then-len-most_players.branch [
      | then-len-most_players-via-then-len-most_players w ↦ omega (arith, most, ap length same, long, c.len.ensures, c.most_players.ensures, w.if-len-most_players.true)
      | then-len-most_players-via-else-len-most_players+then-not-are_from_one w ↦
          let all : AllByRecursion (λ account. 1 ≤ account.player) read.items = subst (λ (z : List Account). AllByRecursion (λ account. 1 ≤ account.player) z) (sym same) form.from_one in
          let no : false ≡ true = w.if-not-are_from_one.ensures.1 (rw w.deref.ensures.value all) in
          cc
    ]
