use Rattle.std.proofs.Common.{◌≡◌, [], ◌∷◌, length-append, refl, true, false, arith}
use Rattle.std.proofs.lemmas.Result.{err_from_is_err_and}
use Rattle.object_store.specs.Stored.{AreRising}
use Rattle.object_store.proofs.Accounts.{all_push, rising_push}
use Rattle.world_bytes.specs.Forms.{HasAccountForm, account_bytes}
use Rattle.tick_journal.proofs.ListsAhead.{list_none, list_stops, list_longer}
use Rattle.tick_journal.proofs.AccountLists.{accounts_are_one, rising_before, account_none, account_leads}
use Rattle.tick_journal.proofs.accounts.accounts_ahead.Goals as goal

pub returns-in_err-account-clause-malformed : goal.returns-in_err-account-clause-malformed
returns-in_err-account-clause-malformed c =
    let p = err_from_is_err_and c.from_residual.result c.from_residual.ensures.1 in
    let i = c.each.invariant in
    rw (p.1, p.2) (λ is. list_none AreRising HasAccountForm account_bytes accounts_are_one c.args.count c.each.accounts.items c.args.from.now.0 c.each.from.0 (omega (arith, i.counted)) i.forms i.whole (account_none _ (c.in_err-account.ensures.malformed is)))

pub returns-then-not-is_behind-clause-malformed : goal.returns-then-not-is_behind-clause-malformed
returns-then-not-is_behind-clause-malformed c =
    let i = c.each.invariant in
    let found = account_leads _ _ _ c.in_ok-account.ensures.found in
    λ _. list_stops AreRising HasAccountForm account_bytes accounts_are_one c.args.count c.each.accounts.items c.in_ok-account.account c.args.from.now.0 c.each.from.0 c.read_account.new.from.0 (omega (arith, i.counted)) i.forms i.whole found.0 found.1
    (λ more rising. let no : false ≡ true = c.if-not-is_behind.ensures.1 (rw c.deref.ensures.value (rising_before c.each.accounts.items c.in_ok-account.account more rising)) in cc)

pub each-preserved : goal.each-preserved
each-preserved c =
    let i = c.each.invariant in
    let found = account_leads _ _ _ c.in_ok-account.ensures.found in
    record {
      counted = rw c.in_ok-push.ensures.items (omega (arith, length-append c.each.accounts.items (c.in_ok-account.account ∷ []), i.counted));
      rising = rw c.in_ok-push.ensures.items (rising_push c.each.accounts.items c.in_ok-account.account i.rising (rw c.deref.ensures.value at (c.if-not-is_behind.ensures.0 refl)));
      forms = rw c.in_ok-push.ensures.items (all_push HasAccountForm c.each.accounts.items c.in_ok-account.account i.forms found.0);
      whole = rw c.in_ok-push.ensures.items (list_longer account_bytes c.each.accounts.items c.in_ok-account.account c.args.from.now.0 c.each.from.0 c.read_account.new.from.0 i.whole found.1);
      place = omega (arith, i.place, c.in_ok-account.ensures.place);
    }
