use Rattle.std.proofs.Common.{◌<◌, ◌^◌}
use Rattle.std.specs.List.{AllByRecursion}
use Rattle.object_store.specs.declared.account.Account.{Account}
use Rattle.world_form.specs.Written.{account_data}
use Rattle.world_text.proofs.Passes.{all_next, values_next}
use Rattle.world_text.proofs.write.account_values.Goals as goal

pub loop-account-preserved : goal.loop-account-preserved
loop-account-preserved c = record {
  values =
      values_next account_data c.args.accounts.now c.loop-account.account-index c.account-item.result
      c.account-item.result c.loop-account.values.items c.push.new.self.items c.in_ok-account_value.field-0
      c.loop-account-test.true c.account-item.is c.loop-account.invariant.values
      c.in_ok-account_value.ensures.value c.in_ok-push.ensures.items;
  bytes =
      all_next (λ (account : Account). AllByRecursion (λ byte. byte < 2 ^ 8) account.memory) c.args.accounts.now
      c.loop-account.account-index c.account-item.result c.account-item.result c.loop-account-test.true
      c.account-item.is c.loop-account.invariant.bytes c.in_ok-account_value.ensures.bytes;
}
