use Rattle.std.proofs.Common.{◌≡◌, ◌<◌, ◌^◌, map, take}
use Rattle.std.specs.List.{AllByRecursion}
use Rattle.serde_json.specs.View.{view}
use Rattle.world_form.specs.Written.{account_data}
use Rattle.world_text.proofs.write.account_values.Given as goal

abbrev pub invariant-loop-account : goal.invariant-loop-account
invariant-loop-account l = record {
  values : map view l.values.items ≡ map account_data (take l.account-index l.accounts);
  bytes : AllByRecursion (λ account. AllByRecursion (λ byte. byte < 2 ^ 8) account.memory) (take l.account-index l.accounts);
}
