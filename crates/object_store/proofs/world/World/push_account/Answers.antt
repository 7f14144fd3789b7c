use Rattle.std.proofs.Common.{◌≡◌, ◌+◌, ◌<◌, ◌^◌, List, length, sym, ap, subst, arith}
use Rattle.std.proofs.lemmas.List.{length-append}
use Rattle.object_store.specs.declared.account.Account.{Account}
use Rattle.object_store.specs.Stored.{Stored, IsLast}
use Rattle.object_store.proofs.Accounts.{rising_push}
use Rattle.object_store.proofs.world.World.push_account.Goals as goal

pub invariant_of-self-2 : goal.invariant_of-self-2
invariant_of-self-2 c =
    let same : c.self.inside.accounts.items ≡ c.args.self.now.accounts = ap (λ (s : Stored). s.accounts) c.self.view_is in
    let last : IsLast c.args.account.player c.self.inside.accounts.items = subst (IsLast c.args.account.player) (sym same) c.requires.rising in
    let more : length c.self.inside.accounts.items + 1 < 2 ^ 32 = subst (λ (xs : List Account). length xs + 1 < 2 ^ 32) (sym same) c.requires.room in
    rw c.in_ok-push.ensures.items (
      c.self.invariant.0,
      c.self.invariant.1,
      omega (arith, length-append {A = Account}),
      rising_push _ _ c.self.invariant.3 last,
    )
