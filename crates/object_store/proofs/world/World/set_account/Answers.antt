use Rattle.std.proofs.Common.{length, sym, ap, subst, refl, arith, length-set}
use Rattle.object_store.specs.declared.account.Account.{Account}
use Rattle.object_store.specs.Stored.{Stored, HasAccount}
use Rattle.object_store.proofs.Accounts.{player_of, rises_from_accounts, accounts_from_rises}
use Rattle.room_table.proofs.Rising.{Rises, replaced_there, rises-replaced}
use Rattle.object_store.proofs.world.World.set_account.Goals as goal

pub index_mut-requires : goal.index_mut-requires
index_mut-requires c =
    let accounts = c.self.inside.accounts.items in
    let there = subst (HasAccount c.args.account.player) (sym (ap (λ (w : Stored). w.accounts) c.self.view_is)) c.requires.there in
    let done = replaced_there player_of c.args.account c.deref.result.now accounts c.account_place-place.result c.deref.ensures.value (rises_from_accounts accounts c.self.invariant.3) c.account_place-place.ensures.within c.account_place-place.ensures.between there.0 there.1 in
    omega (arith, done.0, c.deref.ensures.len, ap length c.deref.ensures.value)

pub invariant_of-self : goal.invariant_of-self
invariant_of-self c =
    let accounts = c.self.inside.accounts.items in
    let rises = rises_from_accounts accounts c.self.invariant.3 in
    let there = subst (HasAccount c.args.account.player) (sym (ap (λ (w : Stored). w.accounts) c.self.view_is)) c.requires.there in
    let done = replaced_there player_of c.args.account c.deref.result.now accounts c.account_place-place.result c.deref.ensures.value rises c.account_place-place.ensures.within c.account_place-place.ensures.between there.0 there.1 in (
      c.self.invariant.0,
      c.self.invariant.1,
      omega (arith, length-set {A = Account}, c.self.invariant.2),
      accounts_from_rises _ (subst (Rises player_of) (sym done.1) (rises-replaced player_of c.args.account accounts rises)),
    )

pub returns : goal.returns
returns c =
    let accounts = c.self.inside.accounts.items in
    let there = subst (HasAccount c.args.account.player) (sym (ap (λ (w : Stored). w.accounts) c.self.view_is)) c.requires.there in
    let done = replaced_there player_of c.args.account c.deref.result.now accounts c.account_place-place.result c.deref.ensures.value (rises_from_accounts accounts c.self.invariant.3) c.account_place-place.ensures.within c.account_place-place.ensures.between there.0 there.1 in
    rw (done.1, ← c.self.view_is) refl
