use Rattle.std.proofs.Common.{◌≡◌, ◌∙◌, ◌-◌, ◌<◌, suc, List, length, drop, get_or, map, sym, ap, subst, arith}
use Rattle.std.proofs.Math.Seq.{drop-length}
use Rattle.std.proofs.lemmas.Option.{slice_get-get_or}
use Rattle.object_store.specs.declared.account.Account.{Account}
use Rattle.object_store.specs.Stored.{Stored, HasAccount}
use Rattle.record_follows.specs.Follows.{account_after}
use Rattle.rule_check.proofs.Minima.{all_at}
use Rattle.record_follows.proofs.Placing.{has_after, put_none, put_step}
use Rattle.record_follows.proofs.putting.put_accounts.Goals as goal

pub set_account-requires : goal.set_account-requires
set_account-requires c =
    let world = c.args.world.now in
    let accounts = c.args.accounts.now in
    let one = c.index-accounts-at.result in
    let within : c.loop-at.at - 1 < length accounts = omega arith in
    let copy : c.in_ok-copy.field-0 ≡ get_or accounts (c.loop-at.at - 1) one = c.in_ok-copy.ensures ∙ c.index-accounts-at.is in
    let here = all_at (λ (a : Account). HasAccount a.player world.accounts) accounts (c.loop-at.at - 1) (get_or accounts (c.loop-at.at - 1) one) c.requires (slice_get-get_or accounts (c.loop-at.at - 1) one within) in
    record {
      there = subst (λ (w : Stored). HasAccount c.in_ok-copy.field-0.player w.accounts) (sym c.loop-at.invariant)
          (has_after (drop c.loop-at.at accounts) world.accounts c.in_ok-copy.field-0.player (subst (λ (a : Account). HasAccount a.player world.accounts) (sym copy) here));
    }

pub loop-at-init : goal.loop-at-init
loop-at-init c =
    let world = c.args.world.now in
    sym (ap (λ (later : List Account). record world { accounts = map (account_after later) world.accounts }) (drop-length c.args.accounts.now) ∙ ap (λ (all : List Account). record world { accounts = all }) (put_none world.accounts))

pub loop-at-preserved : goal.loop-at-preserved
loop-at-preserved c =
    let next : c.loop-at.at ≡ suc (c.loop-at.at - 1) = omega arith in
    put_step c.args.world.now c.loop-at.world c.set_account.new.self c.args.accounts.now c.loop-at.at (c.loop-at.at - 1) c.index-accounts-at.result c.in_ok-copy.field-0 next (omega arith) c.loop-at.invariant c.index-accounts-at.is c.in_ok-copy.ensures c.set_account.ensures
