use Rattle.std.proofs.Common.{◌≡◌, ◌+◌, List, None, Some, option_map, take, refl, sym, ap, subst, ◌∙◌}
use Rattle.std.specs.Prelude.{option_copied}
use Rattle.std.specs.FinMap.{get}
use Rattle.player_runs.specs.declared.runs.PlayerModule.{PlayerModule}
use Rattle.hosted_tick.specs.Hosting.{modules_of}
use Rattle.hosted_tick.specs.declared.modules.HostedModule.{HostedModule}
use Rattle.hosted_tick.specs.inner.Listing.{AreListed}
use Rattle.hosted_tick.proofs.Accounts.{account_among}
use Rattle.hosted_tick.proofs.Kept.{bytes_in, get_bytes, kept_of, linked_at}
use Rattle.hosted_tick.proofs.Listed.{more_none, more_one}
use Rattle.hosted_tick.proofs.runs.players_with_modules.Goals.{in-Some+in_ok-push, in_default}
use Rattle.hosted_tick.proofs.runs.players_with_modules.Goals as goal

pub loop-account-preserved : goal.loop-account-preserved
loop-account-preserved c =
    let world = c.args.world.now in
    let kept = c.args.modules.now.entries in
    let items = c.account_list-account-items.result.now in
    let i = c.loop-account.account-index in
    let account = c.account-item.result in
    elim c.match-get.branch [
      | in-Some+in_ok-push w ↦ (
          let hosted : HostedModule = w.in-Some.module.now in
          let found : kept_of account.player kept ≡ Some hosted = sym c.get.ensures.value ∙ ap option_copied w.in-Some.is in
          let bytes : get (modules_of kept) account.player ≡ Some hosted.bytes = get_bytes account.player kept ∙ ap (option_map bytes_in) found in
          subst (λ (v : List PlayerModule). AreListed world (modules_of kept) (take (i + 1) items) v) (sym w.in_ok-push.ensures.items ∙ sym (ap (λ v. v.items) w.players-is))
          (more_one world (modules_of kept) items i account hosted.bytes _ c.loop-account.players.items c.loop-account-test.true c.account-item.is bytes (record {
            player = refl;
            found = account_among items world.accounts i account c.account_list-account-items.ensures.all c.account_list-account-items.ensures.rising c.loop-account-test.true c.account-item.is;
            accepted = linked_at account.player kept hosted c.requires.linked found;
          }) c.loop-account.invariant))
      | in_default w ↦ (
          let absent : kept_of account.player kept ≡ None = sym c.get.ensures.value ∙ ap option_copied w.in_default.is in
          subst (λ (v : List PlayerModule). AreListed world (modules_of kept) (take (i + 1) items) v) (sym (ap (λ v. v.items) w.players-is))
          (more_none world (modules_of kept) items i account c.loop-account.players.items c.loop-account-test.true c.account-item.is (get_bytes account.player kept ∙ ap (option_map bytes_in) absent) c.loop-account.invariant))
    ]
