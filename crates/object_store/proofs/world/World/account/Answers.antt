use Rattle.std.proofs.Common.{◌≡◌, ◌<◌, Some, List, length, get_or, sym, ap, subst, ◌∙◌}
use Rattle.std.proofs.lemmas.Bool.{both_ways, ltb-true}
use Rattle.std.proofs.lemmas.List.{get_or_default}
use Rattle.std.specs.Option.{is_some}
use Rattle.object_store.specs.declared.account.Account.{Account}
use Rattle.object_store.specs.Stored.{Stored, find_account}
use Rattle.object_store.proofs.Accounts.{player_of, rises_from_accounts}
use Rattle.room_table.proofs.Rising.{find-at, absent_there}
use Rattle.object_store.proofs.world.World.account.Goals as goal
use Rattle.object_store.proofs.world.World.account.Goals.{in_default-via-in-Some+else-account-player, in_default-via-in_default}

pub returns-in-Some : goal.returns-in-Some
returns-in-Some c =
    let player = c.args.player in
    let place = c.account_place-place.result in
    let accounts = c.self.inside.accounts.items in
    let same : accounts ≡ c.args.self.now.accounts = ap (λ (w : Stored). w.accounts) c.self.view_is in
    let found = c.in-Some.account.now in
    let within = subst (λ (xs : List Account). place < length xs) c.deref-2.ensures.value (ltb-true _ _ (sym c.in-Some.ensures.lookup.0)) in
    let read = subst (λ (xs : List Account). found ≡ get_or xs place found) c.deref-2.ensures.value c.in-Some.ensures.lookup.1 in
    let here = ap player_of (sym read) ∙ c.if-account-player.true in
    ap Some read ∙ sym (find-at player_of player accounts place found (rises_from_accounts accounts c.self.invariant.3) within here) ∙ ap (find_account player) same

pub returns-in_default : goal.returns-in_default
returns-in_default c =
    let player = c.args.player in
    let place = c.account_place-place.result in
    let accounts = c.self.inside.accounts.items in
    let same : accounts ≡ c.args.self.now.accounts = ap (λ (w : Stored). w.accounts) c.self.view_is in
    let absent = absent_there player_of player c.deref.result.now accounts place c.deref.ensures.value (rises_from_accounts accounts c.self.invariant.3) c.account_place-place.ensures.within c.account_place-place.ensures.between in
    elim c.in_default.branch [
      | in_default-via-in-Some+else-account-player w ↦
          let other = w.in-Some.account.now in
          let read = subst (λ (xs : List Account). other ≡ get_or xs place other) c.deref-2.ensures.value w.in-Some.ensures.lookup.1 in
          sym (absent (λ d within here. w.if-account-player.false (ap player_of (read ∙ get_or_default accounts place other d within) ∙ here))) ∙ ap (find_account player) same
      | in_default-via-in_default w ↦
          sym (absent (λ d within here. both_ways (is_some c.get.result) (ap is_some w.in_default.is) (c.get.ensures.lookup.2 (subst (λ (xs : List Account). place < length xs) (sym c.deref-2.ensures.value) within)))) ∙ ap (find_account player) same
    ]
