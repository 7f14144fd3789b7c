use Rattle.std.proofs.Common.{◌≡◌, ◌∙◌, List, [], ◌∷◌, map, ap, sym, subst, refl}
use Rattle.object_store.specs.declared.account.Account.{Account}
use Rattle.object_store.specs.Stored.{Stored}
use Rattle.room_table.specs.Tables.{Table}
use Rattle.changed_rules.specs.Census.{HasLeft, IsChanged, players}
use Rattle.record_follows.specs.Follows.{account_after}
use Rattle.record_follows.proofs.Placing.{player_stays}
use Rattle.record_follows.proofs.follow.advance.Goals as goal

players_stay : (later accounts : List Account) → players (map (account_after later) accounts) ≡ players accounts
players_stay later [] = refl
players_stay later (account ∷ accounts) = ap (λ n. n ∷ players (map (account_after later) accounts)) (player_stays later account) ∙ ap (λ rest. account.player ∷ rest) (players_stay later accounts)

pub enter-requires : goal.enter-requires
enter-requires c =
    let tables = c.args.entry.now.rooms in
    let changed : IsChanged tables c.args.world.now c.put.new.world = record {
      rooms = ap (λ (w : Stored). w.rooms) c.in_ok-put.ensures;
      same = ap (λ (w : Stored). players w.accounts) c.in_ok-put.ensures ∙ players_stay c.args.entry.now.accounts c.args.world.now.accounts;
    } in
    subst (λ (ts : List Table). HasLeft ts c.put.new.world c.leave.new.self c.in_ok-kept.kept) (c.as_slice.ensures ∙ sym c.as_slice-2.ensures)
    (c.in_ok-kept.ensures.left c.put.new.world (subst (λ (ts : List Table). IsChanged ts c.args.world.now c.put.new.world) (sym c.as_slice.ensures) changed))
