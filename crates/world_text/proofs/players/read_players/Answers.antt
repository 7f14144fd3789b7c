use Rattle.std.proofs.Common.{List, ℕ, rules, subst, sym}
use Rattle.std.specs.List.Sorted.{IsPermutation}
use Rattle.std.proofs.lemmas.Result.{err_from_is_err_and}
use Rattle.std.proofs.lemmas.List.Sorted.{IsNonDecreasingBy-from_sort_by_key}
use Rattle.serde_json.specs.View.{view, items_view}
use Rattle.object_store.specs.declared.account.Account.{Account}
use Rattle.world_text.proofs.Parts.{players_said}
use Rattle.world_text.proofs.Turns.{players_fault}
use Rattle.world_text.proofs.players.read_players.Goals as goal

pub returns-in_err-players-clause-err : goal.returns-in_err-players-clause-err
returns-in_err-players-clause-err c =
    let p = err_from_is_err_and c.from_residual-in_err-players.result c.from_residual-in_err-players.ensures.1 in
    rw (p.1, p.2) (λ other. players_fault (view c.args.part.now) (items_view c.in_ok-values.values.now) _ c.in_ok-values.ensures.ok (c.in_err-players.ensures.err other))

pub returns-clause-ok : goal.returns-clause-ok
returns-clause-ok c =
    let said = c.in_ok-players.ensures.ok in
    let accounts = c.sort_unstable_by_key.new.self.items in
    let tokens = c.sort_unstable_by_key-2.new.self.items in (
      said.0,
      players_said (view c.args.part.now) (items_view c.in_ok-values.values.now) said.0 c.in_ok-values.ensures.ok said.1,
      record {
        accounts = record {
          moved = subst (λ (xs : List Account). IsPermutation xs accounts) (sym said.2.accounts) c.sort_unstable_by_key.ensures.permutation;
          order = IsNonDecreasingBy-from_sort_by_key (λ account. account.player) accounts c.sort_unstable_by_key.ensures.sorted (λ a r q k. search rules);
        };
        tokens = record {
          moved = subst (λ (xs : List (ℕ × List ℕ)). IsPermutation xs tokens) (sym said.2.tokens) c.sort_unstable_by_key-2.ensures.permutation;
          order = IsNonDecreasingBy-from_sort_by_key (λ token. token.0) tokens c.sort_unstable_by_key-2.ensures.sorted (λ a r q k. search rules);
        };
      },
    )
