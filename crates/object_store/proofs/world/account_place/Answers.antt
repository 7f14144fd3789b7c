use Rattle.std.proofs.Common.{ltb, rules, tests}
use Rattle.std.proofs.lemmas.List.Sorted.{IsPartitionPoint-from_clause, IsPartitionedBy-ltb}
use Rattle.object_store.proofs.Accounts.{player_of, rises_from_accounts}
use Rattle.room_table.proofs.Rising.{non_decreasing, place_from_tests}
use Rattle.object_store.proofs.world.account_place.Goals as goal

pub returns-clause-between : goal.returns-clause-between
returns-clause-between c =
    let accounts = c.args.accounts.now in
    let rising = non_decreasing player_of accounts (rises_from_accounts accounts c.requires) in
    place_from_tests player_of c.args.player accounts _ (IsPartitionPoint-from_clause (λ a. ltb a.player c.args.player) accounts _ c.partition_point.ensures.partitioned (IsPartitionedBy-ltb player_of accounts c.args.player rising) (λ a r q k. search (rules, tests)))
