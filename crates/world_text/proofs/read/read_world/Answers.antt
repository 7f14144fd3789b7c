use Rattle.std.proofs.Common.{◌≡◌, ◌≤◌, length, ap, arith}
use Rattle.std.proofs.lemmas.Result.{err_from_is_err_and}
use Rattle.game_tables.specs.Limits.{most_rooms, most_players}
use Rattle.object_store.specs.Stored.{Stored}
use Rattle.world_form.proofs.OneThing.{no_fault}
use Rattle.world_text.proofs.Accepted.{rule_fault, orderly, rooms_few, accounts_few, rooms_rising, accounts_rising, built_of, lists, world_is, tokens_are, writable}
use Rattle.world_text.proofs.read.read_world.Goals as goal

pub returns-in_err-draft-clause-refused : goal.returns-in_err-draft-clause-refused
returns-in_err-draft-clause-refused c =
    let p = err_from_is_err_and c.from_residual.result c.from_residual.ensures.1 in
    rw (p.1, p.2) (λ other world form. other (no_fault c.args.bytes.now form.0 _ form.1 c.in_err-draft.ensures.fault))

pub test_rules-requires : goal.test_rules-requires
test_rules-requires c = let said = c.in_ok-draft.ensures.ok in orderly c.args.bytes.now said.0 c.in_ok-draft.draft said.1 said.2

pub returns-in_err-test_rules-clause-fault : goal.returns-in_err-test_rules-clause-fault
returns-in_err-test_rules-clause-fault c =
    let said = c.in_ok-draft.ensures.ok in
    let p = err_from_is_err_and c.from_residual-in_err-test_rules.result c.from_residual-in_err-test_rules.ensures.1 in
    rw (p.1, p.2) (rule_fault c.args.bytes.now said.0 c.in_ok-draft.draft _ said.1 said.2 c.in_err-test_rules.ensures.broken)

pub returns-in_err-test_rules-clause-refused : goal.returns-in_err-test_rules-clause-refused
returns-in_err-test_rules-clause-refused c =
    let said = c.in_ok-draft.ensures.ok in
    let p = err_from_is_err_and c.from_residual-in_err-test_rules.result c.from_residual-in_err-test_rules.ensures.1 in
    rw (p.1, p.2) (λ other world form. other (no_fault c.args.bytes.now form.0 _ form.1 (rule_fault c.args.bytes.now said.0 c.in_ok-draft.draft _ said.1 said.2 c.in_err-test_rules.ensures.broken)))

pub add_rooms-requires-clause-rising : goal.add_rooms-requires-clause-rising
add_rooms-requires-clause-rising c =
    let said = c.in_ok-draft.ensures.ok in
    rooms_rising c.in_ok-draft.draft c.in_ok-test_rules.ensures.kept (orderly c.args.bytes.now said.0 c.in_ok-draft.draft said.1 said.2)

pub add_rooms-requires-clause-room : goal.add_rooms-requires-clause-room
add_rooms-requires-clause-room c =
    let few : length c.in_ok-draft.draft.rooms.items ≤ most_rooms = rooms_few c.in_ok-draft.draft c.in_ok-test_rules.ensures.kept in
    let none : length c.empty-world.result.rooms ≡ 0 = ap (λ (world : Stored). length world.rooms) c.empty-world.ensures in
    omega arith

pub add_accounts-requires-clause-rising : goal.add_accounts-requires-clause-rising
add_accounts-requires-clause-rising c =
    let said = c.in_ok-draft.ensures.ok in
    accounts_rising c.in_ok-draft.draft c.in_ok-test_rules.ensures.kept (orderly c.args.bytes.now said.0 c.in_ok-draft.draft said.1 said.2)

pub add_accounts-requires-clause-room : goal.add_accounts-requires-clause-room
add_accounts-requires-clause-room c = let few : length c.in_ok-draft.draft.players.accounts.items ≤ most_players = accounts_few c.in_ok-draft.draft c.in_ok-test_rules.ensures.kept in omega arith

pub returns-clause-ok : goal.returns-clause-ok
returns-clause-ok c =
    let bytes = c.args.bytes.now in
    let draft = c.in_ok-draft.draft in
    let said = c.in_ok-draft.ensures.ok in
    let keeps = c.in_ok-test_rules.ensures.kept in
    let stored = c.add_accounts.new.world in
    let built = built_of draft c.empty-world.result c.add_rooms.new.world stored c.empty-world.ensures c.in_ok-add_rooms.ensures.rooms c.in_ok-add_rooms.ensures.places c.in_ok-add_rooms.ensures.tick c.in_ok-add_accounts.ensures in
    (said.0, lists bytes said.0 draft said.1 said.2 keeps, world_is bytes said.0 draft said.1 said.2 keeps stored built, rw c.of.ensures (tokens_are bytes said.0 draft said.1 said.2 keeps))

pub returns-clause-form : goal.returns-clause-form
returns-clause-form c = let whole = returns-clause-ok c in (whole.0, whole.1, whole.2)

pub returns-clause-writable : goal.returns-clause-writable
returns-clause-writable c =
    let draft = c.in_ok-draft.draft in
    let said = c.in_ok-draft.ensures.ok in
    let stored = c.add_accounts.new.world in
    let built = built_of draft c.empty-world.result c.add_rooms.new.world stored c.empty-world.ensures c.in_ok-add_rooms.ensures.rooms c.in_ok-add_rooms.ensures.places c.in_ok-add_rooms.ensures.tick c.in_ok-add_accounts.ensures in
    writable c.args.bytes.now said.0 draft said.1 said.2 c.in_ok-test_rules.ensures.kept stored built

pub returns-clause-sound : goal.returns-clause-sound
returns-clause-sound c = (returns-clause-writable c).sound
