use Rattle.std.proofs.Common.{◌≡◌, ◌<◌, ◌==◌, arith}
use Rattle.std.specs.List.{count_by}
use Rattle.game_tables.specs.Limits.{most_sites}
use Rattle.std.proofs.lemmas.Result.{IfOk-weaker}
use Rattle.world_rules.specs.declared.rule.Rule.TheVariants as rules
use Rattle.world_rules.specs.Rules.{Broken}
use Rattle.rule_check.specs.inner.Checks.{IsLeast, AnyOf, owners_in}
use Rattle.rule_check.specs.Kept.{IsBlocked}
use Rattle.rule_check.proofs.Placing.{the_world}
use Rattle.rule_check.proofs.Breaks.{each_once, least_name, least_corner, least_serial, least_id, least_tile, least_shared_tile, least_owner, least_controllers, least_range, least_player, least_sites}
use Rattle.rule_check.proofs.first.least_broken.Goals as goal

pub returns-in-RoomTwice : goal.returns-in-RoomTwice
returns-in-RoomTwice c = rw c.in-RoomTwice.is (least_name c.args.rooms.now c.args.accounts.now c.first_room.result c.first_room.ensures)

pub returns-in-Corner : goal.returns-in-Corner
returns-in-Corner c = rw c.in-Corner.is (least_corner c.args.rooms.now c.args.accounts.now c.first_room-in-Corner.result c.first_room-in-Corner.ensures)

pub returns-in-Serial : goal.returns-in-Serial
returns-in-Serial c = rw c.in-Serial.is (least_serial c.args.rooms.now c.args.accounts.now c.least_object.result c.least_object.ensures)

pub returns-in_ok-ids_of-in-IdTwice : goal.returns-in_ok-ids_of-in-IdTwice
returns-in_ok-ids_of-in-IdTwice c = rw c.in-IdTwice.is (least_id c.args.rooms.now c.args.accounts.now c.least_repeated.result (rw c.in_ok-ids_of-in-IdTwice.ensures at c.least_repeated.ensures))

pub returns-in-Tile : goal.returns-in-Tile
returns-in-Tile c =
    rw c.in-Tile.is
    (least_tile c.args.rooms.now c.args.accounts.now c.least_object-in-Tile.result (each_once c.args.rooms.now c.args.accounts.now (rw c.in-Tile.is at c.requires.once (omega arith))) c.least_object-in-Tile.ensures)

pub returns-in-Shared : goal.returns-in-Shared
returns-in-Shared c =
    rw c.in-Shared.is
    (IfOk-weaker c.least_blocked.result (λ found. IsLeast (AnyOf (λ room. IsBlocked room.objects.now) c.args.rooms.now) found) (λ found. IsLeast (λ n. Broken rules.Shared n (the_world c.args.rooms.now c.args.accounts.now)) found)
    (λ found. least_shared_tile c.args.rooms.now c.args.accounts.now found c.requires.ordered (each_once c.args.rooms.now c.args.accounts.now (rw c.in-Shared.is at c.requires.once (omega arith)))) c.least_blocked.ensures)

pub returns-in-Owner : goal.returns-in-Owner
returns-in-Owner c =
    rw c.in-Owner.is
    (least_owner c.args.rooms.now c.args.accounts.now c.least_object-in-Owner.result (each_once c.args.rooms.now c.args.accounts.now (rw c.in-Owner.is at c.requires.once (omega arith))) c.least_object-in-Owner.ensures)

pub returns-in-Controllers : goal.returns-in-Controllers
returns-in-Controllers c =
    rw c.in-Controllers.is
    (least_controllers c.args.rooms.now c.args.accounts.now c.first_room-in-Controllers.result c.requires.ordered (each_once c.args.rooms.now c.args.accounts.now (rw c.in-Controllers.is at c.requires.once (omega arith)))
    c.first_room-in-Controllers.ensures)

pub returns-in-Range : goal.returns-in-Range
returns-in-Range c =
    rw c.in-Range.is
    (least_range c.args.rooms.now c.args.accounts.now c.least_object-in-Range.result (each_once c.args.rooms.now c.args.accounts.now (rw c.in-Range.is at c.requires.once (omega arith))) c.least_object-in-Range.ensures)

pub returns-in_ok-players_of-in-PlayerTwice : goal.returns-in_ok-players_of-in-PlayerTwice
returns-in_ok-players_of-in-PlayerTwice c =
    rw c.in-PlayerTwice.is (least_player c.args.rooms.now c.args.accounts.now c.least_repeated-in-PlayerTwice.result (rw c.in_ok-players_of-in-PlayerTwice.ensures at c.least_repeated-in-PlayerTwice.ensures))

pub returns-in-Sites : goal.returns-in-Sites
returns-in-Sites c =
    rw c.in-Sites.is
    (IfOk-weaker c.least_crowded.result (λ found. IsLeast (AnyOf (λ account n. (account.player ≡ n) × (most_sites < count_by (λ owner. owner == n) (owners_in c.args.rooms.now))) c.args.accounts.now) found)
    (λ found. IsLeast (λ n. Broken rules.Sites n (the_world c.args.rooms.now c.args.accounts.now)) found) (λ found. least_sites c.args.rooms.now c.args.accounts.now found) c.least_crowded.ensures)
