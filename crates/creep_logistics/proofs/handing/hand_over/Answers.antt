use Rattle.std.proofs.Common.{ap, subst, sym, ◌∙◌}
use Rattle.room_table.specs.Tables.{Table, HasId}
use Rattle.room_rules.specs.Calls.{Keeps}
use Rattle.room_rules.proofs.Calls.{set_in}
use Rattle.world_rules.specs.RoomParts.{table_part}
use Rattle.world_rules.specs.Loads.{with_less, with_more}
use Rattle.creep_logistics.proofs.Handed.{keeps_handed, less_on_tile, more_on_tile, part_handed}
use Rattle.creep_logistics.proofs.Standing.{still_set}
use Rattle.creep_logistics.proofs.handing.hand_over.Goals as goal

pub set-requires-clause-tile : goal.set-requires-clause-tile
set-requires-clause-tile c = less_on_tile c.args.room.now c.args.amount c.args.giver c.args.taker c.requires.ready c.requires.giver

pub set-requires-2-clause-tile : goal.set-requires-2-clause-tile
set-requires-2-clause-tile c = more_on_tile c.args.room.now c.args.amount c.args.giver c.args.taker c.requires.ready c.requires.taker

pub set-requires-2-clause-there : goal.set-requires-2-clause-there
set-requires-2-clause-there c =
    let still = still_set c.args.taker.id (with_less c.args.amount c.args.giver) c.args.room.now.objects (c.args.taker, c.requires.taker) in
    subst (λ (table : Table). HasId c.args.taker.id table.objects) (sym c.set.ensures) still

pub returns-clause-rule : goal.returns-clause-rule
returns-clause-rule c =
    let handed = c.set-2.ensures ∙ ap (set_in (with_more c.args.amount c.args.taker)) c.set.ensures in
    λ grounds. ap (table_part grounds) handed ∙ part_handed c.args.room.now c.args.amount c.args.giver c.args.taker grounds c.requires.giver c.requires.taker

pub returns-clause-keeps : goal.returns-clause-keeps
returns-clause-keeps c =
    let handed = c.set-2.ensures ∙ ap (set_in (with_more c.args.amount c.args.taker)) c.set.ensures in
    subst (Keeps c.args.room.now) (sym handed) (keeps_handed c.args.room.now c.args.amount c.args.giver c.args.taker c.requires.ready c.requires.giver c.requires.taker)
