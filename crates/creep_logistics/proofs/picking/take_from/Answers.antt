use Rattle.std.proofs.Common.{◌==◌, ◌-◌, ap, subst, sym, ◌∙◌}
use Rattle.room_table.specs.Tables.{Table, HasId, removed}
use Rattle.room_rules.specs.Calls.{Keeps, KeepsTallies}
use Rattle.room_rules.proofs.Calls.{keeps_itself, ready_without, tallies_removed}
use Rattle.world_rules.specs.RoomParts.{table_part}
use Rattle.world_rules.specs.Loads.{with_less}
use Rattle.world_rules.proofs.TableParts.{found_on_tile}
use Rattle.creep_logistics.proofs.Standing.{keeps_set, still_set, still_without}
use Rattle.creep_logistics.proofs.Taken.{taken_less, taken_whole}
use Rattle.creep_logistics.proofs.picking.take_from.Goals as goal

pub set-requires-clause-tile : goal.set-requires-clause-tile
set-requires-clause-tile c =
    found_on_tile (λ o. o.id == c.args.pile.id) c.args.room.now.objects c.args.pile (c.args.pile.energy - c.args.amount) c.requires.ready.tiles c.requires.there

pub returns-then-amount-pile-clause-rule : goal.returns-then-amount-pile-clause-rule
returns-then-amount-pile-clause-rule c =
    λ grounds. ap (table_part grounds) c.remove.ensures.table ∙ taken_whole grounds c.args.room.now c.args.pile c.args.amount c.if-amount-pile.true

pub returns-then-amount-pile-clause-keeps : goal.returns-then-amount-pile-clause-keeps
returns-then-amount-pile-clause-keeps c =
    let table = c.args.room.now in
    let left = removed c.args.pile.id table in
    let keeps = keeps_itself left (ready_without table c.args.pile.id c.requires.ready) in
    subst (Keeps table) (sym c.remove.ensures.table) (record { index = keeps.index; used = keeps.used; later = keeps.later; made = keeps.made; tiles = keeps.tiles })

pub returns-then-amount-pile-clause-others : goal.returns-then-amount-pile-clause-others
returns-then-amount-pile-clause-others c = λ id other has.
    subst (λ (table : Table). HasId id table.objects) (sym c.remove.ensures.table) (still_without id c.args.pile.id c.args.room.now.objects other has)

pub returns-else-amount-pile-clause-rule : goal.returns-else-amount-pile-clause-rule
returns-else-amount-pile-clause-rule c =
    λ grounds. ap (table_part grounds) c.set.ensures ∙ taken_less grounds c.args.room.now c.args.pile c.args.amount c.if-amount-pile.false c.requires.there

pub returns-else-amount-pile-clause-keeps : goal.returns-else-amount-pile-clause-keeps
returns-else-amount-pile-clause-keeps c =
    let table = c.args.room.now in
    let on = found_on_tile (λ o. o.id == c.args.pile.id) table.objects c.args.pile (c.args.pile.energy - c.args.amount) c.requires.ready.tiles c.requires.there in
    subst (Keeps table) (sym c.set.ensures) (keeps_set table table (with_less c.args.amount c.args.pile) on (keeps_itself table c.requires.ready))

pub returns-else-amount-pile-clause-others : goal.returns-else-amount-pile-clause-others
returns-else-amount-pile-clause-others c = λ id other has.
    subst (λ (table : Table). HasId id table.objects) (sym c.set.ensures) (still_set id (with_less c.args.amount c.args.pile) c.args.room.now.objects has)

pub returns-then-amount-pile-clause-tallies : goal.returns-then-amount-pile-clause-tallies
returns-then-amount-pile-clause-tallies c = subst (KeepsTallies c.args.room.now) (sym c.remove.ensures.table) (tallies_removed c.args.room.now c.args.pile.id)
