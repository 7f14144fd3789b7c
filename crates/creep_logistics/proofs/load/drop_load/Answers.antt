use Rattle.std.proofs.Common.{ℕ, ◌-◌, ◌==◌, sym, ap, subst, ◌∙◌}
use Rattle.room_table.specs.Tables.{Table, with_object}
use Rattle.room_rules.specs.Calls.{IsReady}
use Rattle.room_rules.proofs.Calls.{keeps_after, keeps_itself, ready_set}
use Rattle.world_rules.specs.RoomParts.{table_part}
use Rattle.world_rules.specs.Drops.{fallen}
use Rattle.world_rules.proofs.TableParts.{found_on_tile}
use Rattle.creep_logistics.proofs.Loads.{dropped_by_creep, dropped_by_none, dropped_by_other}
use Rattle.creep_logistics.proofs.Standing.{stands}
use Rattle.creep_logistics.proofs.load.drop_load.Goals as goal

pub returns-in_default-clause-rule : goal.returns-in_default-clause-rule
returns-in_default-clause-rule c =
    λ grounds. dropped_by_none grounds c.args.room.now c.args.intent.now (sym c.get.ensures ∙ sym c.copied.ensures ∙ c.in_default.is)

pub returns-then-not-takes_effect-clause-rule : goal.returns-then-not-takes_effect-clause-rule
returns-then-not-takes_effect-clause-rule c =
    let found = sym c.get.ensures ∙ sym c.copied.ensures ∙ c.in-Some.is in
    λ grounds. dropped_by_other grounds c.args.room.now c.args.intent.now c.in-Some.creep found (sym (c.takes_effect.ensures grounds) ∙ c.if-not-takes_effect.true)

pub set-requires-clause-tile : goal.set-requires-clause-tile
set-requires-clause-tile c =
    found_on_tile (λ o. o.id == c.args.intent.now.actor) c.args.room.now.objects c.in-Some.creep (c.in-Some.creep.energy - c.wanted-amount.result) c.requires.ready.tiles (sym c.get.ensures ∙ sym c.copied.ensures ∙ c.in-Some.is)

pub set-requires-clause-there : goal.set-requires-clause-there
set-requires-clause-there c =
    (c.in-Some.creep, stands c.args.intent.now.actor c.args.room.now.objects c.in-Some.creep (sym c.get.ensures ∙ sym c.copied.ensures ∙ c.in-Some.is))

pub fall-requires-clause-column : goal.fall-requires-clause-column
fall-requires-clause-column c =
    let on = found_on_tile (λ o. o.id == c.args.intent.now.actor) c.args.room.now.objects c.in-Some.creep 0 c.requires.ready.tiles (sym c.get.ensures ∙ sym c.copied.ensures ∙ c.in-Some.is) in
    on.column

pub fall-requires-clause-row : goal.fall-requires-clause-row
fall-requires-clause-row c =
    let on = found_on_tile (λ o. o.id == c.args.intent.now.actor) c.args.room.now.objects c.in-Some.creep 0 c.requires.ready.tiles (sym c.get.ensures ∙ sym c.copied.ensures ∙ c.in-Some.is) in
    on.row

pub fall-requires-clause-ready : goal.fall-requires-clause-ready
fall-requires-clause-ready c =
    let table = c.args.room.now in
    let creep = c.in-Some.creep in
    let energy = creep.energy - c.wanted-amount.result in
    let found = sym c.get.ensures ∙ sym c.copied.ensures ∙ c.in-Some.is in
    let on = found_on_tile (λ o. o.id == c.args.intent.now.actor) table.objects creep energy c.requires.ready.tiles found in
    subst IsReady (sym c.set.ensures) (ready_set table (record creep { energy = energy }) on c.requires.ready)

pub returns-clause-rule : goal.returns-clause-rule
returns-clause-rule c =
    let table = c.args.room.now in
    let creep = c.in-Some.creep in
    let found = sym c.get.ensures ∙ sym c.copied.ensures ∙ c.in-Some.is in
    let left = c.set.ensures ∙ ap (λ (n : ℕ). record table { objects = with_object (record creep { energy = creep.energy - n }) table.objects }) c.wanted-amount.ensures in
    λ grounds. c.fall.ensures.rule grounds
    ∙ (λ i. fallen creep.x creep.y (c.wanted-amount.ensures i) (table_part grounds (left i)))
    ∙ sym (dropped_by_creep grounds table c.args.intent.now creep found (sym (c.takes_effect.ensures grounds) ∙ c.if-not-takes_effect.false))

pub returns-in_default-clause-keeps : goal.returns-in_default-clause-keeps
returns-in_default-clause-keeps c = keeps_itself c.args.room.now c.requires.ready

pub returns-then-not-takes_effect-clause-keeps : goal.returns-then-not-takes_effect-clause-keeps
returns-then-not-takes_effect-clause-keeps c = keeps_itself c.args.room.now c.requires.ready

pub returns-clause-keeps : goal.returns-clause-keeps
returns-clause-keeps c =
    let middle = c.set.ensures in
    keeps_after c.args.room.now c.set.new.self c.fall.new.room (ap (λ (t : Table). t.index) middle) (ap (λ (t : Table). t.next) middle) (ap (λ (t : Table). t.spare) middle) c.fall.ensures.keeps
