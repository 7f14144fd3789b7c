use Rattle.std.proofs.Common.{ap, ◌∙◌, arith}
use Rattle.game_tables.specs.Kinds.{source_capacity}
use Rattle.room_table.specs.Controllers.{is_taken}
use Rattle.room_table.specs.Tables.{Table}
use Rattle.world_rules.specs.Upkeep.{buildings_decayed, decayed}
use Rattle.upkeep_rules.specs.Falling.{may_fall}
use Rattle.upkeep_rules.proofs.Renewed.{may_fall_renewed, ready_renewed, renewed_part}
use Rattle.upkeep_rules.proofs.upkeep.upkeep_last.Goals as goal

pub decay_buildings-requires : goal.decay_buildings-requires
decay_buildings-requires c = record {
  ready = ready_renewed c.source_capacity-capacity.result c.args.room.now c.pass.new.room c.pass.ensures.table c.pass.ensures.tiles c.requires.ready;
}

pub returns-clause-rule : goal.returns-clause-rule
returns-clause-rule c grounds sums =
    let capacity = c.source_capacity-capacity.ensures ∙ ap source_capacity (c.is_taken.ensures ∙ ap is_taken c.controller.ensures) in
    c.pass-2.ensures.rule grounds
    ∙ ap decayed (c.decay_buildings.ensures.rule grounds)
    ∙ ap (λ part. decayed (buildings_decayed part)) (c.pass.ensures.rule grounds ∙ renewed_part c.source_capacity-capacity.result grounds c.args.room.now c.stands_in_order.ensures.rising capacity)

pub returns-clause-keeps : goal.returns-clause-keeps
returns-clause-keeps c =
    let keeps = c.decay_buildings.ensures.keeps in
    let fall = ap (λ (t : Table). may_fall t.objects) c.pass.ensures.table ∙ may_fall_renewed c.source_capacity-capacity.result c.args.room.now.objects in
    let first = c.pass.ensures.table in
    let last = c.pass-2.ensures.table in
    record {
      index = ap (λ (t : Table). t.index) last ∙ keeps.index ∙ ap (λ (t : Table). t.index) first;
      used = omega (arith, ap (λ (t : Table). t.next) last, ap (λ (t : Table). t.spare) last, keeps.used, ap (λ (t : Table). t.next) first, ap (λ (t : Table). t.spare) first);
      later = omega (arith, ap (λ (t : Table). t.next) last, keeps.later, ap (λ (t : Table). t.next) first);
      made = omega (arith, ap (λ (t : Table). t.next) last, keeps.made, fall, ap (λ (t : Table). t.next) first);
      tiles = c.pass-2.ensures.tiles;
    }
