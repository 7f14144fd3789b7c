use Rattle.std.proofs.Common.{sym, ap, subst, ◌∙◌, arith}
use Rattle.std.specs.List.{AllByRecursion}
use Rattle.room_table.specs.Tables.{Table, IsOnTile}
use Rattle.world_rules.specs.RoomParts.{table_part}
use Rattle.world_rules.specs.Upkeep.{aged, filled, recovered, unloaded}
use Rattle.room_rules.specs.Calls.{IsReadyFor}
use Rattle.upkeep_rules.proofs.First.{age_budget, own_are, own_sums, ready_fewer, strike_budget, unload_budget}
use Rattle.upkeep_rules.proofs.upkeep.upkeep_first.Goals as goal

pub wear_all-requires : goal.wear_all-requires
wear_all-requires c =
    let most = strike_budget c.args.room.now in
    record { ready = ready_fewer _ _ c.args.room.now (omega (arith, most)) c.requires.ready }

pub wear_all-requires-2 : goal.wear_all-requires-2
wear_all-requires-2 c =
    let old = c.args.room.now in
    let struck = c.wear_all.new.room in
    let first = c.wear_all.ensures in
    let most = unload_budget struck in
    let one = strike_budget old in
    record {
      ready = record {
        spare = omega (arith, most, one, first.left, first.keeps.used, first.keeps.later, c.requires.ready.spare);
        serial = omega (arith, most, one, first.left, first.keeps.later, c.requires.ready.serial);
        fresh = first.ready.fresh;
        tiles = first.ready.tiles;
      };
    }

pub wear_all-requires-3 : goal.wear_all-requires-3
wear_all-requires-3 c = record { ready = subst (λ n. IsReadyFor n c.wear_all-2.new.room) (sym (age_budget c.wear_all-2.new.room)) c.wear_all-2.ensures.ready }

pub returns-clause-rule : goal.returns-clause-rule
returns-clause-rule c grounds sums are =
    let one = c.wear_all.ensures.rule grounds sums are in
    let two = c.wear_all-2.ensures.rule grounds (own_sums c.wear_all.new.room) (own_are c.wear_all.new.room) in
    let three = c.wear_all-3.ensures.rule grounds (own_sums c.wear_all-2.new.room) (own_are c.wear_all-2.new.room) in
    ap (table_part grounds) c.clear_sums.ensures
    ∙ c.fill_spawns.ensures.rule grounds
    ∙ ap filled (c.pass.ensures.rule grounds ∙ ap recovered (three ∙ ap aged (two ∙ ap unloaded one)))

pub returns-clause-keeps : goal.returns-clause-keeps
returns-clause-keeps c =
    let old = c.args.room.now in
    let one = c.wear_all.ensures in
    let two = c.wear_all-2.ensures in
    let three = c.wear_all-3.ensures in
    let most = strike_budget old in
    let loads = unload_budget c.wear_all.new.room in
    let ages = age_budget c.wear_all-2.new.room in
    let same = c.clear_sums.ensures in
    let filled_as = c.fill_spawns.ensures.table in
    let passed_as = c.pass.ensures.table in
    let next = ap (λ (t : Table). t.next) same ∙ ap (λ (t : Table). t.next) filled_as ∙ ap (λ (t : Table). t.next) passed_as in
    let spare = ap (λ (t : Table). t.spare) same ∙ ap (λ (t : Table). t.spare) filled_as ∙ ap (λ (t : Table). t.spare) passed_as in
    record {
      index = ap (λ (t : Table). t.index) same ∙ ap (λ (t : Table). t.index) filled_as ∙ ap (λ (t : Table). t.index) passed_as ∙ three.keeps.index ∙ two.keeps.index ∙ one.keeps.index;
      used = omega (arith, next, spare, one.keeps.used, two.keeps.used, three.keeps.used);
      later = omega (arith, next, one.keeps.later, two.keeps.later, three.keeps.later);
      made = omega (arith, next, most, loads, ages, one.left, two.left, three.left, one.keeps.later, two.keeps.later);
      tiles = subst (λ (t : Table). AllByRecursion IsOnTile t.objects) (sym same) c.fill_spawns.ensures.tiles;
    }
