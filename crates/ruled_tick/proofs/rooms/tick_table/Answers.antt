use Rattle.std.proofs.Common.{◌+◌, ◌*◌, length, ap, subst, sym, ◌∙◌}
use Rattle.exit_crossing.specs.Crossing.{most_arrivals}
use Rattle.room_table.specs.Tables.{Table, IsRising}
use Rattle.ruled_tick.specs.inner.Ticked.{HasMemory, IsTickedTable}
use Rattle.ruled_tick.proofs.Stepped.{HasMoved, aged_index, aged_rule, ready_first, ready_hatch, ready_last, most_spare, never_less, ticked_table}
use Rattle.spawn_rules.specs.Spare.{may_hatch}
use Rattle.upkeep_rules.specs.Falling.{may_leave}
use Rattle.ruled_tick.proofs.rooms.tick_table.Goals as goal

pub upkeep_first-requires : goal.upkeep_first-requires
upkeep_first-requires c =
    let grounds = c.args.ground.now in
    let start = c.args.table in
    let one = c.settle_moves.new.room in
    let two = c.take_memory.new.table in
    let memory = subst (λ n. HasMemory n one two) (ap (λ n. 2 * n) (c.from-most_left.ensures ∙ c.len.ensures)) c.in_ok-take_memory.ensures.taken in
    let has : HasMoved c.args.moves.now grounds start one two = record {
      ready = c.requires.ready;
      rule = c.settle_moves.ensures.rule;
      index = c.settle_moves.ensures.index;
      next = c.settle_moves.ensures.next;
      spare = c.settle_moves.ensures.spare;
      tallies = c.settle_moves.ensures.tallies;
      tiles = c.settle_moves.ensures.tiles;
      rising = c.stands_in_order.ensures.rising;
      memory = memory;
    } in
    record { ready = ready_first c.args.moves.now grounds start one two has }

pub hatch-requires : goal.hatch-requires
hatch-requires c =
    let grounds = c.args.ground.now in
    let start = c.args.table in
    let one = c.settle_moves.new.room in
    let two = c.take_memory.new.table in
    let memory = subst (λ n. HasMemory n one two) (ap (λ n. 2 * n) (c.from-most_left.ensures ∙ c.len.ensures)) c.in_ok-take_memory.ensures.taken in
    let has : HasMoved c.args.moves.now grounds start one two = record {
      ready = c.requires.ready;
      rule = c.settle_moves.ensures.rule;
      index = c.settle_moves.ensures.index;
      next = c.settle_moves.ensures.next;
      spare = c.settle_moves.ensures.spare;
      tallies = c.settle_moves.ensures.tallies;
      tiles = c.settle_moves.ensures.tiles;
      rising = c.stands_in_order.ensures.rising;
      memory = memory;
    } in
    let young = c.upkeep_first.new.room in
    let grown = c.take_memory-2.new.table in
    let for_hatch = subst (λ n. HasMemory n young grown) (c.from-most_hatched.ensures ∙ c.len-2.ensures) c.in_ok-take_memory-2.ensures.taken in
    record { ready = ready_hatch c.args.moves.now grounds start one two has young grown (c.upkeep_first.ensures.rule grounds) c.upkeep_first.ensures.keeps.tiles for_hatch }

pub upkeep_last-requires : goal.upkeep_last-requires
upkeep_last-requires c =
    let grounds = c.args.ground.now in
    let start = c.args.table in
    let one = c.settle_moves.new.room in
    let two = c.take_memory.new.table in
    let memory = subst (λ n. HasMemory n one two) (ap (λ n. 2 * n) (c.from-most_left.ensures ∙ c.len.ensures)) c.in_ok-take_memory.ensures.taken in
    let has : HasMoved c.args.moves.now grounds start one two = record {
      ready = c.requires.ready;
      rule = c.settle_moves.ensures.rule;
      index = c.settle_moves.ensures.index;
      next = c.settle_moves.ensures.next;
      spare = c.settle_moves.ensures.spare;
      tallies = c.settle_moves.ensures.tallies;
      tiles = c.settle_moves.ensures.tiles;
      rising = c.stands_in_order.ensures.rising;
      memory = memory;
    } in
    let young = c.upkeep_first.new.room in
    let grown = c.take_memory-2.new.table in
    let for_hatch = subst (λ n. HasMemory n young grown) (c.from-most_hatched.ensures ∙ c.len-2.ensures) c.in_ok-take_memory-2.ensures.taken in
    let three = c.age_controllers.new.room in
    let rule = aged_rule grounds two young grown c.hatch.new.room three (length young.objects) (c.upkeep_first.ensures.rule grounds) for_hatch c.hatch.ensures.rule (c.age_controllers.ensures.rule grounds) in
    let index = aged_index two young grown c.hatch.new.room three (length young.objects) (may_leave two.objects) (may_hatch grown.objects) c.upkeep_first.ensures.keeps for_hatch c.hatch.ensures.keeps c.age_controllers.ensures.keeps in
    let tiles = c.age_controllers.ensures.keeps.tiles in
    let four = c.take_memory-3.new.table in
    let more = subst (λ n. HasMemory n three four) (ap (λ n. n + most_arrivals) (c.from-most_made.ensures ∙ c.len-3.ensures)) c.in_ok-take_memory-3.ensures.taken in
    record { ready = ready_last c.args.moves.now grounds start one two has three four rule index tiles more }

pub returns : goal.returns
returns c =
    let grounds = c.args.ground.now in
    let start = c.args.table in
    let one = c.settle_moves.new.room in
    let two = c.take_memory.new.table in
    let memory = subst (λ n. HasMemory n one two) (ap (λ n. 2 * n) (c.from-most_left.ensures ∙ c.len.ensures)) c.in_ok-take_memory.ensures.taken in
    let has : HasMoved c.args.moves.now grounds start one two = record {
      ready = c.requires.ready;
      rule = c.settle_moves.ensures.rule;
      index = c.settle_moves.ensures.index;
      next = c.settle_moves.ensures.next;
      spare = c.settle_moves.ensures.spare;
      tallies = c.settle_moves.ensures.tallies;
      tiles = c.settle_moves.ensures.tiles;
      rising = c.stands_in_order.ensures.rising;
      memory = memory;
    } in
    let young = c.upkeep_first.new.room in
    let grown = c.take_memory-2.new.table in
    let for_hatch = subst (λ n. HasMemory n young grown) (c.from-most_hatched.ensures ∙ c.len-2.ensures) c.in_ok-take_memory-2.ensures.taken in
    let three = c.age_controllers.new.room in
    let rule = aged_rule grounds two young grown c.hatch.new.room three (length young.objects) (c.upkeep_first.ensures.rule grounds) for_hatch c.hatch.ensures.rule (c.age_controllers.ensures.rule grounds) in
    let index = aged_index two young grown c.hatch.new.room three (length young.objects) (may_leave two.objects) (may_hatch grown.objects) c.upkeep_first.ensures.keeps for_hatch c.hatch.ensures.keeps c.age_controllers.ensures.keeps in
    let tiles = c.age_controllers.ensures.keeps.tiles in
    let four = c.take_memory-3.new.table in
    let more = subst (λ n. HasMemory n three four) (ap (λ n. n + most_arrivals) (c.from-most_made.ensures ∙ c.len-3.ensures)) c.in_ok-take_memory-3.ensures.taken in
    let last = c.upkeep_last.new.room in
    let rising = subst (λ (t : Table). IsRising t.objects) c.clear_sums.ensures c.stands_in_order-4.ensures.rising in
    let most = most_spare c.args.moves.now grounds start one two young grown c.hatch.new.room three four last has (c.upkeep_first.ensures.rule grounds) c.upkeep_first.ensures.keeps.tiles for_hatch
    c.upkeep_first.ensures.keeps c.stands_in_order-2.ensures.rising c.hatch.ensures.keeps c.age_controllers.ensures.keeps rule index tiles c.stands_in_order-3.ensures.rising more c.upkeep_last.ensures.keeps in
    let later = never_less c.args.moves.now grounds start one two young grown c.hatch.new.room three four last has (c.upkeep_first.ensures.rule grounds) c.upkeep_first.ensures.keeps.tiles for_hatch
    c.upkeep_first.ensures.keeps c.stands_in_order-2.ensures.rising c.hatch.ensures.keeps c.age_controllers.ensures.keeps rule index tiles c.stands_in_order-3.ensures.rising more c.upkeep_last.ensures.keeps in
    subst (IsTickedTable c.args.moves.now grounds start) (sym c.clear_sums.ensures)
    (ticked_table c.args.moves.now grounds start last one two three four has rule index tiles more c.upkeep_last.ensures.rule c.upkeep_last.ensures.keeps rising later most)
