use Rattle.std.proofs.Common.{◌≡◌, ◌≤◌, List, [], length, sym, ap, subst, ◌∙◌}
use Rattle.std.specs.List.{AllByRecursion, filter}
use Rattle.intent_book.specs.declared.intent.Intent.{Intent}
use Rattle.room_table.specs.Tables.{Table, IsRising}
use Rattle.room_rules.specs.Calls.{AreActorsOnce}
use Rattle.ruled_tick.specs.inner.Ticked.{IsTickedTable}
use Rattle.world_rules.specs.RoomParts.{RoomPart, table_part}
use Rattle.room_step.specs.inner.Course.{HasCome, HasGained, intents_in, is_move, points_entered}
use Rattle.room_step.proofs.Coming.{all_entries, come_first, ready_to_tick}
use Rattle.room_step.proofs.Stepped.{keeps_then, memory_left, moves_once, players_in_turn, stepped}
use Rattle.room_step.proofs.step.step_entries.Goals as goal

pub enter_all-gained-requires-clause-start : goal.enter_all-gained-requires-clause-start
enter_all-gained-requires-clause-start c =
    let old : Table = c.args.table in
    let rising : IsRising old.objects = c.stands_in_order.ensures.rising in
    subst (λ (t : Table). HasCome c.args.ground.now t [] (length c.args.entries.now) t) (sym c.in_ok-widen.ensures.widened)
    (come_first c.args.ground.now old (length c.args.entries.now) c.requires.rules rising c.requires.serials)

pub enter_all-gained-requires-clause-players : goal.enter_all-gained-requires-clause-players
enter_all-gained-requires-clause-players c =
    let part : RoomPart = table_part c.args.ground.now c.args.table in
    let kept = c.requires.kept in
    all_entries (λ entry. 1 ≤ entry.player) c.args.entries.now (subst (AllByRecursion (λ (entry : Intent). 1 ≤ entry.player)) (sym kept.1) (players_in_turn part kept.0))

pub tick_table-requires-clause-ready : goal.tick_table-requires-clause-ready
tick_table-requires-clause-ready c =
    ready_to_tick c.args.ground.now c.widen.new.table (intents_in c.args.entries.now) 0 c.enter_all-gained.new.table c.enter_all-gained.ensures.come

pub tick_table-requires-clause-once : goal.tick_table-requires-clause-once
tick_table-requires-clause-once c =
    let part : RoomPart = table_part c.args.ground.now c.args.table in
    let kept = c.requires.kept in
    subst AreActorsOnce (sym (c.as_slice.ensures ∙ c.in_ok-moves.ensures)) (moves_once part kept.0 (intents_in c.args.entries.now) kept.1)

pub returns-clause-stepped : goal.returns-clause-stepped
returns-clause-stepped c = λ list kept.
    let grounds = c.args.ground.now in
    let old : Table = c.args.table in
    let entries : List Intent = intents_in c.args.entries.now in
    let start : Table = c.widen.new.table in
    let same : table_part grounds start ≡ table_part grounds old = ap (table_part grounds) c.in_ok-widen.ensures.widened in
    let ticked : IsTickedTable (filter is_move entries) grounds c.enter_all-gained.new.table c.in_ok-table.table =
    subst (λ (moves : List Intent). IsTickedTable moves grounds c.enter_all-gained.new.table c.in_ok-table.table) (c.as_slice.ensures ∙ c.in_ok-moves.ensures) c.in_ok-table.ensures in
    let gained = subst (λ (part : RoomPart). HasGained (points_entered part entries) c.enter_all-gained.result.player c.enter_all-gained.result.points) same c.enter_all-gained.ensures.gained in
    stepped grounds old list entries kept c.requires.rules start c.enter_all-gained.new.table c.in_ok-table.table same c.enter_all-gained.ensures.come ticked
    (record { room = c.crossers.new.room; crossers = c.in_ok-list.list.items; player = c.enter_all-gained.result.player; points = c.enter_all-gained.result.points })
    c.in_ok-list.ensures.rested c.in_ok-list.ensures.list gained

pub returns-clause-rules : goal.returns-clause-rules
returns-clause-rules c =
    let grounds = c.args.ground.now in
    let old : Table = c.args.table in
    let entries : List Intent = intents_in c.args.entries.now in
    let start : Table = c.widen.new.table in
    let same : table_part grounds start ≡ table_part grounds old = ap (table_part grounds) c.in_ok-widen.ensures.widened in
    let ticked : IsTickedTable (filter is_move entries) grounds c.enter_all-gained.new.table c.in_ok-table.table =
    subst (λ (moves : List Intent). IsTickedTable moves grounds c.enter_all-gained.new.table c.in_ok-table.table) (c.as_slice.ensures ∙ c.in_ok-moves.ensures) c.in_ok-table.ensures in
    let kept = c.requires.kept in
    keeps_then grounds old kept.0 entries kept.1 c.requires.rules start c.enter_all-gained.new.table c.in_ok-table.table same c.enter_all-gained.ensures.come ticked c.crossers.new.room c.in_ok-list.ensures.rested

pub returns-clause-memory : goal.returns-clause-memory
returns-clause-memory c =
    let grounds = c.args.ground.now in
    let entries : List Intent = intents_in c.args.entries.now in
    memory_left grounds c.args.table c.widen.new.table c.enter_all-gained.new.table c.in_ok-table.table c.crossers.new.room entries c.as_slice.result.now (length c.args.entries.now)
    c.in_ok-widen.ensures.widened c.enter_all-gained.ensures.come c.in_ok-table.ensures c.in_ok-list.ensures.rested
