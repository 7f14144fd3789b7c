use Rattle.std.proofs.Common.{◌≡◌, List, get_or, false, true, arith, sym, subst}
use Rattle.room_table.specs.declared.object.Object.{Object}
use Rattle.room_table.specs.Tables.{IsRising}
use Rattle.world_rules.specs.RoomParts.{RoomPart, table_part}
use Rattle.world_rules.specs.Movement.{movers}
use Rattle.world_rules.specs.Moves.{candidates}
use Rattle.world_rules.proofs.TableParts.{part_values}
use Rattle.creep_move.specs.inner.Walk.{IsStoodOn}
use Rattle.creep_move.specs.inner.Decided.{IsDecided}
use Rattle.creep_move.proofs.Deciding.{Tables, decided, tables_of}
use Rattle.creep_move.proofs.moving.decide.Goals as goal

pub returns : goal.returns
returns c =
    let terrain = c.args.terrain.now in
    let table = c.args.room.now in
    let moves = c.args.moves.now in
    let part : RoomPart = table_part terrain table in
    let comes = c.arrivals.new.comes in
    let best = c.arrivals.new.best in
    let first = c.mark_standing.new.held in
    let start = c.release.new.held in
    let held = c.hold.new.held in
    let rise : IsRising table.objects = subst IsRising c.objects.ensures.all c.objects.ensures.rising in
    let tables : Tables part table.objects moves comes best first start held = tables_of terrain table rise c.requires.movable moves c.requires.once comes best first start held
    (omega arith) (omega arith) c.arrivals.ensures
    (λ t. subst (λ (objects : List Object). (get_or first t false ≡ true → IsStoodOn objects t) × (IsStoodOn objects t → get_or first t false ≡ true)) c.objects.ensures.all (c.mark_standing.ensures t))
    c.release.ensures.kept c.release.ensures.left c.hold.ensures in
    subst (λ (objects : List Object). IsDecided (movers objects (candidates part moves)) comes best held) (sym (part_values terrain table rise)) (decided part table.objects moves comes best first start held tables)
