use Rattle.std.proofs.Common.{◌≡◌, ◌∙◌, ℕ, List, Some, None, option_map, sym, ap}
use Rattle.std.specs.Prelude.{slice_set}
use Rattle.object_store.specs.declared.world.Room.{Room}
use Rattle.object_store.specs.Lending.{with_table}
use Rattle.room_table.specs.Tables.{Table}
use Rattle.record_follows.proofs.Placing.{found_room, lent_set, set_same}
use Rattle.record_follows.proofs.putting.put_room.Goals as goal

pub returns-in_ok-world : goal.returns-in_ok-world
returns-in_ok-world c tables room first is =
    let world = c.args.world.now in
    let place = c.args.place in
    let table = c.in-Some.table.now in
    let lent : Some room.table ≡ Some c.room.result.now = sym (ap (option_map (λ (r : Room). r.table)) is) ∙ c.room.ensures in
    let whose : room.table ≡ c.room.result.now = cc in
    let index = c.index-index.ensures ∙ ap (λ (t : Table). t.index) (sym whose) in
    let spare : c.from.result ≡ table.spare = cc in
    let copy : c.in_ok-world.field-0 ≡ table = c.in_ok-world.ensures ∙ ap (λ (n : ℕ). record table { spare = n }) spare in
    ap (λ (rooms : List Room). record world { rooms = rooms })
    (ap (λ (t : Table). with_table place t world.rooms) copy ∙ lent_set world.rooms place room table is
    ∙ ap (slice_set world.rooms place) (sym (found_room c.args.firsts.now tables room c.index-index.result (Some table) first index c.in-Some.ensures)))

pub returns-in_default : goal.returns-in_default
returns-in_default c tables room first is =
    let world = c.args.world.now in
    let place = c.args.place in
    let lent : Some room.table ≡ Some c.room.result.now = sym (ap (option_map (λ (r : Room). r.table)) is) ∙ c.room.ensures in
    let whose : room.table ≡ c.room.result.now = cc in
    let index = c.index-index.ensures ∙ ap (λ (t : Table). t.index) (sym whose) in
    ap (λ (rooms : List Room). record world { rooms = rooms })
    (sym (ap (slice_set world.rooms place) (found_room c.args.firsts.now tables room c.index-index.result None first index c.in_default.ensures) ∙ set_same world.rooms place room is))
