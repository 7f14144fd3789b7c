use Rattle.std.proofs.Common.{◌≡◌, ℕ, ◌+◌, ◌-◌, ◌^◌, ◌<◌, ◌≤◌, min, refl, sym, ap, subst, ◌∙◌, arith}
use Rattle.room_table.specs.declared.object.Object.{Object}
use Rattle.room_table.specs.Tables.{Table, IsOnTile, with_object, with_new}
use Rattle.room_table.specs.Tallies.{tally_of}
use Rattle.world_rules.specs.RoomParts.{table_part}
use Rattle.world_rules.specs.Drops.{is_pile_on, pile_bound, pile_of}
use Rattle.world_rules.proofs.TableParts.{found_by_id, found_on_tile, tiles_new, tiles_replaced}
use Rattle.room_rules.specs.Calls.{Keeps}
use Rattle.falling_energy.proofs.Parts.{fallen_grown, fallen_made}
use Rattle.falling_energy.proofs.falls.fall.Goals as goal

pub set-requires-clause-tile : goal.set-requires-clause-tile
set-requires-clause-tile c =
    found_on_tile (is_pile_on c.args.x c.args.y) c.args.room.now.objects c.in-Some.pile c.heaped.result c.requires.ready.tiles (sym c.in-Some.ensures.found)

pub set-requires-clause-there : goal.set-requires-clause-there
set-requires-clause-there c =
    (c.in-Some.pile, found_by_id (is_pile_on c.args.x c.args.y) c.args.room.now.objects c.in-Some.pile c.pile_on.ensures.rising (sym c.in-Some.ensures.found))

pub returns-in-Some-clause-rule : goal.returns-in-Some-clause-rule
returns-in-Some-clause-rule c =
    let table = c.args.room.now in
    let pile = c.in-Some.pile in
    let grown = c.set.ensures ∙ ap (λ (n : ℕ). record table { objects = with_object (record pile { energy = n }) table.objects }) c.heaped.ensures in
    λ grounds. ap (table_part grounds) grown ∙ fallen_grown grounds table c.args.x c.args.y c.args.amount c.pile_on.ensures.rising c.if-amount-eq0.false pile (sym c.in-Some.ensures.found)

pub returns-then-amount-eq0-clause-keeps : goal.returns-then-amount-eq0-clause-keeps
returns-then-amount-eq0-clause-keeps c = record { index = refl; used = refl; later = omega arith; made = omega arith; tiles = c.requires.ready.tiles }

pub returns-in-Some-clause-keeps : goal.returns-in-Some-clause-keeps
returns-in-Some-clause-keeps c =
    let table = c.args.room.now in
    let pile = c.in-Some.pile in
    let on = found_on_tile (is_pile_on c.args.x c.args.y) table.objects pile c.heaped.result c.requires.ready.tiles (sym c.in-Some.ensures.found) in
    subst (Keeps table) (sym c.set.ensures) (record {
      index = refl;
      used = refl;
      later = omega arith;
      made = omega arith;
      tiles = tiles_replaced (record pile { energy = c.heaped.result }) table.objects on c.requires.ready.tiles;
    })

pub returns-in-None-clause-rule : goal.returns-in-None-clause-rule
returns-in-None-clause-rule c =
    let table = c.args.room.now in
    let all : 0 + c.args.amount ≡ c.args.amount = omega arith in
    let serial : table.next < 2 ^ 32 - 1 = c.requires.ready.serial in
    let room : table.next < 2 ^ 32 = omega arith in
    let new = c.pile.ensures ∙ ap (pile_of 0 c.args.x c.args.y) (c.heaped-in-None.ensures ∙ ap (min pile_bound) all) in
    let made = c.insert_new.ensures.table ∙ (λ i. record table { next = table.next + 1; objects = with_new (record (new i) { id = c.insert_new.ensures.id i }) table.objects; spare = table.spare - 1 }) in
    λ grounds. ap (table_part grounds) made ∙ fallen_made grounds table c.args.x c.args.y c.args.amount c.pile_on.ensures.rising c.if-amount-eq0.false (table.spare - 1) room (sym c.in-None.ensures.found)

pub returns-in-None-clause-keeps : goal.returns-in-None-clause-keeps
returns-in-None-clause-keeps c =
    let table = c.args.room.now in
    let spare : 1 ≤ table.spare = c.requires.ready.spare in
    let on : IsOnTile (record c.pile.result { id = c.insert_new.result }) =
    subst (λ (o : Object). IsOnTile (record o { id = c.insert_new.result })) (sym c.pile.ensures) (record { column = c.requires.column; row = c.requires.row }) in
    subst (Keeps table) (sym c.insert_new.ensures.table) (record {
      index = refl;
      used = omega arith;
      later = omega arith;
      made = omega arith;
      tiles = tiles_new (record c.pile.result { id = c.insert_new.result }) table.objects on c.requires.ready.tiles;
    })

pub returns-then-amount-eq0-clause-tallies : goal.returns-then-amount-eq0-clause-tallies
returns-then-amount-eq0-clause-tallies c = λ id there. refl

pub returns-in-Some-clause-tallies : goal.returns-in-Some-clause-tallies
returns-in-Some-clause-tallies c = λ id there. ap (λ (t : Table). tally_of id t.tallies) c.set.ensures

pub returns-in-None-clause-tallies : goal.returns-in-None-clause-tallies
returns-in-None-clause-tallies c = λ id there. ap (λ (t : Table). tally_of id t.tallies) c.insert_new.ensures.table
