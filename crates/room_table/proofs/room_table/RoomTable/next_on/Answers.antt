use Rattle.std.proofs.Common.{◌≡◌, ◌<◌, List, ap, subst, ◌∙◌, option_map}
use Rattle.room_table.specs.declared.object.Object.{Object}
use Rattle.room_table.specs.Tables.{Table, first_on_from}
use Rattle.room_table.specs.inner.Placed.{tile_number, IsNextOfTile}
use Rattle.room_table.proofs.NextOnTile.{next_is_first}
use Rattle.room_table.proofs.room_table.RoomTable.next_on.Goals as goal

pub returns-then-tile-lt-TILES : goal.returns-then-tile-lt-TILES
returns-then-tile-lt-TILES c =
    let was = c.self.inside in
    let slots = was.slots.items in
    let tiles = was.tiles.tiles in
    let x = c.args.x in
    let y = c.args.y in
    let id = c.args.id in
    let found = option_map (λ o. o.now) c.next_of_tile.result in
    let tile_is : c.tile_of-tile.result ≡ tile_number x y = c.tile_of-tile.ensures in
    let least : IsNextOfTile 0 id (tile_number x y) slots tiles found =
    subst (λ t. IsNextOfTile 0 id t slots tiles found) tile_is (subst (λ (s : List Object). IsNextOfTile 0 id c.tile_of-tile.result s tiles found) c.deref.ensures.value c.next_of_tile.ensures) in
    next_is_first slots was.order.items tiles x y id c.self.invariant.0 (subst (λ n. n < 2500) tile_is c.if-tile-lt-TILES.true) found least
    ∙ ap (λ (t : Table). first_on_from x y id t.objects) c.self.view_is
