use Rattle.std.proofs.Common.{◌≡◌, ◌<◌, List, ap, subst, ◌∙◌, option_map}
use Rattle.room_table.specs.declared.object.Object.{Object}
use Rattle.room_table.specs.Tables.{Table, first_on}
use Rattle.room_table.specs.inner.Placed.{tile_number, IsLeastFrom}
use Rattle.room_table.proofs.Keyed.{id_of}
use Rattle.room_table.proofs.OnTiles.{least_is_first}
use Rattle.room_table.proofs.room_table.RoomTable.at.Goals as goal

pub returns-then-tile-lt-TILES : goal.returns-then-tile-lt-TILES
returns-then-tile-lt-TILES c =
    let was = c.self.inside in
    let slots = was.slots.items in
    let tiles = was.tiles.tiles in
    let found = c.least_on.result in
    let tile_is : c.tile_of-tile.result ≡ tile_number c.args.x c.args.y = c.tile_of-tile.ensures in
    let least : IsLeastFrom 0 (tile_number c.args.x c.args.y) c.args.kind slots tiles found =
    subst (λ t. IsLeastFrom 0 t c.args.kind slots tiles found) tile_is (subst (λ (s : List Object). IsLeastFrom 0 c.tile_of-tile.result c.args.kind s tiles found) c.deref.ensures.value c.least_on.ensures) in
    least_is_first slots was.order.items tiles c.args.x c.args.y c.args.kind c.self.invariant.0 (subst (λ n. n < 2500) tile_is c.if-tile-lt-TILES.true) found least
    ∙ ap (λ (t : Table). option_map id_of (first_on c.args.x c.args.y c.args.kind t.objects)) c.self.view_is
