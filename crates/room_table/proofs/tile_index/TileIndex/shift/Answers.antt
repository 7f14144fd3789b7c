use Rattle.std.proofs.Common.{◌≡◌, ◌∙◌, ap, set}
use Rattle.std.proofs.lemmas.List.{set-set}
use Rattle.room_table.specs.inner.Chains.{Chained}
use Rattle.room_table.proofs.tile_index.TileIndex.shift.Goals as goal

pub returns-then-index-tile : goal.returns-then-index-tile
returns-then-index-tile c =
    let before = c.args.self.now in
    let both : Chained = record { tiles = set (set before.tiles c.args.slot 2500) c.args.slot c.args.tile; heads = before.heads; room = before.room } in
    let done : c.link.new.self ≡ both = c.link.ensures ∙ ap (λ (t : Chained). let moved : Chained = record { tiles = set t.tiles c.args.slot c.args.tile; heads = t.heads; room = t.room } in moved) c.take.ensures in
    done ∙ ap (λ ts. let moved : Chained = record { tiles = ts; heads = before.heads; room = before.room } in moved) (set-set before.tiles c.args.slot 2500 c.args.tile)
