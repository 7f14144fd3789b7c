use Rattle.std.proofs.Common.{◌≡◌, ◌<◌, length, get_or, set, sym, ap, subst, ◌∙◌, arith, length-set}
use Rattle.std.proofs.lemmas.List.{with_items_is, get_or_read}
use Rattle.room_table.specs.inner.Chains.{Chained, IsNextNewer, tile_at}
use Rattle.room_table.proofs.Chained.{heads_after, length_heads, chained_same, chained_without}
use Rattle.room_table.proofs.tile_index.TileIndex.unlink.Goals as goal

pub invariant_of-self : goal.invariant_of-self
invariant_of-self c =
    let was = c.self.inside in
    let slot = c.args.slot in
    let place = c.next_newer-place.result in
    let heads = was.heads.items in
    let links = was.links.items in
    let tiles = was.tiles.items in
    let linked = c.self.invariant.linked in
    let same_tiles : tiles ≡ c.args.self.now.tiles = ap (λ (t : Chained). t.tiles) c.self.view_is in
    let within : slot < length tiles = omega (arith, c.requires.slot, ap length same_tiles) in
    let on : tile_at tiles slot < 2500 = subst (λ ts. tile_at ts slot < 2500) (sym same_tiles) c.requires.on in
    let tile_is : c.index-tile.result.now ≡ tile_at tiles slot = get_or_read tiles slot c.index-tile.result.now within c.index-tile.ensures 2500 in
    let link_is : c.index-older.result.now ≡ get_or links slot 0 = get_or_read links slot c.index-older.result.now (omega arith) c.index-older.ensures 0 in
    let next : IsNextNewer (tile_at tiles slot) tiles slot place =
    subst (λ t. IsNextNewer t tiles slot place) tile_is (subst (λ ts. IsNextNewer c.index-tile.result.now ts slot place) (sym same_tiles) c.next_newer-place.ensures) in
    let place_within = next.within in
    let base : c.deref_mut.result.now ≡ heads = c.deref_mut.ensures.value in
    let base_links : c.deref_mut-2.result.now ≡ links = c.deref_mut-2.ensures.value in
    let put : c.point.new.heads ≡ heads_after heads links (tile_at tiles slot) place (get_or links slot 0) =
    c.point.ensures.heads ∙ ap (λ hs. heads_after hs c.deref_mut-2.result.now c.index-tile.result.now place c.index-older.result.now) base ∙ ap (λ ls. heads_after heads ls c.index-tile.result.now place c.index-older.result.now) base_links ∙ ap (λ t. heads_after heads links t place c.index-older.result.now) tile_is ∙ ap (λ n. heads_after heads links (tile_at tiles slot) place n) link_is in
    let put_links : c.point.new.links ≡ set links place (get_or links slot 0) =
    c.point.ensures.links ∙ ap (λ ls. set ls place c.index-older.result.now) base_links ∙ ap (λ n. set links place n) link_is in
    let new_heads = with_items_is was.heads c.point.new.heads (ap length put ∙ length_heads heads links (tile_at tiles slot) place (get_or links slot 0) ∙ sym was.heads.ok.0) ∙ put in
    let new_links = with_items_is was.links c.point.new.links (ap length put_links ∙ length-set links place (get_or links slot 0) ∙ sym was.links.ok.0) ∙ put_links in
    chained_same _ _ new_heads new_links (chained_without heads links tiles slot place c.self.invariant within on next)
