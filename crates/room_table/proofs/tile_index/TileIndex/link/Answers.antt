use Rattle.std.proofs.Common.{◌≡◌, ◌<◌, ◌+◌, cond, eqb, length, get_or, set, sym, ap, subst, ◌∙◌, arith, length-set}
use Rattle.std.proofs.lemmas.List.{with_items_is}
use Rattle.room_table.specs.inner.Chains.{Chained, IsNewest, IsNextNewer, tile_at}
use Rattle.room_table.proofs.Chained.{heads_after, length_heads, chained_same, pointed_newest, chained_with}
use Rattle.room_table.proofs.tile_index.TileIndex.link.Goals as goal

pub invariant_of-self : goal.invariant_of-self
invariant_of-self c =
    let was = c.self.inside in
    let slot = c.args.slot in
    let tile = c.args.tile in
    let older = c.pointed-older.result in
    let place = c.next_newer-place.result in
    let heads = was.heads.items in
    let links = was.links.items in
    let tiles = was.tiles.items in
    let same_tiles : tiles ≡ c.args.self.now.tiles = ap (λ (t : Chained). t.tiles) c.self.view_is in
    let within : slot < length tiles = omega (arith, c.requires.slot, ap length same_tiles) in
    let off : tile_at tiles slot ≡ 2500 = ap (λ ts. tile_at ts slot) same_tiles ∙ c.requires.off in
    let next : IsNextNewer tile tiles slot place = subst (λ ts. IsNextNewer tile ts slot place) (sym same_tiles) c.next_newer-place.ensures in
    let older_is : older ≡ cond (eqb place (length links)) (get_or heads tile 0) (get_or links place 0) =
    c.pointed-older.ensures ∙ ap (λ hs. cond (eqb place (length c.deref-2.result.now)) (get_or hs tile 0) (get_or c.deref-2.result.now place 0)) c.deref.ensures.value ∙ ap (λ ls. cond (eqb place (length ls)) (get_or heads tile 0) (get_or ls place 0)) c.deref-2.ensures.value in
    let newest : IsNewest tile tiles place older = subst (λ n. IsNewest tile tiles place n) (sym older_is) (pointed_newest heads links tiles slot tile place c.self.invariant c.requires.tile next) in
    let put : c.point.new.heads ≡ heads_after heads links tile place (slot + 1) =
    c.point.ensures.heads ∙ ap (λ hs. heads_after hs c.deref_mut-2.result.now tile place (slot + 1)) c.deref_mut.ensures.value ∙ ap (λ ls. heads_after heads ls tile place (slot + 1)) c.deref_mut-2.ensures.value in
    let put_links : c.point.new.links ≡ set links place (slot + 1) =
    c.point.ensures.links ∙ ap (λ ls. set ls place (slot + 1)) c.deref_mut-2.ensures.value in
    let new_heads = with_items_is was.heads c.point.new.heads (ap length put ∙ length_heads heads links tile place (slot + 1) ∙ sym was.heads.ok.0) ∙ put in
    let new_links = with_items_is was.links c.point.new.links (ap length put_links ∙ length-set links place (slot + 1) ∙ sym was.links.ok.0) ∙ put_links in
    chained_same _ _ new_heads (ap (λ ls. set ls slot older) new_links) (chained_with heads links tiles slot tile place older c.self.invariant within c.requires.tile off next newest)
