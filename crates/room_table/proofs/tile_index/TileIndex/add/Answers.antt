use Rattle.std.proofs.Common.{◌≡◌, ◌<◌, ◌+◌, ◌∷◌, [], ◌++◌, length, get_or, set, sym, ap, subst, ◌∙◌, arith, length-set}
use Rattle.std.specs.Vec.{vec_len, vec_capacity}
use Rattle.std.proofs.lemmas.Bool.{cond-true}
use Rattle.std.proofs.lemmas.List.{with_items_is}
use Rattle.room_table.specs.inner.Chains.{Chained, IsChained}
use Rattle.room_table.proofs.Chained.{chained_more}
use Rattle.room_table.proofs.tile_index.TileIndex.add.Goals as goal

pub invariant_of-self : goal.invariant_of-self
invariant_of-self c =
    let was = c.self.inside in
    let tile = c.args.tile in
    let heads = was.heads.items in
    let links = was.links.items in
    let tiles = was.tiles.items in
    let linked = c.self.invariant.linked in
    let same_tiles : tiles ≡ c.args.self.now.tiles = ap (λ (t : Chained). t.tiles) c.self.view_is in
    let same_heads : length heads ≡ c.args.self.now.heads = ap (λ (t : Chained). t.heads) c.self.view_is in
    let same_room = ap (λ (t : Chained). t.room) c.self.view_is in
    let count = ap length same_tiles in
    let wide : length heads ≡ 2500 = same_heads ∙ c.requires.heads in
    let long : c.len.result ≡ length tiles = omega (arith, was.tiles.ok.0, c.len.ensures) in
    let base : c.deref_mut.result.now ≡ heads = c.deref_mut.ensures.value in
    let put : c.put_head-older.new.heads ≡ set heads tile (length tiles + 1) =
    c.put_head-older.ensures.heads ∙ ap (λ xs. set xs tile (c.len.result + 1)) base ∙ ap (λ n. set heads tile (n + 1)) long in
    let new_heads = with_items_is was.heads c.put_head-older.new.heads (ap length put ∙ length-set heads tile (length tiles + 1) ∙ sym was.heads.ok.0) ∙ put in
    let links_room : vec_len was.links < vec_capacity was.links = omega (arith, same_room, c.requires.room, was.links.ok.0, count) in
    let tiles_room : vec_len was.tiles < vec_capacity was.tiles = omega (arith, same_room, c.requires.room, was.tiles.ok.0, count) in
    let new_links : c.push.new.self.items ≡ links ++ get_or heads tile 0 ∷ [] =
    c.push.ensures.items ∙ cond-true _ _ _ (c.push.ensures.succeeds links_room) ∙ ap (λ n. links ++ n ∷ []) (c.put_head-older.ensures.was ∙ ap (λ xs. get_or xs tile 0) base) in
    let new_tiles : c.push-2.new.self.items ≡ tiles ++ tile ∷ [] =
    c.push-2.ensures.items ∙ cond-true _ _ _ (c.push-2.ensures.succeeds tiles_room) in
    subst (λ hs. IsChained hs c.push.new.self.items c.push-2.new.self.items) (sym new_heads)
    (subst (λ ls. IsChained (set heads tile (length tiles + 1)) ls c.push-2.new.self.items) (sym new_links)
    (subst (λ ts. IsChained (set heads tile (length tiles + 1)) (links ++ get_or heads tile 0 ∷ []) ts) (sym new_tiles)
    (chained_more heads links tiles tile c.self.invariant wide (omega (arith, c.requires.count, count)))))
