use Rattle.std.proofs.Common.{◌≡◌, ◌↔◌, ◌<◌, ◌∙◌, ◌∷◌, [], ◌++◌, map, length-set, length, get_or, set, false, true, arith, sym, subst}
use Rattle.std.specs.List.{AllByRecursion}
use Rattle.room_terrain.specs.Tiles.{tile}
use Rattle.room_table.specs.Tables.{IsOnTile}
use Rattle.creep_move.specs.inner.Walk.{IsStoodOn}
use Rattle.creep_move.proofs.Tables.{stood_creep, stood_other, marked_rest, marked_front}
use Rattle.creep_move.proofs.walk.mark_standing.Goals as goal

pub loop-object-preserved-then-is_creep : goal.loop-object-preserved-then-is_creep
loop-object-preserved-then-is_creep c =
    let s = c.loop-object in
    let object = c.in-Some.object in
    let tiles : AllByRecursion IsOnTile (object.now ∷ c.next.new.self) = subst (AllByRecursion IsOnTile) c.in-Some.ensures.steps s.invariant.tiles in
    let at = tile object.now.x object.now.y in
    let low : at < length s.held = omega (arith, tiles.0.column, tiles.0.row, s.invariant.long) in
    let is = c.tile_number.ensures.number in
    record {
      rest = marked_rest s.yielded object s.object-iterator c.next.new.self c.args.objects c.in-Some.ensures.steps s.invariant.rest;
      tiles = tiles.1;
      long = length-set s.held c.tile_number.result true ∙ s.invariant.long;
      stood = λ t. subst (λ n. get_or (set s.held n true) t false ≡ true ↔ IsStoodOn (map (λ b. b.now) (s.yielded ++ object ∷ [])) t) (sym is)
          (marked_front s.yielded object (λ front. get_or (set s.held at true) t false ≡ true ↔ IsStoodOn front t) (stood_creep (map (λ b. b.now) s.yielded) object.now s.held (sym c.is_creep.ensures ∙ c.if-is_creep.true) low s.invariant.stood t));
    }

pub loop-object-preserved : goal.loop-object-preserved
loop-object-preserved c =
    let s = c.loop-object in
    let object = c.in-Some.object in
    let tiles : AllByRecursion IsOnTile (object.now ∷ c.next.new.self) = subst (AllByRecursion IsOnTile) c.in-Some.ensures.steps s.invariant.tiles in
    record {
      rest = marked_rest s.yielded object s.object-iterator c.next.new.self c.args.objects c.in-Some.ensures.steps s.invariant.rest;
      tiles = tiles.1;
      long = s.invariant.long;
      stood = λ t. marked_front s.yielded object (λ front. get_or s.held t false ≡ true ↔ IsStoodOn front t) (stood_other (map (λ b. b.now) s.yielded) object.now s.held (sym c.is_creep.ensures ∙ c.if-is_creep.false) s.invariant.stood t);
    }
