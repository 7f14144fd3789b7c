use Rattle.std.proofs.Common.{◌≡◌, true, false, take, sym, ap, ◌∙◌}
use Rattle.std.proofs.lemmas.List.{length-set}
use Rattle.room_terrain.specs.Tiles.{tile}
use Rattle.room_table.specs.Tables.{IsOnTile}
use Rattle.rule_check.specs.inner.Taken.{clash_with, taken_on}
use Rattle.rule_check.specs.declared.shared.Taken.{Taken}
use Rattle.rule_check.proofs.Minima.{none_more, all_at, read_at}
use Rattle.rule_check.proofs.OnTiles.{BlockedAt, read_taken, write_taken, blocked_from_clash, free_from_no_clash, blocked_is_least, none_blocked_is_least}
use Rattle.rule_check.proofs.shared.first_blocked.Goals as goal

pub returns-then-has_clash : goal.returns-then-has_clash
returns-then-has_clash c =
    let objects = c.args.room.now.objects.now in
    let i = c.loop-object.object-index in
    let object = c.object-item.result in
    let here = read_at objects i object c.loop-object-test.true c.object-item.is in
    let on : IsOnTile object = all_at IsOnTile objects i object c.requires.ordered.tiles here in
    let read = read_taken c.loop-object.tiles objects i c.tile_of-tile.result object c.tile_of-tile.ensures on c.loop-object.invariant.taken in
    let clashes : clash_with (taken_on (tile object.x object.y) (take i objects)) object.kind ≡ true = ap (λ (taken : Taken). clash_with taken object.kind) (sym read) ∙ sym c.has_clash.ensures ∙ c.if-has_clash.true in
    blocked_is_least objects i object c.requires.ordered.order here (blocked_from_clash objects i object c.requires.ordered.tiles on clashes) c.loop-object.invariant.apart

pub loop-object-preserved : goal.loop-object-preserved
loop-object-preserved c =
    let objects = c.args.room.now.objects.now in
    let i = c.loop-object.object-index in
    let object = c.object-item.result in
    let here = read_at objects i object c.loop-object-test.true c.object-item.is in
    let on : IsOnTile object = all_at IsOnTile objects i object c.requires.ordered.tiles here in
    let read = read_taken c.loop-object.tiles objects i c.tile_of-tile.result object c.tile_of-tile.ensures on c.loop-object.invariant.taken in
    let clear : clash_with (taken_on (tile object.x object.y) (take i objects)) object.kind ≡ false = ap (λ (taken : Taken). clash_with taken object.kind) (sym read) ∙ sym c.has_clash.ensures ∙ c.if-has_clash.false in
    record {
      size = length-set c.loop-object.tiles c.tile_of-tile.result c.with.result ∙ c.loop-object.invariant.size;
      taken = write_taken c.loop-object.tiles objects i c.tile_of-tile.result object c.with.result here c.loop-object.invariant.size c.tile_of-tile.ensures on c.with.ensures c.loop-object.invariant.taken;
      apart = none_more (BlockedAt objects) objects i object here (free_from_no_clash objects i object clear) c.loop-object.invariant.apart;
    }

pub returns : goal.returns
returns c = none_blocked_is_least c.args.room.now.objects.now c.loop-object.object-index c.loop-object-test.false c.loop-object.invariant.apart
