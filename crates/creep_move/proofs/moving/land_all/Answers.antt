use Rattle.std.proofs.Common.{◌+◌, ◌<◌, ◌≤◌, refl, arith, ap, sym, subst, ◌∙◌}
use Rattle.std.proofs.lemmas.Bool.{true≢false}
use Rattle.std.specs.List.{AllByRecursion}
use Rattle.room_table.specs.Tables.{Table, IsOnTile, IsRising}
use Rattle.creep_move.specs.inner.Decided.{IsGoing}
use Rattle.creep_move.specs.inner.Landing.{AreAfter}
use Rattle.creep_move.proofs.Landed.{after_land, after_none, after_skip}
use Rattle.creep_move.proofs.moving.land_all.Goals as goal
use Rattle.creep_move.proofs.moving.land_all.Goals.{then-from-lt-TILES+then-not-held-from, else-from-lt-TILES, else-from-lt-TILES-via-then-from-lt-TILES+else-not-held-from, else-from-lt-TILES-via-else-from-lt-TILES}

pub loop-tile-init : goal.loop-tile-init
loop-tile-init c =
    let r = c.requires in
    record {
      after = after_none c.args.terrain.now c.args.room.now.objects r.rising r.movable.apart r.movable.tiles c.args.comes.now c.args.best.now c.args.held.now r.goers;
      index = refl;
      next = refl;
      spare = refl;
      tallies = refl;
      tiles = r.movable.tiles;
    }

pub loop-tile-preserved : goal.loop-tile-preserved
loop-tile-preserved c =
    let grounds = c.args.terrain.now in
    let objects = c.args.room.now.objects in
    let comes = c.args.comes.now in
    let best = c.args.best.now in
    let held = c.args.held.now in
    let s = c.loop-tile in
    let tile = s.tile in
    let low : tile < 2500 = omega (arith, c.loop-tile-test.true) in
    let most : tile ≤ 2500 = omega (arith, low) in
    let rise : IsRising s.room.objects = c.stands_in_order.ensures.rising in
    let r = c.requires in
    elim c.if-from-lt-TILES.branch [
      | then-from-lt-TILES+then-not-held-from w ↦
          let going : IsGoing comes held tile = (w.if-from-lt-TILES.true, w.if-not-held-from.true) in
          let step = w.land.ensures in
          record {
            after = subst (λ (t : Table). AreAfter grounds objects comes best held (tile + 1) t.objects) (sym w.room-is)
                (after_land grounds objects r.rising r.movable.apart r.movable.tiles comes best held r.goers tile most s.room.objects rise s.invariant.after low going w.land.new.room.objects step.landed);
            index = ap (λ (t : Table). t.index) w.room-is ∙ step.index ∙ s.invariant.index;
            next = ap (λ (t : Table). t.next) w.room-is ∙ step.next ∙ s.invariant.next;
            spare = ap (λ (t : Table). t.spare) w.room-is ∙ step.spare ∙ s.invariant.spare;
            tallies = ap (λ (t : Table). t.tallies) w.room-is ∙ step.tallies ∙ s.invariant.tallies;
            tiles = subst (λ (t : Table). AllByRecursion IsOnTile t.objects) (sym w.room-is) step.tiles;
          }
      | else-from-lt-TILES w ↦
          let none : IsGoing comes held tile → ⊥ = elim w.else-from-lt-TILES.branch [
            | else-from-lt-TILES-via-then-from-lt-TILES+else-not-held-from v ↦ λ going. true≢false (sym v.if-not-held-from.false ∙ going.1)
            | else-from-lt-TILES-via-else-from-lt-TILES v ↦ λ going. omega (arith, v.if-from-lt-TILES.false, going.0)
          ] in
          record {
            after = subst (λ (t : Table). AreAfter grounds objects comes best held (tile + 1) t.objects) (sym w.room-is)
                (after_skip grounds objects r.rising r.movable.apart r.movable.tiles comes best held r.goers tile s.room.objects none s.invariant.after);
            index = ap (λ (t : Table). t.index) w.room-is ∙ s.invariant.index;
            next = ap (λ (t : Table). t.next) w.room-is ∙ s.invariant.next;
            spare = ap (λ (t : Table). t.spare) w.room-is ∙ s.invariant.spare;
            tallies = ap (λ (t : Table). t.tallies) w.room-is ∙ s.invariant.tallies;
            tiles = subst (λ (t : Table). AllByRecursion IsOnTile t.objects) (sym w.room-is) s.invariant.tiles;
          }
    ]
