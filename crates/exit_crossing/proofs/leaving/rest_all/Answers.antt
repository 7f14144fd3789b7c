use Rattle.std.proofs.Common.{◌∙◌, List, length, ap, sym, subst, arith}
use Rattle.std.specs.List.{AllByRecursion}
use Rattle.room_table.specs.declared.object.Object.{Object}
use Rattle.room_table.specs.Tables.{Table, IsOnTile}
use Rattle.exit_crossing.specs.inner.Resting.{rested_at, rested_to}
use Rattle.exit_crossing.proofs.Resting.{count_rested, none_rested, one_more, all_rested, tiles_rested}
use Rattle.exit_crossing.proofs.leaving.rest_all.Goals as goal

pub loop-place-init : goal.loop-place-init
loop-place-init c =
    let room = c.args.room.now in
    ap (λ (objects : List Object). record room { objects = objects }) (sym (none_rested room.objects))

pub rest_one-requires-clause-inside : goal.rest_one-requires-clause-inside
rest_one-requires-clause-inside c =
    omega (arith, c.loop-place-test.true, c.len-place-end.ensures, ap (λ (table : Table). length table.objects) c.loop-place.invariant, count_rested c.loop-place.place c.args.room.now.objects)

pub rest_one-requires-clause-tiles : goal.rest_one-requires-clause-tiles
rest_one-requires-clause-tiles c =
    let room = c.args.room.now in
    subst (λ (table : Table). AllByRecursion IsOnTile table.objects) (sym c.loop-place.invariant) (tiles_rested room.objects c.loop-place.place c.requires)

pub loop-place-preserved : goal.loop-place-preserved
loop-place-preserved c =
    let room = c.args.room.now in
    let place = c.loop-place.place in
    c.rest_one.ensures
    ∙ ap (λ (table : Table). record table { objects = rested_at place table.objects }) c.loop-place.invariant
    ∙ ap (λ (objects : List Object). record room { objects = objects }) (one_more room.objects place ∙ ap (λ n. rested_to n room.objects) (omega arith))

pub returns : goal.returns
returns c =
    let room = c.args.room.now in
    c.loop-place.invariant
    ∙ ap (λ (objects : List Object). record room { objects = objects }) (all_rested room.objects c.loop-place.place (omega (arith, c.loop-place-test.false, c.len-place-end.ensures)))
