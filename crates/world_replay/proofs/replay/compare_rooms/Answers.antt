use Rattle.std.proofs.Common.{◌<◌, List, get_or, length, arith}
use Rattle.std.proofs.lemmas.Bool.{and_parts}
use Rattle.std.proofs.lemmas.Option.{slice_get-get_or}
use Rattle.object_store.specs.declared.world.Room.{Room}
use Rattle.world_replay.proofs.Replays.{alike_more, forms_same, same_more, unlike_here}
use Rattle.world_replay.proofs.SerialsLeft.{stands}
use Rattle.world_replay.proofs.replay.compare_rooms.Goals as goal

pub returns-in-Err-clause-unlike : goal.returns-in-Err-clause-unlike
returns-in-Err-clause-unlike c =
    let kept : List Room = c.args.kept.now in
    let ruled : List Room = c.args.ruled.now in
    let i = c.loop-index.index in
    let inside : i < length ruled = omega (arith, c.loop-index-test.true, c.requires.many) in
    unlike_here kept ruled i c.index-kept-index.result (get_or ruled i c.index-ruled-index.result) (stands kept i c.index-kept-index.result c.loop-index-test.true c.index-kept-index.is) (slice_get-get_or ruled i c.index-ruled-index.result inside) c.loop-index.invariant.same
    c.args.tick c.in-Err.status c.in-Err.ensures.unlike

pub loop-index-preserved : goal.loop-index-preserved
loop-index-preserved c =
    let kept : List Room = c.args.kept.now in
    let ruled : List Room = c.args.ruled.now in
    let i = c.loop-index.index in
    let inside : i < length ruled = omega (arith, c.loop-index-test.true, c.requires.many) in
    let one = stands kept i c.index-kept-index.result c.loop-index-test.true c.index-kept-index.is in
    let other = slice_get-get_or ruled i c.index-ruled-index.result inside in
    record {
      same = same_more kept ruled i c.index-kept-index.result (get_or ruled i c.index-ruled-index.result) one other c.loop-index.invariant.same c.in-Ok.ensures.same;
      alike = λ both.
          let parts = and_parts c.loop-index.all c.in-Ok.alike both in
          alike_more kept ruled i c.index-kept-index.result (get_or ruled i c.index-ruled-index.result) one other (c.loop-index.invariant.alike parts.0) (c.in-Ok.ensures.alike parts.1);
    }

pub returns-clause-same : goal.returns-clause-same
returns-clause-same c = forms_same c.args.kept.now c.args.ruled.now c.loop-index.index c.requires.many c.loop-index-test.false c.loop-index.invariant.same

pub returns-clause-alike : goal.returns-clause-alike
returns-clause-alike c = λ all k less. c.loop-index.invariant.alike all k (omega (arith, less, c.loop-index-test.false))
