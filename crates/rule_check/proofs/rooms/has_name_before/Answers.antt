use Rattle.std.proofs.Common.{◌≡◌, ◌<◌, arith}
use Rattle.std.proofs.lemmas.Grind.{common_steps}
use Rattle.std.proofs.lemmas.Option.{slice_get_within}
use Rattle.rule_check.proofs.Minima.{none_more, read_at}
use Rattle.rule_check.proofs.rooms.has_name_before.Goals as goal
use Rattle.rule_check.proofs.rooms.has_name_before.Goals.{else-earlier-index-via-then-earlier-index+else-eq, else-earlier-index-via-else-earlier-index}

pub loop-earlier-preserved : goal.loop-earlier-preserved
loop-earlier-preserved c =
    none_more (λ k room. (k < c.args.index) × (room.name ≡ c.args.name)) c.args.rooms.now c.loop-earlier.earlier c.index-rooms-earlier.result (read_at c.args.rooms.now c.loop-earlier.earlier c.index-rooms-earlier.result c.loop-earlier-test.true c.index-rooms-earlier.is)
    (elim c.else-earlier-index.branch [ else-earlier-index-via-then-earlier-index+else-eq w ↦ λ both. grind (arith, common_steps) | else-earlier-index-via-else-earlier-index w ↦ λ both. let less : c.loop-earlier.earlier < c.args.index = both.0 in omega arith ])
    c.loop-earlier.invariant

pub returns : goal.returns
returns c = λ named. c.loop-earlier.invariant named.earlier named.room (let within = slice_get_within c.args.rooms.now named.earlier named.room named.place in omega arith) named.place (named.before, named.named)

pub returns-then-eq : goal.returns-then-eq
returns-then-eq c =
    record {
      earlier = c.loop-earlier.earlier;
      room = c.index-rooms-earlier.result;
      before = c.if-earlier-index.true;
      place = read_at c.args.rooms.now c.loop-earlier.earlier c.index-rooms-earlier.result c.loop-earlier-test.true c.index-rooms-earlier.is;
      named = grind (arith, common_steps);
    }
