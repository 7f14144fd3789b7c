use Rattle.std.proofs.Common.{◌≡◌, true, false, option_copied, sym, ap, ◌∙◌}
use Rattle.upkeep_rules.specs.inner.Worn.{concerns}
use Rattle.upkeep_rules.proofs.Turns.{turned_past, turned_same}
use Rattle.upkeep_rules.proofs.wearing.wear_at.Goals as goal

pub returns-then-not-concerns-clause-turn : goal.returns-then-not-concerns-clause-turn
returns-then-not-concerns-clause-turn c =
    let at = sym c.nth.ensures ∙ ap option_copied c.in-Some.is in
    let rising = c.stands_in_order.ensures.rising in
    let calm : concerns c.args.step c.in-Some.object.now.kind ≡ false = sym c.concerns.ensures ∙ c.if-not-concerns.true in
    (turned_past c.args.step c.args.place c.args.room.now c.in-Some.object.now at rising c.requires.ready calm).0

pub returns-then-not-concerns-clause-fewer : goal.returns-then-not-concerns-clause-fewer
returns-then-not-concerns-clause-fewer c =
    let at = sym c.nth.ensures ∙ ap option_copied c.in-Some.is in
    let rising = c.stands_in_order.ensures.rising in
    let calm : concerns c.args.step c.in-Some.object.now.kind ≡ false = sym c.concerns.ensures ∙ c.if-not-concerns.true in
    (turned_past c.args.step c.args.place c.args.room.now c.in-Some.object.now at rising c.requires.ready calm).1

pub returns-then-rests-clause-turn : goal.returns-then-rests-clause-turn
returns-then-rests-clause-turn c =
    let at = sym c.nth.ensures ∙ ap option_copied c.in-Some.is in
    let rising = c.stands_in_order.ensures.rising in
    let is : concerns c.args.step c.in-Some.object.now.kind ≡ true = sym c.concerns.ensures ∙ c.if-not-concerns.false in
    (turned_same c.args.step c.args.place c.args.room.now c.in-Some.object.now at rising c.requires.ready c.nth_tally.result (c.nth_tally.ensures c.in-Some.object.now at) is (c.rests.ensures c.if-rests.true)).0

pub returns-then-rests-clause-fewer : goal.returns-then-rests-clause-fewer
returns-then-rests-clause-fewer c =
    let at = sym c.nth.ensures ∙ ap option_copied c.in-Some.is in
    let rising = c.stands_in_order.ensures.rising in
    let is : concerns c.args.step c.in-Some.object.now.kind ≡ true = sym c.concerns.ensures ∙ c.if-not-concerns.false in
    (turned_same c.args.step c.args.place c.args.room.now c.in-Some.object.now at rising c.requires.ready c.nth_tally.result (c.nth_tally.ensures c.in-Some.object.now at) is (c.rests.ensures c.if-rests.true)).1
