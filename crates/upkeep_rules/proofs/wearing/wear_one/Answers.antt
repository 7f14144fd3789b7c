use Rattle.std.proofs.Common.{◌≡◌, ◌<◌, true, option_copied, refl, sym, ap, subst, ◌∙◌}
use Rattle.upkeep_rules.specs.inner.Worn.{concerns, goes, left_of, stays, tasks, IsTurn}
use Rattle.upkeep_rules.proofs.Turns.{its_there, its_tile, ready_gone, ready_standing, turned_dropped, turned_gone, turned_same, turned_standing}
use Rattle.upkeep_rules.proofs.wearing.wear_one.Goals as goal

pub set-requires-clause-tile : goal.set-requires-clause-tile
set-requires-clause-tile c =
    let at = sym c.nth.ensures ∙ ap option_copied c.in-Some.is in
    let is : concerns c.args.step c.in-Some.object.now.kind ≡ true = c.requires.concerned c.in-Some.object.now at in
    let tally = c.nth_tally-tally.ensures c.in-Some.object.now at in
    let left = ap (left_of c.in-Some.object.now) (sym c.in-Changes.is) ∙ c.worn.ensures in
    its_tile c.args.step c.args.place c.args.room.now c.in-Some.object.now at c.stands_in_order.ensures.rising c.requires.ready c.nth_tally-tally.result tally is (stays c.in-Changes.left) left

pub set-requires-clause-there : goal.set-requires-clause-there
set-requires-clause-there c =
    let at = sym c.nth.ensures ∙ ap option_copied c.in-Some.is in
    let is : concerns c.args.step c.in-Some.object.now.kind ≡ true = c.requires.concerned c.in-Some.object.now at in
    let tally = c.nth_tally-tally.ensures c.in-Some.object.now at in
    let left = ap (left_of c.in-Some.object.now) (sym c.in-Changes.is) ∙ c.worn.ensures in
    its_there c.args.step c.args.place c.args.room.now c.in-Some.object.now at c.stands_in_order.ensures.rising c.requires.ready c.nth_tally-tally.result tally is (stays c.in-Changes.left) left

pub set-requires-in-Drops-clause-tile : goal.set-requires-in-Drops-clause-tile
set-requires-in-Drops-clause-tile c =
    let at = sym c.nth.ensures ∙ ap option_copied c.in-Some.is in
    let is : concerns c.args.step c.in-Some.object.now.kind ≡ true = c.requires.concerned c.in-Some.object.now at in
    let tally = c.nth_tally-tally.ensures c.in-Some.object.now at in
    let left = ap (left_of c.in-Some.object.now) (sym c.in-Drops.is) ∙ c.worn.ensures in
    its_tile c.args.step c.args.place c.args.room.now c.in-Some.object.now at c.stands_in_order.ensures.rising c.requires.ready c.nth_tally-tally.result tally is (record { stands = true; object = c.in-Drops.left; falls = c.in-Drops.amount }) left

pub set-requires-in-Drops-clause-there : goal.set-requires-in-Drops-clause-there
set-requires-in-Drops-clause-there c =
    let at = sym c.nth.ensures ∙ ap option_copied c.in-Some.is in
    let is : concerns c.args.step c.in-Some.object.now.kind ≡ true = c.requires.concerned c.in-Some.object.now at in
    let tally = c.nth_tally-tally.ensures c.in-Some.object.now at in
    let left = ap (left_of c.in-Some.object.now) (sym c.in-Drops.is) ∙ c.worn.ensures in
    its_there c.args.step c.args.place c.args.room.now c.in-Some.object.now at c.stands_in_order.ensures.rising c.requires.ready c.nth_tally-tally.result tally is (record { stands = true; object = c.in-Drops.left; falls = c.in-Drops.amount }) left

pub fall_from-requires-clause-tile : goal.fall_from-requires-clause-tile
fall_from-requires-clause-tile c =
    let at = sym c.nth.ensures ∙ ap option_copied c.in-Some.is in
    let is : concerns c.args.step c.in-Some.object.now.kind ≡ true = c.requires.concerned c.in-Some.object.now at in
    let tally = c.nth_tally-tally.ensures c.in-Some.object.now at in
    let left = ap (left_of c.in-Some.object.now) (sym c.in-Drops.is) ∙ c.worn.ensures in
    its_tile c.args.step c.args.place c.args.room.now c.in-Some.object.now at c.stands_in_order.ensures.rising c.requires.ready c.nth_tally-tally.result tally is (record { stands = true; object = c.in-Drops.left; falls = c.in-Drops.amount }) left

pub fall_from-requires-clause-ready : goal.fall_from-requires-clause-ready
fall_from-requires-clause-ready c =
    let at = sym c.nth.ensures ∙ ap option_copied c.in-Some.is in
    let is : concerns c.args.step c.in-Some.object.now.kind ≡ true = c.requires.concerned c.in-Some.object.now at in
    let tally = c.nth_tally-tally.ensures c.in-Some.object.now at in
    let left = ap (left_of c.in-Some.object.now) (sym c.in-Drops.is) ∙ c.worn.ensures in
    ready_standing c.args.step c.args.place c.args.room.now c.in-Some.object.now at c.stands_in_order.ensures.rising c.requires.ready c.nth_tally-tally.result tally is (record { stands = true; object = c.in-Drops.left; falls = c.in-Drops.amount }) left refl c.set-in-Drops.new.self c.set-in-Drops.ensures

pub fall_all-requires-clause-tile : goal.fall_all-requires-clause-tile
fall_all-requires-clause-tile c =
    let at = sym c.nth.ensures ∙ ap option_copied c.in-Some.is in
    let is : concerns c.args.step c.in-Some.object.now.kind ≡ true = c.requires.concerned c.in-Some.object.now at in
    let tally = c.nth_tally-tally.ensures c.in-Some.object.now at in
    let left = ap (left_of c.in-Some.object.now) (sym c.in-Goes.is) ∙ c.worn.ensures in
    its_tile c.args.step c.args.place c.args.room.now c.in-Some.object.now at c.stands_in_order.ensures.rising c.requires.ready c.nth_tally-tally.result tally is (goes c.in-Goes.gone) left

pub fall_all-requires-clause-ready : goal.fall_all-requires-clause-ready
fall_all-requires-clause-ready c =
    let at = sym c.nth.ensures ∙ ap option_copied c.in-Some.is in
    let is : concerns c.args.step c.in-Some.object.now.kind ≡ true = c.requires.concerned c.in-Some.object.now at in
    let tally = c.nth_tally-tally.ensures c.in-Some.object.now at in
    let left = ap (left_of c.in-Some.object.now) (sym c.in-Goes.is) ∙ c.worn.ensures in
    ready_gone c.args.step c.args.place c.args.room.now c.in-Some.object.now at c.stands_in_order.ensures.rising c.requires.ready c.nth_tally-tally.result tally is (goes c.in-Goes.gone) left refl c.remove.new.self c.remove.ensures.table

pub returns-in-Stays-clause-turn : goal.returns-in-Stays-clause-turn
returns-in-Stays-clause-turn c =
    let at = sym c.nth.ensures ∙ ap option_copied c.in-Some.is in
    let is : concerns c.args.step c.in-Some.object.now.kind ≡ true = c.requires.concerned c.in-Some.object.now at in
    let tally = c.nth_tally-tally.ensures c.in-Some.object.now at in
    let left : stays c.in-Some.object.now ≡ _ = ap (left_of c.in-Some.object.now) (sym c.in-Stays.is) ∙ c.worn.ensures in
    (turned_same c.args.step c.args.place c.args.room.now c.in-Some.object.now at c.stands_in_order.ensures.rising c.requires.ready c.nth_tally-tally.result tally is left).0

pub returns-in-Changes-clause-turn : goal.returns-in-Changes-clause-turn
returns-in-Changes-clause-turn c =
    let at = sym c.nth.ensures ∙ ap option_copied c.in-Some.is in
    let is : concerns c.args.step c.in-Some.object.now.kind ≡ true = c.requires.concerned c.in-Some.object.now at in
    let tally = c.nth_tally-tally.ensures c.in-Some.object.now at in
    let left = ap (left_of c.in-Some.object.now) (sym c.in-Changes.is) ∙ c.worn.ensures in
    (turned_standing c.args.step c.args.place c.args.room.now c.in-Some.object.now at c.stands_in_order.ensures.rising c.requires.ready c.nth_tally-tally.result tally is (stays c.in-Changes.left) left refl refl c.set.new.self c.set.ensures).0

pub returns-in-Drops-clause-turn : goal.returns-in-Drops-clause-turn
returns-in-Drops-clause-turn c =
    let at = sym c.nth.ensures ∙ ap option_copied c.in-Some.is in
    let is : concerns c.args.step c.in-Some.object.now.kind ≡ true = c.requires.concerned c.in-Some.object.now at in
    let tally = c.nth_tally-tally.ensures c.in-Some.object.now at in
    let left = ap (left_of c.in-Some.object.now) (sym c.in-Drops.is) ∙ c.worn.ensures in
    (subst (λ n. IsTurn c.args.step c.args.place c.args.room.now n c.fall_from.new.room × (tasks c.args.step n c.fall_from.new.room < tasks c.args.step c.args.place c.args.room.now)) (sym c.place_behind.ensures.place) (turned_dropped c.args.step c.args.place c.args.room.now c.in-Some.object.now at c.stands_in_order.ensures.rising c.requires.ready c.nth_tally-tally.result tally is (record { stands = true; object = c.in-Drops.left; falls = c.in-Drops.amount }) left refl c.set-in-Drops.new.self c.fall_from.new.room c.set-in-Drops.ensures c.place_behind.ensures.rising c.fall_from.ensures)).0

pub returns-in-Goes-clause-turn : goal.returns-in-Goes-clause-turn
returns-in-Goes-clause-turn c =
    let at = sym c.nth.ensures ∙ ap option_copied c.in-Some.is in
    let is : concerns c.args.step c.in-Some.object.now.kind ≡ true = c.requires.concerned c.in-Some.object.now at in
    let tally = c.nth_tally-tally.ensures c.in-Some.object.now at in
    let left = ap (left_of c.in-Some.object.now) (sym c.in-Goes.is) ∙ c.worn.ensures in
    (subst (λ n. IsTurn c.args.step c.args.place c.args.room.now n c.fall_all.new.room × (tasks c.args.step n c.fall_all.new.room < tasks c.args.step c.args.place c.args.room.now)) (sym c.place_behind-in-Goes.ensures.place) (turned_gone c.args.step c.args.place c.args.room.now c.in-Some.object.now at c.stands_in_order.ensures.rising c.requires.ready c.nth_tally-tally.result tally is (goes c.in-Goes.gone) left refl c.remove.new.self c.fall_all.new.room c.remove.ensures.table c.place_behind-in-Goes.ensures.rising c.fall_all.ensures)).0

pub returns-in-Stays-clause-fewer : goal.returns-in-Stays-clause-fewer
returns-in-Stays-clause-fewer c =
    let at = sym c.nth.ensures ∙ ap option_copied c.in-Some.is in
    let is : concerns c.args.step c.in-Some.object.now.kind ≡ true = c.requires.concerned c.in-Some.object.now at in
    let tally = c.nth_tally-tally.ensures c.in-Some.object.now at in
    let left : stays c.in-Some.object.now ≡ _ = ap (left_of c.in-Some.object.now) (sym c.in-Stays.is) ∙ c.worn.ensures in
    (turned_same c.args.step c.args.place c.args.room.now c.in-Some.object.now at c.stands_in_order.ensures.rising c.requires.ready c.nth_tally-tally.result tally is left).1

pub returns-in-Changes-clause-fewer : goal.returns-in-Changes-clause-fewer
returns-in-Changes-clause-fewer c =
    let at = sym c.nth.ensures ∙ ap option_copied c.in-Some.is in
    let is : concerns c.args.step c.in-Some.object.now.kind ≡ true = c.requires.concerned c.in-Some.object.now at in
    let tally = c.nth_tally-tally.ensures c.in-Some.object.now at in
    let left = ap (left_of c.in-Some.object.now) (sym c.in-Changes.is) ∙ c.worn.ensures in
    (turned_standing c.args.step c.args.place c.args.room.now c.in-Some.object.now at c.stands_in_order.ensures.rising c.requires.ready c.nth_tally-tally.result tally is (stays c.in-Changes.left) left refl refl c.set.new.self c.set.ensures).1

pub returns-in-Drops-clause-fewer : goal.returns-in-Drops-clause-fewer
returns-in-Drops-clause-fewer c =
    let at = sym c.nth.ensures ∙ ap option_copied c.in-Some.is in
    let is : concerns c.args.step c.in-Some.object.now.kind ≡ true = c.requires.concerned c.in-Some.object.now at in
    let tally = c.nth_tally-tally.ensures c.in-Some.object.now at in
    let left = ap (left_of c.in-Some.object.now) (sym c.in-Drops.is) ∙ c.worn.ensures in
    (subst (λ n. IsTurn c.args.step c.args.place c.args.room.now n c.fall_from.new.room × (tasks c.args.step n c.fall_from.new.room < tasks c.args.step c.args.place c.args.room.now)) (sym c.place_behind.ensures.place) (turned_dropped c.args.step c.args.place c.args.room.now c.in-Some.object.now at c.stands_in_order.ensures.rising c.requires.ready c.nth_tally-tally.result tally is (record { stands = true; object = c.in-Drops.left; falls = c.in-Drops.amount }) left refl c.set-in-Drops.new.self c.fall_from.new.room c.set-in-Drops.ensures c.place_behind.ensures.rising c.fall_from.ensures)).1

pub returns-in-Goes-clause-fewer : goal.returns-in-Goes-clause-fewer
returns-in-Goes-clause-fewer c =
    let at = sym c.nth.ensures ∙ ap option_copied c.in-Some.is in
    let is : concerns c.args.step c.in-Some.object.now.kind ≡ true = c.requires.concerned c.in-Some.object.now at in
    let tally = c.nth_tally-tally.ensures c.in-Some.object.now at in
    let left = ap (left_of c.in-Some.object.now) (sym c.in-Goes.is) ∙ c.worn.ensures in
    (subst (λ n. IsTurn c.args.step c.args.place c.args.room.now n c.fall_all.new.room × (tasks c.args.step n c.fall_all.new.room < tasks c.args.step c.args.place c.args.room.now)) (sym c.place_behind-in-Goes.ensures.place) (turned_gone c.args.step c.args.place c.args.room.now c.in-Some.object.now at c.stands_in_order.ensures.rising c.requires.ready c.nth_tally-tally.result tally is (goes c.in-Goes.gone) left refl c.remove.new.self c.fall_all.new.room c.remove.ensures.table c.place_behind-in-Goes.ensures.rising c.fall_all.ensures)).1
