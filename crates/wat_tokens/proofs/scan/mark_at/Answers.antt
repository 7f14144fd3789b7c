use Rattle.std.proofs.Common.{◌≡◌, ◌+◌, [], get_or, drop, arith}
use Rattle.std.proofs.lemmas.List.{drop_all}
use Rattle.wat_tokens.proofs.Scans.{first_of, none_begins}
use Rattle.wat_tokens.proofs.scan.mark_at.Goals as goal

pub returns-then-at-rest-clause-none : goal.returns-then-at-rest-clause-none
returns-then-at-rest-clause-none c = λ _.
    let rest = c.args.rest.now in
    let none : drop (c.args.at + 1) rest ≡ [] = drop_all (c.args.at + 1) rest (omega arith) in
    (get_or rest c.args.at 0, first_of rest c.args.at c.requires, (λ e. none_begins (λ next. next ≡ 0x29) (drop (c.args.at + 1) rest) none, λ e. none_begins (λ next. next ≡ 0x3b) (drop (c.args.at + 1) rest) none))
