use Rattle.std.proofs.Common.{◌≡◌, ◌+◌, ◌-◌, ◌<◌, [], length, drop, refl, arith}
use Rattle.std.proofs.lemmas.List.{drop_all}
use Rattle.wat_grammar.proofs.Comments.{alike_behind, at_end, at_begin, at_byte, no_text, ended, ended_here}
use Rattle.wat_tokens.proofs.scan.comment_length.Goals as goal

pub returns-then-depth-eq0-clause-found : goal.returns-then-depth-eq0-clause-found
returns-then-depth-eq0-clause-found c =
    let rest = c.args.rest.now in
    let one : c.each.depth ≡ 1 = omega arith in
    let step = at_end 0 c.each.depth (drop c.each.at rest) (drop (c.each.at + 2) rest) one (c.in-End.ensures.end refl) in
    (alike_behind 1 c.each.depth 0 rest (drop c.each.at rest) (drop (c.each.at + 2) rest) c.each.invariant.3 step (drop (c.each.at + 2) rest)).1 (ended_here (drop (c.each.at + 2) rest))

pub returns-then-depth-eq0-clause-only : goal.returns-then-depth-eq0-clause-only
returns-then-depth-eq0-clause-only c = λ more s.
    let rest = c.args.rest.now in
    let one : c.each.depth ≡ 1 = omega arith in
    let step = at_end 0 c.each.depth (drop c.each.at rest) (drop (c.each.at + 2) rest) one (c.in-End.ensures.end refl) in
    ended (drop (c.each.at + 2) rest) more ((alike_behind 1 c.each.depth 0 rest (drop c.each.at rest) (drop (c.each.at + 2) rest) c.each.invariant.3 step more).0 s)

pub each-preserved-else-depth-eq0 : goal.each-preserved-else-depth-eq0
each-preserved-else-depth-eq0 c =
    let rest = c.args.rest.now in
    let step = at_end (c.each.depth - 1) c.each.depth (drop c.each.at rest) (drop (c.each.at + 2) rest) (omega arith) (c.in-End.ensures.end refl) in
    let two : c.each.at + 1 < length rest = c.in-End.ensures.two (λ e. cc) in
    (omega arith, omega arith, omega (arith, two), alike_behind 1 c.each.depth (c.each.depth - 1) rest (drop c.each.at rest) (drop (c.each.at + 2) rest) c.each.invariant.3 step)

pub each-preserved-in-Begin : goal.each-preserved-in-Begin
each-preserved-in-Begin c =
    let rest = c.args.rest.now in
    let step = at_begin c.each.depth (drop c.each.at rest) (drop (c.each.at + 2) rest) c.each.invariant.0 (c.in-Begin.ensures.begin refl) in
    let two : c.each.at + 1 < length rest = c.in-Begin.ensures.two (λ e. cc) in
    (omega arith, omega arith, omega (arith, two), alike_behind 1 c.each.depth (c.each.depth + 1) rest (drop c.each.at rest) (drop (c.each.at + 2) rest) c.each.invariant.3 step)

pub each-preserved : goal.each-preserved
each-preserved c =
    let rest = c.args.rest.now in
    let found = c.in-None.ensures.none refl in
    let step = at_byte c.each.depth found.0 (drop c.each.at rest) (drop (c.each.at + 1) rest) c.each.invariant.0 found.1 found.2 in
    (omega arith, omega arith, omega arith, alike_behind 1 c.each.depth c.each.depth rest (drop c.each.at rest) (drop (c.each.at + 1) rest) c.each.invariant.3 step)

pub returns-clause-none : goal.returns-clause-none
returns-clause-none c = λ more s.
    let rest = c.args.rest.now in
    let none : drop c.each.at rest ≡ [] = drop_all c.each.at rest (omega arith) in
    no_text c.each.depth (drop c.each.at rest) more c.each.invariant.0 none ((c.each.invariant.3 more).0 s)
