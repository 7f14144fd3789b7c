use Rattle.std.proofs.Common.{◌≡◌, ℕ, suc, ◌%◌, slice_index_or, subst, ◌+◌, ◌*◌, drop, length, sym, ap, ◌∙◌, List, arith}
use Rattle.std.proofs.lemmas.List.{drop_all}
use Rattle.wat_tokens.specs.inner.Slots.{hash_from}
use Rattle.wat_tokens.proofs.Slots.{hash_next, hash_nil, less}
use Rattle.wat_tokens.proofs.opcodes.hash_of.Goals as goal

pub each-preserved : goal.each-preserved
each-preserved c =
    let byte : ℕ = c.from.result in
    let word = c.args.word.now in
    let i = c.each.byte-index in
    let one : suc i ≡ i + 1 = omega arith in
    let next = subst (λ (n : ℕ). hash_from c.each.hash (drop i word) ≡ hash_from ((c.each.hash * 61 + slice_index_or word i 0) % 598) (drop n word)) one (hash_next word i c.each.hash 0 c.each-test.true) in
    (less (c.each.hash * 61 + byte), rw c.from.ensures (sym (next) ∙ c.each.invariant.1))

pub returns-clause-same : goal.returns-clause-same
returns-clause-same c =
    sym (hash_nil c.each.hash) ∙ ap (hash_from c.each.hash) (sym (drop_all c.each.byte-index c.args.word.now c.each-test.false)) ∙ c.each.invariant.1
