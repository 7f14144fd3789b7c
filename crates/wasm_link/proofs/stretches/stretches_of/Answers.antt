use Rattle.std.proofs.Common.{ℕ, ◌^◌, All, rules}
use Rattle.std.proofs.lemmas.List.Sorted.{IsNonDecreasingBy-from_sort_by_key, IsPermutation-sym, All-permutation}
use Rattle.std.proofs.lemmas.Result.{IfOk-weaker}
use Rattle.wasm_link.specs.inner.Images.{Ends, EndsIn, start_in}
use Rattle.wasm_link.specs.inner.Images.{IsHeld}
use Rattle.wasm_link.proofs.stretches.stretches_of.Goals as goal

pub joined-requires-clause-rising : goal.joined-requires-clause-rising
joined-requires-clause-rising c = rw c.as_slice.ensures.value (IsNonDecreasingBy-from_sort_by_key start_in c.sort_unstable_by_key.new.self.items c.sort_unstable_by_key.ensures.sorted (λ a r q k. search rules))

pub joined-requires-clause-small : goal.joined-requires-clause-small
joined-requires-clause-small c = rw c.as_slice.ensures.value (All-permutation (EndsIn (2 ^ 32)) c.args.intervals.items c.sort_unstable_by_key.new.self.items c.sort_unstable_by_key.ensures.permutation c.requires.small)

pub returns-clause-within : goal.returns-clause-within
returns-clause-within c =
    let all = c.args.intervals.items in
    let sorted = c.sort_unstable_by_key.new.self.items in
    IfOk-weaker c.joined.result (λ stretches. (size : ℕ) → All (EndsIn size) c.as_slice.result.now → All (Ends size) stretches.items) (λ stretches. (size : ℕ) → All (EndsIn size) all → All (Ends size) stretches.items)
    (λ stretches h size ends. h size (rw c.as_slice.ensures.value (All-permutation (EndsIn size) all sorted c.sort_unstable_by_key.ensures.permutation ends))) c.joined.ensures.within

pub returns-clause-held : goal.returns-clause-held
returns-clause-held c =
    let all = c.args.intervals.items in
    let sorted = c.sort_unstable_by_key.new.self.items in
    IfOk-weaker c.joined.result (λ stretches. All (IsHeld stretches.items) c.as_slice.result.now) (λ stretches. All (IsHeld stretches.items) all)
    (λ stretches h. All-permutation (IsHeld stretches.items) sorted all (IsPermutation-sym all sorted c.sort_unstable_by_key.ensures.permutation) (rw (← c.as_slice.ensures.value) h)) c.joined.ensures.held
