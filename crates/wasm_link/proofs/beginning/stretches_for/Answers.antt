use Rattle.std.proofs.Common.{ℕ, ◌^◌, All, get_or}
use Rattle.std.proofs.lemmas.Result.{IfOk-weaker}
use Rattle.std.specs.Prelude.{IfOk, Result, Ok, Err}
use Rattle.wasm_link.specs.Linking.{Fits}
use Rattle.wasm_link.specs.inner.Images.{Ends, EndsIn, Valued, IsLow, IsCovered}
use Rattle.wasm_link.proofs.Joins.{all_low_valued, covered_by}
use Rattle.wasm_link.specs.inner.Images.{IsHeld}
use Rattle.wasm_link.proofs.beginning.stretches_for.Goals as goal

both : {T E : Type 0} (r : Result T E) (P Q R : T → Type 0) → ((x : T) → P x → Q x → R x) → IfOk r P → IfOk r Q → IfOk r R
both (Ok x) P Q R f p q = f x p q
both (Err e) P Q R f p q = tt

pub returns-clause-small : goal.returns-clause-small
returns-clause-small g c =
    both c.stretches_of.result (λ stretches. All IsLow stretches.items) (λ stretches. (size : ℕ) → All (EndsIn size) c.in_ok-intervals_of.field-0.items → All (Ends size) stretches.items) (λ stretches. All (Valued (2 ^ 32)) stretches.items)
    (λ stretches low h. all_low_valued (2 ^ 32) stretches.items low (h (2 ^ 32) (c.in_ok-intervals_of.ensures.ends (2 ^ 32) c.requires))) c.stretches_of.ensures.low c.stretches_of.ensures.within

pub returns-clause-ends : goal.returns-clause-ends
returns-clause-ends g c =
    IfOk-weaker c.stretches_of.result (λ stretches. (size : ℕ) → All (EndsIn size) c.in_ok-intervals_of.field-0.items → All (Ends size) stretches.items) (λ stretches. (size : ℕ) → All (λ segment. Fits (g.S.Placed.span size segment)) c.args.segments.now → All (Ends size) stretches.items)
    (λ stretches h size fit. h size (c.in_ok-intervals_of.ensures.ends size fit)) c.stretches_of.ensures.within

pub returns-clause-covered : goal.returns-clause-covered
returns-clause-covered g c =
    let intervals = c.in_ok-intervals_of.field-0.items in
    IfOk-weaker c.stretches_of.result (λ stretches. All (IsHeld stretches.items) intervals) (λ stretches. All (λ segment. IsCovered stretches.items (g.S.Placed.span 0 segment)) c.args.segments.now)
    (λ stretches held k d below. covered_by intervals stretches.items (g.S.Placed.span 0 (get_or c.args.segments.now k d)) held (c.in_ok-intervals_of.ensures.each k d below 0)) c.stretches_of.ensures.held
