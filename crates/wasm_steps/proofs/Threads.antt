-- A thread leaves a block or a frame, branches and returns in one way.
use Rattle.std.proofs.Common.{◌≡◌, ℕ, List, [], refl, subst}
use Rattle.wasm_values.specs.Syntax.{no_ops}
use Rattle.wasm_steps.specs.Threads.{Thread, Leaves, leaves_label, leaves_frame, Branches, branches_here, branches_out, branches_further, Returns, returns_here, returns_further}

-- Two threads behind the end of a block or a frame are equal.
pub leaves_one : {x y z : Thread} → Leaves x y → Leaves x z → y ≡ z
leaves_one leaves_label leaves_label = refl
leaves_one leaves_frame leaves_frame = refl

-- It leaves only behind the last instruction, and only where something stands around.
pub leaves_end : {x y : Thread} → Leaves x y → x.code ≡ no_ops
leaves_end leaves_label = refl
leaves_end leaves_frame = refl

pub leaves_level : {x y : Thread} → Leaves x y → x.levels ≡ [] → ⊥
leaves_level leaves_label e = cc
leaves_level leaves_frame e = cc

-- Two threads behind a branch are equal.
pub branches_one : {target : ℕ} {x y z : Thread} → Branches target x y → Branches target x z → y ≡ z
branches_one branches_here branches_here = refl
branches_one branches_out branches_out = refl
branches_one (branches_further b) (branches_further c) = branches_one b c

-- The same for a branch that takes the same operands.
pub branches_same : (x : Thread) {s t : ℕ} {a b : List ℕ} {y z : Thread} → s ≡ t → a ≡ b → Branches s (record x { operands = a }) y → Branches t (record x { operands = b }) z → y ≡ z
branches_same x {y = y} n e p q = branches_one (subst (λ (w : ℕ × List ℕ). Branches w.0 (record x { operands = w.1 }) y) (λ i. (n i, e i)) p) q

-- Two threads behind a return are equal.
pub returns_one : {x y z : Thread} → Returns x y → Returns x z → y ≡ z
returns_one returns_here returns_here = refl
returns_one (returns_further b) (returns_further c) = returns_one b c
