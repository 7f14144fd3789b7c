-- How runs of calls go on, and what they leave.
use Rattle.std.proofs.Common.{◌≡◌, inl, inr, ℕ, List, [], ◌∷◌, Option, Some, None, IfSome, Result, Ok, Err, OnOk, OnErr, sym, subst}
use Rattle.world_io.specs.Moments.{Moment, settled, Goes, Settles, IsLeftNow, LeavesOnly, LeavesSince, no_moment, and_then, LeavesNow, Rests}
use Rattle.world_io.proofs.Images.{image_settled}

pub since_trans : {P : List ℕ → Type 0} {old mid new : List Moment} → LeavesSince P old mid
    → LeavesSince P mid new → LeavesSince P old new
since_trans first no_moment = first
since_trans first (and_then more here) = and_then (since_trans first more) here

pub since_weaken : {P Q : List ℕ → Type 0} {old new : List Moment} → ((image : List ℕ) → P image → Q image)
    → LeavesSince P old new → LeavesSince Q old new
since_weaken weaker no_moment = no_moment
since_weaken weaker (and_then more here) =
    and_then (since_weaken weaker more) (λ image is. weaker image (here image is))

-- a step from a disk that rests
pub since_step : {P : List ℕ → Type 0} (step : Moment → Moment) (bytes : List ℕ) (seen : Option (List ℕ))
    (before after : List Moment) → Rests bytes seen before → Goes step before after
    → LeavesOnly P (step (settled bytes)) → LeavesSince P before after
since_step {P} step bytes seen before after rests (inl same) leaves =
    subst (λ m. LeavesSince P before m) (sym same) no_moment
since_step {P} step bytes seen before after rests (inr goes) leaves =
    let begun = rw rests.settled_now at goes in
    rw (begun, rests.settled_now) (and_then no_moment leaves)

-- a sync, of what has P
pub since_sync : {P : List ℕ → Type 0} {T E : Type 0} (result : Result T E) (bytes : List ℕ)
    (seen : Option (List ℕ)) (old before after : List Moment) → LeavesSince P old before → seen ≡ Some bytes
    → P bytes
    → OnOk result (Settles seen before after) → OnErr result (after ≡ before) → LeavesSince P old after
since_sync {P} (Ok x) bytes seen old before after so_far read here settles failed =
    let to = rw read at settles in
    subst (λ m. LeavesSince P old m) (sym to)
    (and_then so_far (λ image is. subst P (sym (image_settled bytes image is)) here))
since_sync {P} (Err e) bytes seen old before after so_far read here settles failed =
    subst (λ m. LeavesSince P old m) (sym failed) so_far

-- what a crash leaves at the latest of the moments
pub left_now : {P : List ℕ → Type 0} {old new : List Moment} → LeavesNow P old → LeavesSince P old new
    → LeavesNow P new
left_now first no_moment = first
left_now first (and_then more here) = here

-- what is read has what each image now has
pub read_has : (P : List ℕ → Type 0) (bytes : List ℕ) (moments : List Moment) → IsLeftNow (Some bytes) moments
    → LeavesNow P moments → P bytes
read_has P bytes [] left leaves = absurd left
read_has P bytes (now ∷ past) left leaves = leaves bytes left

-- a sync from any state
pub again : (P : List ℕ → Type 0) {T E : Type 0} (result : Result T E) (seen : Option (List ℕ))
    (before after : List Moment) → IsLeftNow seen before → LeavesNow P before
    → OnOk result (Settles seen before after) → OnErr result (after ≡ before) → LeavesSince P before after
again P (Ok x) None before after left leaves settles failed =
    subst (λ m. LeavesSince P before m) (sym settles) no_moment
again P (Ok x) (Some bytes) before after left leaves settles failed =
    subst (λ m. LeavesSince P before m) (sym settles)
    (and_then no_moment (λ image is. subst P (sym (image_settled bytes image is))
    (read_has P bytes before left leaves)))
again P (Err e) seen before after left leaves settles failed =
    subst (λ m. LeavesSince P before m) (sym failed) no_moment

pub again_done : (P : List ℕ → Type 0) (seen now : Option (List ℕ)) (before after : List Moment)
    → IsLeftNow seen before → LeavesNow P before → now ≡ seen → Settles seen before after
    → IfSome seen (λ bytes. Rests bytes now after × P bytes)
again_done P None now before after left leaves same settles = tt
again_done P (Some bytes) now before after left leaves same settles =
    (record { read = same; past = before; settled_now = settles }, read_has P bytes before left leaves)

pub on_ok : {T E A B : Type 0} (result : Result T E) → OnOk result A → (A → B) → OnOk result B
on_ok (Ok x) holds then = then holds
on_ok (Err e) holds then = tt
