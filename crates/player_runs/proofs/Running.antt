-- Runs of players, one after the other.
use Rattle.std.proofs.Common.{◌≡◌, ℕ, zero, suc, ◌+◌, List, [], ◌∷◌, ◌++◌, length, take, Some, slice_get, refl, sym, ap, subst, ◌∙◌, arith}
use Rattle.object_store.specs.Stored.{Stored}
use Rattle.intent_book.specs.declared.player_run.PlayerRun.{PlayerRun}
use Rattle.player_runs.specs.declared.runs.PlayerModule.{PlayerModule}
use Rattle.player_runs.specs.PlayerRuns.{AreRunsOf, IsRunOf}

-- the players up to one, and with him
pub take_more : (players : List PlayerModule) (k : ℕ) (one : PlayerModule) → slice_get players k ≡ Some one → take k players ++ one ∷ [] ≡ take (suc k) players
take_more [] k one at = absurd cc
take_more (first ∷ players) zero one at = let same : first ≡ one = cc in ap (λ (p : PlayerModule). p ∷ []) (sym same)
take_more (first ∷ players) (suc k) one at = ap (λ (more : List PlayerModule). first ∷ more) (take_more players k one at)

pub all_taken : (players : List PlayerModule) → take (length players) players ≡ players
all_taken [] = refl
all_taken (first ∷ players) = ap (λ (more : List PlayerModule). first ∷ more) (all_taken players)

-- as many runs as players
pub as_many : (world : Stored) (players : List PlayerModule) (runs : List PlayerRun) → AreRunsOf world players runs → length runs ≡ length players
as_many world [] [] each = refl
as_many world [] (run ∷ runs) each = absurd (each 0)
as_many world (one ∷ players) [] each = absurd (each 0)
as_many world (one ∷ players) (run ∷ runs) each = ap suc (as_many world players runs (λ k. each (suc k)))

-- a run more
pub runs_push : (world : Stored) (players : List PlayerModule) (runs : List PlayerRun) (one : PlayerModule) (run : PlayerRun) → AreRunsOf world players runs → IsRunOf world one run → AreRunsOf world (players ++ one ∷ []) (runs ++ run ∷ [])
runs_push world [] [] one run each is zero = is
runs_push world [] [] one run each is (suc k) = tt
runs_push world [] (other ∷ runs) one run each is k = absurd (each 0)
runs_push world (first ∷ players) [] one run each is k = absurd (each 0)
runs_push world (first ∷ players) (other ∷ runs) one run each is zero = each 0
runs_push world (first ∷ players) (other ∷ runs) one run each is (suc k) = runs_push world players runs one run (λ n. each (suc n)) is k

-- the same of the first players
pub first_runs : (world : Stored) (players : List PlayerModule) (k : ℕ) (runs : List PlayerRun) (one : PlayerModule) (run : PlayerRun) → slice_get players k ≡ Some one → AreRunsOf world (take k players) runs → IsRunOf world one run → AreRunsOf world (take (k + 1) players) (runs ++ run ∷ [])
first_runs world players k runs one run at each is =
    let next : suc k ≡ k + 1 = omega arith in
    subst (λ (some : List PlayerModule). AreRunsOf world some (runs ++ run ∷ [])) (take_more players k one at ∙ ap (λ (n : ℕ). take n players) next) (runs_push world (take k players) runs one run each is)
