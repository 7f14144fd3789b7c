-- The answer to the bytes that a source gave.
use Rattle.std.proofs.Common.{◌≡◌, List, ℕ, Option, Some, ◌⊎◌, inl, inr, subst}
use Rattle.world_io.specs.Told.{GaveAll}
use Rattle.world_run.proofs.Gave.{gave_whole}
use Rattle.world_tools.specs.Checks.{Checks, IsAnswer, ReadsAnswer}
use Rattle.run_status.specs.declared.status.Status.{Status}
use Rattle.run_status.specs.declared.status.Status.TheVariants.{Memory}

pub answers : (old new : Option (List ℕ)) (bytes : List ℕ) (status : Status)
    → GaveAll old new bytes → (status ≡ Memory) ⊎ Checks bytes status → IsAnswer status → ReadsAnswer old new status
answers old new bytes status gave (inl wanted) answered = absurd (subst IsAnswer wanted answered)
answers old new bytes status gave (inr checks) answered = inl (bytes, gave, checks)

pub calls_for : (old new : Option (List ℕ)) (left bytes : List ℕ) (status : Status)
    → old ≡ Some left → GaveAll old new bytes → (status ≡ Memory) ⊎ Checks bytes status → (status ≡ Memory) ⊎ Checks left status
calls_for old new left bytes status told gave h =
    let whole : bytes ≡ left = gave_whole new left bytes (subst (λ o. GaveAll o new bytes) told gave) in
    subst (λ bs. (status ≡ Memory) ⊎ Checks bs status) whole h
