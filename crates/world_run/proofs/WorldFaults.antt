-- The fault of a world file that was read, and the status for it.
use Rattle.std.proofs.Common.{◌≡◌, ◌≢◌, ℕ, ◌^◌, ◌≤◌, List, length, Option, refl, subst, arith}
use Rattle.world_io.specs.Told.{GaveAll}
use Rattle.world_rules.specs.World.{World}
use Rattle.world_form.specs.Files.{HasFault, WorldForm}
use Rattle.world_form.specs.declared.fault.WorldFault.{WorldFault}
use Rattle.world_form.specs.declared.fault.WorldFault.TheVariants as faults
use Rattle.world_run.specs.Runs.{ReadsFault}
use Rattle.world_run.specs.inner.Stages.{IsOfWorld, status_of_fault}
use Rattle.run_status.specs.declared.status.Status.TheVariants as statuses

pub fault_read : (old new : Option (List ℕ)) (bytes : List ℕ) (fault other : WorldFault) → GaveAll old new bytes → length bytes ≤ 2 ^ 26 → HasFault bytes fault → status_of_fault fault ≡ statuses.World other → ReadsFault old new other
fault_read old new bytes faults.TooLong other all short has is = absurd (omega arith)
fault_read old new bytes faults.Memory other all short has is = absurd cc
fault_read old new bytes faults.NotJson other all short has is = let same : faults.NotJson ≡ other = cc in subst (ReadsFault old new) same (bytes, all, has)
fault_read old new bytes (faults.Missing field) other all short has is = let same : faults.Missing field ≡ other = cc in subst (ReadsFault old new) same (bytes, all, has)
fault_read old new bytes (faults.BadValue field place) other all short has is = let same : faults.BadValue field place ≡ other = cc in subst (ReadsFault old new) same (bytes, all, has)
fault_read old new bytes (faults.NotBuilt kind) other all short has is = let same : faults.NotBuilt kind ≡ other = cc in subst (ReadsFault old new) same (bytes, all, has)
fault_read old new bytes (faults.Rule rule n) other all short has is = let same : faults.Rule rule n ≡ other = cc in subst (ReadsFault old new) same (bytes, all, has)

pub fault_of_world : (fault : WorldFault) → IsOfWorld (status_of_fault fault)
fault_of_world faults.Memory = tt
fault_of_world fault = tt

pub fault_not_read : (fault : WorldFault) → status_of_fault fault ≡ statuses.ReadFault → ⊥
fault_not_read faults.Memory is = absurd cc
fault_not_read fault is = absurd cc

pub fault_memory : (fault : WorldFault) (bytes : List ℕ) (found : World) → (fault ≢ faults.Memory → (world : World) → WorldForm bytes world → ⊥) → WorldForm bytes found → status_of_fault fault ≡ statuses.Memory
fault_memory faults.Memory bytes found none form = refl
fault_memory faults.TooLong bytes found none form = absurd (none (λ is. cc) found form)
fault_memory faults.NotJson bytes found none form = absurd (none (λ is. cc) found form)
fault_memory (faults.Missing field) bytes found none form = absurd (none (λ is. cc) found form)
fault_memory (faults.BadValue field place) bytes found none form = absurd (none (λ is. cc) found form)
fault_memory (faults.NotBuilt kind) bytes found none form = absurd (none (λ is. cc) found form)
fault_memory (faults.Rule rule n) bytes found none form = absurd (none (λ is. cc) found form)

pub ruleset of_faults = (fault_read, fault_of_world, fault_not_read, fault_memory)
