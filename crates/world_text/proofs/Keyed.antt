-- The first fault of the keys' checks is one of the bytes.
use Rattle.std.proofs.Common.{◌≢◌, ℕ, List}
use Rattle.serde_json.specs.Data.{Data}
use Rattle.world_form.specs.declared.fault.WorldFault.{WorldFault}
use Rattle.world_form.specs.declared.fault.WorldFault.TheVariants as faults
use Rattle.world_form.specs.FirstFaults.{IsFirst, world_checks}
use Rattle.world_form.specs.Files.{HasValue, HasFault, HasKeyFault}
use Rattle.world_form.proofs.Decided.{IsOfKey, first_of_key}

of_bytes : (bytes : List ℕ) (fault : WorldFault) → IsOfKey fault → HasKeyFault bytes fault → HasFault bytes fault
of_bytes bytes faults.TooLong of first = absurd of
of_bytes bytes faults.NotJson of first = absurd of
of_bytes bytes (faults.Missing field) of first = first
of_bytes bytes (faults.BadValue field place) of first = first
of_bytes bytes (faults.NotBuilt kind) of first = first
of_bytes bytes (faults.Rule rule n) of first = absurd of
of_bytes bytes faults.Memory of first = tt

has_key_fault : (bytes : List ℕ) (value : Data) (fault : WorldFault) → HasValue bytes value → IsFirst (world_checks value) fault → HasFault bytes fault
has_key_fault bytes value fault has first = of_bytes bytes fault (first_of_key value fault first) (value, has, first)

-- The same of a reader that may fail for want of memory.
pub fault_of_keys : (bytes : List ℕ) (value : Data) (fault : WorldFault) → HasValue bytes value → (fault ≢ faults.Memory → IsFirst (world_checks value) fault) → HasFault bytes fault
fault_of_keys bytes value faults.TooLong has first = has_key_fault bytes value faults.TooLong has (first (λ e. cc))
fault_of_keys bytes value faults.NotJson has first = has_key_fault bytes value faults.NotJson has (first (λ e. cc))
fault_of_keys bytes value (faults.Missing field) has first = has_key_fault bytes value (faults.Missing field) has (first (λ e. cc))
fault_of_keys bytes value (faults.BadValue field place) has first = has_key_fault bytes value (faults.BadValue field place) has (first (λ e. cc))
fault_of_keys bytes value (faults.NotBuilt kind) has first = has_key_fault bytes value (faults.NotBuilt kind) has (first (λ e. cc))
fault_of_keys bytes value (faults.Rule rule n) has first = has_key_fault bytes value (faults.Rule rule n) has (first (λ e. cc))
fault_of_keys bytes value faults.Memory has first = tt
