-- One more value of a list: what it says, its checks, and its first fault.
use Rattle.std.proofs.Common.{◌≡◌, ℕ, suc, ◌+◌, List, [], ◌∷◌, ◌++◌, length, subst, arith}
use Rattle.serde_json.specs.Data.{Data}
use Rattle.serde_json.specs.View.{items_of}
use Rattle.world_form.specs.declared.fault.WorldFault.{WorldFault}
use Rattle.world_form.specs.Facts.{SayEach}
use Rattle.world_form.specs.FirstFaults.{Check, IsFirst, AllHold, each_from}
use Rattle.world_form.proofs.Checks.{hold_append, hold_front, hold_back, first_append, first_later}

pub each_said_push : {A : Type 0} (Says : Data → A → Type 0) (values : List Data) (list : List A) (value : Data) (said : A) → SayEach Says (items_of values) list → Says value said → SayEach Says (items_of (values ++ value ∷ [])) (list ++ said ∷ [])
each_said_push Says [] [] value said each here = (here, tt)
each_said_push Says [] (other ∷ list) value said each here = absurd each
each_said_push Says (first ∷ values) [] value said each here = absurd each
each_said_push Says (first ∷ values) (other ∷ list) value said each here = (each.0, each_said_push Says values list value said each.1 here)

pub each_hold_push : (checks : ℕ → Data → List Check) (place : ℕ) (values : List Data) (last : ℕ) (value : Data) → last ≡ place + length values
    → AllHold (each_from checks place (items_of values)) → AllHold (checks last value) → AllHold (each_from checks place (items_of (values ++ value ∷ [])))
each_hold_push checks place [] last value at hold here =
    let same : last ≡ place = omega arith in
    hold_append (checks place value) [] (subst (λ place. AllHold (checks place value)) same here) tt
each_hold_push checks place (first ∷ values) last value at hold here =
    let later = each_from checks (suc place) (items_of values) in
    hold_append (checks place first) (each_from checks (suc place) (items_of (values ++ value ∷ []))) (hold_front (checks place first) later hold)
    (each_hold_push checks (suc place) values last value (omega arith) (hold_back (checks place first) later hold) here)

-- a fault of a value is the first of the list's where the values before it hold
pub each_first_push : (checks : ℕ → Data → List Check) (place : ℕ) (values : List Data) (last : ℕ) (value : Data) (more : List Data) (fault : WorldFault) → last ≡ place + length values
    → AllHold (each_from checks place (items_of values)) → IsFirst (checks last value) fault → IsFirst (each_from checks place (items_of (values ++ value ∷ more))) fault
each_first_push checks place [] last value more fault at hold here =
    let same : last ≡ place = omega arith in
    first_append (checks place value) (each_from checks (suc place) (items_of more)) fault (subst (λ place. IsFirst (checks place value) fault) same here)
each_first_push checks place (first ∷ values) last value more fault at hold here =
    let later = each_from checks (suc place) (items_of values) in
    first_later (checks place first) (each_from checks (suc place) (items_of (values ++ value ∷ more))) fault (hold_front (checks place first) later hold)
    (each_first_push checks (suc place) values last value more fault (omega arith) (hold_back (checks place first) later hold) here)
