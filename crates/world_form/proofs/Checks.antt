-- Lists of checks: that all hold, the first fault, and lists joined end to end.
use Rattle.std.proofs.Common.{◌≡◌, ℕ, suc, List, [], ◌∷◌, ◌++◌, inl, inr}
use Rattle.serde_json.specs.Data.{Data, Items, no_items, item}
use Rattle.world_form.specs.declared.fault.WorldFault.{WorldFault}
use Rattle.world_form.specs.Facts.{SayEach}
use Rattle.world_form.specs.FirstFaults.{Check, IsFirst, AllHold, each_from}

-- ---- lists joined end to end

pub hold_append : (checks later : List Check) → AllHold checks → AllHold later → AllHold (checks ++ later)
hold_append [] later here there = there
hold_append (check ∷ checks) later here there = (here.0, hold_append checks later here.1 there)

pub hold_front : (checks later : List Check) → AllHold (checks ++ later) → AllHold checks
hold_front [] later all = tt
hold_front (check ∷ checks) later all = (all.0, hold_front checks later all.1)

pub hold_back : (checks later : List Check) → AllHold (checks ++ later) → AllHold later
hold_back [] later all = all
hold_back (check ∷ checks) later all = hold_back checks later all.1

-- a fault of the first list is one of the whole
pub first_append : (checks later : List Check) (fault : WorldFault) → IsFirst checks fault → IsFirst (checks ++ later) fault
first_append [] later fault first = absurd first
first_append (check ∷ checks) later fault (inl fails) = inl fails
first_append (check ∷ checks) later fault (inr first) = inr (first.0, first_append checks later fault first.1)

-- where the first list holds, a fault of the second is one of the whole
pub first_later : (checks later : List Check) (fault : WorldFault) → AllHold checks → IsFirst later fault → IsFirst (checks ++ later) fault
first_later [] later fault here first = first
first_later (check ∷ checks) later fault here first = inr (here.0, first_later checks later fault here.1 first)

-- ---- checks that fail with one fault, and only where they don't hold

pub record IsExact (check : Check) : Type 0 where
  pub one : (fault other : WorldFault) → check.Fails fault → check.Fails other → fault ≡ other
  pub apart : (fault : WorldFault) → check.Holds → check.Fails fault → ⊥

-- Each of these checks is such.
abbrev pub AllOf : (Check → Type 0) → List Check → Type 0
AllOf P [] = Unit {0}
AllOf P (check ∷ later) = P check × AllOf P later

pub all_of_append : (P : Check → Type 0) (checks later : List Check) → AllOf P checks → AllOf P later → AllOf P (checks ++ later)
all_of_append P [] later here there = there
all_of_append P (check ∷ checks) later here there = (here.0, all_of_append P checks later here.1 there)

pub one_first : (checks : List Check) (fault other : WorldFault) → AllOf IsExact checks → IsFirst checks fault → IsFirst checks other → fault ≡ other
one_first [] fault other exact first second = absurd first
one_first (check ∷ checks) fault other exact (inl fails) (inl also) = exact.0.one fault other fails also
one_first (check ∷ checks) fault other exact (inl fails) (inr second) = absurd (exact.0.apart fault second.0 fails)
one_first (check ∷ checks) fault other exact (inr first) (inl also) = absurd (exact.0.apart other first.0 also)
one_first (check ∷ checks) fault other exact (inr first) (inr second) = one_first checks fault other exact.1 first.1 second.1

pub no_first : (checks : List Check) (fault : WorldFault) → AllOf IsExact checks → AllHold checks → IsFirst checks fault → ⊥
no_first [] fault exact hold first = first
no_first (check ∷ checks) fault exact hold (inl fails) = exact.0.apart fault hold.0 fails
no_first (check ∷ checks) fault exact hold (inr first) = no_first checks fault exact.1 hold.1 first.1

-- a fault of checks that fail only with such faults
pub first_such : (P : WorldFault → Type 0) (checks : List Check) (fault : WorldFault) → AllOf (λ check. (fault : WorldFault) → check.Fails fault → P fault) checks → IsFirst checks fault → P fault
first_such P [] fault such first = absurd first
first_such P (check ∷ checks) fault such (inl fails) = such.0 fault fails
first_such P (check ∷ checks) fault such (inr first) = first_such P checks fault such.1 first.1

-- ---- checks of which one fails where not all hold

-- It is not so that the check neither holds nor fails.
abbrev pub IsDecided : Check → Type 0
IsDecided check = (check.Holds → ⊥) → ((fault : WorldFault) → check.Fails fault → ⊥) → ⊥

-- Each check is decided where the earlier ones hold.
abbrev pub AreDecided : List Check → Type 0
AreDecided [] = Unit {0}
AreDecided (check ∷ later) = IsDecided check × (check.Holds → AreDecided later)

pub decided_append : (checks later : List Check) → AreDecided checks → AreDecided later → AreDecided (checks ++ later)
decided_append [] later here there = there
decided_append (check ∷ checks) later here there = (here.0, λ holds. decided_append checks later (here.1 holds) there)

pub some_first : (checks : List Check) → AreDecided checks → (AllHold checks → ⊥) → ((fault : WorldFault) → IsFirst checks fault → ⊥) → ⊥
some_first [] decided not none = not tt
some_first (check ∷ checks) decided not none =
    decided.0 (λ holds. some_first checks (decided.1 holds) (λ all. not (holds, all)) (λ fault first. none fault (inr (holds, first)))) (λ fault fails. none fault (inl fails))

-- ---- the values of a list

pub each_hold : {A : Type 0} (Says : Data → A → Type 0) (checks : ℕ → Data → List Check) → ((place : ℕ) (value : Data) (said : A) → Says value said → AllHold (checks place value))
    → (place : ℕ) (values : Items) (list : List A) → SayEach Says values list → AllHold (each_from checks place values)
each_hold Says checks hold place no_items [] each = tt
each_hold Says checks hold place no_items (said ∷ list) each = absurd each
each_hold Says checks hold place (item value values) [] each = absurd each
each_hold Says checks hold place (item value values) (said ∷ list) each =
    hold_append (checks place value) (each_from checks (suc place) values) (hold place value said each.0) (each_hold Says checks hold (suc place) values list each.1)

pub each_held : {A : Type 0} (Says : Data → A → Type 0) (checks : ℕ → Data → List Check) → ((place : ℕ) (value : Data) → AllHold (checks place value) → (said : A) × Says value said)
    → (place : ℕ) (values : Items) → AllHold (each_from checks place values) → (list : List A) × SayEach Says values list
each_held Says checks held place no_items hold = ([], tt)
each_held Says checks held place (item value values) hold =
    let front = held place value (hold_front (checks place value) (each_from checks (suc place) values) hold) in
    let back = each_held Says checks held (suc place) values (hold_back (checks place value) (each_from checks (suc place) values) hold) in
    (front.0 ∷ back.0, (front.1, back.1))
