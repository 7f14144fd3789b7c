-- Lists of values whose numbers rise.
use Rattle.std.proofs.Common.{◌≡◌, ◌↔◌, ℕ, zero, suc, true, ◌+◌, ◌-◌, ◌<◌, List, [], ◌∷◌, ◌++◌, length, slice_get, get_or, Some, sym, subst, refl, arith}
use Rattle.std.proofs.lemmas.Bool.{ltb-true, lt-ltb}
use Rattle.std.proofs.Math.Dec.{ltb}
use Rattle.std.specs.List.{AllByRecursion}
use Rattle.object_store.proofs.Accounts.{all_push}
use Rattle.tick_journal.specs.TickForms.{IsRisingBy}

-- each value comes before a later one
pub rising_before : {V : Type 0} (number : V → ℕ) (read : List V) (value : V) (more : List V) → IsRisingBy number (read ++ value ∷ more) → AllByRecursion (λ earlier. number earlier < number value) read
rising_before number [] value more rising = tt
rising_before number (x ∷ read) value more rising = (first number x read value more rising.0, rising_before number read value more rising.1)
  where
    first : {V : Type 0} (number : V → ℕ) (x : V) (read : List V) (value : V) (more : List V) → AllByRecursion (λ later. number x < number later) (read ++ value ∷ more) → number x < number value
    first number x [] value more all = all.0
    first number x (y ∷ read) value more all = first number x read value more all.1

-- a value that comes behind all makes a longer rising list
pub rising_push : {V : Type 0} (number : V → ℕ) (read : List V) (value : V) → IsRisingBy number read → AllByRecursion (λ earlier. number earlier < number value) read → IsRisingBy number (read ++ value ∷ [])
rising_push number [] value rising all = (tt, tt)
rising_push number (x ∷ read) value rising all =
    (all_push (λ later. number x < number later) read value rising.0 all.0, rising_push number read value rising.1 all.1)

-- ---- the last value

last_before : {V : Type 0} (number : V → ℕ) (list : List V) (last : V) (n k : ℕ) → suc k ≡ length list → slice_get list k ≡ Some last → AllByRecursion (λ earlier. number earlier < n) list → number last < n
last_before number [] last n k size at all = absurd (omega arith)
last_before {V} number (x ∷ list) last n zero size at all =
    let same : x ≡ last = cc in
    subst (λ (z : V). number z < n) same all.0
last_before number (x ∷ list) last n (suc k) size at all = last_before number list last n k (omega arith) at all.1

before_last : {V : Type 0} (number : V → ℕ) (list : List V) (last : V) (n k : ℕ) → IsRisingBy number list → suc k ≡ length list → slice_get list k ≡ Some last → number last < n → AllByRecursion (λ earlier. number earlier < n) list
before_last number [] last n k rising size at below = tt
before_last {V} number (x ∷ []) last n zero rising size at below =
    let same : last ≡ x = cc in
    (subst (λ (z : V). number z < n) same below, tt)
before_last number (x ∷ []) last n (suc k) rising size at below = absurd (omega arith)
before_last number (x ∷ y ∷ list) last n zero rising size at below = absurd (omega arith)
before_last number (x ∷ y ∷ list) last n (suc k) rising size at below =
    let rest = before_last number (y ∷ list) last n k rising.1 (omega arith) at below in
    let first : number x < number y = rising.0.0 in
    let next : number y < n = rest.0 in
    let front : number x < n = omega arith in
    (front, rest)

-- a number is greater than those of all where it is greater than the last one's
pub behind_last : {V : Type 0} (number : V → ℕ) (list : List V) (last : V) (n : ℕ) → IsRisingBy number list → Some last ≡ slice_get list (length list - 1) → (number last < n) ↔ AllByRecursion (λ earlier. number earlier < n) list
behind_last number [] last n rising at = cc
behind_last {V} number (x ∷ list) last n rising at =
    let size : suc (length list) ≡ length (x ∷ list) = refl in
    let place : slice_get (x ∷ list) (length list) ≡ Some last = subst (λ (k : ℕ). slice_get (x ∷ list) k ≡ Some last) (omega arith) (sym at) in
    (λ below. before_last number (x ∷ list) last n (length list) rising size place below, λ all. last_before number (x ∷ list) last n (length list) size place all)

pub behind_last_test : {V : Type 0} (number : V → ℕ) (list : List V) (last : V) (n : ℕ) → IsRisingBy number list → Some last ≡ slice_get list (length list - 1) → (ltb (number last) n ≡ true) ↔ AllByRecursion (λ earlier. number earlier < n) list
behind_last_test number list last n rising at =
    let both = behind_last number list last n rising at in
    (λ below. both.0 (ltb-true (number last) n below), λ all. lt-ltb (number last) n (both.1 all))

-- ---- by places

pub rising_at : {V : Type 0} (number : V → ℕ) (list : List V) (k : ℕ) (d : V) → IsRisingBy number list → k + 1 < length list → number (get_or list k d) < number (get_or list (k + 1) d)
rising_at number [] k d rising within = absurd (omega arith)
rising_at number (x ∷ []) k d rising within = absurd (omega arith)
rising_at number (x ∷ y ∷ list) zero d rising within = rising.0.0
rising_at number (x ∷ y ∷ list) (suc k) d rising within =
    let next : suc (k + 1) ≡ suc k + 1 = omega arith in
    let P : ℕ → Type 0 = λ n. number (get_or (x ∷ y ∷ list) (suc k) d) < number (get_or (x ∷ y ∷ list) n d) in
    subst P next (rising_at number (y ∷ list) k d rising.1 (omega arith))

from_head : {V : Type 0} (number : V → ℕ) (x y : V) (list : List V) → number x < number y → AllByRecursion (λ later. number y < number later) list → AllByRecursion (λ later. number x < number later) list
from_head number x y [] less all = tt
from_head number x y (z ∷ list) less all =
    let next : number y < number z = all.0 in
    let first : number x < number z = omega arith in
    (first, from_head number x y list less all.1)

pub rising_from : {V : Type 0} (number : V → ℕ) (list : List V) → ((k : ℕ) (d : V) → k + 1 < length list → number (get_or list k d) < number (get_or list (k + 1) d)) → IsRisingBy number list
rising_from number [] up = tt
rising_from number (x ∷ []) up = (tt, tt)
rising_from {V} number (x ∷ y ∷ list) up =
    let later = λ (k : ℕ) (d : V) (within : k + 1 < length (y ∷ list)).
    let next : suc k + 1 ≡ suc (k + 1) = omega arith in
    let P : ℕ → Type 0 = λ n. number (get_or (x ∷ y ∷ list) (suc k) d) < number (get_or (x ∷ y ∷ list) n d) in
    subst P next (up (suc k) d (omega arith)) in
    let rest : IsRisingBy number (y ∷ list) = rising_from number (y ∷ list) later in
    let first : number x < number y = up 0 x (omega arith) in
    ((first, from_head number x y list first rest.0), rest)
