-- The classes of texts that a map knows.
use Rattle.std.specs.Prelude.{◌≡◌, ℕ, ◌⊎◌, List, Option, Some}
use Rattle.std.specs.Borrow.{Bor}
use Rattle.std.specs.BTreeMap.{BTreeMap, get_by}
use Rattle.std.specs.Cmp.Lexicographic.{slice_cmp}
use Rattle.std.specs.Ordering.{nat_cmp}

abbrev pub class_in : BTreeMap (Bor (List ℕ)) ℕ → List ℕ → Option ℕ
class_in m text = get_by (λ k. slice_cmp nat_cmp text k.now) m

-- The text has this class then, and other texts have theirs as before. Where it had none, it is this number.
pub record Learns (old new : BTreeMap (Bor (List ℕ)) ℕ) (text : List ℕ) (number given : ℕ) : Type 0 where
  pub class : class_in new text ≡ Some given
  pub kept : (other : List ℕ) (c : ℕ) → class_in old other ≡ Some c → class_in new other ≡ Some c
  pub made : (other : List ℕ) (c : ℕ) → class_in new other ≡ Some c
      → (class_in old other ≡ Some c) ⊎ ((text ≡ other) × (number ≡ c))
