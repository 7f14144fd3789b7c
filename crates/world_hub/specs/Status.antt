-- The rule of the status.
use Rattle.std.specs.Prelude.{◌≡◌, ℕ, ◌≤◌, List, [], ◌∷◌, ◌++◌, length}
use mathlib.Core.Option.{some}
use lib.ListN.{get_elem?}
use Rattle.world_hub.specs.declared.summary.Summary.{Summary}
use Rattle.world_hub.specs.declared.status.Shown.{Shown}
use Rattle.world_hub.specs.declared.status.Sight.{Sight}

abbrev pub no_sight : Sight
no_sight = record { published = []; reads = [] }

abbrev pub seen : Sight → Shown → Sight
seen v x = record v { reads = v.reads ++ x ∷ [] }

abbrev pub told : Sight → List Summary → Sight
told v all = record v { published = all }

-- no read is of a later place
abbrev pub NoneLater : ℕ → List Shown → Type 0
NoneLater place reads = (k : ℕ) (x : Shown) → get_elem? reads k ≡ some x → x.place ≤ place

abbrev pub NeverFall : List Shown → Type 0
NeverFall reads = (j k : ℕ) (x y : Shown) → j ≤ k → get_elem? reads j ≡ some x → get_elem? reads k ≡ some y
    → x.place ≤ y.place

abbrev pub StartsWith : List Summary → List Summary → Type 0
StartsWith all known = (rest : List Summary) × (all ≡ known ++ rest)

-- what a view knows of all that was published
pub record Knows (all : List Summary) (v : Sight) : Type 0 where
  pub published : StartsWith all v.published
  pub reads : (k : ℕ) (x : Shown) → get_elem? v.reads k ≡ some x → get_elem? all x.place ≡ some x.summary
  pub rise : NeverFall v.reads

-- the shared value is the last that was published, and its place
pub record Stands (x : Shown) (views : List Sight) : Type 0 where
  pub earlier : List Summary
  pub place : length earlier ≡ x.place
  pub each : (seat : ℕ) (v : Sight) → get_elem? views seat ≡ some v → Knows (earlier ++ x.summary ∷ []) v

abbrev pub Opens : Sight → Shown → Shown → Sight → Type 0
Opens v x y w = w ≡ told v (y.summary ∷ [])

abbrev pub Publishes : Sight → Shown → Shown → Sight → Type 0
Publishes v x y w = w ≡ told v (v.published ++ y.summary ∷ [])

-- the value x was read, and it has no earlier place than a read before it
abbrev pub Reads : Sight → Shown → Shown → Sight → Type 0
Reads v x y w = (w ≡ seen v x) × NoneLater x.place v.reads

-- The summary is what one read gave, and the read is one more of the view's
pub record ReadOne (v w : Sight) (s : Summary) : Type 0 where
  pub shown : Shown
  pub reads : Reads v shown shown w
  pub same : s ≡ shown.summary
