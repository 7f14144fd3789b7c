-- What follows a front of a log: open gates, each with its frame.
use Rattle.std.specs.Prelude.{◌≡◌, ℕ, ◌⊎◌, List, ◌∷◌, ◌++◌}
use Rattle.frame_log.specs.Frames.{BeginsClosed, BeginsFrame}

-- In bytes that stand for the whole list, behind a front of these contents: a closed gate, or the frame of
-- the content that comes next.
abbrev pub GoesOn : List (List ℕ) → List (List ℕ) → List ℕ → Type 0
GoesOn whole contents rest =
    BeginsClosed rest
    ⊎ ((content : List ℕ) × (behind : List ℕ) × (later : List (List ℕ))
    × BeginsFrame rest content behind × (whole ≡ contents ++ content ∷ later))
