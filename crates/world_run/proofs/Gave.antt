-- What a source gave is all that it had left.
use Rattle.std.proofs.Common.{◌≡◌, List, ℕ, ◌++◌, Option, Some, None, ap, sym, ◌∙◌}
use Rattle.std.proofs.lemmas.List.{append-nil}
use Rattle.world_io.specs.Told.{GaveAll}

pub gave_whole : (new : Option (List ℕ)) (left bytes : List ℕ) → GaveAll (Some left) new bytes → bytes ≡ left
gave_whole None left bytes h = absurd h.consumed
gave_whole (Some rest) left bytes h = sym (h.consumed ∙ ap (λ z. bytes ++ z) h.ended ∙ append-nil bytes)
