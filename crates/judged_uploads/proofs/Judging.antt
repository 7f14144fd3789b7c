-- As many uploads are recorded as have results.
use Rattle.std.proofs.Common.{◌≡◌, ℕ, List, [], ◌∷◌, length, suc, refl, ap, arith}
use Rattle.upload_stream.specs.Streams.{Upload}
use Rattle.judged_uploads.specs.Judging.{judged}

pub judged_length : (uploads : List Upload) (numbers : List ℕ) → length numbers ≡ length uploads → length (judged uploads numbers) ≡ length numbers
judged_length [] [] e = refl
judged_length [] (number ∷ more) e = absurd (omega arith)
judged_length (upload ∷ later) [] e = refl
judged_length (upload ∷ later) (number ∷ more) e = ap suc (judged_length later more (omega arith))
