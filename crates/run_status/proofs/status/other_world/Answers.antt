use Rattle.std.proofs.Common.{◌≡◌, ◌∙◌, ◌++◌, ◌∷◌, [], ap, codes, List, ℕ, append_assoc}
use Rattle.std.specs.Prelude.{decimal}
use Rattle.std.specs.String.{string_bytes}
use Rattle.run_status.specs.Faults.{byte_text}
use Rattle.run_status.proofs.status.other_world.Goals as goal

regroup : (a k g : List ℕ) → a ++ 32 ∷ (k ++ 32 ∷ g) ≡ (((a ++ 32 ∷ []) ++ k) ++ 32 ∷ []) ++ g
regroup a k g = simp append_assoc

pub returns : goal.returns
returns c =
    let one = c.in_ok-one.ensures in
    let other = c.in_ok-other.ensures in
    let texts : decimal c.args.at ++ 32 ∷ (string_bytes c.in_ok-one.one ++ 32 ∷ string_bytes c.in_ok-other.other)
    ≡ decimal c.args.at ++ 32 ∷ (byte_text c.args.kept ++ 32 ∷ byte_text c.args.given) =
    λ i. decimal c.args.at ++ 32 ∷ (one i ++ 32 ∷ other i) in
    c.in_ok-text.ensures.ok ∙ ap (λ (l : List ℕ). codes "OtherWorld " ++ l) (texts ∙ regroup (decimal c.args.at) (byte_text c.args.kept) (byte_text c.args.given))
