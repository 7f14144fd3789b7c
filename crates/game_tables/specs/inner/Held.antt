-- How a body holds its parts in an array of 50.
use Rattle.std.specs.Prelude.{◌≡◌, ℕ, ◌-◌, ◌≤◌, List, ◌++◌, length, take, replicate}
use Rattle.std.proofs.Common.{sym, subst}
use Rattle.std.proofs.lemmas.List.{length-take-le}
use Rattle.game_tables.specs.declared.kind.Part.{Part}
use Rattle.game_tables.specs.declared.kind.Part.TheVariants.{Move}
use Rattle.game_tables.specs.declared.body.Body.TheInside.{Inside}

-- the parts, without what stands past their end
abbrev pub parts_of : Inside → List Part
parts_of body = take body.len body.parts

-- At most 50 parts, and only `Move` past their end.
pub record IsHeld (body : Inside) : Type 0 where
  pub within : body.len ≤ length body.parts
  pub places : length body.parts ≡ 50
  pub rest : body.parts ≡ take body.len body.parts ++ replicate (50 - body.len) Move

-- how a list of parts is held
abbrev pub held : List Part → Inside
held parts = record { parts = parts ++ replicate (50 - length parts) Move; len = length parts }

-- Holding the parts of a body gives that body.
pub held_ok : (body : Inside) → IsHeld body → held (parts_of body) ≡ body
held_ok body h =
    let size : length (take body.len body.parts) ≡ body.len = length-take-le body.len body.parts h.within in
    let same : take body.len body.parts ++ replicate (50 - length (take body.len body.parts)) Move
    ≡ body.parts = subst (λ (n : ℕ). take body.len body.parts ++ replicate (50 - n) Move ≡ body.parts)
    (sym size) (sym h.rest) in
    λ i. record { parts = same i; len = size i }
