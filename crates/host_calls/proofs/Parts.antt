-- The parts of a span of bytes, one after the other.
use Rattle.std.proofs.Common.{◌≡◌, ℕ, suc, ◌<◌, ◌==◌, false, List, [], ◌∷◌, ◌++◌, drop, length, get_or, Option, Some, None, option_map, option_and_then, refl, sym, ap, ◌∙◌, append_assoc}
use Rattle.std.specs.Prelude.{IfSome, IfNone}
use Rattle.std.proofs.Math.Seq.{drop-cons}
use Rattle.std.proofs.lemmas.Bool.{ne_eqb}
use Rattle.game_tables.specs.Numbers.{part_number}
use Rattle.game_tables.specs.declared.kind.Part.{Part}
use Rattle.game_tables.specs.declared.kind.Part.TheVariants.{Move, Work, Carry, Attack, RangedAttack, Tough, Heal, Claim}
use Rattle.host_calls.specs.Replies.{part_of, parts_of}

of_its_number : (part : Part) → part_of (part_number part) ≡ Some part
of_its_number Move = refl
of_its_number Work = refl
of_its_number Carry = refl
of_its_number Attack = refl
of_its_number RangedAttack = refl
of_its_number Tough = refl
of_its_number Heal = refl
of_its_number Claim = refl

pub part_is : (number : ℕ) (found : Option Part) → IfSome found (λ part. number ≡ part_number part) → IfNone found ((part : Part) → number ≡ part_number part → ⊥) → part_of number ≡ found
part_is number (Some part) some none = ap part_of some ∙ of_its_number part
part_is number None some none =
    let other : (part : Part) → (part_number part == number) ≡ false = λ part. ne_eqb (part_number part) number (λ same. none part (sym same)) in
    rw (other Move, other Work, other Carry, other Attack, other RangedAttack, other Tough, other Heal, other Claim) refl

-- the parts so far, and those of the bytes behind
abbrev pub AreRead : List ℕ → ℕ → List Part → Type 0
AreRead bytes at body = parts_of bytes ≡ option_map (λ (more : List Part). body ++ more) (parts_of (drop at bytes))

pub none_read : (bytes : List ℕ) → AreRead bytes 0 []
none_read bytes = same (parts_of bytes)
  where
    same : (found : Option (List Part)) → found ≡ option_map (λ (more : List Part). more) found
    same None = refl
    same (Some parts) = refl

module _ (bytes : List ℕ) (at d : ℕ) (body : List Part) (inside : at < length bytes) (read : AreRead bytes at body) where
  abbrev byte : ℕ
  byte = get_or bytes at d

  here : parts_of (drop at bytes) ≡ option_and_then (λ (part : Part). option_map (λ (others : List Part). part ∷ others) (parts_of (drop (suc at) bytes))) (part_of byte)
  here =
      ap parts_of (drop-cons bytes at d inside)

  pub no_part : part_of byte ≡ None → None ≡ parts_of bytes
  no_part none =
      sym (read ∙ ap (option_map (λ (more : List Part). body ++ more)) (here ∙ ap (option_and_then (λ (part : Part). option_map (λ (others : List Part). part ∷ others) (parts_of (drop (suc at) bytes)))) none))

  pub read_more : (part : Part) → part_of byte ≡ Some part → AreRead bytes (suc at) (body ++ part ∷ [])
  read_more part some =
      read
      ∙ ap (option_map (λ (more : List Part). body ++ more)) (here ∙ ap (option_and_then (λ (p : Part). option_map (λ (others : List Part). p ∷ others) (parts_of (drop (suc at) bytes)))) some)
      ∙ joined (parts_of (drop (suc at) bytes))
    where
      joined : (found : Option (List Part)) → option_map (λ (more : List Part). body ++ more) (option_map (λ (others : List Part). part ∷ others) found) ≡ option_map (λ (more : List Part). (body ++ part ∷ []) ++ more) found
      joined None = refl
      joined (Some parts) = ap Some (sym (append_assoc body (part ∷ []) parts))
