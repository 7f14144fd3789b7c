-- Fronts of a log: open gates, each with its frame, up to a gate that comes next.
use Rattle.std.proofs.Common.{◌≡◌, inl, inr, ℕ, ◌+◌, List, [], ◌∷◌, ◌++◌, length, refl, sym, ◌∙◌, ap, arith, append_assoc, length-append}
use Rattle.frame_log.specs.Frames.{frame, Spells, no_content, one_more, BeginsFrame, BeginsClosed, IsEmpty}
use Rattle.frame_log.specs.inner.Fronts.{GoesOn}
use Rattle.frame_log.proofs.Frames.{frame_size, spells_more}
use Rattle.frame_log.proofs.Once.{one_frame}

-- no gate is both closed and open
pub closed_or_open : (bytes content behind : List ℕ) → BeginsClosed bytes → BeginsFrame bytes content behind → ⊥
closed_or_open bytes content behind shut begins =
    let both : begins.gate ∷ (frame content ++ behind) ≡ 0 ∷ shut.0 = sym begins.split ∙ shut.1 in
    let zero : begins.gate ≡ 0 = cc in
    omega (arith, zero, begins.is_open)

-- one content stands behind an open gate
pub begins_once : (bytes content other behind more : List ℕ) → BeginsFrame bytes content behind → BeginsFrame bytes other more → (content ≡ other) × (behind ≡ more)
begins_once bytes content other behind more one also =
    let both : one.gate ∷ (frame content ++ behind) ≡ also.gate ∷ (frame other ++ more) = sym one.split ∙ also.split in
    one_frame content other behind more one.fits also.fits cc

-- ---- the front and one frame more

module _ (front rest content behind : List ℕ) (begins : BeginsFrame rest content behind) where
  pub front_more : (contents : List (List ℕ)) → Spells front contents → Spells (front ++ begins.gate ∷ frame content) (contents ++ content ∷ [])
  front_more contents spelled = spells_more begins.gate content begins.is_open begins.fits spelled

  pub split_more : (bytes : List ℕ) → bytes ≡ front ++ rest → bytes ≡ (front ++ begins.gate ∷ frame content) ++ behind
  split_more bytes split = split ∙ ap (λ (l : List ℕ). front ++ l) begins.split ∙ sym (append_assoc front (begins.gate ∷ frame content) behind)

  pub place_more : (gate : ℕ) → gate ≡ length front → gate + 9 + length content ≡ length (front ++ begins.gate ∷ frame content)
  place_more gate place = omega (arith, place, length-append front (begins.gate ∷ frame content), frame_size content)

-- ---- fronts of the same bytes

-- a front with a content isn't empty
pub front_some : {front : List ℕ} {content : List ℕ} {contents : List (List ℕ)} (rest : List ℕ) → Spells front (content ∷ contents) → IsEmpty (front ++ rest) → ⊥
front_some rest (one_more {gate = g} {content = c} {bytes = bytes} is_open fits spelled) (inl short) =
    omega (arith, short, length-append (frame c ++ bytes) rest, length-append (frame c) bytes, frame_size c)
front_some rest (one_more {gate = g} is_open fits spelled) (inr zero) = absurd (let shut : g ≡ 0 = (let e = zero.1 in cc) in omega arith)

goes_on : {front also : List ℕ} {whole contents : List (List ℕ)} (rest more : List ℕ) → Spells front whole → Spells also contents → front ++ 0 ∷ rest ≡ also ++ more → GoesOn whole contents more
goes_on rest more no_content no_content e = inl (rest, sym e)
goes_on rest more no_content (one_more {gate = g} is_open fits spelled) e = absurd (let shut : 0 ≡ g = cc in omega arith)
goes_on rest more (one_more {gate = g} {content = c} {bytes = bytes} {contents = contents} is_open fits spelled) no_content e =
    inr (
      c,
      bytes ++ 0 ∷ rest,
      contents,
      record {
        gate = g;
        is_open = is_open;
        fits = fits;
        split = sym e ∙ ap (λ (l : List ℕ). g ∷ l) (append_assoc (frame c) bytes (0 ∷ rest));
        next = omega (arith, length-append bytes (0 ∷ rest));
      },
      refl,
    )
goes_on rest more (one_more {gate = g} {content = c} {bytes = bytes} {contents = contents} is_open fits spelled) (one_more {gate = h} {content = d} {bytes = others} {contents = further} also_open short also) e =
    let tails : (frame c ++ bytes) ++ 0 ∷ rest ≡ (frame d ++ others) ++ more = cc in
    let both = one_frame c d (bytes ++ 0 ∷ rest) (others ++ more) fits short (sym (append_assoc (frame c) bytes (0 ∷ rest)) ∙ tails ∙ append_assoc (frame d) others more) in
    longer c d contents further more both.0 (goes_on rest more spelled also both.1)
  where
    longer : (c d : List ℕ) (whole contents : List (List ℕ)) (more : List ℕ) → c ≡ d → GoesOn whole contents more → GoesOn (c ∷ whole) (d ∷ contents) more
    longer c d whole contents more same (inl shut) = inl shut
    longer c d whole contents more same (inr next) = inr (next.0, next.1, next.2, next.3, let e = next.4 in cc)

-- the same of the bytes
pub front_goes_on : (bytes front also : List ℕ) (whole contents : List (List ℕ)) (rest more : List ℕ) → Spells front whole → bytes ≡ front ++ 0 ∷ rest → Spells also contents → bytes ≡ also ++ more → GoesOn whole contents more
front_goes_on bytes front also whole contents rest more spelled split also_spelled also_split = goes_on rest more spelled also_spelled (sym split ∙ also_split)
