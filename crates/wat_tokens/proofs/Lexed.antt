-- Tokens at the front of a text.
use Rattle.std.proofs.Common.{◌≡◌, ℕ, ◌+◌, ◌<◌, ◌≤◌, List, [], ◌∷◌, length, take, drop, Some, None, refl, subst, arith}
use Rattle.std.proofs.lemmas.Option.{same_Some}
use Rattle.wat_grammar.specs.Tokens.{Token, opening, closing, quoted, word}
use Rattle.wat_grammar.specs.Fronts.{PassesTo, Starts}
use Rattle.wat_tokens.specs.declared.front.Front.{Front}
use Rattle.wat_tokens.specs.declared.front.Front.TheVariants.{End, Blank, Opening, Closing, Quoted, Word, Bad}
use Rattle.wat_tokens.specs.inner.Fronts.{IsFront, IsNoBlank, token_length}

-- The token of so many bytes at the front.
abbrev pub HasToken : List ℕ → ℕ → Type 0
HasToken text count = (0 < count) × (count ≤ length text) × (token : Token) × Starts token text (drop count text)

pub token_there : (text : List ℕ) (front : Front) (count : ℕ) → IsFront text front → token_length front ≡ Some count → HasToken text count
token_there text End count f e = absurd (cc)
token_there text (Blank n) count f e = absurd (cc)
token_there text Opening count f e = let one : 1 ≡ count = same_Some 1 count e in subst (HasToken text) one (omega arith, f.0, opening, f.1)
token_there text Closing count f e = let one : 1 ≡ count = same_Some 1 count e in subst (HasToken text) one (omega arith, f.0, closing, f.1)
token_there text (Quoted n) count f e = let one : n + 2 ≡ count = same_Some (n + 2) count e in subst (HasToken text) one (omega arith, f.0, quoted f.1, f.3)
token_there text (Word n) count f e = let one : n ≡ count = same_Some n count e in subst (HasToken text) one (f.0, f.1, word (take n text), f.2)
token_there text Bad count f e = absurd (cc)

-- What is neither a token nor blank nor bad is the end.
pub end_there : (text : List ℕ) (front : Front) → IsFront text front → IsNoBlank front → token_length front ≡ None → (front ≡ Bad → ⊥) → text ≡ []
end_there text End f b e no_bad = f
end_there text (Blank n) f b e no_bad = absurd b
end_there text Opening f b e no_bad = absurd (cc)
end_there text Closing f b e no_bad = absurd (cc)
end_there text (Quoted n) f b e no_bad = absurd (cc)
end_there text (Word n) f b e no_bad = absurd (cc)
end_there text Bad f b e no_bad = absurd (no_bad refl)

starts_behind : (token : Token) (text rest more : List ℕ) → PassesTo text rest → Starts token rest more → Starts token text more
starts_behind token text rest more p s = record {
  makes = λ tail l. (p (token ∷ tail)).1 (s.makes tail l);
  only = λ tokens l. s.only tokens ((p tokens).0 l);
}
