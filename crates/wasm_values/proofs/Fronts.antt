-- What stands at the front of bytes: one text behind another.
use Rattle.std.proofs.Common.{◌≡◌, ℕ, List, ◌++◌, refl, ap, sym, ◌∙◌, append_assoc}
use Rattle.byte_fields.specs.Front.{Begins, BeginsOnly, BeginsNone}
use Rattle.wasm_values.specs.Spelling.{Then}

-- Behind a text that spells the first value stands one that spells the second.
pub then_begins : {V W : Type 0} (First : List ℕ → V → Type 0) (Second : List ℕ → W → Type 0) (bytes middle rest : List ℕ) (v : V) (w : W) → Begins First bytes v middle → Begins Second middle w rest → Begins (Then First Second) bytes (v, w) rest
then_begins First Second bytes middle rest v w (front, s, e) (back, t, f) =
    (front ++ back, (front, back, s, t, refl), e ∙ ap (λ z. front ++ z) f ∙ sym (append_assoc front back rest))

-- It is taken apart again.
pub then_parts : {V W : Type 0} (First : List ℕ → V → Type 0) (Second : List ℕ → W → Type 0) (bytes rest : List ℕ) (both : V × W) → Begins (Then First Second) bytes both rest → (middle : List ℕ) × Begins First bytes both.0 middle × Begins Second middle both.1 rest
then_parts First Second bytes rest both (text, (front, back, s, t, f), e) =
    (back ++ rest, (front, s, e ∙ ap (λ z. z ++ rest) f ∙ append_assoc front back rest), (back, t, refl))

-- bytes may be replaced by the same bytes
pub begins_along : {V : Type 0} (Spells : List ℕ → V → Type 0) (a b rest : List ℕ) (v : V) → a ≡ b → Begins Spells a v rest → Begins Spells b v rest
begins_along Spells a b rest v same (text, s, e) = (text, s, sym same ∙ e)

pub then_only : {V W : Type 0} (First : List ℕ → V → Type 0) (Second : List ℕ → W → Type 0) (bytes middle rest : List ℕ) (v : V) (w : W) → BeginsOnly First bytes v middle → BeginsOnly Second middle w rest → BeginsOnly (Then First Second) bytes (v, w) rest
then_only {V} {W} First Second bytes middle rest v w one two = λ both more b.
    let parts = then_parts First Second bytes more both b in
    let first = one both.0 parts.0 parts.1 in
    let second = two both.1 more (begins_along Second parts.0 middle more both.1 first.1 parts.2) in
    let same : both ≡ (v, w) = ap (λ (x : V). let p : V × W = (x, both.1) in p) first.0 ∙ ap (λ (y : W). let p : V × W = (v, y) in p) second.0 in
    (same, second.1)

-- Where the first is not there, nor are both.
pub then_none_first : {V W : Type 0} (First : List ℕ → V → Type 0) (Second : List ℕ → W → Type 0) (bytes : List ℕ) → BeginsNone First bytes → BeginsNone (Then First Second) bytes
then_none_first First Second bytes none = λ both more b.
    let parts = then_parts First Second bytes more both b in
    none both.0 parts.0 parts.1

-- Where the second is not behind the only first, both are not there.
pub then_none_second : {V W : Type 0} (First : List ℕ → V → Type 0) (Second : List ℕ → W → Type 0) (bytes middle : List ℕ) (v : V) → BeginsOnly First bytes v middle → BeginsNone Second middle → BeginsNone (Then First Second) bytes
then_none_second First Second bytes middle v one none = λ both more b.
    let parts = then_parts First Second bytes more both b in
    let first = one both.0 parts.0 parts.1 in
    none both.1 more (begins_along Second parts.0 middle more both.1 first.1 parts.2)
