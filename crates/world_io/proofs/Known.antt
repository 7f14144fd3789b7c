-- Known bytes over several calls.
use Rattle.std.proofs.Common.{ℕ, List, ◌++◌, Option, Some, None, ap, sym, ◌∙◌, append_assoc}
use Rattle.std.specs.Io.KnownBytes.{Consumes, Appends}

pub consumes_more : (a b c : Option (List ℕ)) (xs ys : List ℕ) → Consumes a b xs → Consumes b c ys → Consumes a c (xs ++ ys)
consumes_more None b c xs ys h k = tt
consumes_more (Some p) None c xs ys h k = absurd h
consumes_more (Some p) (Some q) None xs ys h k = absurd k
consumes_more (Some p) (Some q) (Some r) xs ys h k = h ∙ ap (λ z. xs ++ z) k ∙ sym (append_assoc xs ys r)

pub appends_more : (a b c : Option (List ℕ)) (xs ys : List ℕ) → Appends a b xs → Appends b c ys → Appends a c (xs ++ ys)
appends_more None b c xs ys h k = tt
appends_more (Some p) None c xs ys h k = absurd h
appends_more (Some p) (Some q) None xs ys h k = absurd k
appends_more (Some p) (Some q) (Some r) xs ys h k = k ∙ ap (λ z. z ++ ys) h ∙ append_assoc p xs ys
