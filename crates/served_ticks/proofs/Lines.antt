-- Lines of players by their accounts and counts.
use Rattle.std.proofs.Common.{◌≡◌, ℕ, zero, suc, ◌+◌, ◌<◌, ◌≤◌, min, List, [], ◌∷◌, ◌++◌, length, get_or, take, map, refl, sym, ap, ◌∙◌, arith}
use Rattle.std.proofs.lemmas.List.{length-take-le, take_more}
use Rattle.object_store.specs.declared.account.Account.{Account}
use Rattle.world_hub.specs.declared.summary.PlayerLine.{PlayerLine}
use Rattle.world_journal.specs.declared.recovered.UploadCount.{UploadCount}
use Rattle.served_ticks.specs.Summaries.{line_with, lines_with}

lines_push : (accounts : List Account) (counts : List UploadCount) (account : Account) (count : UploadCount) → length accounts ≡ length counts → lines_with (accounts ++ account ∷ []) (counts ++ count ∷ []) ≡ lines_with accounts counts ++ line_with account count ∷ []
lines_push [] [] account count same = refl
lines_push [] (c ∷ counts) account count same = absurd (omega arith)
lines_push (a ∷ accounts) [] account count same = absurd (omega arith)
lines_push (a ∷ accounts) (c ∷ counts) account count same = ap (λ (l : List PlayerLine). line_with a c ∷ l) (lines_push accounts counts account count (omega arith))

pub lines_more : (accounts : List Account) (counts : List UploadCount) (i : ℕ) (account : Account) (count : UploadCount) → i < length accounts → i < length counts → account ≡ get_or accounts i account → count ≡ get_or counts i count
    → lines_with (take i accounts) (take i counts) ++ line_with account count ∷ [] ≡ lines_with (take (i + 1) accounts) (take (i + 1) counts)
lines_more accounts counts i account count in_accounts in_counts first second =
    let one : take i accounts ++ account ∷ [] ≡ take (i + 1) accounts = ap (λ (a : Account). take i accounts ++ a ∷ []) first ∙ sym (take_more accounts i account in_accounts) in
    let other : take i counts ++ count ∷ [] ≡ take (i + 1) counts = ap (λ (c : UploadCount). take i counts ++ c ∷ []) second ∙ sym (take_more counts i count in_counts) in
    let short = length-take-le i accounts in
    let shorter = length-take-le i counts in
    sym (lines_push (take i accounts) (take i counts) account count (omega (arith, short, shorter)))
    ∙ (ap (λ (l : List Account). lines_with l (take i counts ++ count ∷ [])) one ∙ ap (lines_with (take (i + 1) accounts)) other)

pub lines_front : (accounts : List Account) (counts : List UploadCount) (n : ℕ) → min (length accounts) (length counts) ≤ n → lines_with (take n accounts) (take n counts) ≡ lines_with accounts counts
lines_front [] counts zero few = refl
lines_front [] counts (suc n) few = refl
lines_front (a ∷ accounts) [] zero few = refl
lines_front (a ∷ accounts) [] (suc n) few = refl
lines_front (a ∷ accounts) (c ∷ counts) zero few = absurd (omega arith)
lines_front (a ∷ accounts) (c ∷ counts) (suc n) few = ap (λ (l : List PlayerLine). line_with a c ∷ l) (lines_front accounts counts n (omega arith))

pub lines_few : (accounts : List Account) (counts : List UploadCount) → length (lines_with accounts counts) ≤ length accounts
lines_few [] counts = omega arith
lines_few (a ∷ accounts) [] = omega arith
lines_few (a ∷ accounts) (c ∷ counts) = let rest = lines_few accounts counts in omega (arith, rest)

pub lines_mapped : (f : Account → UploadCount) (accounts : List Account) → lines_with accounts (map f accounts) ≡ map (λ account. line_with account (f account)) accounts
lines_mapped f [] = refl
lines_mapped f (a ∷ accounts) = ap (λ (l : List PlayerLine). line_with a (f a) ∷ l) (lines_mapped f accounts)
