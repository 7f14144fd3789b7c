-- Accounts that come one after the other.
use Rattle.std.proofs.Common.{◌≡◌, ℕ, zero, suc, ◌<◌, List, [], ◌∷◌, length, take, get_or, sym, subst, arith}
use Rattle.std.specs.List.{AllByRecursion}
use Rattle.object_store.specs.declared.account.Account.{Account}
use Rattle.object_store.specs.Stored.{AreRising, IsLast}

all_at : {A : Type 0} (P : A → Type 0) (xs : List A) (i : ℕ) (x : A) → AllByRecursion P xs → i < length xs → x ≡ get_or xs i x → P x
all_at P [] i x all inside is = absurd (omega arith)
all_at P (y ∷ xs) zero x all inside is = subst P (sym is) all.0
all_at P (y ∷ xs) (suc i) x all inside is = all_at P xs i x all.1 (omega arith) is

-- an account of a rising list comes after those before it
pub comes_last : (accounts : List Account) (i : ℕ) (account : Account) → AreRising accounts → i < length accounts → account ≡ get_or accounts i account → IsLast account.player (take i accounts)
comes_last [] i account rising inside is = absurd (omega arith)
comes_last (first ∷ accounts) zero account rising inside is = tt
comes_last (first ∷ accounts) (suc i) account rising inside is =
    (all_at (λ later. first.player < later.player) accounts i account rising.0 (omega arith) is, comes_last accounts i account rising.1 (omega arith) is)
