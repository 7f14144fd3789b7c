-- Accounts at the front of the same bytes.
use Rattle.std.proofs.Common.{◌≡◌, ◌↔◌, ℕ, suc, true, slice_get, Some, ◌-◌, ◌<◌, ◌^◌, List, [], ◌∷◌, ◌++◌, length, sym, subst, ap, ◌∙◌, refl, append_assoc, get_or, take, drop}
use Rattle.std.proofs.lemmas.List.{take-append-drop}
use Rattle.std.proofs.Math.Dec.{ltb}
use Rattle.std.proofs.Math.Seq.{drop-cons}
use Rattle.std.specs.List.{flat_map}
use Rattle.byte_fields.specs.Front.{Begins, BeginsNone}
use Rattle.byteorder.specs.Endian.{little_bytes}
use Rattle.object_store.specs.declared.account.Account.{Account}
use Rattle.object_store.specs.Stored.{AreRising, IsLast}
use Rattle.world_bytes.specs.Forms.{HasAccountForm, SpellsAccount, account_bytes}
use Rattle.world_bytes.proofs.Rooms.{account_one}
use Rattle.world_bytes.proofs.Words.{behind_word, word_short}
use Rattle.tick_journal.specs.Accounts.{SpellsAccounts}
use Rattle.tick_journal.specs.TickForms.{IsRisingBy}
use Rattle.tick_journal.specs.inner.Lists.{listed}
use Rattle.tick_journal.specs.inner.Rows.{AreListed, list_row}
use Rattle.tick_journal.proofs.ListsAhead.{IsOne, lists_one}
use Rattle.tick_journal.proofs.Rising.{behind_last_test, rising_before as values_before}

pub accounts_are_one : IsOne HasAccountForm account_bytes
accounts_are_one a b text r s p q e f = account_one text a b r s (account_bytes a, (p, refl), e) (account_bytes b, (q, refl), f)

-- an account at the front of bytes, by its form
pub account_leads : (text : List ℕ) (account : Account) (rest : List ℕ) → Begins SpellsAccount text account rest → HasAccountForm account × (text ≡ account_bytes account ++ rest)
account_leads text account rest (front, (form, spelled), e) = (form, e ∙ ap (λ (z : List ℕ). z ++ rest) spelled)

pub account_none : (text : List ℕ) → BeginsNone SpellsAccount text → (account : Account) (rest : List ℕ) → HasAccountForm account → text ≡ account_bytes account ++ rest → ⊥
account_none text none account rest form e = none account rest (account_bytes account, (form, refl), e)

abbrev player_of : Account → ℕ
player_of account = account.player

players_rise : (accounts : List Account) → AreRising accounts → IsRisingBy player_of accounts
players_rise [] rising = tt
players_rise (x ∷ accounts) rising = (rising.0, players_rise accounts rising.1)

-- each account of a rising list comes before a later one
pub rising_before : (read : List Account) (account : Account) (more : List Account) → AreRising (read ++ account ∷ more) → IsLast account.player read
rising_before read account more rising = values_before player_of read account more (players_rise (read ++ account ∷ more) rising)

pub behind_last : (accounts : List Account) (last : Account) (player : ℕ) → AreRising accounts → Some last ≡ slice_get accounts (length accounts - 1) → (ltb last.player player ≡ true) ↔ IsLast player accounts
behind_last accounts last player rising at = behind_last_test player_of accounts last player (players_rise accounts rising) at

-- each account of a rising list comes after those before it
pub comes_last : (accounts : List Account) (k : ℕ) (account : Account) → AreRising accounts → k < length accounts → account ≡ get_or accounts k account → IsLast account.player (take k accounts)
comes_last accounts k account rising lt is =
    let behind : drop k accounts ≡ account ∷ drop (suc k) accounts = drop-cons accounts k account lt ∙ ap (λ (z : Account). z ∷ drop (suc k) accounts) (sym is) in
    let parts : accounts ≡ take k accounts ++ account ∷ drop (suc k) accounts = sym (take-append-drop k accounts) ∙ ap (λ (z : List Account). take k accounts ++ z) behind in
    rising_before (take k accounts) account (drop (suc k) accounts) (subst AreRising parts rising)

-- ---- behind their number

accounts_whole : (accounts : List Account) (rest : List ℕ) → listed account_bytes accounts ++ rest ≡ little_bytes 4 (length accounts) ++ list_row account_bytes accounts rest
accounts_whole accounts rest = append_assoc (little_bytes 4 (length accounts)) (flat_map account_bytes accounts) rest

-- what stands behind the number
pub record BehindNumber (count : ℕ) (left rest : List ℕ) (accounts : List Account) : Type 0 where
  pub are : AreListed AreRising HasAccountForm count accounts
  pub behind : left ≡ list_row account_bytes accounts rest

pub behind_number : (bytes left rest : List ℕ) (count : ℕ) (accounts : List Account) → count < 2 ^ 32 → bytes ≡ little_bytes 4 count ++ left → Begins SpellsAccounts bytes accounts rest → BehindNumber count left rest accounts
behind_number bytes left rest count accounts fits e (text, (form, spelled), f) =
    let whole : bytes ≡ little_bytes 4 (length accounts) ++ list_row account_bytes accounts rest = f ∙ ap (λ (z : List ℕ). z ++ rest) spelled ∙ accounts_whole accounts rest in
    let same = behind_word 4 count (length accounts) bytes left (list_row account_bytes accounts rest) fits form.count e whole in
    record { are = record { order = form.rising; forms = form.forms; counted = sym same.0 }; behind = same.1 }

-- fewer bytes are no accounts
pub number_short : (bytes : List ℕ) → length bytes < 4 → BeginsNone SpellsAccounts bytes
number_short bytes short = λ accounts rest begins. word_none bytes short accounts rest begins
  where
    word_none : (bytes : List ℕ) → length bytes < 4 → (accounts : List Account) (rest : List ℕ) → Begins SpellsAccounts bytes accounts rest → ⊥
    word_none bytes short accounts rest (text, (form, spelled), f) =
        let whole : bytes ≡ little_bytes 4 (length accounts) ++ list_row account_bytes accounts rest = f ∙ ap (λ (z : List ℕ). z ++ rest) spelled ∙ accounts_whole accounts rest in
        word_short 4 (length accounts) bytes (list_row account_bytes accounts rest) short whole

pub accounts_one : (bytes : List ℕ) (a b : List Account) (r s : List ℕ) → Begins SpellsAccounts bytes a r → Begins SpellsAccounts bytes b s → (a ≡ b) × (r ≡ s)
accounts_one bytes a b r s (text, (form, spelled), f) other =
    let whole : bytes ≡ little_bytes 4 (length a) ++ list_row account_bytes a r = f ∙ ap (λ (z : List ℕ). z ++ r) spelled ∙ accounts_whole a r in
    let next = behind_number bytes (list_row account_bytes a r) s (length a) b form.count whole other in
    let are = next.are in
    lists_one HasAccountForm account_bytes accounts_are_one a b (list_row account_bytes a r) r s (sym are.counted) form.forms are.forms refl next.behind
