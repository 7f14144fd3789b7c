-- A file's bytes say one thing: they pass checks of their length, their text, their keys and their rules, one after another.
use Rattle.std.proofs.Common.{◌≡◌, ◌≢◌, ℕ, zero, suc, ◌^◌, ◌<◌, ◌==◌, cond, List, [], ◌∷◌, length, refl, sym, ap, subst, ◌∙◌, inl, inr, ◌⊎◌, arith}
use Rattle.std.proofs.lemmas.Bool.{cases_lt, cases_eq}
use Rattle.serde_json.specs.Data.{Data}
use Rattle.serde_json.specs.Read.{read}
use Rattle.world_rules.specs.declared.rule.Rule.{Rule}
use Rattle.world_rules.specs.declared.rule.Rule.TheVariants as rules
use Rattle.world_rules.specs.World.{Listing}
use Rattle.world_rules.specs.Rules.{rule_place, Broken, IsFirstBroken, KeepsRules}
use Rattle.world_form.specs.declared.fault.WorldFault.{WorldFault}
use Rattle.world_form.specs.declared.fault.WorldFault.TheVariants as faults
use Rattle.world_form.specs.Facts.{Filed, SaysWorld, filed_listing}
use Rattle.world_form.specs.FirstFaults.{Check, IsFirst, AllHold, world_checks}
use Rattle.world_form.specs.Files.{IsJson, IsShort, Says, Lists, HasKeyFault, HasFault}
use Rattle.world_form.proofs.Checks.{IsExact, AllOf, one_first, no_first, IsDecided, AreDecided, some_first}
use Rattle.world_form.proofs.Forms.{one_some}
use Rattle.world_form.proofs.Exact.{world_exact}
use Rattle.world_form.proofs.Decided.{IsOfKey, first_of_key, some_key_fault}
use Rattle.world_form.proofs.Said.{world_holds, world_held}
use Rattle.world_form.proofs.SaidOnce.{world_one}

-- ---- one value, and one world

one_value : (bytes : List ℕ) (value other : Data) → IsJson bytes value → IsJson bytes other → value ≡ other
one_value bytes value other here there = one_some (read bytes) value other here.1 there.1

pub one_world : (bytes : List ℕ) (one other : Filed) → Says bytes one → Says bytes other → one ≡ other
one_world bytes one other here there =
    let same = one_value bytes there.0 here.0 there.1.1 here.1.1 in
    world_one here.0 one other here.2 (subst (λ value. SaysWorld value other) same there.2)

-- ---- the rules: one is the first that is broken

rule_at : ℕ → Rule
rule_at n = cond (n == 1) rules.Counts (cond (n == 2) rules.RoomTwice (cond (n == 3) rules.Corner (cond (n == 4) rules.Serial (cond (n == 5) rules.IdTwice (cond (n == 6) rules.Tile (cond (n == 7) rules.Shared (cond (n == 8) rules.Owner (cond (n == 9) rules.Controllers (cond (n == 10) rules.Range (cond (n == 11) rules.PlayerTwice rules.Sites))))))))))

rule_back : (rule : Rule) → rule_at (rule_place rule) ≡ rule
unfolding rule_at
rule_back rules.Counts = refl
rule_back rules.RoomTwice = refl
rule_back rules.Corner = refl
rule_back rules.Serial = refl
rule_back rules.IdTwice = refl
rule_back rules.Tile = refl
rule_back rules.Shared = refl
rule_back rules.Owner = refl
rule_back rules.Controllers = refl
rule_back rules.Range = refl
rule_back rules.PlayerTwice = refl
rule_back rules.Sites = refl

one_rule : (listing : Listing) (rule other : Rule) (n m : ℕ) → IsFirstBroken rule n listing → IsFirstBroken other m listing → rule ≡ other
one_rule listing rule other n m first second =
    elim (cases_eq (rule_place rule) (rule_place other)) [
      | inl same ↦ sym (rule_back rule) ∙ ap rule_at same ∙ rule_back other
      | inr apart ↦ elim (cases_lt (rule_place rule) (rule_place other)) [
        | inl before ↦ absurd (second.earlier rule n before first.broken)
        | inr after ↦ absurd (first.earlier other m (omega arith) second.broken)
      ]
    ]

one_number : (listing : Listing) (rule : Rule) (n m : ℕ) → IsFirstBroken rule n listing → IsFirstBroken rule m listing → n ≡ m
one_number listing rule n m first second =
    elim (cases_eq n m) [
      | inl same ↦ same
      | inr apart ↦ elim (cases_lt n m) [ inl before ↦ absurd (second.least n before first.broken) | inr after ↦ absurd (first.least m (omega arith) second.broken) ]
    ]

one_broken : (listing : Listing) (rule other : Rule) (n m : ℕ) → IsFirstBroken rule n listing → IsFirstBroken other m listing → faults.Rule rule n ≡ faults.Rule other m
one_broken listing rule other n m first second =
    let same = one_rule listing rule other n m first second in
    let number = one_number listing other n m (subst (λ rule. IsFirstBroken rule n listing) same first) second in
    λ i. faults.Rule (same i) (number i)

-- ---- the checks of a file, in their order

-- the file is not too long
abbrev short_check : List ℕ → Check
short_check bytes = record { Holds = IsShort bytes; Fails = λ fault. (2 ^ 26 < length bytes) × (fault ≡ faults.TooLong) }

-- it is a JSON text
abbrev json_check : List ℕ → Check
json_check bytes = record { Holds = (value : Data) × IsJson bytes value; Fails = λ fault. ((value : Data) → IsJson bytes value → ⊥) × (fault ≡ faults.NotJson) }

-- its keys are in order
abbrev keys_check : List ℕ → Check
keys_check bytes = record { Holds = (value : Data) × IsJson bytes value × AllHold (world_checks value); Fails = HasKeyFault bytes }

-- its world keeps the rules
abbrev rules_check : List ℕ → Check
rules_check bytes = record {
  Holds = (filed : Filed) × Lists bytes filed;
  Fails = λ fault. (rule : Rule) × (n : ℕ) × (filed : Filed) × Says bytes filed × IsFirstBroken rule n (filed_listing filed) × (fault ≡ faults.Rule rule n);
}

abbrev file_checks : List ℕ → List Check
file_checks bytes = short_check bytes ∷ json_check bytes ∷ keys_check bytes ∷ rules_check bytes ∷ []

short_exact : (bytes : List ℕ) → IsExact (short_check bytes)
short_exact bytes = record { one = λ fault other fails also. fails.1 ∙ sym also.1; apart = λ fault holds fails. let long : 2 ^ 26 < length bytes = fails.0 in omega arith }

json_exact : (bytes : List ℕ) → IsExact (json_check bytes)
json_exact bytes = record { one = λ fault other fails also. fails.1 ∙ sym also.1; apart = λ fault holds fails. fails.0 holds.0 holds.1 }

keys_exact : (bytes : List ℕ) → IsExact (keys_check bytes)
keys_exact bytes = record {
  one = λ fault other fails also.
      let same = one_value bytes also.0 fails.0 also.1.1 fails.1.1 in
      one_first (world_checks fails.0) fault other (world_exact fails.0) fails.2 (subst (λ value. IsFirst (world_checks value) other) same also.2);
  apart = λ fault holds fails.
      let same = one_value bytes fails.0 holds.0 fails.1.1 holds.1 in
      no_first (world_checks holds.0) fault (world_exact holds.0) holds.2 (subst (λ value. IsFirst (world_checks value) fault) same fails.2);
}

rules_exact : (bytes : List ℕ) → IsExact (rules_check bytes)
rules_exact bytes = record {
  one = λ fault other fails also.
      let same = one_world bytes also.2 fails.2 also.3 fails.3 in
      let second = subst (λ filed. IsFirstBroken also.0 also.1 (filed_listing filed)) same also.4 in
      fails.5 ∙ one_broken (filed_listing fails.2) fails.0 also.0 fails.1 also.1 fails.4 second ∙ sym also.5;
  apart = λ fault holds fails.
      let same = one_world bytes holds.0 fails.2 holds.1.0 fails.3 in
      let keeps = subst (λ filed. KeepsRules (filed_listing filed)) same holds.1.1 in
      keeps fails.0 fails.1 fails.4.broken;
}

file_exact : (bytes : List ℕ) → AllOf IsExact (file_checks bytes)
file_exact bytes = (short_exact bytes, (json_exact bytes, (keys_exact bytes, (rules_exact bytes, tt))))

-- ---- what a file says, by these checks

lists_hold : (bytes : List ℕ) (filed : Filed) → Lists bytes filed → AllHold (file_checks bytes)
lists_hold bytes filed lists =
    let value = lists.0.0 in
    let has = lists.0.1 in
    (has.0, ((value, has.1), ((value, has.1, world_holds value filed lists.0.2), ((filed, lists), tt))))

key_first : (bytes : List ℕ) (fault : WorldFault) → HasKeyFault bytes fault → IsFirst (file_checks bytes) fault
key_first bytes fault has = inr (has.1.0, inr ((has.0, has.1.1), inl has))

rule_first : (bytes : List ℕ) (rule : Rule) (n : ℕ) (filed : Filed) → Says bytes filed → IsFirstBroken rule n (filed_listing filed) → IsFirst (file_checks bytes) (faults.Rule rule n)
rule_first bytes rule n filed says broken =
    let value = says.0 in
    let has = says.1 in
    inr (has.0, inr ((value, has.1), inr ((value, has.1, world_holds value filed says.2), inl (rule, n, filed, says, broken, refl))))

-- want of memory, or the fault of the first check that fails
fault_first : (bytes : List ℕ) (fault : WorldFault) → HasFault bytes fault → (fault ≡ faults.Memory) ⊎ IsFirst (file_checks bytes) fault
fault_first bytes faults.TooLong has = inr (inl (has, refl))
fault_first bytes faults.NotJson has = inr (inr (has.0, inl (has.1, refl)))
fault_first bytes (faults.Missing field) has = inr (key_first bytes (faults.Missing field) has)
fault_first bytes (faults.BadValue field place) has = inr (key_first bytes (faults.BadValue field place) has)
fault_first bytes (faults.NotBuilt kind) has = inr (key_first bytes (faults.NotBuilt kind) has)
fault_first bytes (faults.Rule rule n) has = inr (rule_first bytes rule n has.0 has.1 has.2)
fault_first bytes faults.Memory has = inl refl

pub no_fault : (bytes : List ℕ) (filed : Filed) (fault : WorldFault) → Lists bytes filed → HasFault bytes fault → fault ≡ faults.Memory
no_fault bytes filed fault lists has =
    elim (fault_first bytes fault has) [ inl memory ↦ memory | inr first ↦ absurd (no_first (file_checks bytes) fault (file_exact bytes) (lists_hold bytes filed lists) first) ]

pub one_fault : (bytes : List ℕ) (one other : WorldFault) → one ≢ faults.Memory → other ≢ faults.Memory → HasFault bytes one → HasFault bytes other → one ≡ other
one_fault bytes one other some also here there =
    elim (fault_first bytes one here) [
      | inl memory ↦ absurd (some memory)
      | inr first ↦ elim (fault_first bytes other there) [ inl memory ↦ absurd (also memory) | inr second ↦ one_first (file_checks bytes) one other (file_exact bytes) first second ]
    ]

-- ---- a file says something

module _ (listing : Listing) (none : (rule : Rule) (n : ℕ) → IsFirstBroken rule n listing → ⊥) where
  number_kept : (rule : Rule) → ((other : Rule) (m : ℕ) → rule_place other < rule_place rule → Broken other m listing → ⊥) → (bound n : ℕ) → n < bound → Broken rule n listing → ⊥
  number_kept rule earlier zero n less broken = absurd (omega arith)
  number_kept rule earlier (suc bound) n less broken = none rule n (record { broken = broken; earlier = earlier; least = λ m lesser. number_kept rule earlier bound m (omega arith) })

  rule_kept : (bound : ℕ) (rule : Rule) (n : ℕ) → rule_place rule < bound → Broken rule n listing → ⊥
  rule_kept zero rule n less broken = absurd (omega arith)
  rule_kept (suc bound) rule n less broken = number_kept rule (λ other m lesser. rule_kept bound other m (omega arith)) (suc n) n (omega arith) broken

  -- where no rule is the first broken one, none is broken
  all_kept : KeepsRules listing
  all_kept rule n = rule_kept (suc (rule_place rule)) rule n (omega arith)

short_decided : (bytes : List ℕ) → IsDecided (short_check bytes)
short_decided bytes = λ not none. elim (cases_lt (2 ^ 26) (length bytes)) [ inl long ↦ none faults.TooLong (long, refl) | inr short ↦ not short ]

json_decided : (bytes : List ℕ) → IsDecided (json_check bytes)
json_decided bytes = λ not none. none faults.NotJson ((λ value is. not (value, is)), refl)

keys_decided : (bytes : List ℕ) → IsShort bytes → (value : Data) → IsJson bytes value → IsDecided (keys_check bytes)
keys_decided bytes short value is = λ not none. some_key_fault value (λ all. not (value, is, all)) (λ fault first. none fault (value, (short, is), first))

rules_decided : (bytes : List ℕ) → IsShort bytes → (value : Data) → IsJson bytes value → AllHold (world_checks value) → IsDecided (rules_check bytes)
rules_decided bytes short value is all =
    let said = world_held value all in
    let says : Says bytes said.0 = (value, (short, is), said.1) in
    λ not none. not (said.0, (says, all_kept (filed_listing said.0) (λ rule n broken. none (faults.Rule rule n) (rule, n, said.0, says, broken, refl))))

file_decided : (bytes : List ℕ) → AreDecided (file_checks bytes)
file_decided bytes = (
  short_decided bytes,
  λ short. (
    json_decided bytes,
    λ json.
        (keys_decided bytes short json.0 json.1, λ keys. (rules_decided bytes short keys.0 keys.1 keys.2, λ _. tt)),
  ),
)

key_fault : (bytes : List ℕ) (fault : WorldFault) → IsOfKey fault → HasKeyFault bytes fault → (fault ≢ faults.Memory) × HasFault bytes fault
key_fault bytes faults.TooLong of has = absurd of
key_fault bytes faults.NotJson of has = absurd of
key_fault bytes (faults.Missing field) of has = (λ e. cc, has)
key_fault bytes (faults.BadValue field place) of has = (λ e. cc, has)
key_fault bytes (faults.NotBuilt kind) of has = (λ e. cc, has)
key_fault bytes (faults.Rule rule n) of has = absurd of
key_fault bytes faults.Memory of has = absurd of

-- what fails first is a fault of the bytes
first_fault : (bytes : List ℕ) (fault : WorldFault) → IsFirst (file_checks bytes) fault → (fault ≢ faults.Memory) × HasFault bytes fault
first_fault bytes fault (inl long) = subst (λ fault. (fault ≢ faults.Memory) × HasFault bytes fault) (sym long.1) (λ e. cc, long.0)
first_fault bytes fault (inr (short, inl text)) = subst (λ fault. (fault ≢ faults.Memory) × HasFault bytes fault) (sym text.1) (λ e. cc, (short, text.0))
first_fault bytes fault (inr (short, inr (json, inl has))) = key_fault bytes fault (first_of_key has.0 fault has.2) has
first_fault bytes fault (inr (short, inr (json, inr (keys, inl broken)))) = subst (λ fault. (fault ≢ faults.Memory) × HasFault bytes fault) (sym broken.5) (λ e. cc, (broken.2, broken.3, broken.4))
first_fault bytes fault (inr (short, inr (json, inr (keys, inr (lists, none))))) = absurd none

-- a file is accepted, or it has a fault
pub some_answer : (bytes : List ℕ) → ((filed : Filed) → Lists bytes filed → ⊥) → ((fault : WorldFault) → fault ≢ faults.Memory → HasFault bytes fault → ⊥) → ⊥
some_answer bytes refused none =
    some_first (file_checks bytes) (file_decided bytes) (λ all. let lists = all.1.1.1.0 in refused lists.0 lists.1) (λ fault first. let is = first_fault bytes fault first in none fault is.0 is.1)
