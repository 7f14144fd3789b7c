-- The rows of the opcodes and the bounds by which the code tells them apart give the same types.
use Rattle.std.proofs.Common.{◌≡◌, ℕ, ◌≤◌, Bool, false, map, Option, None, Some, refl, sym, ap, ◌∙◌, arith}
use Rattle.std.specs.Option.{option_map}
use Rattle.std.proofs.lemmas.Option.{same_Some}
use Rattle.std.proofs.lemmas.Bool.Decides.{nat_tests}
use native.Mathlib.Decide.{dec_le}
use Rattle.wasm_values.specs.Opcodes.{Meaning, meaning, meaning_in, opcodes}
use Rattle.wasm_values.proofs.Groups.{numbers, same_among, none_high}
use Rattle.wasm_typing.specs.Operations.{signature_in, signature_of, Access, load_in, load_of, store_in, store_of}
use Rattle.wasm_typing.specs.inner.Ranges.{signature_by_bounds, load_by_bounds, store_by_bounds}

-- ---- operations on numbers

low_signatures : map signature_of (numbers 256 0) ≡ map signature_by_bounds (numbers 256 0)
unfolding numbers meaning meaning_in opcodes signature_of signature_by_bounds
low_signatures = refl

high_signature : (op : ℕ) → 256 ≤ op → signature_by_bounds op ≡ None
unfolding signature_by_bounds
high_signature op high = grind (arith, nat_tests)

no_signature : (op : ℕ) → 256 ≤ op → signature_of op ≡ None
unfolding signature_of
no_signature op high = ap signature_in (none_high op high)

pub signature_is : (op : ℕ) → signature_of op ≡ signature_by_bounds op
signature_is op = elim (dec_le 256 op) [
  | yes h ↦ no_signature op h ∙ sym (high_signature op h)
  | no h ↦ same_among signature_of signature_by_bounds 256 0 low_signatures op (omega arith) (omega arith)
]

-- ---- loads

abbrev pub unsigned : Access → Access
unsigned access = record access { signed = false }

abbrev bare_load : ℕ → Option Access
bare_load op = option_map unsigned (load_of op)

low_loads : map bare_load (numbers 256 0) ≡ map load_by_bounds (numbers 256 0)
unfolding numbers meaning meaning_in opcodes load_of load_by_bounds
low_loads = refl

high_load : (op : ℕ) → 256 ≤ op → load_by_bounds op ≡ None
unfolding load_by_bounds
high_load op high = grind (arith, nat_tests)

no_load : (op : ℕ) → 256 ≤ op → bare_load op ≡ None
unfolding load_of
no_load op high = ap (λ (found : Option Meaning). option_map unsigned (load_in found)) (none_high op high)

bare_load_is : (op : ℕ) → bare_load op ≡ load_by_bounds op
bare_load_is op = elim (dec_le 256 op) [
  | yes h ↦ no_load op h ∙ sym (high_load op h)
  | no h ↦ same_among bare_load load_by_bounds 256 0 low_loads op (omega arith) (omega arith)
]

pub load_within : (op : ℕ) (access : Access) → load_of op ≡ Some access → load_by_bounds op ≡ Some (unsigned access)
load_within op access e = sym (bare_load_is op) ∙ ap (option_map unsigned) e

signed_again : (found : Option Access) (access : Access) → option_map unsigned found ≡ Some access → (signed : Bool) × (found ≡ Some (record access { signed = signed }))
signed_again None access e = absurd (cc)
signed_again (Some x) access e = (x.signed, ap (λ (z : Access). Some (record z { signed = x.signed })) (same_Some (unsigned x) access e))

-- the load that the bounds give, with its sign
pub load_found : (op : ℕ) (access : Access) → Some access ≡ load_by_bounds op → (signed : Bool) × (load_of op ≡ Some (record access { signed = signed }))
load_found op access e = signed_again (load_of op) access (bare_load_is op ∙ sym e)

none_again : (found : Option Access) → option_map unsigned found ≡ None → found ≡ None
none_again None e = refl
none_again (Some x) e = absurd (cc)

pub load_none : (op : ℕ) → None ≡ load_by_bounds op → load_of op ≡ None
load_none op e = none_again (load_of op) (bare_load_is op ∙ sym e)

-- ---- stores

low_stores : map store_of (numbers 256 0) ≡ map store_by_bounds (numbers 256 0)
unfolding numbers meaning meaning_in opcodes store_of store_by_bounds
low_stores = refl

high_store : (op : ℕ) → 256 ≤ op → store_by_bounds op ≡ None
unfolding store_by_bounds
high_store op high = grind (arith, nat_tests)

no_store : (op : ℕ) → 256 ≤ op → store_of op ≡ None
unfolding store_of
no_store op high = ap store_in (none_high op high)

pub store_is : (op : ℕ) → store_of op ≡ store_by_bounds op
store_is op = elim (dec_le 256 op) [
  | yes h ↦ no_store op h ∙ sym (high_store op h)
  | no h ↦ same_among store_of store_by_bounds 256 0 low_stores op (omega arith) (omega arith)
]
