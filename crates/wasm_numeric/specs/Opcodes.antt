-- The opcodes of the integer instructions, as WebAssembly Core 1.0, chapter 5.4.5, lists them, and those of the
-- sign-extension operators: for each the width of its operands and the operator.
use Rattle.std.specs.Prelude.{◌≡◌, ◌≤◌, ◌⊎◌, ℕ, ◌==◌, Bool, if◌then◌else◌, Option, Some}
use Rattle.wasm_numeric.specs.Integers.{least, minus_one, iclz, ictz, ipopcnt, iadd, isub, imul, idiv_s}
use Rattle.wasm_numeric.specs.Integers.{idiv_u, irem_s, irem_u, iand, ior, ixor, ishl, ishr_s, ishr_u, irotl}
use Rattle.wasm_numeric.specs.Integers.{irotr, ieqz, ieq, ine, ilt_s, ilt_u, igt_s, igt_u, ile_s, ile_u}
use Rattle.wasm_numeric.specs.Integers.{ige_s, ige_u, wrap, extend_s, extend_u, iextend_s}

-- opcodes from `low` to `high`
abbrev pub IsFrom : ℕ → ℕ → ℕ → Type 0
IsFrom low high op = (low ≤ op) × (op ≤ high)

-- ---- one operand

abbrev pub IsUnary : ℕ → Type 0
IsUnary op = IsFrom 0x67 0x69 op ⊎ IsFrom 0x79 0x7b op ⊎ IsFrom 0xc0 0xc4 op

-- those on 32 bits
abbrev pub IsNarrowUnary : ℕ → Type 0
IsNarrowUnary op = IsFrom 0x67 0x69 op ⊎ IsFrom 0xc0 0xc1 op

unfoldable pub unary_entry : ℕ → ℕ × (ℕ → ℕ → ℕ)
unary_entry op =
    if op == 0x67 then (32, iclz)
    else if op == 0x68 then (32, ictz)
    else if op == 0x69 then (32, ipopcnt)
    else if op == 0x79 then (64, iclz)
    else if op == 0x7a then (64, ictz)
    else if op == 0x7b then (64, ipopcnt)
    else if op == 0xc0 then (32, iextend_s 8)
    else if op == 0xc1 then (32, iextend_s 16)
    else if op == 0xc2 then (64, iextend_s 8)
    else if op == 0xc3 then (64, iextend_s 16)
    else (64, iextend_s 32)

unfoldable pub unary_value : ℕ → ℕ → ℕ
unary_value op a = let entry = unary_entry op in entry.1 entry.0 a

-- ---- two operands

abbrev pub IsBinary : ℕ → Type 0
IsBinary op = IsFrom 0x6a 0x78 op ⊎ IsFrom 0x7c 0x8a op

-- the divisions and remainders
abbrev pub IsDivision : ℕ → Type 0
IsDivision op = IsFrom 0x6d 0x70 op ⊎ IsFrom 0x7f 0x82 op

-- a signed division of the least number of its width by -1
abbrev pub IsOverflow : ℕ → ℕ → ℕ → Type 0
IsOverflow op a b =
    ((op ≡ 0x6d) × (a ≡ least 32) × (b ≡ minus_one 32))
    ⊎ ((op ≡ 0x7f) × (a ≡ least 64) × (b ≡ minus_one 64))

-- an operator that has a value everywhere
abbrev pub total : (ℕ → ℕ → ℕ → ℕ) → ℕ → ℕ → ℕ → Option ℕ
total f N i j = Some (f N i j)

unfoldable pub binary_entry : ℕ → ℕ × (ℕ → ℕ → ℕ → Option ℕ)
binary_entry op =
    if op == 0x6a then (32, total iadd)
    else if op == 0x6b then (32, total isub)
    else if op == 0x6c then (32, total imul)
    else if op == 0x6d then (32, idiv_s)
    else if op == 0x6e then (32, idiv_u)
    else if op == 0x6f then (32, irem_s)
    else if op == 0x70 then (32, irem_u)
    else if op == 0x71 then (32, total iand)
    else if op == 0x72 then (32, total ior)
    else if op == 0x73 then (32, total ixor)
    else if op == 0x74 then (32, total ishl)
    else if op == 0x75 then (32, total ishr_s)
    else if op == 0x76 then (32, total ishr_u)
    else if op == 0x77 then (32, total irotl)
    else if op == 0x78 then (32, total irotr)
    else if op == 0x7c then (64, total iadd)
    else if op == 0x7d then (64, total isub)
    else if op == 0x7e then (64, total imul)
    else if op == 0x7f then (64, idiv_s)
    else if op == 0x80 then (64, idiv_u)
    else if op == 0x81 then (64, irem_s)
    else if op == 0x82 then (64, irem_u)
    else if op == 0x83 then (64, total iand)
    else if op == 0x84 then (64, total ior)
    else if op == 0x85 then (64, total ixor)
    else if op == 0x86 then (64, total ishl)
    else if op == 0x87 then (64, total ishr_s)
    else if op == 0x88 then (64, total ishr_u)
    else if op == 0x89 then (64, total irotl)
    else (64, total irotr)

-- the value, where there is one
unfoldable pub binary_value : ℕ → ℕ → ℕ → Option ℕ
binary_value op a b = let entry = binary_entry op in entry.1 entry.0 a b

-- ---- tests

abbrev pub IsCompare : ℕ → Type 0
IsCompare op = IsFrom 0x45 0x4f op ⊎ IsFrom 0x50 0x5a op

-- a test of the first operand alone
abbrev pub of_first : (ℕ → ℕ → Bool) → ℕ → ℕ → ℕ → Bool
of_first f N i j = f N i

unfoldable pub compare_entry : ℕ → ℕ × (ℕ → ℕ → ℕ → Bool)
compare_entry op =
    if op == 0x45 then (32, of_first ieqz)
    else if op == 0x46 then (32, ieq)
    else if op == 0x47 then (32, ine)
    else if op == 0x48 then (32, ilt_s)
    else if op == 0x49 then (32, ilt_u)
    else if op == 0x4a then (32, igt_s)
    else if op == 0x4b then (32, igt_u)
    else if op == 0x4c then (32, ile_s)
    else if op == 0x4d then (32, ile_u)
    else if op == 0x4e then (32, ige_s)
    else if op == 0x4f then (32, ige_u)
    else if op == 0x50 then (64, of_first ieqz)
    else if op == 0x51 then (64, ieq)
    else if op == 0x52 then (64, ine)
    else if op == 0x53 then (64, ilt_s)
    else if op == 0x54 then (64, ilt_u)
    else if op == 0x55 then (64, igt_s)
    else if op == 0x56 then (64, igt_u)
    else if op == 0x57 then (64, ile_s)
    else if op == 0x58 then (64, ile_u)
    else if op == 0x59 then (64, ige_s)
    else (64, ige_u)

unfoldable pub compare_value : ℕ → ℕ → ℕ → Bool
compare_value op a b = let entry = compare_entry op in entry.1 entry.0 a b

-- ---- conversions

abbrev pub IsConvert : ℕ → Type 0
IsConvert op = (op ≡ 0xa7) ⊎ IsFrom 0xac 0xad op

-- from how many bits, to how many, and the operator
unfoldable pub convert_entry : ℕ → ℕ × ℕ × (ℕ → ℕ → ℕ → ℕ)
convert_entry op =
    if op == 0xa7 then (64, 32, wrap)
    else if op == 0xac then (32, 64, extend_s)
    else (32, 64, extend_u)

unfoldable pub convert_value : ℕ → ℕ → ℕ
convert_value op a = let entry = convert_entry op in entry.2 entry.0 entry.1 a
