-- The integer operators of WebAssembly Core 1.0, chapters 4.3.2 and 4.3.4, each stated once for every width
-- N.
-- N bits are a whole number below 2 ^ N, and the names are those of the chapters.
use Rattle.std.specs.Prelude.{ℕ, zero, suc, ◌+◌, ◌-◌, ◌*◌, ◌/◌, ◌%◌, ◌^◌, ◌==◌, ◌&&◌, Bool, not, nat_lt}
use Rattle.std.specs.Prelude.{nat_le, if◌then◌else◌, Option, Some, None, List, [], ◌∷◌, count_by, bit_and}
use Rattle.std.specs.Prelude.{bit_or, bit_xor, ℤ, pos, negsuc, ◌-ℤ◌, int_lt, int_le, int_div, int_rem}
use Rattle.std.specs.List.{prefix_len, suffix_len}
use Rattle.std.specs.Int.{int_div_euclid}

-- ---- what N bits stand for

-- signed_N: the number that i stands for in two's complement
abbrev pub signed : ℕ → ℕ → ℤ
signed N i = if nat_lt i (2 ^ (N - 1)) then pos i else pos i -ℤ pos (2 ^ N)

-- the inverse of signed_N, where `negsuc n` is -(n + 1)
abbrev pub unsigned : ℕ → ℤ → ℕ
unsigned N (pos n) = n
unsigned N (negsuc n) = 2 ^ N - suc n

-- the least signed number, -2 ^ (N - 1), and -1, as N bits
abbrev pub least : ℕ → ℕ
least N = 2 ^ (N - 1)

abbrev pub minus_one : ℕ → ℕ
minus_one N = 2 ^ N - 1

-- ibits_N: the N binary digits of i, the highest first
unfoldable pub ibits : ℕ → ℕ → List ℕ
ibits zero i = []
ibits (suc n) i = i / 2 ^ n % 2 ∷ ibits n i

abbrev pub is_zero : ℕ → Bool
is_zero n = n == 0

abbrev pub is_one : ℕ → Bool
is_one n = n == 1

-- ---- counts of bits

-- the zero bits before the highest 1: all N for 0
unfoldable pub iclz : ℕ → ℕ → ℕ
iclz N i = prefix_len is_zero (ibits N i)

-- the zero bits after the lowest 1: all N for 0
unfoldable pub ictz : ℕ → ℕ → ℕ
ictz N i = suffix_len is_zero (ibits N i)

-- the bits that are 1
unfoldable pub ipopcnt : ℕ → ℕ → ℕ
ipopcnt N i = count_by is_one (ibits N i)

-- ---- arithmetic modulo 2 ^ N

abbrev pub iadd : ℕ → ℕ → ℕ → ℕ
iadd N i j = (i + j) % 2 ^ N

abbrev pub isub : ℕ → ℕ → ℕ → ℕ
isub N i j = (i + 2 ^ N - j) % 2 ^ N

abbrev pub imul : ℕ → ℕ → ℕ → ℕ
imul N i j = (i * j) % 2 ^ N

-- the quotient, truncated towards zero: none by 0
abbrev pub idiv_u : ℕ → ℕ → ℕ → Option ℕ
idiv_u N i j = if j == 0 then None else Some (i / j)

-- the same of the signed numbers: none by 0, and none of the least number by -1, since 2 ^ (N - 1) is no
-- signed number
abbrev pub idiv_s : ℕ → ℕ → ℕ → Option ℕ
idiv_s N i j =
    if j == 0 then None
    else if (i == least N) && (j == minus_one N) then None
    else Some (unsigned N (int_div (signed N i) (signed N j)))

-- the remainder: none by 0
abbrev pub irem_u : ℕ → ℕ → ℕ → Option ℕ
irem_u N i j = if j == 0 then None else Some (i % j)

-- the same of the signed numbers, with the sign of the dividend: none by 0
abbrev pub irem_s : ℕ → ℕ → ℕ → Option ℕ
irem_s N i j = if j == 0 then None else Some (unsigned N (int_rem (signed N i) (signed N j)))

-- ---- bits

abbrev pub iand : ℕ → ℕ → ℕ → ℕ
iand N i j = bit_and i j

abbrev pub ior : ℕ → ℕ → ℕ → ℕ
ior N i j = bit_or i j

abbrev pub ixor : ℕ → ℕ → ℕ → ℕ
ixor N i j = bit_xor i j

-- shifts by j modulo N places: to the left modulo 2 ^ N, to the right with zeros, and to the right with
-- copies of the highest bit, which rounds down
abbrev pub ishl : ℕ → ℕ → ℕ → ℕ
ishl N i j = (i * 2 ^ (j % N)) % 2 ^ N

abbrev pub ishr_u : ℕ → ℕ → ℕ → ℕ
ishr_u N i j = i / 2 ^ (j % N)

abbrev pub ishr_s : ℕ → ℕ → ℕ → ℕ
ishr_s N i j = unsigned N (int_div_euclid (signed N i) (pos (2 ^ (j % N))))

-- rotations by j modulo N places: what a shift drops at one end comes in at the other
abbrev pub irotl : ℕ → ℕ → ℕ → ℕ
irotl N i j = let k = j % N in (i * 2 ^ k) % 2 ^ N + i / 2 ^ (N - k)

abbrev pub irotr : ℕ → ℕ → ℕ → ℕ
irotr N i j = let k = j % N in i / 2 ^ k + (i * 2 ^ (N - k)) % 2 ^ N

-- ---- comparisons

abbrev pub ieqz : ℕ → ℕ → Bool
ieqz N i = i == 0

abbrev pub ieq : ℕ → ℕ → ℕ → Bool
ieq N i j = i == j

abbrev pub ine : ℕ → ℕ → ℕ → Bool
ine N i j = not (i == j)

abbrev pub ilt_u : ℕ → ℕ → ℕ → Bool
ilt_u N i j = nat_lt i j

abbrev pub ilt_s : ℕ → ℕ → ℕ → Bool
ilt_s N i j = int_lt (signed N i) (signed N j)

abbrev pub igt_u : ℕ → ℕ → ℕ → Bool
igt_u N i j = nat_lt j i

abbrev pub igt_s : ℕ → ℕ → ℕ → Bool
igt_s N i j = int_lt (signed N j) (signed N i)

abbrev pub ile_u : ℕ → ℕ → ℕ → Bool
ile_u N i j = nat_le i j

abbrev pub ile_s : ℕ → ℕ → ℕ → Bool
ile_s N i j = int_le (signed N i) (signed N j)

abbrev pub ige_u : ℕ → ℕ → ℕ → Bool
ige_u N i j = nat_le j i

abbrev pub ige_s : ℕ → ℕ → ℕ → Bool
ige_s N i j = int_le (signed N j) (signed N i)

-- ---- conversions from M to N bits

abbrev pub wrap : ℕ → ℕ → ℕ → ℕ
wrap M N i = i % 2 ^ N

abbrev pub extend_u : ℕ → ℕ → ℕ → ℕ
extend_u M N i = i

-- the N bits that stand for the signed number of the M bits
abbrev pub extend_s : ℕ → ℕ → ℕ → ℕ
extend_s M N i = unsigned N (signed M i)

-- the N bits that stand for the signed number of the low M bits (the sign-extension operators, which came to
-- the standard after Core 1.0: chapter 4.3.2 of Core 2.0, `iextendM_s`)
abbrev pub iextend_s : ℕ → ℕ → ℕ → ℕ
iextend_s M N i = extend_s M N (wrap N M i)
