-- What stands behind an opcode and is of one size, at the front of bytes: nothing, or a number in so many bytes.
use Rattle.std.proofs.Common.{◌≡◌, ℕ, ◌<◌, ◌^◌, List, [], ◌++◌, refl, ap, sym, ◌∙◌, arith, length, length-append, ◌+◌}
use Rattle.std.proofs.lemmas.List.{append_cancel_left}
use Rattle.byteorder.specs.Endian.{little_bytes, little_number}
use Rattle.byteorder.specs.Numbers.{little_number-reads_back, length-bytes_low_first}
use Rattle.byte_fields.specs.Front.{Begins, BeginsOnly, BeginsNone}
use Rattle.wasm_values.proofs.Opcodes.{SpellsNothing, SpellsLittle}

pub nothing_begins : (bytes : List ℕ) → Begins SpellsNothing bytes tt bytes
nothing_begins bytes = ([], refl, refl)

pub nothing_only : (bytes : List ℕ) → BeginsOnly SpellsNothing bytes tt bytes
nothing_only bytes = λ other more (text, s, e). (refl, sym (e ∙ ap (λ z. z ++ more) s))

pub little_begins : (count : ℕ) (bytes rest : List ℕ) (number : ℕ) → number < 256 ^ count → bytes ≡ little_bytes count number ++ rest → Begins (SpellsLittle count) bytes number rest
little_begins count bytes rest number fits e = (little_bytes count number, (fits, refl), e)

pub little_only : (count : ℕ) (bytes rest : List ℕ) (number : ℕ) → number < 256 ^ count → bytes ≡ little_bytes count number ++ rest → BeginsOnly (SpellsLittle count) bytes number rest
little_only count bytes rest number fits e = λ other more (text, (below, s), f).
    let there : bytes ≡ little_bytes count other ++ more = f ∙ ap (λ z. z ++ more) s in
    let one : little_number count bytes ≡ other = ap (little_number count) there ∙ little_number-reads_back count other more below in
    let two : little_number count bytes ≡ number = ap (little_number count) e ∙ little_number-reads_back count number rest fits in
    let same : other ≡ number = sym one ∙ two in
    (same, append_cancel_left (little_bytes count number) more rest (ap (λ z. little_bytes count z ++ more) (sym same) ∙ sym there ∙ e))

pub little_none : (count : ℕ) (bytes : List ℕ) → length bytes < count → BeginsNone (SpellsLittle count) bytes
little_none count bytes short = λ number rest (text, (below, s), f).
    let there : length bytes ≡ length (little_bytes count number) + length rest = ap length (f ∙ ap (λ z. z ++ rest) s) ∙ length-append (little_bytes count number) rest in
    omega (arith, there, length-bytes_low_first 0 count number)
