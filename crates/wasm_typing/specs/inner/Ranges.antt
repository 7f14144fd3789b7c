-- The types of operations by the bounds of their opcodes, as the code tells them apart. Loads stand without
-- their signs, which no type shows.
use Rattle.std.specs.Prelude.{ℕ, ◌==◌, if◌then◌else◌, false, Option, Some, None, nat_lt}
use Rattle.wasm_values.specs.declared.types.ValType.{ValType}
use Rattle.wasm_values.specs.declared.types.ValType.TheVariants.{I32, I64}
use Rattle.wasm_typing.specs.Operations.{Signature, of_one, of_two, Access}

unfoldable pub signature_by_bounds : ℕ → Option Signature
signature_by_bounds op =
    if nat_lt op 0x45 then None
    else if nat_lt op 0x46 then Some (of_one I32 I32)
    else if nat_lt op 0x50 then Some (of_two I32 I32)
    else if nat_lt op 0x51 then Some (of_one I64 I32)
    else if nat_lt op 0x5b then Some (of_two I64 I32)
    else if nat_lt op 0x67 then None
    else if nat_lt op 0x6a then Some (of_one I32 I32)
    else if nat_lt op 0x79 then Some (of_two I32 I32)
    else if nat_lt op 0x7c then Some (of_one I64 I64)
    else if nat_lt op 0x8b then Some (of_two I64 I64)
    else if op == 0xa7 then Some (of_one I64 I32)
    else if op == 0xac then Some (of_one I32 I64)
    else if op == 0xad then Some (of_one I32 I64)
    else if nat_lt op 0xc0 then None
    else if nat_lt op 0xc2 then Some (of_one I32 I32)
    else if nat_lt op 0xc5 then Some (of_one I64 I64)
    else None

abbrev pub moves : ValType → ℕ → Option Access
moves value bytes = Some (record { value = value; bytes = bytes; signed = false })

unfoldable pub load_by_bounds : ℕ → Option Access
load_by_bounds op =
    if op == 0x28 then moves I32 4
    else if op == 0x29 then moves I64 8
    else if nat_lt op 0x2c then None
    else if nat_lt op 0x2e then moves I32 1
    else if nat_lt op 0x30 then moves I32 2
    else if nat_lt op 0x32 then moves I64 1
    else if nat_lt op 0x34 then moves I64 2
    else if nat_lt op 0x36 then moves I64 4
    else None

unfoldable pub store_by_bounds : ℕ → Option Access
store_by_bounds op =
    if op == 0x36 then moves I32 4
    else if op == 0x37 then moves I64 8
    else if op == 0x3a then moves I32 1
    else if op == 0x3b then moves I32 2
    else if op == 0x3c then moves I64 1
    else if op == 0x3d then moves I64 2
    else if op == 0x3e then moves I64 4
    else None
