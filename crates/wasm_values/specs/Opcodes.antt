-- The opcodes of the instructions on numbers and on the memory, row by row: WebAssembly Core 1.0, chapters
-- 5.4.3 and 5.4.5, with the types that chapters 3.3.1 and 3.3.4 give them.
use Rattle.std.specs.Prelude.{ℕ, ◌==◌, if◌then◌else◌, Bool, true, false, List, [], ◌∷◌, Option, Some, None}
use Rattle.wasm_values.specs.declared.types.ValType.{ValType}
use Rattle.wasm_values.specs.declared.types.ValType.TheVariants.{I32, I64}

-- What the instruction of an opcode does, as far as types tell.
pub data Meaning : Type 0 where
  -- a value of this type from so many bytes of the memory, their sign carried on or not
  loads : ValType → ℕ → Bool → Meaning
  -- the lowest bytes of a value of this type, so many, into the memory
  stores : ValType → ℕ → Meaning
  -- from one value of the first type one of the second
  unary : ValType → ValType → Meaning
  -- from two values of the first type one of the second
  binary : ValType → ValType → Meaning
  -- a float from the memory or into it
  moves_float : Meaning
  -- takes or gives a float
  works_on_floats : Meaning

unfoldable pub opcodes : List (ℕ × Meaning)
opcodes =
    (0x28, loads I32 4 false)  -- i32.load
    ∷ (0x29, loads I64 8 false)  -- i64.load
    ∷ (0x2a, moves_float)  -- f32.load
    ∷ (0x2b, moves_float)  -- f64.load
    ∷ (0x2c, loads I32 1 true)  -- i32.load8_s
    ∷ (0x2d, loads I32 1 false)  -- i32.load8_u
    ∷ (0x2e, loads I32 2 true)  -- i32.load16_s
    ∷ (0x2f, loads I32 2 false)  -- i32.load16_u
    ∷ (0x30, loads I64 1 true)  -- i64.load8_s
    ∷ (0x31, loads I64 1 false)  -- i64.load8_u
    ∷ (0x32, loads I64 2 true)  -- i64.load16_s
    ∷ (0x33, loads I64 2 false)  -- i64.load16_u
    ∷ (0x34, loads I64 4 true)  -- i64.load32_s
    ∷ (0x35, loads I64 4 false)  -- i64.load32_u
    ∷ (0x36, stores I32 4)  -- i32.store
    ∷ (0x37, stores I64 8)  -- i64.store
    ∷ (0x38, moves_float)  -- f32.store
    ∷ (0x39, moves_float)  -- f64.store
    ∷ (0x3a, stores I32 1)  -- i32.store8
    ∷ (0x3b, stores I32 2)  -- i32.store16
    ∷ (0x3c, stores I64 1)  -- i64.store8
    ∷ (0x3d, stores I64 2)  -- i64.store16
    ∷ (0x3e, stores I64 4)  -- i64.store32
    ∷ (0x45, unary I32 I32)  -- i32.eqz
    ∷ (0x46, binary I32 I32)  -- i32.eq
    ∷ (0x47, binary I32 I32)  -- i32.ne
    ∷ (0x48, binary I32 I32)  -- i32.lt_s
    ∷ (0x49, binary I32 I32)  -- i32.lt_u
    ∷ (0x4a, binary I32 I32)  -- i32.gt_s
    ∷ (0x4b, binary I32 I32)  -- i32.gt_u
    ∷ (0x4c, binary I32 I32)  -- i32.le_s
    ∷ (0x4d, binary I32 I32)  -- i32.le_u
    ∷ (0x4e, binary I32 I32)  -- i32.ge_s
    ∷ (0x4f, binary I32 I32)  -- i32.ge_u
    ∷ (0x50, unary I64 I32)  -- i64.eqz
    ∷ (0x51, binary I64 I32)  -- i64.eq
    ∷ (0x52, binary I64 I32)  -- i64.ne
    ∷ (0x53, binary I64 I32)  -- i64.lt_s
    ∷ (0x54, binary I64 I32)  -- i64.lt_u
    ∷ (0x55, binary I64 I32)  -- i64.gt_s
    ∷ (0x56, binary I64 I32)  -- i64.gt_u
    ∷ (0x57, binary I64 I32)  -- i64.le_s
    ∷ (0x58, binary I64 I32)  -- i64.le_u
    ∷ (0x59, binary I64 I32)  -- i64.ge_s
    ∷ (0x5a, binary I64 I32)  -- i64.ge_u
    ∷ (0x5b, works_on_floats)  -- f32.eq
    ∷ (0x5c, works_on_floats)  -- f32.ne
    ∷ (0x5d, works_on_floats)  -- f32.lt
    ∷ (0x5e, works_on_floats)  -- f32.gt
    ∷ (0x5f, works_on_floats)  -- f32.le
    ∷ (0x60, works_on_floats)  -- f32.ge
    ∷ (0x61, works_on_floats)  -- f64.eq
    ∷ (0x62, works_on_floats)  -- f64.ne
    ∷ (0x63, works_on_floats)  -- f64.lt
    ∷ (0x64, works_on_floats)  -- f64.gt
    ∷ (0x65, works_on_floats)  -- f64.le
    ∷ (0x66, works_on_floats)  -- f64.ge
    ∷ (0x67, unary I32 I32)  -- i32.clz
    ∷ (0x68, unary I32 I32)  -- i32.ctz
    ∷ (0x69, unary I32 I32)  -- i32.popcnt
    ∷ (0x6a, binary I32 I32)  -- i32.add
    ∷ (0x6b, binary I32 I32)  -- i32.sub
    ∷ (0x6c, binary I32 I32)  -- i32.mul
    ∷ (0x6d, binary I32 I32)  -- i32.div_s
    ∷ (0x6e, binary I32 I32)  -- i32.div_u
    ∷ (0x6f, binary I32 I32)  -- i32.rem_s
    ∷ (0x70, binary I32 I32)  -- i32.rem_u
    ∷ (0x71, binary I32 I32)  -- i32.and
    ∷ (0x72, binary I32 I32)  -- i32.or
    ∷ (0x73, binary I32 I32)  -- i32.xor
    ∷ (0x74, binary I32 I32)  -- i32.shl
    ∷ (0x75, binary I32 I32)  -- i32.shr_s
    ∷ (0x76, binary I32 I32)  -- i32.shr_u
    ∷ (0x77, binary I32 I32)  -- i32.rotl
    ∷ (0x78, binary I32 I32)  -- i32.rotr
    ∷ (0x79, unary I64 I64)  -- i64.clz
    ∷ (0x7a, unary I64 I64)  -- i64.ctz
    ∷ (0x7b, unary I64 I64)  -- i64.popcnt
    ∷ (0x7c, binary I64 I64)  -- i64.add
    ∷ (0x7d, binary I64 I64)  -- i64.sub
    ∷ (0x7e, binary I64 I64)  -- i64.mul
    ∷ (0x7f, binary I64 I64)  -- i64.div_s
    ∷ (0x80, binary I64 I64)  -- i64.div_u
    ∷ (0x81, binary I64 I64)  -- i64.rem_s
    ∷ (0x82, binary I64 I64)  -- i64.rem_u
    ∷ (0x83, binary I64 I64)  -- i64.and
    ∷ (0x84, binary I64 I64)  -- i64.or
    ∷ (0x85, binary I64 I64)  -- i64.xor
    ∷ (0x86, binary I64 I64)  -- i64.shl
    ∷ (0x87, binary I64 I64)  -- i64.shr_s
    ∷ (0x88, binary I64 I64)  -- i64.shr_u
    ∷ (0x89, binary I64 I64)  -- i64.rotl
    ∷ (0x8a, binary I64 I64)  -- i64.rotr
    ∷ (0x8b, works_on_floats)  -- f32.abs
    ∷ (0x8c, works_on_floats)  -- f32.neg
    ∷ (0x8d, works_on_floats)  -- f32.ceil
    ∷ (0x8e, works_on_floats)  -- f32.floor
    ∷ (0x8f, works_on_floats)  -- f32.trunc
    ∷ (0x90, works_on_floats)  -- f32.nearest
    ∷ (0x91, works_on_floats)  -- f32.sqrt
    ∷ (0x92, works_on_floats)  -- f32.add
    ∷ (0x93, works_on_floats)  -- f32.sub
    ∷ (0x94, works_on_floats)  -- f32.mul
    ∷ (0x95, works_on_floats)  -- f32.div
    ∷ (0x96, works_on_floats)  -- f32.min
    ∷ (0x97, works_on_floats)  -- f32.max
    ∷ (0x98, works_on_floats)  -- f32.copysign
    ∷ (0x99, works_on_floats)  -- f64.abs
    ∷ (0x9a, works_on_floats)  -- f64.neg
    ∷ (0x9b, works_on_floats)  -- f64.ceil
    ∷ (0x9c, works_on_floats)  -- f64.floor
    ∷ (0x9d, works_on_floats)  -- f64.trunc
    ∷ (0x9e, works_on_floats)  -- f64.nearest
    ∷ (0x9f, works_on_floats)  -- f64.sqrt
    ∷ (0xa0, works_on_floats)  -- f64.add
    ∷ (0xa1, works_on_floats)  -- f64.sub
    ∷ (0xa2, works_on_floats)  -- f64.mul
    ∷ (0xa3, works_on_floats)  -- f64.div
    ∷ (0xa4, works_on_floats)  -- f64.min
    ∷ (0xa5, works_on_floats)  -- f64.max
    ∷ (0xa6, works_on_floats)  -- f64.copysign
    ∷ (0xa7, unary I64 I32)  -- i32.wrap_i64
    ∷ (0xa8, works_on_floats)  -- i32.trunc_f32_s
    ∷ (0xa9, works_on_floats)  -- i32.trunc_f32_u
    ∷ (0xaa, works_on_floats)  -- i32.trunc_f64_s
    ∷ (0xab, works_on_floats)  -- i32.trunc_f64_u
    ∷ (0xac, unary I32 I64)  -- i64.extend_i32_s
    ∷ (0xad, unary I32 I64)  -- i64.extend_i32_u
    ∷ (0xae, works_on_floats)  -- i64.trunc_f32_s
    ∷ (0xaf, works_on_floats)  -- i64.trunc_f32_u
    ∷ (0xb0, works_on_floats)  -- i64.trunc_f64_s
    ∷ (0xb1, works_on_floats)  -- i64.trunc_f64_u
    ∷ (0xb2, works_on_floats)  -- f32.convert_i32_s
    ∷ (0xb3, works_on_floats)  -- f32.convert_i32_u
    ∷ (0xb4, works_on_floats)  -- f32.convert_i64_s
    ∷ (0xb5, works_on_floats)  -- f32.convert_i64_u
    ∷ (0xb6, works_on_floats)  -- f32.demote_f64
    ∷ (0xb7, works_on_floats)  -- f64.convert_i32_s
    ∷ (0xb8, works_on_floats)  -- f64.convert_i32_u
    ∷ (0xb9, works_on_floats)  -- f64.convert_i64_s
    ∷ (0xba, works_on_floats)  -- f64.convert_i64_u
    ∷ (0xbb, works_on_floats)  -- f64.promote_f32
    ∷ (0xbc, works_on_floats)  -- i32.reinterpret_f32
    ∷ (0xbd, works_on_floats)  -- i64.reinterpret_f64
    ∷ (0xbe, works_on_floats)  -- f32.reinterpret_i32
    ∷ (0xbf, works_on_floats)  -- f64.reinterpret_i64
    ∷ (0xc0, unary I32 I32)  -- i32.extend8_s
    ∷ (0xc1, unary I32 I32)  -- i32.extend16_s
    ∷ (0xc2, unary I64 I64)  -- i64.extend8_s
    ∷ (0xc3, unary I64 I64)  -- i64.extend16_s
    ∷ (0xc4, unary I64 I64)  -- i64.extend32_s
    ∷ []

-- The meaning of an opcode by these rows, if it has one.
unfoldable pub meaning_in : List (ℕ × Meaning) → ℕ → Option Meaning
meaning_in [] op = None
meaning_in (row ∷ rows) op = if row.0 == op then Some row.1 else meaning_in rows op

unfoldable pub meaning : ℕ → Option Meaning
meaning op = meaning_in opcodes op
