use Rattle.wasm_values.specs.Values.{spells_i32, spells_i64, spells_f32, spells_f64}
use Rattle.wasm_encode.proofs.values.val_code.Goals as goal

pub returns-in-I32 : goal.returns-in-I32
returns-in-I32 c = rw c.in-I32.is spells_i32

pub returns-in-I64 : goal.returns-in-I64
returns-in-I64 c = rw c.in-I64.is spells_i64

pub returns-in-F32 : goal.returns-in-F32
returns-in-F32 c = rw c.in-F32.is spells_f32

pub returns-in-F64 : goal.returns-in-F64
returns-in-F64 c = rw c.in-F64.is spells_f64
