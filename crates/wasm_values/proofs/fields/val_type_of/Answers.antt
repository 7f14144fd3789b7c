use Rattle.wasm_values.specs.Values.{spells_i32, spells_i64, spells_f32, spells_f64}
use Rattle.wasm_values.proofs.fields.val_type_of.Goals as goal

pub returns-in-127-clause-found : goal.returns-in-127-clause-found
returns-in-127-clause-found c = rw c.in-127.is spells_i32

pub returns-in-126-clause-found : goal.returns-in-126-clause-found
returns-in-126-clause-found c = rw c.in-126.is spells_i64

pub returns-in-125-clause-found : goal.returns-in-125-clause-found
returns-in-125-clause-found c = rw c.in-125.is spells_f32

pub returns-in-124-clause-found : goal.returns-in-124-clause-found
returns-in-124-clause-found c = rw c.in-124.is spells_f64
