use Rattle.std.proofs.Common.{◌≡◌, ℕ, Option, sym, subst, inl, inr, arith}
use Rattle.wasm_plain.proofs.Accesses.{Reads, IsFound, reads_i32, reads_i64, reads_i32_8_s, reads_i32_8_u, reads_i32_16_s, reads_i32_16_u, reads_i64_8_s, reads_i64_8_u, reads_i64_16_s, reads_i64_16_u, reads_i64_32_s, reads_i64_32_u, load_known}
use Rattle.wasm_plain.proofs.memories.value_at.Goals as goal

pub returns-in-40 : goal.returns-in-40
returns-in-40 c =
    let p : IsFound c.args.pages.now c.args.address 4 c.load.result = record { range = c.load.ensures.range; value = c.load.ensures.value; narrow = c.load.ensures.narrow } in
    elim c.in-40.is [
      | inl e ↦ subst (λ (x : ℕ). Reads x c.args.pages.now c.args.address c.load.result) (sym e) (reads_i32 c.args.pages.now c.args.address c.load.result p)
      | inr e ↦ subst (λ (x : ℕ). Reads x c.args.pages.now c.args.address c.load.result) (sym e) (reads_i64_32_u c.args.pages.now c.args.address c.load.result p)
    ]

pub returns-in-41 : goal.returns-in-41
returns-in-41 c =
    let l = c.load-in-41 in
    let p : IsFound c.args.pages.now c.args.address 8 l.result = record { range = l.ensures.range; value = l.ensures.value; narrow = l.ensures.narrow } in
    subst (λ (x : ℕ). Reads x c.args.pages.now c.args.address l.result) (sym c.in-41.is) (reads_i64 c.args.pages.now c.args.address l.result p)

pub returns-in-45 : goal.returns-in-45
returns-in-45 c =
    let l = c.load-in-45 in
    let p : IsFound c.args.pages.now c.args.address 1 l.result = record { range = l.ensures.range; value = l.ensures.value; narrow = l.ensures.narrow } in
    elim c.in-45.is [
      | inl e ↦ subst (λ (x : ℕ). Reads x c.args.pages.now c.args.address l.result) (sym e) (reads_i32_8_u c.args.pages.now c.args.address l.result p)
      | inr e ↦ subst (λ (x : ℕ). Reads x c.args.pages.now c.args.address l.result) (sym e) (reads_i64_8_u c.args.pages.now c.args.address l.result p)
    ]

pub returns-in-47 : goal.returns-in-47
returns-in-47 c =
    let l = c.load-in-47 in
    let p : IsFound c.args.pages.now c.args.address 2 l.result = record { range = l.ensures.range; value = l.ensures.value; narrow = l.ensures.narrow } in
    elim c.in-47.is [
      | inl e ↦ subst (λ (x : ℕ). Reads x c.args.pages.now c.args.address l.result) (sym e) (reads_i32_16_u c.args.pages.now c.args.address l.result p)
      | inr e ↦ subst (λ (x : ℕ). Reads x c.args.pages.now c.args.address l.result) (sym e) (reads_i64_16_u c.args.pages.now c.args.address l.result p)
    ]

pub returns-in-44 : goal.returns-in-44
returns-in-44 c =
    let l = c.load-in-44 in
    let p : IsFound c.args.pages.now c.args.address 1 l.result = record { range = l.ensures.range; value = l.ensures.value; narrow = l.ensures.narrow } in
    subst (λ (x : ℕ). Reads x c.args.pages.now c.args.address c.signed_8_as_32.result) (sym c.in-44.is)
    (subst (λ (o : Option ℕ). Reads 0x2c c.args.pages.now c.args.address o) (sym c.signed_8_as_32.ensures) (reads_i32_8_s c.args.pages.now c.args.address l.result p))

pub returns-in-46 : goal.returns-in-46
returns-in-46 c =
    let l = c.load-in-46 in
    let p : IsFound c.args.pages.now c.args.address 2 l.result = record { range = l.ensures.range; value = l.ensures.value; narrow = l.ensures.narrow } in
    subst (λ (x : ℕ). Reads x c.args.pages.now c.args.address c.signed_16_as_32.result) (sym c.in-46.is)
    (subst (λ (o : Option ℕ). Reads 0x2e c.args.pages.now c.args.address o) (sym c.signed_16_as_32.ensures) (reads_i32_16_s c.args.pages.now c.args.address l.result p))

pub returns-in-48 : goal.returns-in-48
returns-in-48 c =
    let l = c.load-in-48 in
    let p : IsFound c.args.pages.now c.args.address 1 l.result = record { range = l.ensures.range; value = l.ensures.value; narrow = l.ensures.narrow } in
    subst (λ (x : ℕ). Reads x c.args.pages.now c.args.address c.signed_8_as_64.result) (sym c.in-48.is)
    (subst (λ (o : Option ℕ). Reads 0x30 c.args.pages.now c.args.address o) (sym c.signed_8_as_64.ensures) (reads_i64_8_s c.args.pages.now c.args.address l.result p))

pub returns-in-50 : goal.returns-in-50
returns-in-50 c =
    let l = c.load-in-50 in
    let p : IsFound c.args.pages.now c.args.address 2 l.result = record { range = l.ensures.range; value = l.ensures.value; narrow = l.ensures.narrow } in
    subst (λ (x : ℕ). Reads x c.args.pages.now c.args.address c.signed_16_as_64.result) (sym c.in-50.is)
    (subst (λ (o : Option ℕ). Reads 0x32 c.args.pages.now c.args.address o) (sym c.signed_16_as_64.ensures) (reads_i64_16_s c.args.pages.now c.args.address l.result p))

pub returns-in_default : goal.returns-in_default
returns-in_default c =
    let l = c.load-in_default in
    let p : IsFound c.args.pages.now c.args.address 4 l.result = record { range = l.ensures.range; value = l.ensures.value; narrow = l.ensures.narrow } in
    let k = load_known c.args.op c.requires.0 c.requires.1 in
    let e : c.args.op ≡ 0x34 = grind (arith, k) in
    subst (λ (x : ℕ). Reads x c.args.pages.now c.args.address c.signed_32_as_64.result) (sym e)
    (subst (λ (o : Option ℕ). Reads 0x34 c.args.pages.now c.args.address o) (sym c.signed_32_as_64.ensures) (reads_i64_32_s c.args.pages.now c.args.address l.result p))
