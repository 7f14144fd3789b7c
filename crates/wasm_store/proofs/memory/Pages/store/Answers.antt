use Rattle.std.proofs.Common.{◌≡◌, ◌∙◌, List, ℕ, ap, arith}
use Rattle.wasm_store.specs.Memory.{written}
use Rattle.wasm_store.proofs.LowBytes.{lowest_1, lowest_2, lowest_4, lowest_8}
use Rattle.wasm_store.proofs.memory.Pages.store.Goals as goal

pub returns-in-1-clause-written : goal.returns-in-1-clause-written
returns-in-1-clause-written c =
    let same = lowest_1 c.to_le_bytes-bytes.result c.args.value c.to_le_bytes-bytes.ensures in
    rw c.in-1.is (λ h. c.write_span.ensures.written h ∙ ap (λ (bytes : List ℕ). written c.args.self.now c.args.at bytes) same)

pub returns-in-2-clause-written : goal.returns-in-2-clause-written
returns-in-2-clause-written c =
    let same = lowest_2 c.to_le_bytes-bytes.result c.args.value c.to_le_bytes-bytes.ensures in
    rw c.in-2.is (λ h. c.write_span-in-2.ensures.written h ∙ ap (λ (bytes : List ℕ). written c.args.self.now c.args.at bytes) same)

pub returns-in-4-clause-written : goal.returns-in-4-clause-written
returns-in-4-clause-written c =
    let same = lowest_4 c.to_le_bytes-bytes.result c.args.value c.to_le_bytes-bytes.ensures in
    rw c.in-4.is (λ h. c.write_span-in-4.ensures.written h ∙ ap (λ (bytes : List ℕ). written c.args.self.now c.args.at bytes) same)

pub returns-in_default-clause-written : goal.returns-in_default-clause-written
returns-in_default-clause-written c =
    let last : c.args.width ≡ 8 = grind arith in
    let same = lowest_8 c.to_le_bytes-bytes.result c.args.value c.to_le_bytes-bytes.ensures in
    rw last (λ h. c.write_span-in_default.ensures.written h ∙ ap (λ (bytes : List ℕ). written c.args.self.now c.args.at bytes) same)
