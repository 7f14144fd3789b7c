-- Instructions without floats, from lists of the code to what they stand for.
use Rattle.std.proofs.Common.{◌≡◌, ℕ, suc, zero, ◌+◌, ◌<◌, List, [], ◌∷◌, length, get_or, take, sym, subst, arith, add-one}
use Rattle.wasm_values.specs.View.{instr_view, items_view}
use Rattle.wasm_values.specs.declared.instr.Instr.{Instr}
use Rattle.wasm_validate.specs.Floats.{OpHasNoFloat, OpsHaveNoFloat}

plain_next : (items : List Instr) (at : ℕ) (i : Instr) → i ≡ get_or items at i → at < length items
    → OpsHaveNoFloat (items_view (take at items)) → OpHasNoFloat (instr_view i) → OpsHaveNoFloat (items_view (take (suc at) items))
plain_next [] at i is below h p = absurd (omega arith)
plain_next (x ∷ xs) zero i is below h p = (subst (λ (z : Instr). OpHasNoFloat (instr_view z)) is p, tt)
plain_next (x ∷ xs) (suc at) i is below h p = (h.0, plain_next xs at i is (omega arith) h.1 p)

pub plain_more : (items : List Instr) (at : ℕ) (i : Instr) → i ≡ get_or items at i → at < length items
    → OpsHaveNoFloat (items_view (take at items)) → OpHasNoFloat (instr_view i) → OpsHaveNoFloat (items_view (take (at + 1) items))
plain_more items at i is below h p = rw add-one (plain_next items at i is below h p)

pub plain_at : (items : List Instr) (at : ℕ) (i : Instr) → i ≡ get_or items at i → at < length items → OpsHaveNoFloat (items_view items) → OpHasNoFloat (instr_view i)
plain_at [] at i is below h = absurd (omega arith)
plain_at (x ∷ xs) zero i is below h = subst (λ (z : Instr). OpHasNoFloat (instr_view z)) (sym is) h.0
plain_at (x ∷ xs) (suc at) i is below h = plain_at xs at i is (omega arith) h.1
