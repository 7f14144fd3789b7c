-- A name would have been read to its end.
use Rattle.std.proofs.Common.{◌≡◌, ℕ, ℤ, pos, negsuc, to_z, of_z, w32, List, [], ◌∷◌, length, ◌==◌, false, append-nil, sym, ◌∙◌, arith}
use Rattle.room_terrain.specs.Names.{side_text, IsSideInRange}
use Rattle.room_terrain.proofs.Unique.{row_ends, text_ends}
use Rattle.std.proofs.lemmas.Int.{ints}
use Rattle.room_terrain.proofs.name.RoomName.read.Goals as goal

-- a column or row fits an `i32`
held : (side : ℤ) → IsSideInRange side → to_z w32 (of_z w32 side) ≡ side
held (pos n) within = omega (arith, ints)
held (negsuc n) within = omega (arith, ints)

pub returns-in_default-read_side-clause-err : goal.returns-in_default-read_side-clause-err
returns-in_default-read_side-clause-err c = λ name named.
    let front = c.in-Some.ensures.all name.column (side_text 78 83 name.row) named.in_range.column (row_ends name.row) (c.as_bytes.ensures.value ∙ named.spelled) in
    c.in_default-read_side.ensures.all name.row [] named.in_range.row text_ends (front.1 ∙ sym (append-nil _))

not_empty : (xs : List ℕ) → xs ≡ [] → false ≡ (length xs == 0) → ⊥
not_empty [] e h = cc
not_empty (x ∷ xs) e h = cc

pub returns-then-not-is_empty-clause-err : goal.returns-then-not-is_empty-clause-err
returns-then-not-is_empty-clause-err c = λ name named.
    let front = c.in-Some.ensures.all name.column (side_text 78 83 name.row) named.in_range.column (row_ends name.row) (c.as_bytes.ensures.value ∙ named.spelled) in
    let back = c.in-Some-read_side.ensures.all name.row [] named.in_range.row text_ends (front.1 ∙ sym (append-nil _)) in
    not_empty _ back.1 c.if-not-is_empty.ensures

pub returns-clause-only : goal.returns-clause-only
returns-clause-only c = λ other named.
    let front = c.in-Some.ensures.all other.column (side_text 78 83 other.row) named.in_range.column (row_ends other.row) (c.as_bytes.ensures.value ∙ named.spelled) in
    let back = c.in-Some-read_side.ensures.all other.row [] named.in_range.row text_ends (front.1 ∙ sym (append-nil _)) in
    let columns : other.column ≡ to_z w32 (of_z w32 c.in-Some.column) = sym (held c.in-Some.column c.in-Some.ensures.some.0 ∙ front.0) in
    let rows : other.row ≡ to_z w32 (of_z w32 c.in-Some-read_side.row) = sym (held c.in-Some-read_side.row c.in-Some-read_side.ensures.some.0 ∙ back.0) in
    λ i. record { column = columns i; row = rows i }
