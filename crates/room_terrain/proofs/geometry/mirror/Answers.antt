-- A tile that lies across is found at the one border or at the other.
use Rattle.std.proofs.Common.{◌≡◌, ℕ, ℤ, pos, negsuc, ◌≤ℤ◌, to_z, of_z, w32, sym, subst, inl, inr, arith}
use Rattle.std.proofs.lemmas.Int.{ints}
use Rattle.room_terrain.specs.Geometry.{Crosses, IsInner}
use Rattle.room_terrain.specs.Names.{IsSideInRange}
use Rattle.room_terrain.proofs.geometry.mirror.Goals as goal

-- a tile on the edge is no inner one
no_edge : (side : ℤ) (z : ℕ) (side' : ℤ) (z' : ℕ) → Crosses side z side' z' → IsInner z → ⊥
no_edge side z side' z' (inl e) h = omega arith
no_edge side z side' z' (inr e) h = omega arith

bounds : (side : ℤ) → IsSideInRange side → (negsuc 127 ≤ℤ side) × (side ≤ℤ pos 127)
bounds (pos n) within = (omega (arith, ints), omega (arith, ints))
bounds (negsuc n) within = (omega (arith, ints), omega (arith, ints))

-- what is left for a room of the world fits an `i32`
held : (side : ℤ) (z : ℕ) (side' : ℤ) (z' : ℕ) → Crosses side z side' z' → IsSideInRange side' → to_z w32 (of_z w32 side) ≡ side
held side z side' z' (inl e) within = let b = bounds side' within in omega (arith, ints, e.1, b.0, b.1)
held side z side' z' (inr e) within = let b = bounds side' within in omega (arith, ints, e.1, b.0, b.1)

crossed : (side : ℤ) (z : ℕ) (side' : ℤ) (z' : ℕ) → Crosses side z side' z' → IsSideInRange side' → Crosses (to_z w32 (of_z w32 side)) z side' z'
crossed side z side' z' e within = subst (λ (s : ℤ). Crosses s z side' z') (sym (held side z side' z' e within)) e

pub returns-in-None-clause-none : goal.returns-in-None-clause-none
returns-in-None-clause-none c = λ other x' y' m. elim m.across [
  | inl p ↦ c.in-None.ensures.none _ _ (crossed c.args.name.column _ _ _ p.0 m.in_range.column) m.in_range.column
  | inr p ↦ no_edge c.args.name.row _ _ _ p.0 (c.is_inner.ensures.0 c.if-is_inner.true)
]

pub returns-in-None-cross-clause-none : goal.returns-in-None-cross-clause-none
returns-in-None-cross-clause-none c = λ other x' y' m. elim m.across [
  | inl p ↦ no_edge c.args.name.column _ _ _ p.0 (c.is_inner-else-is_inner.ensures.0 c.if-is_inner-2.true)
  | inr p ↦ c.in-None-cross.ensures.none _ _ (crossed c.args.name.row _ _ _ p.0 m.in_range.row) m.in_range.row
]
