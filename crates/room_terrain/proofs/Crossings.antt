-- What lies across from a tile has that tile across from it.
use Rattle.std.proofs.Common.{ℕ, ℤ, inl, inr, sym, subst, arith}
use Rattle.std.proofs.lemmas.Int.{ints}
use Rattle.room_terrain.specs.Geometry.{Crosses, IsInner, Mirrors}
use Rattle.room_terrain.specs.Names.{IsInRange}
use Rattle.room_terrain.specs.declared.name.RoomName.{RoomName}

crosses_back : (side : ℤ) (z : ℕ) (side' : ℤ) (z' : ℕ) → Crosses side z side' z' → Crosses side' z' side z
crosses_back side z side' z' (inl e) = inr (e.2, omega (arith, ints, e.1), e.0)
crosses_back side z side' z' (inr e) = inl (e.2, omega (arith, ints, e.1), e.0)

pub mirrors_back : (name : RoomName) (x y : ℕ) (other : RoomName) (x' y' : ℕ) → IsInRange name → Mirrors name x y other x' y' → Mirrors other x' y' name x y
mirrors_back name x y other x' y' within m = record {
  in_range = within;
  across = elim m.across [
    | inl p ↦ inl (crosses_back name.column x other.column x' p.0, subst IsInner (sym p.3) p.1, sym p.2, sym p.3)
    | inr p ↦ inr (crosses_back name.row y other.row y' p.0, subst IsInner (sym p.3) p.1, sym p.2, sym p.3)
  ];
}
