use Rattle.std.proofs.Common.{◌≡◌, ℕ, ◌↔◌, ◌++◌, map, length, get_or, false, true}
use Rattle.std.specs.List.{AllByRecursion}
use Rattle.room_table.specs.Tables.{IsOnTile}
use Rattle.creep_move.specs.inner.Walk.{IsStoodOn}
use Rattle.creep_move.proofs.walk.mark_standing.Given as goal

-- the tiles of the creeps so far
abbrev pub invariant-loop-object : goal.invariant-loop-object
invariant-loop-object l = record {
  rest : map (λ object. object.now) l.yielded ++ l.object-iterator ≡ l.fn.objects;
  tiles : AllByRecursion IsOnTile l.object-iterator;
  long : length l.held ≡ 2500;
  stood : (t : ℕ) → get_or l.held t false ≡ true ↔ IsStoodOn (map (λ object. object.now) l.yielded) t;
}
