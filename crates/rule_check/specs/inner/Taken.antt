-- What stands on a tile. For private clauses.
use Rattle.std.specs.Prelude.{ℕ, Bool, false, ◌==◌, ◌&&◌, ◌||◌, List}
use Rattle.std.specs.List.{list_any}
use Rattle.game_tables.specs.declared.kind.Kind.{Kind}
use Rattle.game_tables.specs.Kinds.{obstructs, is_creep, is_pile, stands_fixed}
use Rattle.room_terrain.specs.Tiles.{tile}
use Rattle.room_table.specs.declared.object.Object.{Object}
use Rattle.rule_check.specs.declared.shared.Taken.{Taken}

abbrev pub nothing : Taken
nothing = record { creep = false; pile = false; fixed = false; obstructing = false }

-- the same with one of this kind
abbrev pub taken_with : Taken → Kind → Taken
taken_with taken kind = record {
  creep = taken.creep || is_creep kind;
  pile = taken.pile || is_pile kind;
  fixed = taken.fixed || stands_fixed kind;
  obstructing = taken.obstructing || obstructs kind;
}

-- something there may not be together with this kind
abbrev pub clash_with : Taken → Kind → Bool
clash_with taken kind =
    (taken.creep && is_creep kind) || (taken.pile && is_pile kind) || (taken.fixed && stands_fixed kind)
    || (taken.creep && obstructs kind) || (taken.obstructing && is_creep kind)

-- one of the objects stands on this tile and is of such a kind
abbrev pub any_on : ℕ → (Kind → Bool) → List Object → Bool
any_on at is objects = list_any (λ object. (tile object.x object.y == at) && is object.kind) objects

-- what stands on a tile, of these objects
abbrev pub taken_on : ℕ → List Object → Taken
taken_on at objects = record {
  creep = any_on at is_creep objects;
  pile = any_on at is_pile objects;
  fixed = any_on at stands_fixed objects;
  obstructing = any_on at obstructs objects;
}
