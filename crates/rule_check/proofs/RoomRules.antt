-- The rules that a room keeps by itself, from what was found of them.
use Rattle.std.proofs.Common.{◌≡◌, ◌<◌, ◌≤◌, ℕ, List, Bool, true, false, Option, Some, None, MatchBool, not, refl, arith}
use Rattle.std.specs.List.{count_by}
use Rattle.std.specs.Option.{is_some}
use Rattle.game_tables.specs.Kinds.{is_controller}
use Rattle.room_terrain.specs.declared.terrain.Ground.{Ground}
use Rattle.room_table.specs.declared.object.Object.{Object}
use Rattle.world_rules.specs.Rules.{IsInRangeAs, IsOnWrongTile}
use Rattle.rule_check.specs.Kept.{IsBlocked, KeepsRoomRules}
use Rattle.rule_check.specs.inner.Checks.{IsLeast, AnyObject}

-- what is found is so at some number
found_so : (so : ℕ → Type 0) (found : Option ℕ) → IsLeast so found → is_some found ≡ true → (n : ℕ) × so n
found_so so None least is = absurd cc
found_so so (Some n) least is = (n, least.0)

none_so : (so : ℕ → Type 0) (found : Option ℕ) → IsLeast so found → is_some found ≡ false → (n : ℕ) → so n → ⊥
none_so so None least is = least
none_so so (Some n) least is = absurd cc

pub wrong_tile : (grounds : List Ground) (objects : List Object) (found : Option ℕ) → IsLeast (AnyObject (λ object. IsOnWrongTile grounds object) objects) found → is_some found ≡ true → KeepsRoomRules grounds objects → ⊥
wrong_tile grounds objects found least is kept = let at = found_so (AnyObject (λ object. IsOnWrongTile grounds object) objects) found least is in kept.tiles at.1.index at.1.object at.1.place at.1.is

pub wrong_range : (grounds : List Ground) (objects : List Object) (found : Option ℕ) → IsLeast (AnyObject (λ object. IsInRangeAs object.kind object → ⊥) objects) found → is_some found ≡ true → KeepsRoomRules grounds objects → ⊥
wrong_range grounds objects found least is kept = let at = found_so (AnyObject (λ object. IsInRangeAs object.kind object → ⊥) objects) found least is in kept.ranges at.1.index at.1.object at.1.place at.1.is

pub two_controllers : (grounds : List Ground) (objects : List Object) → 2 ≤ count_by (λ object. is_controller object.kind) objects → KeepsRoomRules grounds objects → ⊥
two_controllers grounds objects many kept = let few : count_by (λ object. is_controller object.kind) objects < 2 = kept.controllers in omega arith

pub room_kept : (grounds : List Ground) (objects : List Object) (tile range blocked : Option ℕ) (answer : Bool)
    → IsLeast (AnyObject (λ object. IsOnWrongTile grounds object) objects) tile → is_some tile ≡ false
    → IsLeast (AnyObject (λ object. IsInRangeAs object.kind object → ⊥) objects) range → is_some range ≡ false
    → (2 ≤ count_by (λ object. is_controller object.kind) objects → ⊥) → IsLeast (IsBlocked objects) blocked → is_some blocked ≡ not answer
    → MatchBool answer (KeepsRoomRules grounds objects) (KeepsRoomRules grounds objects → ⊥)
room_kept grounds objects tile range None true on no_tile in_range no_range one shared is = record {
  tiles = λ i object place bad. none_so (AnyObject (λ object. IsOnWrongTile grounds object) objects) tile on no_tile object.id (record { index = i; object = object; place = place; id = refl; is = bad });
  ranges = λ i object place bad. none_so (AnyObject (λ object. IsInRangeAs object.kind object → ⊥) objects) range in_range no_range object.id (record { index = i; object = object; place = place; id = refl; is = bad });
  controllers = omega arith;
  shared = shared;
}
room_kept grounds objects tile range None false on no_tile in_range no_range one shared is = absurd cc
room_kept grounds objects tile range (Some n) true on no_tile in_range no_range one shared is = absurd cc
room_kept grounds objects tile range (Some n) false on no_tile in_range no_range one shared is = λ kept. kept.shared n shared.0
