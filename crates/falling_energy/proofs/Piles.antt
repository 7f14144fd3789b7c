-- The pile of a tile, in a room's objects.
use Rattle.std.proofs.Common.{◌≡◌, ℕ, ◌==◌, ◌&&◌, Bool, true, false, List, Option, Some, None, refl, ap, ◌∙◌, option_map}
use Rattle.std.specs.List.{find}
use Rattle.game_tables.specs.Numbers.{kind_number}
use Rattle.game_tables.specs.declared.kind.Kind.{Kind}
use Rattle.game_tables.specs.declared.kind.Kind.TheVariants as kinds
use Rattle.room_table.specs.declared.object.Object.{Object}
use Rattle.room_table.specs.Tables.{IsRising, find_object, first_on}
use Rattle.game_tables.specs.Kinds.{is_pile}
use Rattle.world_rules.specs.Drops.{is_pile_on}
use Rattle.world_rules.proofs.TableParts.{found_by_id}

is_number : (kind : Kind) → (kind_number kind == kind_number kinds.Pile) ≡ is_pile kind
is_number kinds.Source = refl
is_number kinds.Controller = refl
is_number kinds.Creep = refl
is_number kinds.Spawn = refl
is_number kinds.Extension = refl
is_number kinds.Storage = refl
is_number kinds.Container = refl
is_number kinds.Road = refl
is_number kinds.Pile = refl
is_number kinds.Site = refl
is_number kinds.Tower = refl
is_number kinds.Rampart = refl
is_number kinds.Wall = refl
is_number kinds.Tombstone = refl

in_front : (a b c : Bool) → (a && b && c) ≡ (c && a && b)
in_front true true true = refl
in_front true true false = refl
in_front true false true = refl
in_front true false false = refl
in_front false true true = refl
in_front false true false = refl
in_front false false true = refl
in_front false false false = refl

same_test : (x y : ℕ) (object : Object) → ((object.x == x) && (object.y == y) && (kind_number object.kind == kind_number kinds.Pile)) ≡ is_pile_on x y object
same_test x y object =
    ap (λ (b : Bool). (object.x == x) && (object.y == y) && b) (is_number object.kind) ∙ in_front (object.x == x) (object.y == y) (is_pile object.kind)

-- The first object of the kind is the pile.
first_is_pile : (x y : ℕ) (objects : List Object) → first_on x y kinds.Pile objects ≡ find (is_pile_on x y) objects
first_is_pile x y objects = λ i. find (λ object. same_test x y object i) objects

by_id : (test : Object → Bool) (objects : List Object) (id : ℕ) (found : Option Object) → IsRising objects → find test objects ≡ found → Some id ≡ option_map (λ object. object.id) found → find_object id objects ≡ found
by_id test objects id None rise is named = absurd cc
by_id test objects id (Some pile) rise is named = let same : id ≡ pile.id = cc in ap (λ (n : ℕ). find_object n objects) same ∙ found_by_id test objects pile rise is

-- the object of the first id of the kind is the pile
pub pile_by_id : (x y id : ℕ) (objects : List Object) → IsRising objects → Some id ≡ option_map (λ object. object.id) (first_on x y kinds.Pile objects) → find_object id objects ≡ find (is_pile_on x y) objects
pile_by_id x y id objects rise named =
    by_id (is_pile_on x y) objects id (find (is_pile_on x y) objects) rise refl (named ∙ ap (option_map (λ (object : Object). object.id)) (first_is_pile x y objects))
