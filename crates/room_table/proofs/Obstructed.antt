-- What obstructs a tile, and what keeps sites off it, kind by kind.
use Rattle.std.proofs.Common.{◌≡◌, ℕ, ◌==◌, ◌&&◌, ◌||◌, Bool, true, false, List, [], ◌∷◌, option_map, is_some, refl, ap, ◌∙◌}
use Rattle.std.specs.List.{find, list_any}
use Rattle.game_tables.specs.Kinds.{obstructs, stands_fixed}
use Rattle.game_tables.specs.Numbers.{kind_number}
use Rattle.game_tables.specs.declared.kind.Kind.{Kind}
use Rattle.game_tables.specs.declared.kind.Kind.TheVariants.{Source, Controller, Creep, Spawn, Extension, Storage, Container, Road, Pile, Site}
use Rattle.game_tables.specs.declared.kind.Kind.TheVariants as kinds
use Rattle.room_table.specs.declared.object.Object.{Object}
use Rattle.room_table.specs.Tables.{first_on, is_obstructed, is_on}
use Rattle.room_table.specs.inner.Kept.{is_kind_on}

-- the first of a kind on a tile is there exactly where one is there
found_any : (p : Object → Bool) (objects : List Object) → is_some (option_map (λ o. o.id) (find p objects)) ≡ list_any p objects
found_any p [] = refl
found_any p (o ∷ objects) = elim (p o) as (λ b. p o ≡ b → is_some (option_map (λ o. o.id) (find p (o ∷ objects))) ≡ list_any p (o ∷ objects)) [
  | true ↦ λ is. rw is refl
  | false ↦ λ is. rw is (found_any p objects)
] refl

pub kind_any : (x y : ℕ) (kind : Kind) (objects : List Object) → is_some (option_map (λ o. o.id) (first_on x y kind objects)) ≡ list_any (is_kind_on x y kind) objects
kind_any x y kind objects = found_any (is_kind_on x y kind) objects

abbrev is_of : Kind → Kind → Bool
is_of kind other = kind_number kind == kind_number other

-- the kinds that obstruct
five : (k : Kind) → ((((is_of k Source || is_of k Controller) || is_of k Spawn) || is_of k Extension) || is_of k Storage) ≡ obstructs k
five kinds.Source = refl
five kinds.Controller = refl
five kinds.Creep = refl
five kinds.Spawn = refl
five kinds.Extension = refl
five kinds.Storage = refl
five kinds.Container = refl
five kinds.Road = refl
five kinds.Pile = refl
five kinds.Site = refl
five kinds.Tower = refl
five kinds.Rampart = refl
five kinds.Wall = refl
five kinds.Tombstone = refl

-- what stands on a tile and obstructs is of one of them
spread : (b v w x y z : Bool) → (((((b && v) || (b && w)) || (b && x)) || (b && y)) || (b && z)) ≡ (b && ((((v || w) || x) || y) || z))
spread true v w x y z = refl
spread false v w x y z = refl

one_obstructs : (x y : ℕ) (o : Object) → ((((is_kind_on x y Source o || is_kind_on x y Controller o) || is_kind_on x y Spawn o) || is_kind_on x y Extension o) || is_kind_on x y Storage o) ≡ ((o.x == x) && (o.y == y) && obstructs o.kind)
one_obstructs x y o =
    spread ((o.x == x) && (o.y == y)) (is_of o.kind Source) (is_of o.kind Controller) (is_of o.kind Spawn) (is_of o.kind Extension) (is_of o.kind Storage)
    ∙ ap (λ b. (o.x == x) && (o.y == y) && b) (five o.kind)

paired : (a v b w : Bool) → ((a || v) || (b || w)) ≡ ((a || b) || (v || w))
paired true v b w = refl
paired false true true w = refl
paired false true false w = refl
paired false false b w = refl

any_or : (p q : Object → Bool) (objects : List Object) → (list_any p objects || list_any q objects) ≡ list_any (λ o. p o || q o) objects
any_or p q [] = refl
any_or p q (o ∷ objects) = paired (p o) (list_any p objects) (q o) (list_any q objects) ∙ ap (λ b. (p o || q o) || b) (any_or p q objects)

-- The tile is obstructed where one of the five kinds stands on it.
pub any_kind : (x y player : ℕ) (objects : List Object)
    → ((((list_any (is_kind_on x y Source) objects || list_any (is_kind_on x y Controller) objects) || list_any (is_kind_on x y Spawn) objects) || list_any (is_kind_on x y Extension) objects) || list_any (is_kind_on x y Storage) objects)
    ≡ is_obstructed x y player objects
any_kind x y player objects =
    let a : Object → Bool = is_kind_on x y Source in
    let b : Object → Bool = is_kind_on x y Controller in
    let c : Object → Bool = is_kind_on x y Spawn in
    let d : Object → Bool = is_kind_on x y Extension in
    let e : Object → Bool = is_kind_on x y Storage in
    ap (λ n. ((n || list_any c objects) || list_any d objects) || list_any e objects) (any_or a b objects)
    ∙ ap (λ n. (n || list_any d objects) || list_any e objects) (any_or (λ o. a o || b o) c objects)
    ∙ ap (λ n. n || list_any e objects) (any_or (λ o. (a o || b o) || c o) d objects)
    ∙ any_or (λ o. ((a o || b o) || c o) || d o) e objects
    ∙ (λ i. list_any (λ o. one_obstructs x y o i) objects)

-- ---- what keeps sites off

-- the kinds that stand fixed
fixed : (k : Kind) → (((obstructs k || is_of k Container) || is_of k Road) || is_of k Site) ≡ stands_fixed k
fixed kinds.Source = refl
fixed kinds.Controller = refl
fixed kinds.Creep = refl
fixed kinds.Spawn = refl
fixed kinds.Extension = refl
fixed kinds.Storage = refl
fixed kinds.Container = refl
fixed kinds.Road = refl
fixed kinds.Pile = refl
fixed kinds.Site = refl
fixed kinds.Tower = refl
fixed kinds.Rampart = refl
fixed kinds.Wall = refl
fixed kinds.Tombstone = refl

spread_four : (b v w x y : Bool) → ((((b && v) || (b && w)) || (b && x)) || (b && y)) ≡ (b && (((v || w) || x) || y))
spread_four true v w x y = refl
spread_four false v w x y = refl

one_fixed : (x y : ℕ) (o : Object) → (((((o.x == x) && (o.y == y) && obstructs o.kind) || is_kind_on x y Container o) || is_kind_on x y Road o) || is_kind_on x y Site o) ≡ (is_on x y o && stands_fixed o.kind)
one_fixed x y o =
    spread_four ((o.x == x) && (o.y == y)) (obstructs o.kind) (is_of o.kind Container) (is_of o.kind Road) (is_of o.kind Site)
    ∙ ap (λ b. (o.x == x) && (o.y == y) && b) (fixed o.kind)

-- What stands fixed on a tile obstructs, or is of one of three kinds.
pub any_fixed : (x y player : ℕ) (objects : List Object)
    → (((is_obstructed x y player objects || list_any (is_kind_on x y Container) objects) || list_any (is_kind_on x y Road) objects) || list_any (is_kind_on x y Site) objects)
    ≡ list_any (λ o. is_on x y o && stands_fixed o.kind) objects
any_fixed x y player objects =
    let a : Object → Bool = λ o. (o.x == x) && (o.y == y) && obstructs o.kind in
    let b : Object → Bool = is_kind_on x y Container in
    let c : Object → Bool = is_kind_on x y Road in
    let d : Object → Bool = is_kind_on x y Site in
    ap (λ n. (n || list_any c objects) || list_any d objects) (any_or a b objects)
    ∙ ap (λ n. n || list_any d objects) (any_or (λ o. a o || b o) c objects)
    ∙ any_or (λ o. (a o || b o) || c o) d objects
    ∙ (λ i. list_any (λ o. one_fixed x y o i) objects)
