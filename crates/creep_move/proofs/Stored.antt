-- The objects of a table, and those that may share no tile.
use Rattle.std.proofs.Common.{◌≡◌, inl, inr, ℕ, ◌<◌, ◌==◌, Bool, true, false, cond, List, [], ◌∷◌, Option, Some, None, refl, sym, ap, subst, ◌∙◌, arith}
use Rattle.std.specs.List.{cons_option, filter_map, find}
use Rattle.std.proofs.lemmas.Bool.{eq-eqb, ne_eqb, true≢false}
use Rattle.game_tables.specs.Kinds.{clash, is_creep}
use Rattle.game_tables.specs.declared.kind.Kind.{Kind}
use Rattle.room_terrain.specs.Tiles.{tile}
use Rattle.room_table.specs.declared.object.Object.{Object}
use Rattle.room_table.specs.Tables.{IsRising, find_object}
use Rattle.room_rules.specs.Calls.{AreApart}
use Rattle.room_commutes.proofs.Members.{Has, all_of_has, pairs_first, pairs_later}

-- ---- tiles

pub tile_column : (x y x' y' : ℕ) → x < 50 → x' < 50 → tile x y ≡ tile x' y' → x ≡ x'
tile_column x y x' y' low low' same = omega (arith, low, low', same)

pub tile_row : (x y x' y' : ℕ) → x < 50 → x' < 50 → tile x y ≡ tile x' y' → y ≡ y'
tile_row x y x' y' low low' same = omega (arith, low, low', same)

-- ---- what is found

pub first_has : {A : Type 0} (test : A → Bool) (list : List A) (x : A) → find test list ≡ Some x → Has list x × (test x ≡ true)
first_has test [] x is = absurd (cc)
first_has test (y ∷ list) x is = elim (test y) as (λ b. test y ≡ b → cond b (Some y) (find test list) ≡ Some x → Has (y ∷ list) x × (test x ≡ true)) [
  | true ↦ λ passes got. let same : y ≡ x = cc in (inl same, ap test (sym same) ∙ passes)
  | false ↦ λ fails got. let rest = first_has test list x got in (inr rest.0, rest.1)
] refl is

pub found_has : (id : ℕ) (objects : List Object) (object : Object) → find_object id objects ≡ Some object → Has objects object
found_has id objects object is = (first_has (λ o. o.id == id) objects object is).0

pub has_found : (objects : List Object) (object : Object) → IsRising objects → Has objects object → find_object object.id objects ≡ Some object
has_found [] object rise has = absurd has
has_found (first ∷ objects) object rise (inl is) = ap (λ (b : Bool). cond b (Some first) (find_object object.id objects)) (eq-eqb first.id object.id (ap (λ (o : Object). o.id) is)) ∙ ap Some is
has_found (first ∷ objects) object rise (inr has) =
    let above : first.id < object.id = all_of_has (λ o. first.id < o.id) objects object rise.0 has in
    ap (λ (b : Bool). cond b (Some first) (find_object object.id objects)) (ne_eqb first.id object.id (λ e. omega (arith, e, above))) ∙ has_found objects object rise.1 has

-- ---- who may share a tile

abbrev MayShare : Object → Object → Type 0
MayShare one other = one.x ≡ other.x → one.y ≡ other.y → clash one.kind other.kind ≡ false

-- two of one tile whose kinds clash either way are the same
pub lone_by : (objects : List Object) (one other : Object) → AreApart objects → Has objects one → Has objects other → one.x ≡ other.x → one.y ≡ other.y → clash one.kind other.kind ≡ true → clash other.kind one.kind ≡ true → one ≡ other
lone_by [] one other apart here there column row clashes back = absurd here
lone_by (first ∷ objects) one other apart (inl is) (inl also) column row clashes back = sym is ∙ also
lone_by (first ∷ objects) one other apart (inl is) (inr there) column row clashes back =
    let share : MayShare one other = subst (λ (o : Object). MayShare o other) is (all_of_has (MayShare first) objects other (pairs_first MayShare first objects apart) there) in
    absurd (true≢false (sym clashes ∙ share column row))
lone_by (first ∷ objects) one other apart (inr here) (inl also) column row clashes back =
    let share : MayShare other one = subst (λ (o : Object). MayShare o one) also (all_of_has (MayShare first) objects one (pairs_first MayShare first objects apart) here) in
    absurd (true≢false (sym back ∙ share (sym column) (sym row)))
lone_by (first ∷ objects) one other apart (inr here) (inr there) column row clashes back = lone_by objects one other (pairs_later MayShare first objects apart) here there column row clashes back

creeps_clash : (one other : Kind) → is_creep one ≡ true → is_creep other ≡ true → clash one other ≡ true
creeps_clash one other is also = rw (is, also) refl

pub lone_creep : (objects : List Object) (one other : Object) → AreApart objects → Has objects one → Has objects other → is_creep one.kind ≡ true → is_creep other.kind ≡ true → one.x ≡ other.x → one.y ≡ other.y → one ≡ other
lone_creep objects one other apart here there is also column row = lone_by objects one other apart here there column row (creeps_clash one.kind other.kind is also) (creeps_clash other.kind one.kind also is)

-- ---- what entries make

pub made_has : {A B : Type 0} (f : A → Option B) (list : List A) (x : A) (y : B) → Has list x → f x ≡ Some y → Has (filter_map f list) y
made_has f [] x y has is = absurd has
made_has f (first ∷ later) x y (inl same) is = subst (λ (r : Option _). Has (cons_option r (filter_map f later)) y) (sym (ap f same ∙ is)) (inl refl)
made_has f (first ∷ later) x y (inr has) is =
    let rest = made_has f later x y has is in
    elim (f first) as (λ r. Has (cons_option r (filter_map f later)) y) [ None ↦ rest | Some z ↦ inr rest ]

pub has_made : {A B : Type 0} (f : A → Option B) (list : List A) (y : B) → Has (filter_map f list) y → (x : A) × Has list x × (f x ≡ Some y)
has_made f [] y has = absurd has
has_made f (first ∷ later) y has = elim (f first) as (λ r. f first ≡ r → Has (cons_option r (filter_map f later)) y → (x : _) × Has (first ∷ later) x × (f x ≡ Some y)) [
  | None ↦ λ is h. let rest = has_made f later y h in (rest.0, inr rest.1, rest.2)
  | Some z ↦ λ is h. elim h [
    | inl same ↦ (first, inl refl, is ∙ ap Some same)
    | inr more ↦ let rest = has_made f later y more in (rest.0, inr rest.1, rest.2)
  ]
] refl has
