-- What stands on the tiles, of the first objects of a room.
use Rattle.std.proofs.Common.{◌≡◌, ℕ, zero, suc, ◌+◌, ◌*◌, ◌<◌, ◌≤◌, ◌==◌, ◌&&◌, ◌||◌, List, [], ◌∷◌, length, take, set, get_or, Bool, true, false, Some, None, refl, sym, ap, subst, ◌∙◌, arith, inl, inr, get_or-set_same, get_or-set_other}
use Rattle.std.specs.Prelude.{slice_get}
use Rattle.std.specs.List.{AllByRecursion}
use Rattle.std.specs.List.Sorted.{IsNonDecreasingBy}
use Rattle.std.proofs.lemmas.Bool.{cases_lt, cases_eq, eqb-true, eq-eqb, ne_eqb, both_ways, and_parts, and_from, or_cases, or_left, or_right}
use Rattle.std.proofs.lemmas.List.Folds.{list_any_more}
use Rattle.std.proofs.lemmas.Option.{same_Some, slice_get_within, get_or_from_slice_get}
use Rattle.game_tables.specs.declared.kind.Kind.{Kind}
use Rattle.game_tables.specs.Kinds.{obstructs, is_creep, is_pile, stands_fixed, clash}
use Rattle.room_terrain.specs.Tiles.{tile}
use Rattle.room_table.specs.declared.object.Object.{Object}
use Rattle.room_table.specs.Tables.{IsOnTile}
use Rattle.rule_check.specs.declared.shared.Taken.{Taken}
use Rattle.rule_check.specs.inner.Taken.{taken_with, clash_with, any_on, taken_on, nothing}
use Rattle.rule_check.specs.inner.Checks.{IsLeast}
use Rattle.rule_check.specs.Kept.{IsBlocked}
use Rattle.rule_check.proofs.Minima.{NoneBelow, all_at, ids_up}

-- An earlier object shares the tile of this one, which stands at this place, and their kinds may not be together.
pub record BlockedAt (objects : List Object) (later : ℕ) (other : Object) : Type 0 where
  pub earlier : ℕ
  pub one : Object
  pub before : earlier < later
  pub place : slice_get objects earlier ≡ Some one
  pub column : one.x ≡ other.x
  pub row : one.y ≡ other.y
  pub clashes : clash one.kind other.kind ≡ true

-- The tiles hold what the first objects of a room take.
abbrev pub AreTaken : List Taken → List Object → ℕ → Type 0
AreTaken tiles objects i = (at : ℕ) (d : Taken) → at < 2500 → get_or tiles at d ≡ taken_on at (take i objects)

-- ---- one object more

any_more : (at : ℕ) (is : Kind → Bool) (objects : List Object) (i : ℕ) (object : Object) → slice_get objects i ≡ Some object → any_on at is (take (i + 1) objects) ≡ (any_on at is (take i objects) || ((tile object.x object.y == at) && is object.kind))
any_more at is objects i object here =
    list_any_more (λ (o : Object). (tile o.x o.y == at) && is o.kind) objects i object (slice_get_within objects i object here)
    ∙ ap (λ (o : Object). any_on at is (take i objects) || ((tile o.x o.y == at) && is o.kind)) (get_or_from_slice_get objects i object object here)

or_nothing : (b : Bool) → (b || false) ≡ b
or_nothing true = refl
or_nothing false = refl

any_here : (at : ℕ) (is : Kind → Bool) (objects : List Object) (i : ℕ) (object : Object) → slice_get objects i ≡ Some object → tile object.x object.y ≡ at → any_on at is (take (i + 1) objects) ≡ (any_on at is (take i objects) || is object.kind)
any_here at is objects i object here on = any_more at is objects i object here ∙ ap (λ (b : Bool). any_on at is (take i objects) || (b && is object.kind)) (eq-eqb (tile object.x object.y) at on)

any_there : (at : ℕ) (is : Kind → Bool) (objects : List Object) (i : ℕ) (object : Object) → slice_get objects i ≡ Some object → (tile object.x object.y ≡ at → ⊥) → any_on at is (take (i + 1) objects) ≡ any_on at is (take i objects)
any_there at is objects i object here off =
    any_more at is objects i object here ∙ ap (λ (b : Bool). any_on at is (take i objects) || (b && is object.kind)) (ne_eqb (tile object.x object.y) at off) ∙ or_nothing (any_on at is (take i objects))

taken_here : (at : ℕ) (objects : List Object) (i : ℕ) (object : Object) → slice_get objects i ≡ Some object → tile object.x object.y ≡ at → taken_on at (take (i + 1) objects) ≡ taken_with (taken_on at (take i objects)) object.kind
taken_here at objects i object here on =
    let creep = any_here at is_creep objects i object here on in
    let pile = any_here at is_pile objects i object here on in
    let fixed = any_here at stands_fixed objects i object here on in
    let obstructing = any_here at obstructs objects i object here on in
    λ j. record { creep = creep j; pile = pile j; fixed = fixed j; obstructing = obstructing j }

taken_there : (at : ℕ) (objects : List Object) (i : ℕ) (object : Object) → slice_get objects i ≡ Some object → (tile object.x object.y ≡ at → ⊥) → taken_on at (take (i + 1) objects) ≡ taken_on at (take i objects)
taken_there at objects i object here off =
    let creep = any_there at is_creep objects i object here off in
    let pile = any_there at is_pile objects i object here off in
    let fixed = any_there at stands_fixed objects i object here off in
    let obstructing = any_there at obstructs objects i object here off in
    λ j. record { creep = creep j; pile = pile j; fixed = fixed j; obstructing = obstructing j }

get_or_at_same : (tiles : List Taken) (i at : ℕ) (taken d : Taken) → i ≡ at → i < length tiles → get_or (set tiles i taken) at d ≡ taken
get_or_at_same tiles i at taken d same inside = ap (λ (j : ℕ). get_or (set tiles i taken) j d) (sym same) ∙ get_or-set_same tiles i taken d inside

pub taken_more : (tiles : List Taken) (objects : List Object) (i : ℕ) (object : Object) → slice_get objects i ≡ Some object → length tiles ≡ 2500 → tile object.x object.y < 2500 → AreTaken tiles objects i
    → AreTaken (set tiles (tile object.x object.y) (taken_with (taken_on (tile object.x object.y) (take i objects)) object.kind)) objects (i + 1)
taken_more tiles objects i object here size inside taken at d within =
    elim (cases_eq (tile object.x object.y) at) [
      | inl same ↦ (
          get_or_at_same tiles (tile object.x object.y) at (taken_with (taken_on (tile object.x object.y) (take i objects)) object.kind) d same (omega arith)
          ∙ ap (λ (t : ℕ). taken_with (taken_on t (take i objects)) object.kind) same
          ∙ sym (taken_here at objects i object here same)
          )
      | inr apart ↦ (
          get_or-set_other tiles (tile object.x object.y) at (taken_with (taken_on (tile object.x object.y) (take i objects)) object.kind) d (λ same. apart (sym same))
          ∙ taken at d within
          ∙ sym (taken_there at objects i object here apart)
          )
    ]

-- ---- one of the first objects

pub record OneOn (at : ℕ) (of : Kind → Bool) (i : ℕ) (objects : List Object) : Type 0 where
  pub index : ℕ
  pub one : Object
  pub before : index < i
  pub place : slice_get objects index ≡ Some one
  pub on : tile one.x one.y ≡ at
  pub is : of one.kind ≡ true

one_on : (at : ℕ) (is : Kind → Bool) (i : ℕ) (objects : List Object) → any_on at is (take i objects) ≡ true → OneOn at is i objects
one_on at is zero objects any = absurd cc
one_on at is (suc i) [] any = absurd cc
one_on at is (suc i) (object ∷ objects) any =
    elim (or_cases ((tile object.x object.y == at) && is object.kind) (any_on at is (take i objects)) any) [
      | inl here ↦ (let both = and_parts (tile object.x object.y == at) (is object.kind) here in record { index = 0; one = object; before = omega arith; place = refl; on = eqb-true (tile object.x object.y) at both.0; is = both.1 })
      | inr there ↦ (let rest = one_on at is i objects there in record { index = suc rest.index; one = rest.one; before = (let before : rest.index < i = rest.before in omega arith); place = rest.place; on = rest.on; is = rest.is })
    ]

on_one : (at : ℕ) (is : Kind → Bool) (i : ℕ) (objects : List Object) (index : ℕ) (one : Object) → index < i → slice_get objects index ≡ Some one → tile one.x one.y ≡ at → is one.kind ≡ true → any_on at is (take i objects) ≡ true
on_one at is zero objects index one before place on kind = absurd (omega arith)
on_one at is (suc i) [] index one before place on kind = absurd cc
on_one at is (suc i) (object ∷ objects) zero one before place on kind =
    let same : object ≡ one = same_Some object one place in
    or_left ((tile object.x object.y == at) && is object.kind) (any_on at is (take i objects))
    (subst (λ (o : Object). ((tile o.x o.y == at) && is o.kind) ≡ true) (sym same) (and_from (tile one.x one.y == at) (is one.kind) (eq-eqb (tile one.x one.y) at on) kind))
on_one at is (suc i) (object ∷ objects) (suc index) one before place on kind = or_right ((tile object.x object.y == at) && is object.kind) (any_on at is (take i objects)) (on_one at is i objects index one (omega arith) place on kind)

-- ---- one of five

five_cases : {P : Type 0} (a b c d e : Bool) → (a || b || c || d || e) ≡ true → (a ≡ true → P) → (b ≡ true → P) → (c ≡ true → P) → (d ≡ true → P) → (e ≡ true → P) → P
five_cases a b c d e any first second third fourth fifth =
    elim (or_cases (a || b || c || d) e any) [
      | inl four ↦ elim (or_cases (a || b || c) d four) [
        | inl three ↦ elim (or_cases (a || b) c three) [ inl two ↦ elim (or_cases a b two) [ inl is ↦ first is | inr is ↦ second is ] | inr is ↦ third is ]
        | inr is ↦ fourth is
      ]
      | inr is ↦ fifth is
    ]

first_of : (a b c d e : Bool) → a ≡ true → (a || b || c || d || e) ≡ true
first_of a b c d e is = or_left (a || b || c || d) e (or_left (a || b || c) d (or_left (a || b) c (or_left a b is)))

second_of : (a b c d e : Bool) → b ≡ true → (a || b || c || d || e) ≡ true
second_of a b c d e is = or_left (a || b || c || d) e (or_left (a || b || c) d (or_left (a || b) c (or_right a b is)))

third_of : (a b c d e : Bool) → c ≡ true → (a || b || c || d || e) ≡ true
third_of a b c d e is = or_left (a || b || c || d) e (or_left (a || b || c) d (or_right (a || b) c is))

fourth_of : (a b c d e : Bool) → d ≡ true → (a || b || c || d || e) ≡ true
fourth_of a b c d e is = or_left (a || b || c || d) e (or_right (a || b || c) d is)

fifth_of : (a b c d e : Bool) → e ≡ true → (a || b || c || d || e) ≡ true
fifth_of a b c d e is = or_right (a || b || c || d) e is

-- ---- clashes

pub on_tile : (one : Object) → IsOnTile one → tile one.x one.y < 2500
on_tile one is = let column : one.x ≤ 49 = is.column in let row : one.y ≤ 49 = is.row in omega arith

one_column : (a b c d : ℕ) → a ≤ 49 → c ≤ 49 → 50 * b + a ≡ 50 * d + c → a ≡ c
one_column a b c d low high same = omega arith

one_row : (a b c d : ℕ) → a ≤ 49 → c ≤ 49 → 50 * b + a ≡ 50 * d + c → b ≡ d
one_row a b c d low high same = omega arith

blocked_by : (objects : List Object) (i : ℕ) (object : Object) (is : Kind → Bool) → AllByRecursion IsOnTile objects → IsOnTile object → OneOn (tile object.x object.y) is i objects → ((kind : Kind) → is kind ≡ true → clash kind object.kind ≡ true) → BlockedAt objects i object
blocked_by objects i object is on here found clashes =
    let there : IsOnTile found.one = all_at IsOnTile objects found.index found.one on found.place in
    record {
      earlier = found.index;
      one = found.one;
      before = found.before;
      place = found.place;
      column = one_column found.one.x found.one.y object.x object.y there.column here.column found.on;
      row = one_row found.one.x found.one.y object.x object.y there.column here.column found.on;
      clashes = clashes found.one.kind found.is;
    }

pub blocked_from_clash : (objects : List Object) (i : ℕ) (object : Object) → AllByRecursion IsOnTile objects → IsOnTile object → clash_with (taken_on (tile object.x object.y) (take i objects)) object.kind ≡ true → BlockedAt objects i object
blocked_from_clash objects i object on here clashes =
    let at = tile object.x object.y in
    let first = take i objects in
    let other = object.kind in
    let by : (is : Kind → Bool) → any_on at is first ≡ true → ((kind : Kind) → is kind ≡ true → clash kind other ≡ true) → BlockedAt objects i object = λ is any clashes. blocked_by objects i object is on here (one_on at is i objects any) clashes in
    five_cases (any_on at is_creep first && is_creep other) (any_on at is_pile first && is_pile other) (any_on at stands_fixed first && stands_fixed other) (any_on at is_creep first && obstructs other) (any_on at obstructs first && is_creep other) clashes
    (λ both. let two = and_parts (any_on at is_creep first) (is_creep other) both in by is_creep two.0 (λ kind is. first_of (is_creep kind && is_creep other) (is_pile kind && is_pile other) (stands_fixed kind && stands_fixed other) (is_creep kind && obstructs other) (obstructs kind && is_creep other) (and_from (is_creep kind) (is_creep other) is two.1)))
    (λ both. let two = and_parts (any_on at is_pile first) (is_pile other) both in by is_pile two.0 (λ kind is. second_of (is_creep kind && is_creep other) (is_pile kind && is_pile other) (stands_fixed kind && stands_fixed other) (is_creep kind && obstructs other) (obstructs kind && is_creep other) (and_from (is_pile kind) (is_pile other) is two.1)))
    (λ both. let two = and_parts (any_on at stands_fixed first) (stands_fixed other) both in by stands_fixed two.0 (λ kind is. third_of (is_creep kind && is_creep other) (is_pile kind && is_pile other) (stands_fixed kind && stands_fixed other) (is_creep kind && obstructs other) (obstructs kind && is_creep other) (and_from (stands_fixed kind) (stands_fixed other) is two.1)))
    (λ both. let two = and_parts (any_on at is_creep first) (obstructs other) both in by is_creep two.0 (λ kind is. fourth_of (is_creep kind && is_creep other) (is_pile kind && is_pile other) (stands_fixed kind && stands_fixed other) (is_creep kind && obstructs other) (obstructs kind && is_creep other) (and_from (is_creep kind) (obstructs other) is two.1)))
    (λ both. let two = and_parts (any_on at obstructs first) (is_creep other) both in by obstructs two.0 (λ kind is. fifth_of (is_creep kind && is_creep other) (is_pile kind && is_pile other) (stands_fixed kind && stands_fixed other) (is_creep kind && obstructs other) (obstructs kind && is_creep other) (and_from (obstructs kind) (is_creep other) is two.1)))

pub clash_from_blocked : (objects : List Object) (i : ℕ) (object : Object) → BlockedAt objects i object → clash_with (taken_on (tile object.x object.y) (take i objects)) object.kind ≡ true
clash_from_blocked objects i object b =
    let at = tile object.x object.y in
    let first = take i objects in
    let other = object.kind in
    let kind = b.one.kind in
    let same : tile b.one.x b.one.y ≡ at = λ j. tile (b.column j) (b.row j) in
    let any : (is : Kind → Bool) → is kind ≡ true → any_on at is first ≡ true = λ is of. on_one at is i objects b.earlier b.one b.before b.place same of in
    let a = any_on at is_creep first && is_creep other in
    let p = any_on at is_pile first && is_pile other in
    let f = any_on at stands_fixed first && stands_fixed other in
    let o = any_on at is_creep first && obstructs other in
    let c = any_on at obstructs first && is_creep other in
    five_cases (is_creep kind && is_creep other) (is_pile kind && is_pile other) (stands_fixed kind && stands_fixed other) (is_creep kind && obstructs other) (obstructs kind && is_creep other) b.clashes
    (λ both. let two = and_parts (is_creep kind) (is_creep other) both in first_of a p f o c (and_from (any_on at is_creep first) (is_creep other) (any is_creep two.0) two.1))
    (λ both. let two = and_parts (is_pile kind) (is_pile other) both in second_of a p f o c (and_from (any_on at is_pile first) (is_pile other) (any is_pile two.0) two.1))
    (λ both. let two = and_parts (stands_fixed kind) (stands_fixed other) both in third_of a p f o c (and_from (any_on at stands_fixed first) (stands_fixed other) (any stands_fixed two.0) two.1))
    (λ both. let two = and_parts (is_creep kind) (obstructs other) both in fourth_of a p f o c (and_from (any_on at is_creep first) (obstructs other) (any is_creep two.0) two.1))
    (λ both. let two = and_parts (obstructs kind) (is_creep other) both in fifth_of a p f o c (and_from (any_on at obstructs first) (is_creep other) (any obstructs two.0) two.1))

pub free_from_no_clash : (objects : List Object) (i : ℕ) (object : Object) → clash_with (taken_on (tile object.x object.y) (take i objects)) object.kind ≡ false → BlockedAt objects i object → ⊥
free_from_no_clash objects i object none b = both_ways (clash_with (taken_on (tile object.x object.y) (take i objects)) object.kind) none (clash_from_blocked objects i object b)

-- ---- what a loop reads and writes

pub read_taken : (tiles : List Taken) (objects : List Object) (i at : ℕ) (object : Object) → at ≡ tile object.x object.y → IsOnTile object → AreTaken tiles objects i → get_or tiles at nothing ≡ taken_on (tile object.x object.y) (take i objects)
read_taken tiles objects i at object same on taken =
    let within : tile object.x object.y < 2500 = on_tile object on in
    ap (λ (t : ℕ). get_or tiles t nothing) same ∙ taken (tile object.x object.y) nothing within

pub write_taken : (tiles : List Taken) (objects : List Object) (i at : ℕ) (object : Object) (taken : Taken) → slice_get objects i ≡ Some object → length tiles ≡ 2500 → at ≡ tile object.x object.y → IsOnTile object
    → taken ≡ taken_with (get_or tiles at nothing) object.kind → AreTaken tiles objects i → AreTaken (set tiles at taken) objects (i + 1)
write_taken tiles objects i at object taken here size same on is before t d within =
    let now : taken ≡ taken_with (taken_on (tile object.x object.y) (take i objects)) object.kind = is ∙ ap (λ (one : Taken). taken_with one object.kind) (read_taken tiles objects i at object same on before) in
    let written : set tiles at taken ≡ set tiles (tile object.x object.y) (taken_with (taken_on (tile object.x object.y) (take i objects)) object.kind) = λ j. set tiles (same j) (now j) in
    ap (λ (ts : List Taken). get_or ts t d) written ∙ taken_more tiles objects i object here size (on_tile object on) before t d within

-- ---- the first object that shares its tile

blocked_at : (objects : List Object) (n : ℕ) (b : IsBlocked objects n) → BlockedAt objects b.later b.other
blocked_at objects n b = record { earlier = b.earlier; one = b.one; before = b.before; place = b.place; column = b.column; row = b.row; clashes = b.clashes }

pub blocked_is_least : (objects : List Object) (i : ℕ) (object : Object) → IsNonDecreasingBy (λ o. o.id) objects → slice_get objects i ≡ Some object → BlockedAt objects i object → NoneBelow (BlockedAt objects) objects i → IsLeast (IsBlocked objects) (Some object.id)
blocked_is_least objects i object up here blocked none = (
  record { earlier = blocked.earlier; later = i; one = blocked.one; other = object; before = blocked.before; place = blocked.place; there = here; id = refl; column = blocked.column; row = blocked.row; clashes = blocked.clashes },
  λ m less other.
      elim (cases_lt other.later i) [
        | inl before ↦ none other.later other.other before other.there (blocked_at objects m other)
        | inr after ↦ (
            let rises : object.id ≤ other.other.id = ids_up objects up i other.later object other.other after here other.there in
            let named : other.other.id ≡ m = other.id in
            absurd (omega arith)
            )
      ],
)

pub none_blocked_is_least : (objects : List Object) (i : ℕ) → length objects ≤ i → NoneBelow (BlockedAt objects) objects i → IsLeast (IsBlocked objects) None
none_blocked_is_least objects i all none n b = let within : b.later < length objects = slice_get_within objects b.later b.other b.there in none b.later b.other (omega arith) b.there (blocked_at objects n b)
