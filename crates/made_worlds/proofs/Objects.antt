-- The objects of a generated room: where they stand, whose they are, and what their fields hold.
use Rattle.std.proofs.Common.{◌≡◌, ℕ, zero, suc, ◌+◌, ◌<◌, ◌≤◌, List, [], ◌∷◌, Some, length, true, false, cond, ltb, refl, ap, sym, subst, ◌∙◌, inl, inr, arith, lit<, lit≤}
use Rattle.std.specs.Prelude.{slice_get}
use Rattle.std.specs.List.{AllByRecursion, count_by}
use Rattle.std.proofs.lemmas.Option.{same_Some}
use Rattle.std.proofs.lemmas.Bool.Decides.{nat_tests}
use Rattle.game_tables.specs.Kinds.{is_controller, may_have_owner}
use Rattle.object_store.specs.declared.account.Account.{Account}
use Rattle.room_table.specs.declared.object.Object.{Object}
use Rattle.room_table.specs.Tables.{IsOnTile, IsRising}
use Rattle.room_terrain.specs.Tiles.{IsBorder}
use Rattle.world_rules.specs.Rules.{IsInRangeAs, IsOnWrongTile}
use Rattle.world_form.proofs.Standing.{all_weaker}
use Rattle.rule_check.specs.inner.Checks.{HasWrongHolder, IsListed, site_owners_of}
use Rattle.rule_check.specs.Kept.{IsBlocked}
use Rattle.rule_check.proofs.Minima.{all_at}
use Rattle.world_gen.specs.Generator.{account, accounts_to, creep, free_controller, grounds, made_table, owned_controller, source, spawn}
use Rattle.made_worlds.proofs.Grounds.{no_inner_wall}
use Rattle.made_worlds.proofs.Places.{placed_at}

-- ---- the lists

-- what holds of the objects of a room of a player, and of a room without one
pub each_list : (P : List Object → Type 0) (players room u v : ℕ)
    → (room < players
    → P (owned_controller room (room + 1) ∷ source room u v ∷ spawn room (room + 1) ∷ creep room (room + 1) ∷ []))
    → P (free_controller room ∷ source room u v ∷ []) → P (made_table players room u v).objects
unfolding made_table
each_list P players room u v owned free =
    elim (ltb room players) as (λ b. (ltb room players) ≡ b → P (cond b (owned_controller room (room + 1) ∷ source room u v ∷ spawn room (room + 1) ∷ creep room (room + 1) ∷ []) (free_controller room ∷ source room u v ∷ []))) [
      | true ↦ λ is. owned (grind (arith, nat_tests))
      | false ↦ λ is. free
    ] refl

pub each_object : (P : Object → Type 0) (players room u v : ℕ)
    → (room < players → P (owned_controller room (room + 1))) → P (free_controller room) → P (source room u v)
    → (room < players → P (spawn room (room + 1))) → (room < players → P (creep room (room + 1)))
    → AllByRecursion P (made_table players room u v).objects
each_object P players room u v owned free drawn built born =
    each_list (AllByRecursion P) players room u v (λ less. (owned less, (drawn, (built less, (born less, tt)))))
    (free, (drawn, tt))

-- ---- tiles

-- It stands between the borders.
pub record IsInside (o : Object) : Type 0 where
  pub left : 1 ≤ o.x
  pub right : o.x < 49
  pub top : 1 ≤ o.y
  pub bottom : o.y < 49

pub all_inside : (players room u v : ℕ) → AllByRecursion IsInside (made_table players room u v).objects
all_inside players room u v =
    each_object IsInside players room u v
    (λ less. record { left = lit≤ tt; right = lit< tt; top = lit≤ tt; bottom = lit< tt })
    (record { left = lit≤ tt; right = lit< tt; top = lit≤ tt; bottom = lit< tt })
    (record { left = omega arith; right = omega arith; top = omega arith; bottom = omega arith })
    (λ less. record { left = lit≤ tt; right = lit< tt; top = lit≤ tt; bottom = lit< tt })
    (λ less. record { left = lit≤ tt; right = lit< tt; top = lit≤ tt; bottom = lit< tt })

no_border : (x y : ℕ) → 1 ≤ x → x < 49 → 1 ≤ y → y < 49 → IsBorder x y → ⊥
no_border x y left right top bottom border =
    elim border [
      | inl (inl first) ↦ omega arith
      | inl (inr last) ↦ omega arith
      | inr (inl first) ↦ omega arith
      | inr (inr last) ↦ omega arith
    ]

-- an inner tile is right for an object of each kind
inside_is_right : (s : ℕ) (o : Object) → IsInside o → IsOnWrongTile (grounds s) o → ⊥
inside_is_right s o is wrong =
    elim wrong [
      | inl wall ↦ no_inner_wall s o.x o.y is.left is.right is.top is.bottom wall.2
      | inr border ↦ no_border o.x o.y is.left is.right is.top is.bottom border.2
    ]

pub tiles_are_right : (s players room u v : ℕ)
    → AllByRecursion (λ o. IsOnWrongTile (grounds s) o → ⊥) (made_table players room u v).objects
tiles_are_right s players room u v =
    all_weaker IsInside (λ o. IsOnWrongTile (grounds s) o → ⊥) (inside_is_right s)
    (made_table players room u v).objects (all_inside players room u v)

on_tile : (o : Object) → IsInside o → IsOnTile o
on_tile o is =
    let right : o.x < 49 = is.right in
    let bottom : o.y < 49 = is.bottom in
    record { column = omega arith; row = omega arith }

pub all_on_tiles : (players room u v : ℕ) → AllByRecursion IsOnTile (made_table players room u v).objects
all_on_tiles players room u v =
    all_weaker IsInside IsOnTile on_tile (made_table players room u v).objects (all_inside players room u v)

-- ---- tiles that two share

-- No two of the objects stand on one tile.
abbrev Apart : List Object → Type 0
Apart [] = Unit {0}
Apart (o ∷ os) = AllByRecursion (λ later. o.x ≡ later.x → o.y ≡ later.y → ⊥) os × Apart os

all_apart : (players room u v : ℕ) → Apart (made_table players room u v).objects
all_apart players room u v =
    each_list Apart players room u v
    (λ less. (
      (λ column row. omega arith, (λ column row. omega arith, (λ column row. omega arith, tt))),
      ((λ column row. omega arith, (λ column row. omega arith, tt)), ((λ column row. omega arith, tt), (tt, tt))),
    ))
    ((λ column row. omega arith, tt), (tt, tt))

apart_at : (os : List Object) (i j : ℕ) (one other : Object) → Apart os → i < j → slice_get os i ≡ Some one
    → slice_get os j ≡ Some other → one.x ≡ other.x → one.y ≡ other.y → ⊥
apart_at [] i j one other apart less here there column row = absurd cc
apart_at (o ∷ os) i zero one other apart less here there column row = omega arith
apart_at (o ∷ os) zero (suc j) one other apart less here there column row =
    let same : o ≡ one = same_Some o one here in
    all_at (λ later. o.x ≡ later.x → o.y ≡ later.y → ⊥) os j other apart.0 there
    (ap (λ (p : Object). p.x) same ∙ column) (ap (λ (p : Object). p.y) same ∙ row)
apart_at (o ∷ os) (suc i) (suc j) one other apart less here there column row =
    apart_at os i j one other apart.1 (omega arith) here there column row

pub no_tile_shared : (players room u v n : ℕ) → IsBlocked (made_table players room u v).objects n → ⊥
no_tile_shared players room u v n is =
    apart_at (made_table players room u v).objects is.earlier is.later is.one is.other
    (all_apart players room u v) is.before is.place is.there is.column is.row

-- ---- owners

unowned : (accounts : List Account) (o : Object) → o.owner ≡ 0 → o.other ≡ 0 → HasWrongHolder accounts o → ⊥
unowned accounts o none free wrong = elim wrong [ inl owned ↦ owned.0 none | inr reserved ↦ reserved.0 free ]

listed : (players room : ℕ) → room < players → IsListed (accounts_to players) (room + 1)
unfolding accounts_to
listed players room less = record {
  index = room;
  account = account (1 + room);
  place = placed_at account 1 players room less;
  is = omega arith;
}

owned_well : (players room : ℕ) (o : Object) → room < players → o.owner ≡ room + 1 → o.other ≡ 0
    → may_have_owner o.kind ≡ true → HasWrongHolder (accounts_to players) o → ⊥
owned_well players room o less is free may wrong =
    elim wrong [
      | inl (owned, inl unlisted) ↦ unlisted (subst (IsListed (accounts_to players)) (sym is) (listed players room less))
      | inl (owned, inr never) ↦ absurd cc
      | inr reserved ↦ reserved.0 free
    ]

pub owners_are_right : (players room u v : ℕ)
    → AllByRecursion (λ o. HasWrongHolder (accounts_to players) o → ⊥) (made_table players room u v).objects
owners_are_right players room u v =
    each_object (λ o. HasWrongHolder (accounts_to players) o → ⊥) players room u v
    (λ less. owned_well players room (owned_controller room (room + 1)) less refl refl refl)
    (unowned (accounts_to players) (free_controller room) refl refl)
    (unowned (accounts_to players) (source room u v) refl refl)
    (λ less. owned_well players room (spawn room (room + 1)) less refl refl refl)
    (λ less. owned_well players room (creep room (room + 1)) less refl refl refl)

-- ---- ranges

pub all_in_range : (players room u v : ℕ)
    → AllByRecursion (λ o. IsInRangeAs o.kind o) (made_table players room u v).objects
all_in_range players room u v =
    each_object (λ o. IsInRangeAs o.kind o) players room u v
    (λ less. record {
      unowned = λ none. absurd (omega arith);
      owned = λ some. lit≤ tt;
      hits = refl;
      energy = refl;
      timer = (lit≤ tt, lit≤ tt);
      extra = lit≤ tt;
      progress = lit< tt;
      other = λ some. absurd (some refl);
      unreserved = λ none. refl;
      reserved = λ some. absurd (some refl);
      body = refl;
    })
    (record {
      unowned = λ none. refl;
      owned = λ some. absurd (some refl);
      hits = refl;
      energy = refl;
      timer = refl;
      extra = lit≤ tt;
      progress = refl;
      other = λ some. absurd (some refl);
      unreserved = λ none. refl;
      reserved = λ some. absurd (some refl);
      body = refl;
    })
    (record {
      owner = refl;
      hits = refl;
      energy = lit≤ tt;
      timer = lit≤ tt;
      extra = refl;
      progress = refl;
      other = refl;
      other_ticks = refl;
      body = refl;
    })
    (λ less. record {
      owner = omega arith;
      hits = (lit≤ tt, lit≤ tt);
      energy = lit≤ tt;
      timer = lit≤ tt;
      idle = λ none. refl;
      busy = λ some. absurd (some refl);
      extra = refl;
      progress = refl;
      other = refl;
      other_ticks = refl;
      parts = lit≤ tt;
    })
    (λ less. record {
      owner = omega arith;
      hits = (lit≤ tt, lit≤ tt);
      energy = lit≤ tt;
      timer = (lit≤ tt, lit≤ tt);
      extra = lit≤ tt;
      progress = refl;
      other = refl;
      other_ticks = refl;
      some_parts = lit≤ tt;
      parts = lit≤ tt;
    })

-- ---- counts of kinds

pub one_controller : (players room u v : ℕ)
    → 2 ≤ count_by (λ object. is_controller object.kind) (made_table players room u v).objects → ⊥
one_controller players room u v =
    each_list (λ os. 2 ≤ count_by (λ object. is_controller object.kind) os → ⊥) players room u v
    (λ less many. omega arith) (λ many. omega arith)

pub no_sites : (players room u v : ℕ) → site_owners_of (made_table players room u v).objects ≡ []
no_sites players room u v = each_list (λ os. site_owners_of os ≡ []) players room u v (λ less. refl) refl

pub few_objects : (players room u v : ℕ) → length (made_table players room u v).objects ≤ 4
few_objects players room u v = each_list (λ os. length os ≤ 4) players room u v (λ less. lit≤ tt) (lit≤ tt)

-- ---- ids

pub ids_rise : (players room u v : ℕ) → IsRising (made_table players room u v).objects
ids_rise players room u v =
    each_list IsRising players room u v
    (λ less. ((omega arith, (omega arith, (omega arith, tt))), ((omega arith, (omega arith, tt)), ((omega arith, tt), (tt, tt)))))
    ((omega arith, tt), (tt, tt))
