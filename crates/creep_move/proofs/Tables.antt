-- The tables by tile after one more step.
use Rattle.std.proofs.Common.{Bor, map, ◌≡◌, ℕ, ◌+◌, ◌<◌, ◌≤◌, ◌↔◌, Bool, false, true, List, [], ◌∷◌, ◌++◌, length, get_or, set, inl, inr, sym, ap, subst, ◌∙◌, arith, get_or-set_other, get_or-set_same}
use Rattle.std.proofs.lemmas.Bool.{cases_eq, false≢true}
use Rattle.std.proofs.lemmas.List.{get_or_past, map-append, append_assoc}
use Rattle.std.proofs.lemmas.List.Elements.{Contains-append_left, Contains-push, Contains-push_cases}
use Rattle.game_tables.specs.Kinds.{is_creep}
use Rattle.room_terrain.specs.Tiles.{tile}
use Rattle.room_table.specs.declared.object.Object.{Object}
use Rattle.creep_move.specs.inner.Walk.{IsStoodOn}

-- ---- the tiles with a creep

pub stood_creep : (front : List Object) (object : Object) (held : List Bool) → is_creep object.kind ≡ true → tile object.x object.y < length held → ((t : ℕ) → get_or held t false ≡ true ↔ IsStoodOn front t)
    → (t : ℕ) → get_or (set held (tile object.x object.y) true) t false ≡ true ↔ IsStoodOn (front ++ object ∷ []) t
stood_creep front object held creep low so_far t =
    let at = tile object.x object.y in
    elim (cases_eq t at) [
      | inl e ↦ (λ _. (object, Contains-push front object, creep, sym e), λ _. ap (λ j. get_or (set held at true) j false) e ∙ get_or-set_same held at true false low)
      | inr other ↦ (
        λ h. let old = (so_far t).0 (sym (get_or-set_other held at t true false other) ∙ h) in (old.0, Contains-append_left front (object ∷ []) old.0 old.1, old.2, old.3),
        λ h. get_or-set_other held at t true false other ∙ (so_far t).1 (elim (Contains-push_cases front object h.0 h.1) [
          | inl old ↦ (h.0, old, h.2, h.3)
          | inr e ↦ absurd (other (sym (ap (λ (x : Object). tile x.x x.y) e ∙ h.3)))
        ]),
      )
    ]

pub stood_other : (front : List Object) (object : Object) (held : List Bool) → is_creep object.kind ≡ false → ((t : ℕ) → get_or held t false ≡ true ↔ IsStoodOn front t)
    → (t : ℕ) → get_or held t false ≡ true ↔ IsStoodOn (front ++ object ∷ []) t
stood_other front object held none so_far t = (
  λ h. let old = (so_far t).0 h in (old.0, Contains-append_left front (object ∷ []) old.0 old.1, old.2, old.3),
  λ h. (so_far t).1 (elim (Contains-push_cases front object h.0 h.1) [
    | inl old ↦ (h.0, old, h.2, h.3)
    | inr e ↦ absurd (false≢true (sym none ∙ ap (λ (x : Object). is_creep x.kind) e ∙ h.2))
  ]),
)

-- ---- the tiles that are left

-- one of so many winners comes from the tile
abbrev pub LeftBy : ℕ → List ℕ → ℕ → Type 0
LeftBy count comes t = (to : ℕ) × (to < count) × (get_or comes to 0 ≡ t)

pub left_more : (comes : List ℕ) (held : List Bool) (i t : ℕ) → get_or comes i 0 < length held → (get_or held t false ≡ false ↔ LeftBy i comes t)
    → (get_or (set held (get_or comes i 0) false) t false ≡ false ↔ LeftBy (i + 1) comes t)
left_more comes held i t low so_far =
    let from = get_or comes i 0 in
    elim (cases_eq t from) [
      | inl e ↦ (λ _. (i, omega arith, sym e), λ _. ap (λ j. get_or (set held from false) j false) e ∙ get_or-set_same held from false false low)
      | inr other ↦ (
        λ h. let old = so_far.0 (sym (get_or-set_other held from t false false other) ∙ h) in (old.0, omega (arith, old.1), old.2),
        λ h. get_or-set_other held from t false false other ∙ so_far.1 (left_back comes i t (λ e. other (sym e)) h),
      )
    ]
  where
    left_back : (comes : List ℕ) (i t : ℕ) → (get_or comes i 0 ≡ t → ⊥) → LeftBy (i + 1) comes t → LeftBy i comes t
    left_back comes i t other h = elim (cases_eq h.0 i) [
      | inl e ↦ absurd (other (ap (λ j. get_or comes j 0) (sym e) ∙ h.2))
      | inr apart ↦ (h.0, omega (arith, h.1, apart), h.2)
    ]

pub left_late : (comes : List ℕ) (held : List Bool) (i t : ℕ) → length held ≤ get_or comes i 0 → (get_or held t false ≡ false ↔ LeftBy i comes t)
    → (get_or held t false ≡ false ↔ LeftBy (i + 1) comes t)
left_late comes held i t high so_far = (
  λ h. let old = so_far.0 h in (old.0, omega (arith, old.1), old.2),
  λ h. elim (cases_eq h.0 i) [
    | inl e ↦ let at : get_or comes i 0 ≡ t = ap (λ j. get_or comes j 0) (sym e) ∙ h.2 in get_or_past held t false (omega (arith, at, high))
    | inr apart ↦ so_far.1 (h.0, omega (arith, h.1, apart), h.2)
  ],
)

pub held_kept : (held : List Bool) (i t : ℕ) → i < length held → get_or (set held i false) t false ≡ true → get_or held t false ≡ true
held_kept held i t low h = elim (cases_eq t i) [
  | inl e ↦ absurd (false≢true (sym (ap (λ j. get_or (set held i false) j false) e ∙ get_or-set_same held i false false low) ∙ h))
  | inr other ↦ sym (get_or-set_other held i t false false other) ∙ h
]

-- ---- a walk along objects

pub marked_front : (yielded : List (Bor Object)) (object : Bor Object) (P : List Object → Type 0) → P (map (λ (b : Bor Object). b.now) yielded ++ object.now ∷ []) → P (map (λ (b : Bor Object). b.now) (yielded ++ object ∷ []))
marked_front yielded object P h = subst P (sym (map-append (λ (b : Bor Object). b.now) yielded (object ∷ []))) h

pub marked_rest : (yielded : List (Bor Object)) (object : Bor Object) (left rest all : List Object) → left ≡ object.now ∷ rest → map (λ (b : Bor Object). b.now) yielded ++ left ≡ all → map (λ (b : Bor Object). b.now) (yielded ++ object ∷ []) ++ rest ≡ all
marked_rest yielded object left rest all steps is =
    let front = map (λ (b : Bor Object). b.now) yielded in
    ap (λ (f : List Object). f ++ rest) (map-append (λ (b : Bor Object). b.now) yielded (object ∷ []))
    ∙ append_assoc front (object.now ∷ []) rest
    ∙ ap (λ (l : List Object). front ++ l) (sym steps)
    ∙ is
