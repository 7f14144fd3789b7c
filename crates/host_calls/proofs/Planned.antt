-- The room of a place among those that are seen, and what is counted of it.
use Rattle.std.proofs.Common.{◌≡◌, ◌⊎◌, inl, inr, ℕ, ℤ, suc, ◌==◌, true, false, cond, if◌then◌else◌, List, [], ◌∷◌, Option, Some, None, option_map, slice_get, refl, sym, ap, subst, ◌∙◌}
use Rattle.std.specs.List.{find}
use Rattle.std.specs.Option.{is_some}
use Rattle.std.proofs.lemmas.Bool.{both_ways, cases_eq, eqb-true, ne_eqb}
use Rattle.game_tables.specs.Numbers.{kind_number}
use Rattle.game_tables.specs.declared.kind.Kind.{Kind}
use Rattle.room_table.specs.declared.object.Object.{Object}
use Rattle.room_table.specs.Stores.{site_kinds}
use Rattle.world_rules.specs.Sites.{count_of}
use Rattle.std.proofs.lemmas.Option.{slice_get-map}
use Rattle.visible_view.specs.Sights.{SeenRoom, Sight}
use Rattle.visible_view.specs.Fields.{room_at, room_place}
use Rattle.action_checks.specs.Plans.{plan_view, IsCounted}
use Rattle.action_checks.specs.declared.plans.Plan.{Plan as Found}
use Rattle.intent_book.specs.declared.intent.Intent.{Intent}
use Rattle.host_calls.specs.Desks.{Desk}
use Rattle.host_calls.specs.Replies.{plan_seen}
use Rattle.host_calls.specs.inner.Wishes.{IsPlanIn}
use Rattle.sight_census.specs.Censuses.{built, census_of, told_in, told_of}

no_place : (index : ℕ) (rooms : List SeenRoom) → room_place index rooms ≡ None → find (λ room. room.index == index) rooms ≡ None
no_place index [] is = refl
no_place index (first ∷ rooms) is =
    elim (first.index == index) as (λ b. (if b then Some 0 else option_map suc (room_place index rooms)) ≡ None → cond b (Some first) (find (λ room. room.index == index) rooms) ≡ None) [
      | true ↦ λ got. absurd (cc)
      | false ↦ λ got. no_place index rooms (before (room_place index rooms) got)
    ] is
  where
    before : (found : Option ℕ) → option_map suc found ≡ None → found ≡ None
    before None got = refl
    before (Some place) got = absurd (cc)

abbrev IsThere : ℕ → List SeenRoom → ℕ → Type 0
IsThere index rooms place = (room : SeenRoom) × (slice_get rooms place ≡ Some room) × (find (λ (r : SeenRoom). r.index == index) rooms ≡ Some room) × (room.index ≡ index)

at_place : (index : ℕ) (rooms : List SeenRoom) (place : ℕ) → room_place index rooms ≡ Some place → IsThere index rooms place
at_place index [] place is = absurd (cc)
at_place index (first ∷ rooms) place is =
    elim (first.index == index) as (λ b. (first.index == index) ≡ b → (if b then Some 0 else option_map suc (room_place index rooms)) ≡ Some place → (room : SeenRoom) × (slice_get (first ∷ rooms) place ≡ Some room) × (cond b (Some first) (find (λ (r : SeenRoom). r.index == index) rooms) ≡ Some room) × (room.index ≡ index)) [
      | true ↦ λ same got. (let zeroth : 0 ≡ place = cc in (first, ap (slice_get (first ∷ rooms)) (sym zeroth), refl, eqb-true first.index index same))
      | false ↦ λ other got. behind (at_place index rooms) (room_place index rooms) refl got
    ] refl is
  where
    behind : ((before : ℕ) → room_place index rooms ≡ Some before → IsThere index rooms before) → (found : Option ℕ) → room_place index rooms ≡ found → option_map suc found ≡ Some place → ((room : SeenRoom) × (slice_get (first ∷ rooms) place ≡ Some room) × (find (λ (r : SeenRoom). r.index == index) rooms ≡ Some room) × (room.index ≡ index))
    behind earlier None at got = absurd (cc)
    behind earlier (Some before) at got = (
        let next : suc before ≡ place = cc in
        let there = earlier before at in
        (there.0, ap (slice_get (first ∷ rooms)) (sym next) ∙ there.1, there.2, there.3))

module _ (sight : Sight) (index : ℕ) where
  pub no_room : room_place index sight.rooms ≡ None → room_at sight index ≡ None
  no_room is = no_place index sight.rooms is

  pub the_room : (place : ℕ) → room_place index sight.rooms ≡ Some place → (room : SeenRoom) × (slice_get sight.rooms place ≡ Some room) × (room_at sight index ≡ Some room) × (room.index ≡ index)
  the_room place is = let there = at_place index sight.rooms place is in (there.0, there.1, there.2, there.3)

  -- what is counted of it
  pub told_there : (place : ℕ) (room : SeenRoom) → slice_get sight.rooms place ≡ Some room → slice_get (census_of sight).rooms place ≡ Some (told_in sight room)
  told_there place room is = slice_get-map (told_in sight) sight.rooms place ∙ ap (option_map (told_in sight)) is

-- ---- how many there are of a kind that is built from sites

counted_if : (player number : ℕ) (objects : List Object) → (number ≡ 4) ⊎ ((number ≡ 5) ⊎ ((number ≡ 6) ⊎ ((number ≡ 7) ⊎ (number ≡ 8)))) → built (told_of player objects) number ≡ count_of number objects
counted_if player number objects (inl four) = subst (λ (n : ℕ). built (told_of player objects) n ≡ count_of n objects) (sym four) refl
counted_if player number objects (inr (inl five)) = subst (λ (n : ℕ). built (told_of player objects) n ≡ count_of n objects) (sym five) refl
counted_if player number objects (inr (inr (inl six))) = subst (λ (n : ℕ). built (told_of player objects) n ≡ count_of n objects) (sym six) refl
counted_if player number objects (inr (inr (inr (inl seven)))) = subst (λ (n : ℕ). built (told_of player objects) n ≡ count_of n objects) (sym seven) refl
counted_if player number objects (inr (inr (inr (inr eight)))) = subst (λ (n : ℕ). built (told_of player objects) n ≡ count_of n objects) (sym eight) refl

which : (number : ℕ) → is_some (find (λ kind. kind_number kind == number) site_kinds) ≡ true → (number ≡ 4) ⊎ ((number ≡ 5) ⊎ ((number ≡ 6) ⊎ ((number ≡ 7) ⊎ (number ≡ 8))))
which number is = elim (cases_eq 4 number) [
  | inl four ↦ inl (sym four)
  | inr no_four ↦ elim (cases_eq 5 number) [
    | inl five ↦ inr (inl (sym five))
    | inr no_five ↦ elim (cases_eq 6 number) [
      | inl six ↦ inr (inr (inl (sym six)))
      | inr no_six ↦ elim (cases_eq 7 number) [
        | inl seven ↦ inr (inr (inr (inl (sym seven))))
        | inr no_seven ↦ elim (cases_eq 8 number) [
          | inl eight ↦ inr (inr (inr (inr (sym eight))))
          | inr no_eight ↦
              let none : is_some (find (λ (kind : Kind). kind_number kind == number) site_kinds) ≡ false =
              rw (ne_eqb 4 number no_four, ne_eqb 5 number no_five, ne_eqb 6 number no_six, ne_eqb 7 number no_seven, ne_eqb 8 number no_eight) refl in
              absurd (both_ways (is_some (find (λ (kind : Kind). kind_number kind == number) site_kinds)) none is)
        ]
      ]
    ]
  ]
]

pub built_counts : (player number : ℕ) (objects : List Object) → is_some (find (λ kind. kind_number kind == number) site_kinds) ≡ true → built (told_of player objects) number ≡ count_of number objects
built_counts player number objects is = counted_if player number objects (which number is)

-- ---- what the checks read

module _ (desk : Desk) (wish : Intent) (x y : ℤ) where
  pub not_planned : (seen : Option SeenRoom) (found : Option Found) → IsPlanIn desk wish x y seen found → found ≡ None → seen ≡ None
  not_planned None found is none = refl
  not_planned (Some room) found is none = (let both : Some is.0 ≡ None = sym is.1 ∙ none in absurd (cc))

  pub planned : (seen : Option SeenRoom) (found : Option Found) (plan : Found) → IsPlanIn desk wish x y seen found → found ≡ Some plan → (room : SeenRoom) × (seen ≡ Some room) × (plan_view plan ≡ plan_seen desk wish x y room) × IsCounted plan
  planned None found plan is some = (let both : None ≡ Some plan = sym is ∙ some in absurd (cc))
  planned (Some room) found plan is some =
      let both : Some is.0 ≡ Some plan = sym is.1 ∙ some in
      let same : is.0 ≡ plan = cc in
      (room, refl, ap plan_view (sym same) ∙ is.2, subst IsCounted same is.3)
