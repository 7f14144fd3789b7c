-- Objects that a step does not concern never come to be of those that it does.
use Rattle.std.proofs.Common.{◌≡◌, ℕ, ◌⊎◌, ◌+◌, ◌^◌, ◌==◌, ◌&&◌, min, Bool, true, false, cond, if◌then◌else◌, nat_lt, List, [], ◌∷◌, Option, Some, None, refl, sym, ap, subst, ◌∙◌, inl, inr}
use Rattle.std.specs.List.{AllByRecursion, find}
use Rattle.std.specs.Cmp.{nat_cmp_total, unsigned_tied}
use Rattle.std.specs.FinMap.{get, insert, values, get-insert, get-remove}
use Rattle.std.proofs.lemmas.Bool.{both_ways, cases_eq, eq-eqb, ne_eqb}
use Rattle.game_tables.specs.Kinds.{is_pile}
use Rattle.game_tables.specs.declared.kind.Kind.{Kind}
use Rattle.game_tables.specs.declared.kind.Kind.TheVariants.{Pile}
use Rattle.room_table.specs.declared.object.Object.{Object}
use Rattle.world_rules.specs.RoomParts.{RoomPart}
use Rattle.world_rules.specs.RuleBook.{Sums}
use Rattle.world_rules.specs.Changes.{put, next_id, with_object, with_new, without}
use Rattle.world_rules.specs.Drops.{fallen, fallen_on, is_pile_on, pile_bound, pile_of, pile_on}
use Rattle.world_rules.specs.Steps.{by_object, over_ids}
use Rattle.upkeep_rules.specs.declared.wearing.Wear.{Wear}
use Rattle.upkeep_rules.specs.inner.Worn.{change, concerned, concerns, ids_of, left_in, made, tally_in, worn, Leaving}
use Rattle.upkeep_rules.proofs.Outcomes.{change_made, change_none, worn_fits, pile_is_none}

-- ---- energy that falls

kind_of_pile : (kind : Kind) → is_pile kind ≡ true → kind ≡ Pile
kind_of_pile Pile is = refl
kind_of_pile kind is = absurd (cc)

first_of : (a b c : Bool) → (a && b && c) ≡ true → a ≡ true
first_of true b c is = refl
first_of false b c is = is

-- what is found by a test passes it
found_passes : (test : Object → Bool) (objects : List Object) (found : Object) → find test objects ≡ Some found → test found ≡ true
found_passes test [] found is = absurd cc
found_passes test (object ∷ objects) found is =
    elim (test object) as (λ b. test object ≡ b → cond b (Some object) (find test objects) ≡ Some found → test found ≡ true) [
      | true ↦ λ passes here. let same : object ≡ found = cc in ap test (sym same) ∙ passes
      | false ↦ λ fails there. found_passes test objects found there
    ] refl is

-- what is found as the pile of a tile is a pile
pub pile_found : (x y : ℕ) (objects : List Object) (pile : Object) → find (is_pile_on x y) objects ≡ Some pile → pile.kind ≡ Pile
pile_found x y objects pile is = kind_of_pile pile.kind (first_of (is_pile pile.kind) (pile.x == x) (pile.y == y) (found_passes (is_pile_on x y) objects pile is))

-- each object stands under its id
abbrev pub IsKeyed : RoomPart → Type 0
IsKeyed part = (id : ℕ) (object : Object) → get part.objects id ≡ Some object → object.id ≡ id

abbrev with_put : RoomPart → ℕ → Object → RoomPart
with_put part next object = record part { next = next; objects = insert part.objects object.id object }

get_put : (part : RoomPart) (next : ℕ) (object : Object) (id : ℕ) → get (with_put part next object).objects id ≡ cond (id == object.id) (Some object) (get part.objects id)
get_put part next object id =
    get-insert nat_cmp_total part.objects object.id object id ∙ ap (λ (b : Bool). cond b (Some object) (get part.objects id)) (unsigned_tied id object.id)

put_keyed : (part : RoomPart) (next : ℕ) (object : Object) → IsKeyed part → IsKeyed (with_put part next object)
put_keyed part next object keyed id found is =
    elim (cases_eq id object.id) [
      | inl same ↦
          let here : Some object ≡ Some found = sym (get_put part next object id ∙ ap (λ (b : Bool). cond b (Some object) (get part.objects id)) (eq-eqb id object.id same)) ∙ is in
          let one : object ≡ found = cc in
          ap (λ (o : Object). o.id) (sym one) ∙ sym same
      | inr other ↦ keyed id found (sym (get_put part next object id ∙ ap (λ (b : Bool). cond b (Some object) (get part.objects id)) (ne_eqb id object.id other)) ∙ is)
    ]

get_without : (part : RoomPart) (gone id : ℕ) → get (without gone part).objects id ≡ cond (id == gone) None (get part.objects id)
get_without part gone id = get-remove nat_cmp_total part.objects gone id ∙ ap (λ (b : Bool). cond b None (get part.objects id)) (unsigned_tied id gone)

module _ (step : Wear) where
  -- ---- what a step does not concern

  abbrev is_concerned : Option Object → Bool
  is_concerned None = false
  is_concerned (Some object) = concerns step object.kind

  -- What stands under the id is not concerned.
  abbrev pub IsQuiet : ℕ → RoomPart → Type 0
  IsQuiet id part = is_concerned (get part.objects id) ≡ false

  pub quiet_is : (found : Option Object) (object : Object) → found ≡ Some object → concerns step object.kind ≡ false → is_concerned found ≡ false
  quiet_is found object is calm = ap is_concerned is ∙ calm

  -- What was not concerned does not come to, and objects stand under their ids still.
  record StaysQuiet (part after : RoomPart) (but : ℕ) : Type 0 where
    quiet : (id : ℕ) → (id ≡ but → ⊥) → IsQuiet id part → IsQuiet id after
    keyed : IsKeyed part → IsKeyed after

  same_quiet : (part : RoomPart) (but : ℕ) → StaysQuiet part part but
  same_quiet part but = record { quiet = λ id other quiet. quiet; keyed = λ keyed. keyed }

  quiet_after : (part middle after : RoomPart) (but : ℕ) → StaysQuiet part middle but → StaysQuiet middle after but → StaysQuiet part after but
  quiet_after part middle after but one two = record {
    quiet = λ id other quiet. two.quiet id other (one.quiet id other quiet);
    keyed = λ keyed. two.keyed (one.keyed keyed);
  }

  put_quiet : (part : RoomPart) (next : ℕ) (object : Object) (but : ℕ) → (object.id ≡ but) ⊎ (concerns step object.kind ≡ false) → StaysQuiet part (with_put part next object) but
  put_quiet part next object but may = record {
    quiet = λ id apart quiet. ap is_concerned (get_put part next object id) ∙ elim (cases_eq id object.id) as (λ c. is_concerned (cond (id == object.id) (Some object) (get part.objects id)) ≡ false) [
      | inl same ↦ ap (λ (b : Bool). is_concerned (cond b (Some object) (get part.objects id))) (eq-eqb id object.id same) ∙ elim may as (λ m. concerns step object.kind ≡ false) [
        | inl this ↦ absurd (apart (same ∙ this))
        | inr calm ↦ calm
      ]
      | inr other ↦ ap (λ (b : Bool). is_concerned (cond b (Some object) (get part.objects id))) (ne_eqb id object.id other) ∙ quiet
    ];
    keyed = put_keyed part next object;
  }

  put_found : (part : RoomPart) (object : Object) (but : ℕ) (found : Option Object) → (object.id ≡ but) ⊎ (concerns step object.kind ≡ false) → StaysQuiet part (put object part found) but
  put_found part object but None may = same_quiet part but
  put_found part object but (Some old) may = put_quiet part part.next object but may

  without_quiet : (part : RoomPart) (gone but : ℕ) → StaysQuiet part (without gone part) but
  without_quiet part gone but = record {
    quiet = λ id apart quiet. ap is_concerned (get_without part gone id) ∙ elim (id == gone) as (λ b. is_concerned (cond b None (get part.objects id)) ≡ false) [ true ↦ refl | false ↦ quiet ];
    keyed = λ keyed id found is. elim (id == gone) as (λ b. cond b None (get part.objects id) ≡ Some found → found.id ≡ id) [
      | true ↦ λ none. absurd (cc)
      | false ↦ λ there. keyed id found there
    ] (sym (get_without part gone id) ∙ is);
  }

  new_quiet : (part : RoomPart) (x y amount but : ℕ) → StaysQuiet part (with_new (λ id. pile_of id x y amount) part) but
  new_quiet part x y amount but =
      elim (nat_lt part.next (2 ^ 32)) as (λ b. StaysQuiet part (if b then with_put part (part.next + 1) (pile_of (next_id part) x y amount) else part) but) [
        | true ↦ put_quiet part (part.next + 1) (pile_of (next_id part) x y amount) but (inr (pile_is_none step))
        | false ↦ same_quiet part but
      ]

  on_quiet : (part : RoomPart) (x y amount but : ℕ) (found : Option Object) → pile_on x y part ≡ found → StaysQuiet part (fallen_on found x y amount part) but
  on_quiet part x y amount but None is = new_quiet part x y (min pile_bound amount) but
  on_quiet part x y amount but (Some pile) is =
      put_found part (record pile { energy = min pile_bound (pile.energy + amount) }) but (get part.objects pile.id) (inr (ap (concerns step) (pile_found x y (values part.objects) pile is) ∙ pile_is_none step))

  fallen_quiet : (part : RoomPart) (x y amount but : ℕ) → StaysQuiet part (fallen x y amount part) but
  fallen_quiet part x y amount but =
      elim (amount == 0) as (λ b. StaysQuiet part (if b then part else fallen_on (pile_on x y part) x y amount part) but) [
        | true ↦ same_quiet part but
        | false ↦ on_quiet part x y amount but (pile_on x y part) refl
      ]

  -- ---- one object in its turn

  left_quiet : (part : RoomPart) (left : Leaving) → StaysQuiet part (left_in left part) left.object.id
  left_quiet part left =
      elim left.stands as (λ b. StaysQuiet part (if b then with_object left.object part else without left.object.id part) left.object.id) [
        | true ↦ put_found part left.object left.object.id (get part.objects left.object.id) (inl refl)
        | false ↦ without_quiet part left.object.id left.object.id
      ]

  made_quiet : (part : RoomPart) (left : Leaving) → StaysQuiet part (made left part) left.object.id
  made_quiet part left =
      quiet_after part (left_in left part) (made left part) left.object.id (left_quiet part left) (fallen_quiet (left_in left part) left.object.x left.object.y left.falls left.object.id)

  module _ (sums : Sums) where
    -- what is of another id, or is quiet, stays quiet
    record Leaves (part after : RoomPart) : Type 0 where
      quiet : (id : ℕ) → IsQuiet id part → IsQuiet id after
      keyed : IsKeyed part → IsKeyed after

    nothing_done : (part after : RoomPart) → after ≡ part → Leaves part after
    nothing_done part after same = record {
      quiet = λ id quiet. ap (λ (p : RoomPart). is_concerned (get p.objects id)) same ∙ quiet;
      keyed = λ keyed. subst IsKeyed (sym same) keyed;
    }

    turn_leaves : (part : RoomPart) (id : ℕ) (found : Option Object) → get part.objects id ≡ found → IsKeyed part → Leaves part (by_object (change step sums) part found)
    turn_leaves part id None is keyed = nothing_done part part refl
    turn_leaves part id (Some object) is keyed =
        elim (concerns step object.kind) as (λ b. concerns step object.kind ≡ b → Leaves part (change step sums object part)) [
          | false ↦ λ calm. nothing_done part (change step sums object part) (change_none step sums object part calm)
          | true ↦ λ concerned.
              let left : Leaving = worn step (tally_in sums object.id) object in
              let fits = worn_fits step (tally_in sums object.id) object concerned in
              let stays = subst (λ (p : RoomPart). StaysQuiet part p left.object.id) (sym (change_made step sums object part concerned)) (made_quiet part left) in
              record {
                quiet = λ other quiet. stays.quiet other (λ same. both_ways (is_concerned (get part.objects other)) quiet (ap (λ (n : ℕ). is_concerned (get part.objects n)) (same ∙ fits.id ∙ keyed id object is) ∙ ap is_concerned is ∙ concerned)) quiet;
                keyed = stays.keyed;
              }
        ] refl

    abbrev after_turn : RoomPart → ℕ → RoomPart
    after_turn part id = by_object (change step sums) part (get part.objects id)

    abbrev AreQuiet : List Object → RoomPart → Type 0
    AreQuiet objects part = AllByRecursion (λ object. concerns step object.kind ≡ false → IsQuiet object.id part) objects

    quiet_all : (objects : List Object) (part after : RoomPart) → Leaves part after → AreQuiet objects part → AreQuiet objects after
    quiet_all [] part after leaves quiet = tt
    quiet_all (object ∷ objects) part after leaves quiet = (λ calm. leaves.quiet object.id (quiet.0 calm), quiet_all objects part after leaves quiet.1)

    quiet_turn : (part : RoomPart) (found : Option Object) → is_concerned found ≡ false → by_object (change step sums) part found ≡ part
    quiet_turn part None quiet = refl
    quiet_turn part (Some object) quiet = change_none step sums object part quiet

    -- The ids of objects that are not concerned may be left out.
    pub only_concerned : (objects : List Object) (part : RoomPart) → IsKeyed part → AreQuiet objects part → over_ids (change step sums) (ids_of objects) part ≡ over_ids (change step sums) (ids_of (concerned step objects)) part
    only_concerned [] part keyed quiet = refl
    only_concerned (object ∷ objects) part keyed quiet =
        elim (concerns step object.kind) as (λ b. concerns step object.kind ≡ b → over_ids (change step sums) (ids_of objects) (after_turn part object.id) ≡ over_ids (change step sums) (ids_of (cond b (object ∷ concerned step objects) (concerned step objects))) part) [
          | false ↦ λ calm. ap (over_ids (change step sums) (ids_of objects)) (quiet_turn part (get part.objects object.id) (quiet.0 calm)) ∙ only_concerned objects part keyed quiet.1
          | true ↦ λ its.
              let leaves = turn_leaves part object.id (get part.objects object.id) refl keyed in
              only_concerned objects (after_turn part object.id) (leaves.keyed keyed) (quiet_all objects part (after_turn part object.id) leaves quiet.1)
        ] refl
