-- Sites that are made and removed, and creeps that spawns make, keep the rules of a room.
use Rattle.std.proofs.Common.{◌≡◌, inl, inr, ℕ, ◌-◌, ◌*◌, ◌<◌, ◌≤◌, ◌==◌, ◌&&◌, ◌||◌, not, nat_lt, nat_le, if◌then◌else◌, Bool, true, false, List, [], ◌∷◌, length, slice_get, Option, Some, None, option_map, refl, sym, ap, subst, ◌∙◌, arith}
use Rattle.std.specs.List.{AllByRecursion, filter, filter_map, list_any}
use Rattle.std.specs.Option.{is_some}
use Rattle.std.specs.FinMap.{get, values}
use Rattle.std.proofs.lemmas.Bool.{and_parts, both_ways, cases_lt, eq-eqb, eqb-true, leb-true, ltb-true}
use Rattle.game_tables.specs.Bodies.{body_cost, has_part, lifetime, most_parts}
use Rattle.game_tables.specs.Kinds.{build_total, clash, is_building, is_creep, needs_owned_room, obstructs, stands_fixed}
use Rattle.game_tables.specs.Numbers.{kind_number}
use Rattle.game_tables.specs.Limits.{most_sites}
use Rattle.game_tables.specs.declared.code.Code.TheVariants.{InvalidTarget, Full}
use Rattle.game_tables.specs.declared.kind.Kind.{Kind}
use Rattle.game_tables.specs.declared.kind.Kind.TheVariants.{Creep, Spawn, Extension, Storage, Container, Road, Site}
use Rattle.game_tables.specs.declared.kind.Part.{Part}
use Rattle.game_tables.specs.declared.kind.Part.TheVariants.{Claim}
use Rattle.room_terrain.specs.Tiles.{tile, IsEdge}
use Rattle.room_terrain.specs.declared.terrain.Ground.{Ground}
use Rattle.room_terrain.specs.declared.terrain.Ground.TheVariants.{Wall}
use Rattle.intent_book.specs.declared.intent.Intent.{Intent}
use Rattle.room_table.specs.Controllers.{controller_among, is_anothers}
use Rattle.room_table.specs.declared.object.Object.{Object}
use Rattle.room_table.specs.Tables.{is_site_free, first_on, is_obstructed, is_on}
use Rattle.world_rules.specs.World.{Placed}
use Rattle.world_rules.specs.RoomParts.{RoomPart}
use Rattle.world_rules.specs.Changes.{next_id, put, with_new, with_object, without}
use Rattle.world_rules.specs.Checks.{all_hold, holds_of, standing_at}
use Rattle.world_rules.specs.Loads.{with_less}
use Rattle.world_rules.specs.Moves.{directions, is_open, is_open_ground, tile_towards}
use Rattle.world_rules.specs.Rules.{IsProgress}
use Rattle.world_rules.specs.Sights.{gives_sight, is_visible}
use Rattle.world_rules.specs.Sites.{Plan, has_creep, has_place, is_free_tile, is_inner, is_owners, making_checks, of_kind, plan_of, planned_kind, removing_checks, site_checks, site_made, site_of, site_removed}
use Rattle.world_rules.specs.Spawns.{begun_with, creep_begun, hatched, hatched_as, hatched_on, holds_for_creeps, is_body, is_free_for_creep, is_payable, newborn, paid, payers, share, spawn_checks, those_of, tile_for}
use Rattle.world_rules.specs.Steps.{by_object}
use Rattle.world_rules.proofs.Checked.{and_left, and_right}
use Rattle.room_commutes.proofs.CreepsApart.{first_has, has_stands, stands_has}
use Rattle.room_commutes.proofs.Members.{Has, any_has, append_cases, has_any, has_filter, map_has}
use Rattle.room_rules.specs.Within.{Stage, summed, IsInRangeIn}
use Rattle.room_rules.specs.RoomRules.{Holds, KeepsRoomRules}
use Rattle.room_rules.proofs.Keeps.{Fits, IsSame, keeps_changed, keeps_new, keeps_over, keeps_without, only_one}
use Rattle.room_rules.proofs.Changed.{stood_before}
use Rattle.room_rules.proofs.Falls.{both_true}
use Rattle.room_rules.proofs.Built.{no_creep}
use Rattle.room_rules.proofs.Loads.{same_less}
use Rattle.room_rules.proofs.Sites.{building_is}
use Rattle.room_rules.proofs.Sound.{clash_turned}
use Rattle.room_rules.proofs.Moved.{clash_creep, from_filter_map, open_parts, towards_most}

-- ---- a new site

inner_most : (z : ℕ) → is_inner z ≡ true → (1 ≤ z) × (z ≤ 48)
inner_most z is = (leb-true 1 z (and_left (nat_le 1 z) (nat_le z 48) is), leb-true z 48 (and_right (nat_le 1 z) (nat_le z 48) is))

no_edge : (z : ℕ) → 1 ≤ z → z ≤ 48 → IsEdge z → ⊥
no_edge z some most (inl first) = omega (arith, some, first)
no_edge z some most (inr last) = omega (arith, most, last)

no_progress : (kind : Kind) → is_building kind ≡ true → IsProgress (build_total kind) 0
no_progress Spawn is = omega arith
no_progress Extension is = omega arith
no_progress Storage is = omega arith
no_progress Container is = omega arith
no_progress Road is = omega arith
no_progress kind is = absurd (cc)

-- what may not share a tile with a site stands fixed
fixed_of : (kind : Kind) → clash Site kind ≡ true → stands_fixed kind ≡ true
fixed_of kind is = cases (stands_fixed kind) is
  where
    cases : (b : Bool) → (b || false || false) ≡ true → b ≡ true
    cases true is = refl
    cases false is = is

some_of : (found : Option Kind) → is_some found ≡ true → (kind : Kind) × (found ≡ Some kind)
some_of None is = absurd (cc)
some_of (Some kind) is = (kind, refl)

not_true : (b : Bool) → not b ≡ true → b ≡ false
not_true true is = absurd (cc)
not_true false is = refl

-- the fourth of checks, and the fifth
pub fourth_of : (one two three four rest : Bool) → (one && (two && (three && (four && rest)))) ≡ true → four ≡ true
fourth_of one two three four rest is =
    and_left four rest (and_right three (four && rest) (and_right two (three && (four && rest)) (and_right one (two && (three && (four && rest))) is)))

fifth_of : (one two three four five rest : Bool) → (one && (two && (three && (four && (five && rest))))) ≡ true → five ≡ true
fifth_of one two three four five rest is =
    and_left five rest (and_right four (five && rest) (and_right three (four && (five && rest)) (and_right two (three && (four && (five && rest))) (and_right one (two && (three && (four && (five && rest)))) is))))

module _ (players : ℕ → Bool) (stage : Stage) where
  abbrev Kept : RoomPart → Type 0
  Kept part = KeepsRoomRules players stage part

  -- Who sees a room is one of the players, since an object of his stands there.
  seen_listed : (part : RoomPart) → Kept part → (player : ℕ) → 1 ≤ player → is_visible player part ≡ true → players player ≡ true
  seen_listed part k player some sees =
      let found = any_has (gives_sight player) (values part.objects) sees in
      let stands = has_stands part found.0 found.1 in
      let own : found.0.owner ≡ player = eqb-true found.0.owner player (and_left (found.0.owner == player) _ found.2) in
      let right = (k.owners stands.0 found.0 stands.1).owner (λ none. omega (arith, some, own, none)) in
      subst (λ (n : ℕ). players n ≡ true) own right.0

  module _ (entry : Intent) (some : 1 ≤ entry.player) (part : RoomPart) (k : Kept part) where
    abbrev plan : Plan
    plan = plan_of entry part

    abbrev site : Object
    site = site_of plan (next_id part)

    site_fits : is_visible entry.player part ≡ true → all_hold (site_checks plan) ≡ true → Fits players stage part site
    site_fits sees hold =
        let inner = and_parts (is_inner plan.x && is_inner plan.y) (is_some (planned_kind plan)) (and_left (is_inner plan.x && is_inner plan.y && is_some (planned_kind plan)) _ hold) in
        let both = and_parts (is_inner plan.x) (is_inner plan.y) inner.0 in
        let column = inner_most plan.x both.0 in
        let row = inner_most plan.y both.1 in
        let kind = some_of (planned_kind plan) inner.1 in
        let is = building_is site kind.0 kind.1 in
        let test : Object → Bool = λ object. is_on plan.x plan.y object && stands_fixed object.kind in
        let free = fifth_of (is_inner plan.x && is_inner plan.y && is_some (planned_kind plan)) (not (is_anothers plan.player (controller_among plan.around)))
        (not (of_kind needs_owned_room (planned_kind plan)) || is_owners plan.player (controller_among plan.around)) (of_kind (has_place plan) (planned_kind plan))
        (of_kind (is_free_tile plan) (planned_kind plan)) (all_hold ((not (of_kind obstructs (planned_kind plan) && has_creep plan), InvalidTarget) ∷ (nat_lt plan.sites most_sites, Full) ∷ [])) hold in
        let clear = and_parts (is_open_ground (slice_get plan.grounds (tile plan.x plan.y))) (is_site_free plan.x plan.y kind.0 plan.around) (sym (ap (of_kind (is_free_tile plan)) kind.1) ∙ free) in
        record {
          id = refl;
          inside = record { column = omega (arith, column.1); row = omega (arith, row.1) };
          tile = λ wrong. elim wrong [
            | inl wall ↦ both_ways (is_open_ground (slice_get plan.grounds (tile plan.x plan.y))) (ap is_open_ground wall.2) clear.0
            | inr border ↦ elim border.2 [
              | inl edge ↦ no_edge plan.x column.0 column.1 edge
              | inr edge ↦ no_edge plan.y row.0 row.1 edge
            ]
          ];
          alone = λ m q h x y. (alone_here clear.1 m q h x y, λ c. alone_here clear.1 m q h x y (clash_turned Site q.kind ∙ c));
          owner = record { owner = λ has. (seen_listed part k entry.player some sees, refl); other = λ has. absurd (has refl) };
          controller = refl;
          range = record { owner = some; hits = refl; energy = refl; timer = refl; built = (kind.0, is.0, is.1, no_progress kind.0 is.0); other = refl; other_ticks = refl; body = refl };
        }
      where
        alone_here : not (list_any (λ object. is_on plan.x plan.y object && stands_fixed object.kind) plan.around) ≡ true → (m : ℕ) (q : Object) → Holds part m q → q.x ≡ plan.x → q.y ≡ plan.y → clash Site q.kind ≡ true → ⊥
        alone_here none m q h x y c =
            let test : Object → Bool = λ object. is_on plan.x plan.y object && stands_fixed object.kind in
            let on = both_true (is_on plan.x plan.y q) (stands_fixed q.kind) (both_true (q.x == plan.x) (q.y == plan.y) (eq-eqb q.x plan.x x) (eq-eqb q.y plan.y y)) (fixed_of q.kind c) in
            both_ways (list_any test plan.around) (not_true (list_any test plan.around) none) (has_any test plan.around q (stands_has part m q h) on)

    pub keeps_site_made : Kept (site_made entry part)
    keeps_site_made =
        elim (all_hold (making_checks entry part)) as (λ b. all_hold (making_checks entry part) ≡ b → Kept (if b then with_new (site_of plan) part else part)) [
          | true ↦ λ hold. keeps_new players stage part k (site_of plan)
              (site_fits (and_left (is_visible entry.player part) (all_hold (site_checks plan)) hold) (and_right (is_visible entry.player part) (all_hold (site_checks plan)) hold))
          | false ↦ λ fails. k
        ] refl

  pub keeps_site_removed : (part : RoomPart) → Kept part → (entry : Intent) → Kept (site_removed entry part)
  keeps_site_removed part k entry =
      elim (all_hold (removing_checks entry part)) as (λ b. Kept (if b then without entry.actor part else part)) [
        | true ↦ keeps_without players stage part k entry.actor
        | false ↦ k
      ]

-- ---- what a creep costs

has_all : {A : Type 0} (P : A → Type 0) (list : List A) → ((x : A) → Has list x → P x) → AllByRecursion P list
has_all P [] each = tt
has_all P (first ∷ later) each = (each first (inl refl), has_all P later (λ x has. each x (inr has)))

-- Among these ids are only spawns and extensions.
abbrev ArePayers : RoomPart → List ℕ → Type 0
ArePayers part ids = AllByRecursion (λ id. (o : Object) → Holds part id o → holds_for_creeps o.kind ≡ true) ids

-- What stands after stood before, as the same kind.
abbrev Stems : RoomPart → RoomPart → Type 0
Stems before after = (id : ℕ) (o : Object) → Holds after id o → (q : Object) × Holds before id q × (o.kind ≡ q.kind)

payers_stay : (part after : RoomPart) → Stems part after → (ids : List ℕ) → ArePayers part ids → ArePayers after ids
payers_stay part after from [] all = tt
payers_stay part after from (id ∷ later) all = ((λ o h. (let was = from id o h in ap holds_for_creeps was.2 ∙ all.0 was.0 was.1)), payers_stay part after from later all.1)

of_spawns : (kind : Kind) → (kind_number kind == kind_number Spawn) ≡ true → kind ≡ Spawn
of_spawns Spawn is = refl
of_spawns kind is = absurd (cc)

of_extensions : (kind : Kind) → (kind_number kind == kind_number Extension) ≡ true → holds_for_creeps kind ≡ true
of_extensions Extension is = refl
of_extensions kind is = absurd (cc)

payer_range : (stage : Stage) (kind : Kind) (o : Object) (amount : ℕ) → holds_for_creeps kind ≡ true → IsInRangeIn kind stage o → IsInRangeIn kind stage (with_less amount o)
payer_range stage Spawn o amount is s = record { owner = s.owner; hits = s.hits; energy = omega (arith, s.energy); timer = s.timer; idle = s.idle; busy = s.busy; extra = s.extra; progress = s.progress; other = s.other; other_ticks = s.other_ticks; parts = s.parts }
payer_range stage Extension o amount is s = record { owner = s.owner; hits = s.hits; energy = omega (arith, s.energy); timer = s.timer; extra = s.extra; progress = s.progress; other = s.other; other_ticks = s.other_ticks; body = s.body }
payer_range stage kind o amount is s = absurd (cc)

module _ (players : ℕ → Bool) (stage : Stage) where
  abbrev Held : RoomPart → Type 0
  Held part = KeepsRoomRules players stage part

  abbrev pay : ℕ → Object → RoomPart → RoomPart
  pay amount object = with_object (with_less amount object)

  pay_keeps : (part : RoomPart) → Held part → (id amount : ℕ) (found : Option Object) → get part.objects id ≡ found → ((o : Object) → found ≡ Some o → holds_for_creeps o.kind ≡ true) → Held (by_object (pay amount) part found) × Stems part (by_object (pay amount) part found)
  pay_keeps part k id amount None is pays = (k, λ key o h. (o, h, refl))
  pay_keeps part k id amount (Some payer) is pays =
      let own : Holds part payer.id payer = subst (λ (n : ℕ). Holds part n payer) (sym (k.ids id payer is)) is in (
        keeps_changed players stage part k id payer (with_less amount payer) is (same_less amount payer) (payer_range stage payer.kind payer amount (pays payer refl)),
        λ key o h. (let was = stood_before part (with_less amount payer) payer own (same_less amount payer) key o h in (was.0, was.1, was.2)),
      )

  paid_keeps : (ids : List ℕ) (cost : ℕ) (part : RoomPart) → Held part → ArePayers part ids → Held (paid ids cost part) × Stems part (paid ids cost part)
  paid_keeps [] cost part k all = (k, λ key o h. (o, h, refl))
  paid_keeps (id ∷ later) cost part k all =
      let amount : ℕ = share cost (get part.objects id) in
      let after : RoomPart = by_object (pay amount) part (get part.objects id) in
      let one = pay_keeps part k id amount (get part.objects id) refl all.0 in
      let rest = paid_keeps later (cost - amount) after one.0 (payers_stay part after one.1 later all.1) in
      (rest.0, λ key o h. (let middle = rest.1 key o h in let first = one.1 key middle.0 middle.1 in (first.0, first.1, middle.2 ∙ first.2)))

  module _ (player : ℕ) (part : RoomPart) (k : Held part) where
    those_pay : (kind : Kind) → ((one : Kind) → (kind_number one == kind_number kind) ≡ true → holds_for_creeps one ≡ true) → (id : ℕ) → Has (those_of kind player (values part.objects)) id → (o : Object) → Holds part id o → holds_for_creeps o.kind ≡ true
    those_pay kind pays id has o h =
        let is_one : Object → Bool = λ object. (kind_number object.kind == kind_number kind) && (object.owner == player) in
        let from = map_has (λ object. object.id) (filter is_one (values part.objects)) id has in
        let passes = has_filter is_one (values part.objects) from.0 from.1 in
        let stands = has_stands part from.0 passes.0 in
        let at : stands.0 ≡ id = sym (k.ids stands.0 from.0 stands.1) ∙ from.2 in
        let same : from.0 ≡ o = only_one from.0 o (get part.objects id) (subst (λ (n : ℕ). Holds part n from.0) at stands.1) h in
        ap (λ (p : Object). holds_for_creeps p.kind) (sym same) ∙ pays from.0.kind (and_left (kind_number from.0.kind == kind_number kind) (from.0.owner == player) passes.1)

    are_payers : ArePayers part (payers player (values part.objects))
    are_payers =
        has_all (λ id. (o : Object) → Holds part id o → holds_for_creeps o.kind ≡ true) (payers player (values part.objects)) (λ id has o h.
        elim (append_cases (those_of Spawn player (values part.objects)) (those_of Extension player (values part.objects)) id has) [
          | inl spawn ↦ those_pay Spawn (λ one is. ap holds_for_creeps (of_spawns one is)) id spawn o h
          | inr extension ↦ those_pay Extension of_extensions id extension o h
        ])

  -- ---- a creep that is begun

  begun_range : (o : Object) (kind : Kind) (body : List Part) → kind ≡ Spawn → 1 ≤ length body → length body ≤ 50 → IsInRangeIn kind stage o → IsInRangeIn kind stage (record o { body = body; timer = 3 * length body })
  begun_range o Spawn body is some few s = record { owner = s.owner; hits = s.hits; energy = s.energy; timer = omega arith; idle = λ none. absurd (omega (arith, some, none)); busy = λ runs. some; extra = s.extra; progress = s.progress; other = s.other; other_ticks = s.other_ticks; parts = few }
  begun_range o kind body is some few s = absurd (cc)

  begin_keeps : (body : List Part) → 1 ≤ length body → length body ≤ 50 → (part : RoomPart) → Held part → (id : ℕ) (found : Option Object) → get part.objects id ≡ found → ((o : Object) → found ≡ Some o → o.kind ≡ Spawn) → Held (by_object (begun_with body) part found)
  begin_keeps body some few part k id None is spawns = k
  begin_keeps body some few part k id (Some spawn) is spawns =
      keeps_changed players stage part k id spawn (record spawn { body = body; timer = 3 * length body }) is
      (record { id = refl; kind = refl; x = refl; y = refl; owner = refl; other = refl })
      (begun_range spawn spawn.kind body (spawns spawn refl) some few)

  -- the kind of an actor that passed
  passed : (room : ℕ) (found : Option Object) (test : Object → Bool) → holds_of (option_map (λ object. record { room = room; object = object }) found) test ≡ true → (o : Object) → found ≡ Some o → test o ≡ true
  passed room None test is o at = absurd (cc)
  passed room (Some one) test is o at = (let same : one ≡ o = cc in ap test (sym same) ∙ is)

  begun_keeps : (entry : Intent) (part : RoomPart) → Held part → all_hold (spawn_checks entry.player (standing_at part entry.actor) (values part.objects) (Some entry.body)) ≡ true
      → (let after : RoomPart = paid (payers entry.player (values part.objects)) (body_cost entry.body) part in Held (by_object (begun_with entry.body) after (get after.objects entry.actor)))
  begun_keeps entry part k hold =
      let actor : Option Placed = standing_at part entry.actor in
      let is_one : Bool = holds_of actor (λ object. kind_number object.kind == kind_number Spawn) in
      let own : Bool = holds_of actor (λ object. object.owner == entry.player) in
      let rests : Bool = holds_of actor (λ object. object.timer == 0) in
      let payable : Bool = is_payable entry.player (values part.objects) (Some entry.body) in
      let size = and_parts (nat_lt 0 (length entry.body)) (nat_le (length entry.body) most_parts) (fourth_of is_one own rests (is_body (Some entry.body)) (payable && true) hold) in
      let after : RoomPart = paid (payers entry.player (values part.objects)) (body_cost entry.body) part in
      let paying = paid_keeps (payers entry.player (values part.objects)) (body_cost entry.body) part k (are_payers entry.player part k) in
      begin_keeps entry.body (ltb-true 0 (length entry.body) size.0) (leb-true (length entry.body) most_parts size.1) after paying.0 entry.actor (get after.objects entry.actor) refl
      (λ o at. (let was = paying.1 entry.actor o at in was.2 ∙ of_spawns was.0.kind (passed part.index (get part.objects entry.actor) (λ object. kind_number object.kind == kind_number Spawn) (and_left is_one (own && (rests && (is_body (Some entry.body) && (payable && true)))) hold) was.0 was.1)))

  pub keeps_begun : (part : RoomPart) → Held part → (entry : Intent) → Held (creep_begun entry part)
  keeps_begun part k entry =
      let around : List Object = values part.objects in
      let after : RoomPart = paid (payers entry.player around) (body_cost entry.body) part in
      elim (all_hold (spawn_checks entry.player (standing_at part entry.actor) around (Some entry.body))) as (λ b. all_hold (spawn_checks entry.player (standing_at part entry.actor) around (Some entry.body)) ≡ b → Held (if b then by_object (begun_with entry.body) after (get after.objects entry.actor) else part)) [
        | true ↦ λ hold. begun_keeps entry part k hold
        | false ↦ λ fails. k
      ] refl

-- ---- a creep that comes

-- A number that can't be greater is at most the other.
at_most : (m n : ℕ) → ((m ≤ n → ⊥) → ⊥) → m ≤ n
at_most m n never = elim (cases_lt n m) [
  | inl more ↦ absurd (never (λ less. omega (arith, more, less)))
  | inr less ↦ omega (arith, less)
]

sooner_range : (stage : Stage) (kind : Kind) (o : Object) → kind ≡ Spawn → 1 < o.timer → IsInRangeIn kind stage o → IsInRangeIn kind stage (record o { timer = o.timer - 1 })
sooner_range stage Spawn o is runs s = record { owner = s.owner; hits = s.hits; energy = s.energy; timer = omega (arith, s.timer); idle = λ none. omega (arith, runs, none); busy = λ some. s.busy (λ none. omega (arith, runs, none)); extra = s.extra; progress = s.progress; other = s.other; other_ticks = s.other_ticks; parts = s.parts }
sooner_range stage kind o is runs s = absurd (cc)

idle_range : (stage : Stage) (kind : Kind) (o : Object) → kind ≡ Spawn → IsInRangeIn kind stage o → IsInRangeIn kind stage (record o { timer = 0; body = [] })
idle_range stage Spawn o is s = record { owner = s.owner; hits = s.hits; energy = s.energy; timer = omega arith; idle = λ none. refl; busy = λ some. absurd (some refl); extra = s.extra; progress = s.progress; other = s.other; other_ticks = s.other_ticks; parts = omega arith }
idle_range stage kind o is s = absurd (cc)

-- what a spawn whose timer runs has
spawn_has : (stage : Stage) (kind : Kind) (o : Object) → kind ≡ Spawn → o.timer ≡ 1 → IsInRangeIn kind stage o → (1 ≤ o.owner) × (1 ≤ length o.body) × (length o.body ≤ 50)
spawn_has stage Spawn o is last s = (s.owner, s.busy (λ none. omega (arith, last, none)), s.parts)
spawn_has stage kind o is last s = absurd (cc)

lifetime_some : (body : List Part) → 1 ≤ lifetime body
lifetime_some body = elim (has_part Claim body) as (λ b. 1 ≤ (if b then 600 else 1500)) [ true ↦ omega arith | false ↦ omega arith ]

same_rest : (o : Object) → IsSame o (record o { timer = 0; body = [] })
same_rest o = record { id = refl; kind = refl; x = refl; y = refl; owner = refl; other = refl }

module _ (players : ℕ → Bool) where
  abbrev Summed : RoomPart → Type 0
  Summed part = KeepsRoomRules players summed part

  module _ (part : RoomPart) (k : Summed part) (spawn : Object) (h : Holds part spawn.id spawn) (kind : spawn.kind ≡ Spawn) (last : spawn.timer ≡ 1) (at : ℕ × ℕ) (is : tile_for part spawn ≡ Some at) where
    abbrev rest : Object
    rest = record spawn { timer = 0; body = [] }

    abbrev after : RoomPart
    after = with_object rest part

    abbrev young : Object
    young = newborn spawn at (next_id after)

    owned : 1 ≤ spawn.owner
    owned = at_most 1 spawn.owner (λ out. k.ranges spawn.id spawn h (λ r. out (spawn_has summed spawn.kind spawn kind last r).0))

    some_parts : 1 ≤ length spawn.body
    some_parts = at_most 1 (length spawn.body) (λ out. k.ranges spawn.id spawn h (λ r. out (spawn_has summed spawn.kind spawn kind last r).1))

    few_parts : length spawn.body ≤ 50
    few_parts = at_most (length spawn.body) 50 (λ out. k.ranges spawn.id spawn h (λ r. out (spawn_has summed spawn.kind spawn kind last r).2))

    found : Has (filter_map (λ to. tile_towards to spawn.x spawn.y) directions) at × (is_free_for_creep part spawn.owner at ≡ true)
    found = first_has (is_free_for_creep part spawn.owner) (filter_map (λ to. tile_towards to spawn.x spawn.y) directions) at is

    inside : (at.0 ≤ 49) × (at.1 ≤ 49)
    inside =
        let from = from_filter_map (λ to. tile_towards to spawn.x spawn.y) directions at found.0 in
        towards_most from.0 spawn.x spawn.y at from.1

    free : (is_open part spawn.owner at ≡ true) × (not (is_some (first_on at.0 at.1 Creep (values part.objects))) ≡ true)
    free = and_parts (is_open part spawn.owner at) (not (is_some (first_on at.0 at.1 Creep (values part.objects)))) found.1

    clear : (slice_get part.grounds (tile at.0 at.1) ≡ Some Wall → ⊥) × (is_obstructed at.0 at.1 spawn.owner (values part.objects) ≡ false)
    clear = open_parts (slice_get part.grounds (tile at.0 at.1)) (is_obstructed at.0 at.1 spawn.owner (values part.objects)) free.0

    nobody : first_on at.0 at.1 Creep (values part.objects) ≡ None
    nobody = none_of (first_on at.0 at.1 Creep (values part.objects)) free.1
      where
        none_of : (one : Option Object) → not (is_some one) ≡ true → one ≡ None
        none_of None no_one = refl
        none_of (Some one) no_one = absurd (cc)

    alone_there : (m : ℕ) (q : Object) → Holds after m q → q.x ≡ at.0 → q.y ≡ at.1 → clash Creep q.kind ≡ true → ⊥
    alone_there m q g x y c =
        let was = stood_before part rest spawn h (same_rest spawn) m q g in
        let column : was.0.x ≡ at.0 = sym was.3 ∙ x in
        let row : was.0.y ≡ at.1 = sym was.4 ∙ y in
        elim (clash_creep q.kind c) [
          | inl creep ↦ no_creep part at.0 at.1 m was.0 nobody was.1 (ap is_creep (sym was.2) ∙ creep) column row
          | inr stands ↦
              let test : Object → Bool = λ p. (p.x == at.0) && (p.y == at.1) && obstructs p.kind in
              let on = both_true ((was.0.x == at.0) && (was.0.y == at.1)) (obstructs was.0.kind) (both_true (was.0.x == at.0) (was.0.y == at.1) (eq-eqb was.0.x at.0 column) (eq-eqb was.0.y at.1 row)) (ap obstructs (sym was.2) ∙ stands.1) in
              both_ways (is_obstructed at.0 at.1 spawn.owner (values part.objects)) clear.1 (has_any test (values part.objects) was.0 (stands_has part m was.0 was.1) on)
        ]

    after_keeps : Summed after
    after_keeps = keeps_changed players summed part k spawn.id spawn rest h (same_rest spawn) (idle_range summed spawn.kind spawn kind)

    young_fits : Fits players summed after young
    young_fits = record {
      id = refl;
      inside = record { column = inside.0; row = inside.1 };
      tile = λ wrong. elim wrong [
        | inl wall ↦ clear.0 (ap (λ (g : List Ground). slice_get g (tile at.0 at.1)) (sym grounds_stay) ∙ wall.2)
        | inr border ↦ absurd (cc)
      ];
      alone = λ m q g x y. (alone_there m q g x y, λ c. alone_there m q g x y (clash_turned Creep q.kind ∙ c));
      owner = record { owner = λ some. (((k.owners spawn.id spawn h).owner (λ none. omega (arith, owned, none))).0, refl); other = λ some. absurd (some refl) };
      controller = refl;
      range = record {
        other_ticks = omega arith;
        rested = record {
          owner = owned;
          hits = (omega (arith, some_parts), omega arith);
          energy = omega arith;
          timer = (lifetime_some spawn.body, omega arith);
          extra = omega arith;
          progress = refl;
          other = refl;
          other_ticks = refl;
          some_parts = some_parts;
          parts = few_parts;
        };
      };
    }
      where
        put_grounds : (one : Option Object) → (put rest part one).grounds ≡ part.grounds
        put_grounds None = refl
        put_grounds (Some one) = refl

        grounds_stay : after.grounds ≡ part.grounds
        grounds_stay = put_grounds (get part.objects rest.id)

    came_keeps : Summed (hatched_on spawn (Some at) part)
    came_keeps = keeps_new players summed after after_keeps (newborn spawn at) young_fits

  hatch_keeps : (kind : Kind) (object : Object) (part : RoomPart) → object.kind ≡ kind → Holds part object.id object → Summed part → Summed (hatched_as kind object part)
  hatch_keeps Spawn spawn part kind h k =
      elim (nat_lt 1 spawn.timer) as (λ b. nat_lt 1 spawn.timer ≡ b → Summed (if b then with_object (record spawn { timer = spawn.timer - 1 }) part else if spawn.timer == 1 then hatched_on spawn (tile_for part spawn) part else part)) [
        | true ↦ λ runs. keeps_changed players summed part k spawn.id spawn (record spawn { timer = spawn.timer - 1 }) h (record { id = refl; kind = refl; x = refl; y = refl; owner = refl; other = refl }) (sooner_range summed spawn.kind spawn kind (ltb-true 1 spawn.timer runs))
        | false ↦ λ over. elim (spawn.timer == 1) as (λ b. (spawn.timer == 1) ≡ b → Summed (if b then hatched_on spawn (tile_for part spawn) part else part)) [
          | true ↦ λ last. on_keeps (eqb-true spawn.timer 1 last) (tile_for part spawn) refl
          | false ↦ λ idle. k
        ] refl
      ] refl
    where
      on_keeps : spawn.timer ≡ 1 → (at : Option (ℕ × ℕ)) → tile_for part spawn ≡ at → Summed (hatched_on spawn at part)
      on_keeps last None is = k
      on_keeps last (Some at) is = came_keeps part k spawn h kind last at is
  hatch_keeps kind object part is h k = k

  -- Spawns make creeps.
  pub keeps_hatched : (part : RoomPart) → Summed part → Summed (hatched part)
  keeps_hatched part k = keeps_over players summed (λ object. hatched_as object.kind object) (λ object now h kept. hatch_keeps object.kind object now refl h kept) part k
