-- What a step leaves of one object, and what it makes of the room's part.
use Rattle.std.proofs.Common.{◌≡◌, ℕ, zero, suc, ◌+◌, ◌-◌, ◌==◌, ◌≤◌, ◌&&◌, ◌||◌, Bool, true, false, cond, if◌then◌else◌, nat_lt, List, [], ◌∷◌, refl, ap, ◌∙◌, arith}
use Rattle.std.proofs.lemmas.Bool.{lt-ltb}
use Rattle.game_tables.specs.Bodies.{load_room}
use Rattle.game_tables.specs.Kinds.{full_timer, is_building, is_creep}
use Rattle.game_tables.specs.declared.kind.Kind.{Kind}
use Rattle.game_tables.specs.declared.kind.Kind.TheVariants.{Creep, Pile}
use Rattle.room_table.specs.declared.object.Object.{Object}
use Rattle.room_table.specs.declared.tally.Tally.{Tally}
use Rattle.world_rules.specs.RoomParts.{RoomPart}
use Rattle.world_rules.specs.RuleBook.{Sums}
use Rattle.world_rules.specs.Changes.{with_object}
use Rattle.world_rules.specs.Upkeep.{aged_as, decays, decay_hits, gone, hits_left, standing_or_gone, unloaded_as, weathered}
use Rattle.upkeep_rules.specs.declared.wearing.Wear.{Wear}
use Rattle.upkeep_rules.specs.declared.wearing.Wear.TheVariants.{Strike, Unload, Age, Weather}
use Rattle.upkeep_rules.specs.inner.Worn.{change, concerns, drops, goes, made, may_drop, may_unload, stays, stays_or_goes, sums_of, tally_in, worn, Leaving}

-- ---- piles

pub pile_is_none : (step : Wear) → concerns step Pile ≡ false
pile_is_none Strike = refl
pile_is_none Unload = refl
pile_is_none Age = refl
pile_is_none (Weather in_owned) = refl

pub pile_drops_none : (step : Wear) (object : Object) → object.kind ≡ Pile → may_drop step object ≡ false
pile_drops_none Strike object is = ap (λ (k : Kind). is_creep k || is_building k) is
pile_drops_none Unload object is = ap (λ (k : Kind). is_creep k || is_building k) is
pile_drops_none Age object is = ap (λ (k : Kind). is_creep k || is_building k) is
pile_drops_none (Weather in_owned) object is = ap (λ (k : Kind). decays k && nat_lt 0 object.energy) is

-- ---- what is left keeps its place, and the pile that it leaves is paid for

-- one pile for any energy that falls
abbrev pub piles : ℕ → ℕ
piles falls = cond (falls == 0) 0 1

abbrev pub unit : Bool → ℕ
unit may = cond may 1 0

-- one for each creep that unloads
abbrev pub unloads : Wear → ℕ
unloads Unload = 1
unloads _ = 0

pub record IsFit (step : Wear) (object : Object) (left : Leaving) : Type 0 where
  pub id : left.object.id ≡ object.id
  pub kind : left.object.kind ≡ object.kind
  pub x : left.object.x ≡ object.x
  pub y : left.object.y ≡ object.y
  pub pays : (if left.stands then unit (may_drop step left.object) else 0) + piles left.falls ≤ unit (may_drop step object) + unloads step

few_piles : (falls : ℕ) → piles falls ≤ 1
few_piles falls = elim (falls == 0) as (λ b. cond {A = ℕ} b 0 1 ≤ 1) [ true ↦ omega arith | false ↦ omega arith ]

-- what keeps its kind and energy fits, if what holds energy may leave a pile
stays_fits : (step : Wear) (object after : Object) → after.id ≡ object.id → after.kind ≡ object.kind → after.x ≡ object.x → after.y ≡ object.y
    → may_drop step after ≡ may_drop step object → IsFit step object (stays after)
stays_fits step object after id kind x y same = record { id = id; kind = kind; x = x; y = y; pays = omega (arith, ap unit same) }

goes_fits : (step : Wear) (object after : Object) → after.id ≡ object.id → after.kind ≡ object.kind → after.x ≡ object.x → after.y ≡ object.y
    → piles after.energy ≤ unit (may_drop step object) → IsFit step object (goes after)
goes_fits step object after id kind x y less = record { id = id; kind = kind; x = x; y = y; pays = omega (arith, less) }

fits_or_goes : (step : Wear) (object after : Object) → after.id ≡ object.id → after.kind ≡ object.kind → after.x ≡ object.x → after.y ≡ object.y
    → may_drop step after ≡ may_drop step object → piles after.energy ≤ unit (may_drop step object) → IsFit step object (stays_or_goes after)
fits_or_goes step object after id kind x y same less =
    elim (after.hits == 0) as (λ b. IsFit step object (if b then goes after else stays after)) [
      | true ↦ goes_fits step object after id kind x y less
      | false ↦ stays_fits step object after id kind x y same
    ]

creep_may : (kind : Kind) → is_creep kind ≡ true → (is_creep kind || is_building kind) ≡ true
creep_may Creep is = refl
creep_may kind is = absurd (cc)

one_pile : (b : Bool) (falls : ℕ) → b ≡ true → piles falls ≤ unit b
one_pile b falls is = omega (arith, few_piles falls, ap unit is)

-- what weathers keeps its place and its energy
record IsSameBut (object after : Object) : Type 0 where
  id : after.id ≡ object.id
  kind : after.kind ≡ object.kind
  x : after.x ≡ object.x
  y : after.y ≡ object.y
  energy : after.energy ≡ object.energy

weathered_same : (in_owned : Bool) (object : Object) → IsSameBut object (weathered in_owned object)
weathered_same in_owned object =
    elim (nat_lt 1 object.timer) as (λ b. IsSameBut object (if b then record object { timer = object.timer - 1 } else record object { hits = object.hits - decay_hits object.kind; timer = full_timer object.kind in_owned })) [
      | true ↦ record { id = refl; kind = refl; x = refl; y = refl; energy = refl }
      | false ↦ record { id = refl; kind = refl; x = refl; y = refl; energy = refl }
    ]

held_pays : (b : Bool) (energy : ℕ) → b ≡ true → piles energy ≤ unit (b && nat_lt 0 energy)
held_pays true zero is = omega arith
held_pays true (suc n) is = let one : nat_lt 0 (suc n) ≡ true = lt-ltb 0 (suc n) (omega arith) in omega (arith, few_piles (suc n), ap unit one)
held_pays false energy is = absurd (cc)

pub worn_fits : (step : Wear) (tally : Tally) (object : Object) → concerns step object.kind ≡ true → IsFit step object (worn step tally object)
worn_fits Strike tally object is =
    fits_or_goes Strike object (record object { hits = hits_left object.kind (sums_of tally) object }) refl refl refl refl refl (one_pile (may_drop Strike object) object.energy is)
worn_fits Unload tally object is =
    let over : ℕ = object.energy - load_room object.hits object.body in
    record { id = refl; kind = refl; x = refl; y = refl; pays = omega (arith, few_piles over) }
worn_fits Age tally object is =
    elim (nat_lt 1 object.timer) as (λ b. IsFit Age object (if b then stays (record object { timer = object.timer - 1 }) else goes object)) [
      | true ↦ stays_fits Age object (record object { timer = object.timer - 1 }) refl refl refl refl refl
      | false ↦ goes_fits Age object object refl refl refl refl (one_pile (may_drop Age object) object.energy (creep_may object.kind is))
    ]
worn_fits (Weather in_owned) tally object is =
    let same = weathered_same in_owned object in
    let after : Object = weathered in_owned object in
    fits_or_goes (Weather in_owned) object after same.id same.kind same.x same.y (λ i. decays (same.kind i) && nat_lt 0 (same.energy i))
    (omega (arith, ap piles same.energy, held_pays (decays object.kind) object.energy is))

-- ---- what a turn makes of the part

gone_or_stands : (after : Object) (part : RoomPart) → standing_or_gone after part ≡ made (stays_or_goes after) part
gone_or_stands after part =
    elim (after.hits == 0) as (λ b. (if b then gone after part else with_object after part) ≡ made (if b then goes after else stays after) part) [
      | true ↦ refl
      | false ↦ refl
    ]

kind_sums : (kind : Kind) (sums : Sums) (object : Object) → hits_left kind sums object ≡ hits_left kind (sums_of (tally_in sums object.id)) object
kind_sums Creep sums object = refl
kind_sums kind sums object = refl

unloaded_made : (kind : Kind) (creep : Object) (part : RoomPart) → is_creep kind ≡ true → unloaded_as kind creep part ≡ made (drops creep (creep.energy - load_room creep.hits creep.body)) part
unloaded_made Creep creep part is = refl
unloaded_made kind creep part is = absurd (cc)

aged_made : (kind : Kind) (creep : Object) (part : RoomPart) → is_creep kind ≡ true → aged_as kind creep part ≡ made (if nat_lt 1 creep.timer then stays (record creep { timer = creep.timer - 1 }) else goes creep) part
aged_made Creep creep part is =
    elim (nat_lt 1 creep.timer) as (λ b. (if b then with_object (record creep { timer = creep.timer - 1 }) part else gone creep part) ≡ made (if b then stays (record creep { timer = creep.timer - 1 }) else goes creep) part) [
      | true ↦ refl
      | false ↦ refl
    ]
aged_made kind creep part is = absurd (cc)

-- what a step concerns is left as said
pub change_made : (step : Wear) (sums : Sums) (object : Object) (part : RoomPart) → concerns step object.kind ≡ true → change step sums object part ≡ made (worn step (tally_in sums object.id) object) part
change_made Strike sums object part is =
    ap (λ (b : Bool). if b then standing_or_gone (record object { hits = hits_left object.kind sums object }) part else part) is
    ∙ gone_or_stands (record object { hits = hits_left object.kind sums object }) part
    ∙ ap (λ (n : ℕ). made (stays_or_goes (record object { hits = n })) part) (kind_sums object.kind sums object)
change_made Unload sums object part is = unloaded_made object.kind object part is
change_made Age sums object part is = aged_made object.kind object part is
change_made (Weather in_owned) sums object part is =
    ap (λ (b : Bool). if b then standing_or_gone (weathered in_owned object) part else part) is
    ∙ gone_or_stands (weathered in_owned object) part

unloaded_none : (kind : Kind) (object : Object) (part : RoomPart) → is_creep kind ≡ false → unloaded_as kind object part ≡ part
unloaded_none Creep object part is = absurd (cc)
unloaded_none kind object part is = refl

aged_none : (kind : Kind) (object : Object) (part : RoomPart) → is_creep kind ≡ false → aged_as kind object part ≡ part
aged_none Creep object part is = absurd (cc)
aged_none kind object part is = refl

-- nothing is done to what it does not concern
pub change_none : (step : Wear) (sums : Sums) (object : Object) (part : RoomPart) → concerns step object.kind ≡ false → change step sums object part ≡ part
change_none Strike sums object part is = ap (λ (b : Bool). if b then standing_or_gone (record object { hits = hits_left object.kind sums object }) part else part) is
change_none Unload sums object part is = unloaded_none object.kind object part is
change_none Age sums object part is = aged_none object.kind object part is
change_none (Weather in_owned) sums object part is = ap (λ (b : Bool). if b then standing_or_gone (weathered in_owned object) part else part) is

-- one more that unloads
pub unloads_more : (step : Wear) (object : Object) (objects : List Object) → may_unload step (object ∷ objects) ≡ unloads step + may_unload step objects
unloads_more Strike object objects = omega arith
unloads_more Unload object objects = omega arith
unloads_more Age object objects = omega arith
unloads_more (Weather in_owned) object objects = omega arith

pub unloads_nothing : (step : Wear) → may_unload step [] ≡ 0
unloads_nothing Strike = refl
unloads_nothing Unload = refl
unloads_nothing Age = refl
unloads_nothing (Weather in_owned) = refl
