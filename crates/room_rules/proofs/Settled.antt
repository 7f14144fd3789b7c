-- Hits that are settled, and loads that fall where no live part holds them: these steps lead a room on.
use Rattle.std.proofs.Common.{◌≡◌, ◌⊎◌, inl, inr, ℕ, ◌+◌, ◌-◌, ◌≤◌, ◌==◌, ◌||◌, min, if◌then◌else◌, Bool, true, false, refl, sym, ap, subst, ◌∙◌, arith}
use Rattle.std.proofs.lemmas.Bool.{both_ways}
use Rattle.game_tables.specs.Bodies.{load_room}
use Rattle.game_tables.specs.Kinds.{hits_max, is_building, is_controller, is_creep, is_source}
use Rattle.game_tables.specs.declared.kind.Kind.{Kind}
use Rattle.game_tables.specs.declared.kind.Kind.TheVariants.{Creep, Spawn, Extension, Storage, Container, Road, Pile}
use Rattle.room_table.specs.declared.object.Object.{Object}
use Rattle.world_rules.specs.RoomParts.{RoomPart}
use Rattle.world_rules.specs.RuleBook.{Sums}
use Rattle.world_rules.specs.Changes.{with_object, without}
use Rattle.world_rules.specs.Upkeep.{gone, hits_left, standing_or_gone, struck, struck_as, unloaded, unloaded_as}
use Rattle.room_rules.specs.Within.{summed, settled, within, IsInRangeIn}
use Rattle.room_rules.specs.RoomRules.{Holds, KeepsRoomRules, Leads}
use Rattle.room_rules.proofs.Keeps.{IsSame}
use Rattle.room_rules.proofs.Falls.{fallen_came, keeps_dropped_by}
use Rattle.room_rules.proofs.Changed.{itself_or_other, left_without, set_came}
use Rattle.room_rules.proofs.Steps.{keeps_standing, positive}
use Rattle.room_rules.proofs.Turns.{over_objects_leads}

-- ---- hits

hits_most : (none : Bool) (most hits : ℕ) → (if none then 0 else min most hits) ≤ most
hits_most true most hits = omega arith
hits_most false most hits = omega arith

-- What is struck and stands stays in its ranges.
struck_range : (k : Kind) (sums : Sums) (o : Object) → (is_creep k || is_building k) ≡ true → (hits_left k sums o == 0) ≡ false → IsInRangeIn k within o → IsInRangeIn k within (record o { hits = hits_left k sums o })
struck_range Creep sums o is some s = record { owner = s.owner; hits = hits_most (o.hits == 0) (hits_max Creep o.body) (o.hits + sums.healing o.id - sums.damage o.id); energy = s.energy; timer = s.timer; extra = s.extra; progress = s.progress; other = s.other; other_ticks = s.other_ticks; some_parts = s.some_parts; parts = s.parts }
struck_range Spawn sums o is some s = record { owner = s.owner; hits = (positive (o.hits - sums.damage o.id) some, omega (arith, s.hits)); energy = s.energy; timer = s.timer; idle = s.idle; busy = s.busy; extra = s.extra; progress = s.progress; other = s.other; other_ticks = s.other_ticks; parts = s.parts }
struck_range Extension sums o is some s = record { owner = s.owner; hits = (positive (o.hits - sums.damage o.id) some, omega (arith, s.hits)); energy = s.energy; timer = s.timer; extra = s.extra; progress = s.progress; other = s.other; other_ticks = s.other_ticks; body = s.body }
struck_range Storage sums o is some s = record { owner = s.owner; hits = (positive (o.hits - sums.damage o.id) some, omega (arith, s.hits)); energy = s.energy; timer = s.timer; extra = s.extra; progress = s.progress; other = s.other; other_ticks = s.other_ticks; body = s.body }
struck_range Container sums o is some s = record { owner = s.owner; hits = (positive (o.hits - sums.damage o.id) some, omega (arith, s.hits)); energy = s.energy; timer = s.timer; extra = s.extra; progress = s.progress; other = s.other; other_ticks = s.other_ticks; body = s.body }
struck_range Road sums o is some s = record { owner = s.owner; hits = (positive (o.hits - sums.damage o.id) some, omega (arith, s.hits)); energy = s.energy; timer = s.timer; extra = s.extra; progress = s.progress; other = s.other; other_ticks = s.other_ticks; body = s.body }
struck_range k sums o is some s = absurd (cc)

struck_free : (k : Kind) → (is_creep k || is_building k) ≡ true → (is_source k ≡ false) × (is_controller k ≡ false)
struck_free Creep is = (refl, refl)
struck_free Spawn is = (refl, refl)
struck_free Extension is = (refl, refl)
struck_free Storage is = (refl, refl)
struck_free Container is = (refl, refl)
struck_free Road is = (refl, refl)
struck_free k is = absurd (cc)

-- A creep has hits left.
abbrev IsAlive : Object → Type 0
IsAlive o = is_creep o.kind ≡ true → 1 ≤ o.hits

alive_range : (k : Kind) (o : Object) → (is_creep k ≡ true → 1 ≤ o.hits) → IsInRangeIn k within o → IsInRangeIn k settled o
alive_range Creep o alive r = record { alive = alive refl; within = r }
alive_range k o alive r = r

no_creep : (one : Kind) → is_creep one ≡ false → (other : Kind) → other ≡ one → is_creep other ≡ true → ⊥
no_creep one not_one other same is = both_ways (is_creep one) not_one (ap is_creep (sym same) ∙ is)

module _ (players : ℕ → Bool) (sums : Sums) where
  abbrev left : Object → Object
  left object = record object { hits = hits_left object.kind sums object }

  left_same : (object : Object) → IsSame object (left object)
  left_same object = record { id = refl; kind = refl; x = refl; y = refl; owner = refl; other = refl }

  struck_keeps : (object : Object) (part : RoomPart) → Holds part object.id object → KeepsRoomRules players within part → KeepsRoomRules players within (struck_as sums object part)
  struck_keeps object part h k =
      elim (is_creep object.kind || is_building object.kind) as (λ b. (is_creep object.kind || is_building object.kind) ≡ b → KeepsRoomRules players within (if b then standing_or_gone (left object) part else part)) [
        | true ↦ λ is. keeps_standing players within object (left object) part h k (struck_free object.kind is) (left_same object) (λ some r. struck_range object.kind sums object is some r)
        | false ↦ λ other. k
      ] refl

  standing_fit : (object : Object) (part : RoomPart) (id : ℕ) (o : Object) (none : Bool) → ((left object).hits == 0) ≡ none → Holds (if none then gone (left object) part else with_object (left object) part) id o
      → (Holds part id o × (object.id ≡ id → ⊥)) ⊎ IsAlive o
  standing_fit object part id o true is h = elim (fallen_came object.x object.y object.energy (without object.id part) id o h) [
    | inl before ↦ (let other = left_without part object.id id o before in inl (other.1, λ same. other.0 (sym same)))
    | inr pile ↦ inr (λ creep. absurd (no_creep Pile refl o.kind pile creep))
  ]
  standing_fit object part id o false is h = elim (set_came part (left object) id o h) [
    | inl other ↦ inl other
    | inr same ↦ inr (λ creep. subst (λ (p : Object). 1 ≤ p.hits) same (positive (left object).hits is))
  ]

  struck_fit : (object : Object) (part : RoomPart) → Holds part object.id object → (id : ℕ) (o : Object) → Holds (struck_as sums object part) id o → (Holds part id o × (object.id ≡ id → ⊥)) ⊎ IsAlive o
  struck_fit object part there id o h =
      elim (is_creep object.kind || is_building object.kind) as (λ b. (is_creep object.kind || is_building object.kind) ≡ b → Holds (if b then standing_or_gone (left object) part else part) id o → (Holds part id o × (object.id ≡ id → ⊥)) ⊎ IsAlive o) [
        | true ↦ λ is got. standing_fit object part id o ((left object).hits == 0) refl got
        | false ↦ λ is got. elim (itself_or_other part object there id o got) [
          | inl other ↦ inl other
          | inr same ↦ inr (λ creep. absurd (no_creep object.kind (neither (is_creep object.kind) (is_building object.kind) is) o.kind (ap (λ (p : Object). p.kind) (sym same)) creep))
        ]
      ] refl h
    where
      neither : (a b : Bool) → (a || b) ≡ false → a ≡ false
      neither true b is = absurd (cc)
      neither false b is = refl

  struck_leads : (part : RoomPart) → KeepsRoomRules players within part → KeepsRoomRules players settled (struck sums part)
  struck_leads = over_objects_leads players within settled IsAlive (λ o alive r. alive_range o.kind o alive r) (struck_as sums) (record { keeps = struck_keeps; fit = struck_fit })

-- Hits that are settled lead on.
pub keeps_struck : (sums : Sums) → Leads within settled (struck sums)
keeps_struck sums players part k = struck_leads players sums part k

-- ---- loads

-- A creep carries no more than its live parts hold.
abbrev IsHeld : Object → Type 0
IsHeld o = is_creep o.kind ≡ true → o.energy ≤ load_room o.hits o.body

held_range : (k : Kind) (o : Object) → (is_creep k ≡ true → o.energy ≤ load_room o.hits o.body) → IsInRangeIn k settled o → IsInRangeIn k summed o
held_range Creep o held r = let s = r.within in record {
  other_ticks = s.other_ticks;
  rested = record { owner = s.owner; hits = (r.alive, s.hits); energy = held refl; timer = s.timer; extra = s.extra; progress = s.progress; other = s.other; other_ticks = refl; some_parts = s.some_parts; parts = s.parts };
}
held_range k o held r = r

module _ (players : ℕ → Bool) where
  unloaded_keeps : (kind : Kind) (object : Object) (part : RoomPart) → object.kind ≡ kind → Holds part object.id object → KeepsRoomRules players settled part → KeepsRoomRules players settled (unloaded_as kind object part)
  unloaded_keeps Creep creep part is h k = keeps_dropped_by players settled part k creep.id creep h (ap is_creep is) (creep.energy - load_room creep.hits creep.body)
  unloaded_keeps kind object part is h k = k

  unloaded_fit : (kind : Kind) (object : Object) (part : RoomPart) → object.kind ≡ kind → Holds part object.id object → (id : ℕ) (o : Object) → Holds (unloaded_as kind object part) id o → (Holds part id o × (object.id ≡ id → ⊥)) ⊎ IsHeld o
  unloaded_fit Creep creep part is there id o h =
      let amount : ℕ = creep.energy - load_room creep.hits creep.body in
      let less : Object = record creep { energy = creep.energy - amount } in
      elim (fallen_came creep.x creep.y amount (with_object less part) id o h) [
        | inl before ↦ elim (set_came part less id o before) [
          | inl other ↦ inl other
          | inr same ↦ inr (λ also. subst (λ (p : Object). p.energy ≤ load_room p.hits p.body) same (omega arith))
        ]
        | inr pile ↦ inr (λ also. absurd (no_creep Pile refl o.kind pile also))
      ]
  unloaded_fit kind object part is there id o h = elim (itself_or_other part object there id o h) [
    | inl other ↦ inl other
    | inr same ↦ inr (λ creep. absurd (no_creep kind refl o.kind (ap (λ (p : Object). p.kind) (sym same) ∙ is) creep))
  ]

-- Loads that fall lead on.
pub keeps_unloaded : Leads settled summed unloaded
keeps_unloaded players = over_objects_leads players settled summed IsHeld (λ o held r. held_range o.kind o held r) (λ object. unloaded_as object.kind object) (record {
  keeps = λ object part h k. unloaded_keeps players object.kind object part refl h k;
  fit = λ object part there id o h. unloaded_fit players object.kind object part refl there id o h;
})
