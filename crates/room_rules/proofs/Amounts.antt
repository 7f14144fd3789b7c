-- Objects with more and with less energy, and with more hits, stay in their ranges.
use Rattle.std.proofs.Common.{◌≡◌, ℕ, ◌+◌, ◌-◌, ◌<◌, ◌≤◌, ◌==◌, nat_lt, if◌then◌else◌, Bool, true, false, cond, List, [], ◌∷◌, length, Option, refl, sym, subst, arith}
use Rattle.std.specs.List.{count_by}
use Rattle.std.proofs.lemmas.Bool.{ltb-true, lt-ltb}
use Rattle.std.proofs.lemmas.List.Sums.{sum_by-cons}
use Rattle.game_tables.specs.Actions.{is_target}
use Rattle.game_tables.specs.Bodies.{same_part, part_hits, live_parts, load_room}
use Rattle.game_tables.specs.Kinds.{is_creep, extension_capacity, hits_max}
use Rattle.game_tables.specs.declared.action.Action.TheVariants.{Transfer, Withdraw, Pickup, Harvest, Repair}
use Rattle.game_tables.specs.declared.kind.Kind.{Kind}
use Rattle.game_tables.specs.declared.kind.Kind.TheVariants.{Source, Creep, Spawn, Extension, Storage, Container, Road, Pile}
use Rattle.game_tables.specs.declared.kind.Part.{Part}
use Rattle.game_tables.specs.declared.kind.Part.TheVariants.{Carry}
use Rattle.room_table.specs.Controllers.{level_of}
use Rattle.room_table.specs.Stores.{capacity_as}
use Rattle.room_table.specs.declared.object.Object.{Object}
use Rattle.world_rules.specs.Loads.{with_less, with_more}
use Rattle.room_rules.specs.Within.{Stage, between, moved, summed, settled, within, IsCreepMoved, IsCreepWithin, IsInRangeIn}

-- ---- with more hits a creep has no fewer live parts

counted : (test : Part → Bool) (part : Part) (few many : List Part) → count_by test few ≤ count_by test many → count_by test (part ∷ few) ≤ count_by test (part ∷ many)
counted test part few many less = omega (arith, less, sum_by-cons (λ p. cond (test p) 1 0) part few, sum_by-cons (λ p. cond (test p) 1 0) part many)

counted_more : (test : Part → Bool) (part : Part) (few many : List Part) → count_by test few ≤ count_by test many → count_by test few ≤ count_by test (part ∷ many)
counted_more test part few many less = omega (arith, less, sum_by-cons (λ p. cond (test p) 1 0) part many)

live_more : (test : Part → Bool) (low high : ℕ) → low ≤ high → (parts : List Part) → count_by test (live_parts low parts) ≤ count_by test (live_parts high parts)
live_more test low high less [] = omega arith
live_more test low high less (part ∷ rest) =
    let few : List Part = live_parts low rest in
    let many : List Part = live_parts high rest in
    let later : count_by test few ≤ count_by test many = live_more test low high less rest in
    let one : ℕ = part_hits low (length rest) in
    let other : ℕ = part_hits high (length rest) in
    let rises : one ≤ other = omega arith in
    elim (nat_lt 0 one) as (λ b. nat_lt 0 one ≡ b → count_by test (if b then part ∷ few else few) ≤ count_by test (if nat_lt 0 other then part ∷ many else many)) [
      | true ↦ λ is.
          let both : nat_lt 0 other ≡ true = lt-ltb 0 other (omega (arith, ltb-true 0 one is)) in
          subst (λ (b : Bool). count_by test (part ∷ few) ≤ count_by test (if b then part ∷ many else many)) (sym both) (counted test part few many later)
      | false ↦ λ is. elim (nat_lt 0 other) as (λ b. count_by test few ≤ count_by test (if b then part ∷ many else many)) [
        | true ↦ counted_more test part few many later
        | false ↦ later
      ]
    ] refl

pub load_more : (low high : ℕ) (parts : List Part) → low ≤ high → load_room low parts ≤ load_room high parts
load_more low high parts less = omega (arith, live_more (same_part Carry) low high less parts)

-- ---- more energy

-- an extension holds at most what it holds at the last level
extension_most : (level : ℕ) → extension_capacity level ≤ 200
extension_most level = one (level == 8) (level == 7)
  where
    one : (a b : Bool) → (if a then 200 else if b then 100 else 50) ≤ 200
    one true b = omega arith
    one false true = omega arith
    one false false = omega arith

module _ (stage : Stage) (o : Object) (controller : Option Object) (amount : ℕ) where
  within_more : amount ≤ load_room o.hits o.body - o.energy → IsCreepWithin o → IsCreepWithin (with_more amount o)
  within_more fits s = record { owner = s.owner; hits = s.hits; energy = omega (arith, s.energy, fits, load_more o.hits (hits_max Creep o.body) o.body s.hits); timer = s.timer; extra = s.extra; progress = s.progress; other = s.other; other_ticks = s.other_ticks; some_parts = s.some_parts; parts = s.parts }

  moved_more : amount ≤ load_room o.hits o.body - o.energy → IsCreepMoved o → IsCreepMoved (with_more amount o)
  moved_more fits s = let r = s.rested in record { other_ticks = s.other_ticks; rested = record { owner = r.owner; hits = r.hits; energy = omega (arith, r.energy, fits); timer = r.timer; extra = r.extra; progress = r.progress; other = r.other; other_ticks = r.other_ticks; some_parts = r.some_parts; parts = r.parts } }

  creep_more : (w : Stage) → amount ≤ load_room o.hits o.body - o.energy → IsInRangeIn Creep w o → IsInRangeIn Creep w (with_more amount o)
  creep_more within fits s = within_more fits s
  creep_more settled fits s = record { alive = s.alive; within = within_more fits s.within }
  creep_more between fits s = record { owner = s.owner; hits = s.hits; energy = omega (arith, s.energy, fits); timer = s.timer; extra = s.extra; progress = s.progress; other = s.other; other_ticks = s.other_ticks; some_parts = s.some_parts; parts = s.parts }
  creep_more summed fits s = moved_more fits s
  creep_more moved fits s = moved_more fits s

  -- What takes energy, as far as it has room, stays in its ranges.
  pub more_range : (k : Kind) → is_target Transfer k ≡ true → amount ≤ capacity_as k controller o - o.energy → IsInRangeIn k stage o → IsInRangeIn k stage (with_more amount o)
  more_range Creep is fits s = creep_more stage fits s
  more_range Spawn is fits s = record { owner = s.owner; hits = s.hits; energy = omega (arith, s.energy, fits); timer = s.timer; idle = s.idle; busy = s.busy; extra = s.extra; progress = s.progress; other = s.other; other_ticks = s.other_ticks; parts = s.parts }
  more_range Extension is fits s = record { owner = s.owner; hits = s.hits; energy = omega (arith, s.energy, fits, extension_most (level_of controller)); timer = s.timer; extra = s.extra; progress = s.progress; other = s.other; other_ticks = s.other_ticks; body = s.body }
  more_range Storage is fits s = record { owner = s.owner; hits = s.hits; energy = omega (arith, s.energy, fits); timer = s.timer; extra = s.extra; progress = s.progress; other = s.other; other_ticks = s.other_ticks; body = s.body }
  more_range Container is fits s = record { owner = s.owner; hits = s.hits; energy = omega (arith, s.energy, fits); timer = s.timer; extra = s.extra; progress = s.progress; other = s.other; other_ticks = s.other_ticks; body = s.body }
  more_range k is fits s = absurd (cc)

-- A creep takes energy.
pub creep_takes : (k : Kind) → is_creep k ≡ true → is_target Transfer k ≡ true
creep_takes Creep is = refl
creep_takes k is = absurd (cc)

-- ---- less energy

module _ (stage : Stage) (o : Object) (amount : ℕ) where
  -- A store from which creeps withdraw stays in its ranges with less.
  pub store_less : (k : Kind) → is_target Withdraw k ≡ true → IsInRangeIn k stage o → IsInRangeIn k stage (with_less amount o)
  store_less Spawn is s = record { owner = s.owner; hits = s.hits; energy = omega (arith, s.energy); timer = s.timer; idle = s.idle; busy = s.busy; extra = s.extra; progress = s.progress; other = s.other; other_ticks = s.other_ticks; parts = s.parts }
  store_less Extension is s = record { owner = s.owner; hits = s.hits; energy = omega (arith, s.energy); timer = s.timer; extra = s.extra; progress = s.progress; other = s.other; other_ticks = s.other_ticks; body = s.body }
  store_less Storage is s = record { owner = s.owner; hits = s.hits; energy = omega (arith, s.energy); timer = s.timer; extra = s.extra; progress = s.progress; other = s.other; other_ticks = s.other_ticks; body = s.body }
  store_less Container is s = record { owner = s.owner; hits = s.hits; energy = omega (arith, s.energy); timer = s.timer; extra = s.extra; progress = s.progress; other = s.other; other_ticks = s.other_ticks; body = s.body }
  store_less k is s = absurd (cc)

  -- So does a source,
  pub source_less : (k : Kind) → is_target Harvest k ≡ true → IsInRangeIn k stage o → IsInRangeIn k stage (with_less amount o)
  source_less Source is s = record { owner = s.owner; hits = s.hits; energy = omega (arith, s.energy); timer = s.timer; extra = s.extra; progress = s.progress; other = s.other; other_ticks = s.other_ticks; body = s.body }
  source_less k is s = absurd (cc)

  -- and a pile of which something is left.
  pub pile_less : (k : Kind) → is_target Pickup k ≡ true → amount < o.energy → IsInRangeIn k stage o → IsInRangeIn k stage (with_less amount o)
  pile_less Pile is left s = record { owner = s.owner; hits = s.hits; energy = (omega (arith, left), omega (arith, s.energy)); timer = s.timer; extra = s.extra; progress = s.progress; other = s.other; other_ticks = s.other_ticks; body = s.body }
  pile_less k is left s = absurd (cc)

-- ---- more hits

module _ (stage : Stage) (o : Object) (gain : ℕ) where
  abbrev mended : Object
  mended = record o { hits = o.hits + gain }

  -- A building gains hits that it lacks.
  pub hits_range : (k : Kind) → is_target Repair k ≡ true → gain ≤ hits_max k o.body - o.hits → IsInRangeIn k stage o → IsInRangeIn k stage mended
  hits_range Spawn is fits s = record { owner = s.owner; hits = (omega (arith, s.hits), omega (arith, s.hits, fits)); energy = s.energy; timer = s.timer; idle = s.idle; busy = s.busy; extra = s.extra; progress = s.progress; other = s.other; other_ticks = s.other_ticks; parts = s.parts }
  hits_range Extension is fits s = record { owner = s.owner; hits = (omega (arith, s.hits), omega (arith, s.hits, fits)); energy = s.energy; timer = s.timer; extra = s.extra; progress = s.progress; other = s.other; other_ticks = s.other_ticks; body = s.body }
  hits_range Storage is fits s = record { owner = s.owner; hits = (omega (arith, s.hits), omega (arith, s.hits, fits)); energy = s.energy; timer = s.timer; extra = s.extra; progress = s.progress; other = s.other; other_ticks = s.other_ticks; body = s.body }
  hits_range Container is fits s = record { owner = s.owner; hits = (omega (arith, s.hits), omega (arith, s.hits, fits)); energy = s.energy; timer = s.timer; extra = s.extra; progress = s.progress; other = s.other; other_ticks = s.other_ticks; body = s.body }
  hits_range Road is fits s = record { owner = s.owner; hits = (omega (arith, s.hits), omega (arith, s.hits, fits)); energy = s.energy; timer = s.timer; extra = s.extra; progress = s.progress; other = s.other; other_ticks = s.other_ticks; body = s.body }
  hits_range k is fits s = absurd (cc)
