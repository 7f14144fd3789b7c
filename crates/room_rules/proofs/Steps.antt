-- The steps of upkeep keep the rules of a room.
use Rattle.std.proofs.Common.{◌≡◌, inl, ℕ, ◌-◌, ◌+◌, ◌*◌, ◌<◌, ◌≤◌, ◌==◌, ◌&&◌, max, nat_lt, if◌then◌else◌, Bool, true, false, Some, None, refl, sym, ap, subst, arith}
use Rattle.std.specs.FinMap.{values}
use Rattle.std.proofs.lemmas.Bool.{ltb-true}
use Rattle.game_tables.specs.declared.kind.Kind.{Kind}
use Rattle.game_tables.specs.declared.kind.Kind.TheVariants.{Source, Creep, Spawn, Container, Road, Pile}
use Rattle.game_tables.specs.Kinds.{full_timer, is_creep, is_controller, is_source, source_capacity, renewal_ticks, pile_decay}
use Rattle.room_table.specs.declared.object.Object.{Object}
use Rattle.world_rules.specs.RoomParts.{RoomPart, controller_of}
use Rattle.room_table.specs.Controllers.{is_owned_room, is_taken}
use Rattle.world_rules.specs.Upkeep.{aged, aged_as, filled, filled_as, gone, recovered_as, recovered, decays, decay_hits, weathered, standing_or_gone, weathered_as, buildings_decayed, source_renewed, renewed_as, renewed, decayed_as, decayed}
use Rattle.world_rules.specs.Spawns.{held_by}
use Rattle.game_tables.specs.Bodies.{live_count}
use Rattle.game_tables.specs.declared.kind.Part.TheVariants.{Move}
use Rattle.world_rules.specs.Changes.{with_object, without}
use Rattle.world_rules.specs.Steps.{each}
use Rattle.world_rules.specs.Crossings.{still}
use Rattle.world_rules.proofs.Checked.{and_left}
use Rattle.world_rules.specs.Rules.{IsFrom1To, IsWall, IsSource, IsPile}
use Rattle.room_rules.specs.Within.{Stage, between, moved, summed, settled, within, IsCreepMoved, IsCreepWithin, IsInRangeIn}
use Rattle.room_rules.specs.RoomRules.{Holds, KeepsRoomRules}
use Rattle.room_rules.proofs.Keeps.{IsSame, IsSame-refl, keeps_changed, keeps_each, keeps_over, keeps_turned, keeps_without}
use Rattle.room_rules.proofs.Falls.{IsOpen, keeps_fallen}

-- an object after a step, in the ranges of its kind if it was in them
as_itself : (stage : Stage) (o after : Object) → IsSame o after → (IsInRangeIn o.kind stage o → IsInRangeIn o.kind stage after) → IsSame o after × (IsInRangeIn o.kind stage o → IsInRangeIn after.kind stage after)
as_itself stage o after same keeps = (same, λ r. subst (λ (k : Kind). IsInRangeIn k stage after) (sym same.kind) (keeps r))

-- ---- sources

abbrev renewed_by : ℕ → Bool → Bool → Bool → Object → Object
renewed_by capacity b c d o =
    if b then record o { timer = o.timer - 1 }
    else if c then record o { timer = 0; energy = max o.energy capacity }
    else if d then record o { timer = renewal_ticks }
    else o

renewed_same : (capacity : ℕ) (b c d : Bool) (o : Object) → IsSame o (renewed_by capacity b c d o)
renewed_same capacity true c d o = record { id = refl; kind = refl; x = refl; y = refl; owner = refl; other = refl }
renewed_same capacity false true d o = record { id = refl; kind = refl; x = refl; y = refl; owner = refl; other = refl }
renewed_same capacity false false true o = record { id = refl; kind = refl; x = refl; y = refl; owner = refl; other = refl }
renewed_same capacity false false false o = IsSame-refl o

renewed_range : (capacity : ℕ) (b c d : Bool) (o : Object) → capacity ≤ 3000 → IsSource o → IsSource (renewed_by capacity b c d o)
renewed_range capacity true c d o most s = record { owner = s.owner; hits = s.hits; energy = s.energy; timer = omega (arith, s.timer); extra = s.extra; progress = s.progress; other = s.other; other_ticks = s.other_ticks; body = s.body }
renewed_range capacity false true d o most s = record { owner = s.owner; hits = s.hits; energy = omega (arith, s.energy); timer = omega arith; extra = s.extra; progress = s.progress; other = s.other; other_ticks = s.other_ticks; body = s.body }
renewed_range capacity false false true o most s = record { owner = s.owner; hits = s.hits; energy = s.energy; timer = omega arith; extra = s.extra; progress = s.progress; other = s.other; other_ticks = s.other_ticks; body = s.body }
renewed_range capacity false false false o most s = s

pub renewed_stays : (k : Kind) (capacity : ℕ) (o after : Object) → renewed_as k capacity o ≡ Some after → IsSame o after
renewed_stays Source capacity o after e =
    let same : source_renewed capacity o ≡ after = cc in
    subst (IsSame o) same (renewed_same capacity (nat_lt 1 o.timer) (o.timer == 1) (nat_lt o.energy capacity) o)
renewed_stays k capacity o after e =
    let same : o ≡ after = cc in
    subst (IsSame o) same (IsSame-refl o)

renewed_keeps : (k : Kind) (capacity : ℕ) (stage : Stage) (o after : Object) → capacity ≤ 3000 → renewed_as k capacity o ≡ Some after → IsInRangeIn k stage o → IsInRangeIn k stage after
renewed_keeps Source capacity stage o after most e r =
    let same : source_renewed capacity o ≡ after = cc in
    subst IsSource same (renewed_range capacity (nat_lt 1 o.timer) (o.timer == 1) (nat_lt o.energy capacity) o most r)
renewed_keeps k capacity stage o after most e r =
    let same : o ≡ after = cc in
    subst (IsInRangeIn k stage) same r

within_most : (taken : Bool) → source_capacity taken ≤ 3000
within_most true = omega arith
within_most false = omega arith

-- ---- piles

with_energy : (n : ℕ) (o after : Object) → (if n == 0 then None else Some (record o { energy = n })) ≡ Some after → (1 ≤ n) × (record o { energy = n } ≡ after)
with_energy n o after = elim (n == 0) as (λ b. (n == 0) ≡ b → (if b then None else Some (record o { energy = n })) ≡ Some after → (1 ≤ n) × (record o { energy = n } ≡ after)) [
  | true ↦ λ b e. absurd (cc)
  | false ↦ λ b e. (grind arith, cc)
] refl

pile_same : (o : Object) (n : ℕ) → IsSame o (record o { energy = n })
pile_same o n = record { id = refl; kind = refl; x = refl; y = refl; owner = refl; other = refl }

pile_range : (o : Object) (n : ℕ) → 1 ≤ n → n ≤ o.energy → IsPile o → IsPile (record o { energy = n })
pile_range o n some less p = record { owner = p.owner; hits = p.hits; energy = (some, omega (arith, p.energy)); timer = p.timer; extra = p.extra; progress = p.progress; other = p.other; other_ticks = p.other_ticks; body = p.body }

pub decayed_stays : (k : Kind) (o after : Object) → decayed_as k o ≡ Some after → IsSame o after
decayed_stays Pile o after e = subst (IsSame o) (with_energy (o.energy - pile_decay o.energy) o after e).1 (pile_same o _)
decayed_stays k o after e =
    let same : o ≡ after = cc in
    subst (IsSame o) same (IsSame-refl o)

decayed_keeps : (k : Kind) (stage : Stage) (o after : Object) → decayed_as k o ≡ Some after → IsInRangeIn k stage o → IsInRangeIn k stage after
decayed_keeps Pile stage o after e r =
    let w = with_energy (o.energy - pile_decay o.energy) o after e in
    subst IsPile w.1 (pile_range o _ w.0 (omega arith) r)
decayed_keeps k stage o after e r =
    let same : o ≡ after = cc in
    subst (IsInRangeIn k stage) same r

-- ---- creeps

abbrev rested_by : ℕ → Object → Object
rested_by n o = record o { extra = o.extra - n }

within_rested : (n : ℕ) (o : Object) → IsCreepWithin o → IsCreepWithin (rested_by n o)
within_rested n o s = record { owner = s.owner; hits = s.hits; energy = s.energy; timer = s.timer; extra = omega (arith, s.extra); progress = s.progress; other = s.other; other_ticks = s.other_ticks; some_parts = s.some_parts; parts = s.parts }

moved_rested : (n : ℕ) (o : Object) → IsCreepMoved o → IsCreepMoved (rested_by n o)
moved_rested n o s = let r = s.rested in record { other_ticks = s.other_ticks; rested = record { owner = r.owner; hits = r.hits; energy = r.energy; timer = r.timer; extra = omega (arith, r.extra); progress = r.progress; other = r.other; other_ticks = r.other_ticks; some_parts = r.some_parts; parts = r.parts } }

creep_rested : (n : ℕ) (stage : Stage) (o : Object) → IsInRangeIn Creep stage o → IsInRangeIn Creep stage (rested_by n o)
creep_rested n within o s = within_rested n o s
creep_rested n settled o s = record { alive = s.alive; within = within_rested n o s.within }
creep_rested n between o s = record { owner = s.owner; hits = s.hits; energy = s.energy; timer = s.timer; extra = omega (arith, s.extra); progress = s.progress; other = s.other; other_ticks = s.other_ticks; some_parts = s.some_parts; parts = s.parts }
creep_rested n summed o s = moved_rested n o s
creep_rested n moved o s = moved_rested n o s

pub recovered_same : (k : Kind) (o : Object) → IsSame o (recovered_as k o)
recovered_same Creep o = record { id = refl; kind = refl; x = refl; y = refl; owner = refl; other = refl }
recovered_same k o = IsSame-refl o

recovered_range : (k : Kind) (stage : Stage) (o : Object) → IsInRangeIn k stage o → IsInRangeIn k stage (recovered_as k o)
recovered_range Creep stage o r = creep_rested (2 * live_count Move o.hits o.body) stage o r
recovered_range k stage o r = r

-- An older creep stays in its ranges.
older_range : (k : Kind) (o : Object) → k ≡ Creep → nat_lt 1 o.timer ≡ true → IsInRangeIn k summed o → IsInRangeIn k summed (record o { timer = o.timer - 1 })
older_range Creep o is runs s =
    let r = s.rested in
    let more = ltb-true 1 o.timer runs in
    record { other_ticks = s.other_ticks; rested = record { owner = r.owner; hits = r.hits; energy = r.energy; timer = (omega (arith, more), omega (arith, r.timer)); extra = r.extra; progress = r.progress; other = r.other; other_ticks = r.other_ticks; some_parts = r.some_parts; parts = r.parts } }
older_range k o is runs s = absurd (cc)

pub still_same : (o : Object) → IsSame o (still o)
still_same o = elim (is_creep o.kind) as (λ b. IsSame o (if b then record o { other_ticks = 0 } else o)) [
  | true ↦ record { id = refl; kind = refl; x = refl; y = refl; owner = refl; other = refl }
  | false ↦ IsSame-refl o
]

still_by : (k : Kind) (o : Object) → IsInRangeIn k moved o → IsInRangeIn k between (if is_creep k then record o { other_ticks = 0 } else o)
still_by Creep o r = r.rested
still_by k o r = r

-- A creep that moved is in the ranges between ticks once it is still.
pub still_range : (o : Object) → IsInRangeIn o.kind moved o → IsInRangeIn (still o).kind between (still o)
still_range o r = subst (λ (k : Kind). IsInRangeIn k between (still o)) (sym (still_same o).kind) (still_by o.kind o r)

-- ---- containers and roads

abbrev weathered_by : Kind → Bool → Bool → Object → Object
weathered_by k in_owned b o =
    if b then record o { timer = o.timer - 1 }
    else record o { hits = o.hits - decay_hits k; timer = full_timer k in_owned }

weathered_same : (k : Kind) (in_owned b : Bool) (o : Object) → IsSame o (weathered_by k in_owned b o)
weathered_same k in_owned true o = record { id = refl; kind = refl; x = refl; y = refl; owner = refl; other = refl }
weathered_same k in_owned false o = record { id = refl; kind = refl; x = refl; y = refl; owner = refl; other = refl }

full_range : (k : Kind) (in_owned : Bool) → decays k ≡ true → IsFrom1To (full_timer k true) (full_timer k in_owned)
full_range Container true is = (omega arith, omega arith)
full_range Container false is = (omega arith, omega arith)
full_range Road in_owned is = (omega arith, omega arith)
full_range k in_owned is = absurd (cc)

pub positive : (n : ℕ) → (n == 0) ≡ false → 1 ≤ n
positive n is = grind arith

-- It stays in its ranges where it has hits left.
weathered_range : (k : Kind) (in_owned b : Bool) (stage : Stage) (o : Object) → decays k ≡ true → nat_lt 1 o.timer ≡ b → ((weathered_by k in_owned b o).hits == 0) ≡ false → IsInRangeIn k stage o → IsInRangeIn k stage (weathered_by k in_owned b o)
weathered_range Container in_owned true stage o is runs some s = let more = ltb-true 1 o.timer runs in record { owner = s.owner; hits = s.hits; energy = s.energy; timer = (omega (arith, more), omega (arith, s.timer)); extra = s.extra; progress = s.progress; other = s.other; other_ticks = s.other_ticks; body = s.body }
weathered_range Container in_owned false stage o is runs some s = record { owner = s.owner; hits = (positive (o.hits - 5000) some, omega (arith, s.hits)); energy = s.energy; timer = full_range Container in_owned refl; extra = s.extra; progress = s.progress; other = s.other; other_ticks = s.other_ticks; body = s.body }
weathered_range Road in_owned true stage o is runs some s = let more = ltb-true 1 o.timer runs in record { owner = s.owner; hits = s.hits; energy = s.energy; timer = (omega (arith, more), omega (arith, s.timer)); extra = s.extra; progress = s.progress; other = s.other; other_ticks = s.other_ticks; body = s.body }
weathered_range Road in_owned false stage o is runs some s = record { owner = s.owner; hits = (positive (o.hits - 100) some, omega (arith, s.hits)); energy = s.energy; timer = full_range Road in_owned refl; extra = s.extra; progress = s.progress; other = s.other; other_ticks = s.other_ticks; body = s.body }
weathered_range k in_owned b stage o is runs some s = absurd (cc)

decays_free : (k : Kind) → decays k ≡ true → (is_source k ≡ false) × (is_controller k ≡ false)
decays_free Container is = (refl, refl)
decays_free Road is = (refl, refl)
decays_free k is = absurd (cc)

-- ---- spawns

-- A spawn that has room stays in its ranges with more.
spawn_more : (k : Kind) (stage : Stage) (o : Object) → k ≡ Spawn → o.energy < 300 → IsInRangeIn k stage o → IsInRangeIn k stage (record o { energy = o.energy + 1 })
spawn_more Spawn stage o is less s = record { owner = s.owner; hits = s.hits; energy = omega (arith, less); timer = s.timer; idle = s.idle; busy = s.busy; extra = s.extra; progress = s.progress; other = s.other; other_ticks = s.other_ticks; parts = s.parts }
spawn_more k stage o is less s = absurd (cc)

-- ---- the steps

module _ (players : ℕ → Bool) (stage : Stage) where
  abbrev Kept : RoomPart → Type 0
  Kept part = KeepsRoomRules players stage part

  pub keeps_recovered : (part : RoomPart) → Kept part → Kept (recovered part)
  keeps_recovered part k = keeps_each players stage (λ object. Some (recovered_as object.kind object)) (λ object after is.
      (let one : recovered_as object.kind object ≡ after = cc in
      subst (λ (o : Object). IsSame object o × (IsInRangeIn object.kind stage object → IsInRangeIn o.kind stage o)) one (as_itself stage object (recovered_as object.kind object) (recovered_same object.kind object) (recovered_range object.kind stage object)))) part k

  pub keeps_renewed : (part : RoomPart) → KeepsRoomRules players stage part → KeepsRoomRules players stage (renewed part)
  keeps_renewed part k =
      let taken = is_taken (controller_of part) in
      keeps_each players stage (λ object. renewed_as object.kind (source_capacity taken) object) (λ object after is. as_itself stage object after (renewed_stays object.kind (source_capacity taken) object after is) (renewed_keeps object.kind (source_capacity taken) stage object after (within_most taken) is)) part k

  pub keeps_decayed : (part : RoomPart) → KeepsRoomRules players stage part → KeepsRoomRules players stage (decayed part)
  keeps_decayed part k = keeps_each players stage (λ object. decayed_as object.kind object) (λ object after is. as_itself stage object after (decayed_stays object.kind object after is) (decayed_keeps object.kind stage object after is)) part k

  filled_keeps : (kind : Kind) (object : Object) (part : RoomPart) → object.kind ≡ kind → Holds part object.id object → Kept part → Kept (filled_as kind object part)
  filled_keeps Spawn spawn part is h k =
      elim (nat_lt spawn.energy 300 && nat_lt (held_by spawn.owner (values part.objects)) 300) as (λ b. (nat_lt spawn.energy 300 && nat_lt (held_by spawn.owner (values part.objects)) 300) ≡ b → Kept (if b then with_object (record spawn { energy = spawn.energy + 1 }) part else part)) [
        | true ↦ λ both. keeps_changed players stage part k spawn.id spawn (record spawn { energy = spawn.energy + 1 }) h (pile_same spawn (spawn.energy + 1))
            (spawn_more spawn.kind stage spawn is (ltb-true spawn.energy 300 (and_left (nat_lt spawn.energy 300) (nat_lt (held_by spawn.owner (values part.objects)) 300) both)))
        | false ↦ λ full. k
      ] refl
  filled_keeps kind object part is h k = k

  pub keeps_filled : (part : RoomPart) → Kept part → Kept (filled part)
  keeps_filled part k = keeps_over players stage (λ object. filled_as object.kind object) (λ object part h k. filled_keeps object.kind object part refl h k) part k

  -- ---- what stands or is gone

  -- An object that is neither a source nor a controller is gone.
  gone_keeps : (object now : Object) (part : RoomPart) → Holds part object.id object → Kept part → (is_source object.kind ≡ false) × (is_controller object.kind ≡ false) → IsSame object now → Kept (gone now part)
  gone_keeps object now part h k free same =
      let inside = k.inside object.id object h in
      let tile : IsOpen players stage part.grounds now.x now.y = record {
        column = subst (λ (n : ℕ). n ≤ 49) (sym same.x) inside.column;
        row = subst (λ (n : ℕ). n ≤ 49) (sym same.y) inside.row;
        ground = λ wall. k.tiles object.id object h (inl (free.0, free.1, subst (λ (n : ℕ). IsWall part.grounds n object.y) same.x (subst (λ (n : ℕ). IsWall part.grounds now.x n) same.y wall)));
      } in
      keeps_fallen players stage (without now.id part) (keeps_without players stage part k now.id) now.x now.y now.energy tile

  -- Such an object is gone without hits, and stands in its ranges with hits.
  pub keeps_standing : (object now : Object) (part : RoomPart) → Holds part object.id object → Kept part → (is_source object.kind ≡ false) × (is_controller object.kind ≡ false) → IsSame object now
      → ((now.hits == 0) ≡ false → IsInRangeIn object.kind stage object → IsInRangeIn object.kind stage now) → Kept (standing_or_gone now part)
  keeps_standing object now part h k free same range =
      elim (now.hits == 0) as (λ none. (now.hits == 0) ≡ none → Kept (if none then gone now part else with_object now part)) [
        | true ↦ λ none. gone_keeps object now part h k free same
        | false ↦ λ some. keeps_changed players stage part k object.id object now h same (as_itself stage object now same (range some)).1
      ] refl

  decay_keeps : (in_owned : Bool) (object : Object) (part : RoomPart) → Holds part object.id object → Kept part → Kept (weathered_as in_owned object part)
  decay_keeps in_owned object part h k =
      elim (decays object.kind) as (λ b. decays object.kind ≡ b → Kept (if b then standing_or_gone (weathered in_owned object) part else part)) [
        | true ↦ λ falls. keeps_standing object (weathered in_owned object) part h k (decays_free object.kind falls) (weathered_same object.kind in_owned (nat_lt 1 object.timer) object)
            (λ some r. weathered_range object.kind in_owned (nat_lt 1 object.timer) stage object falls refl some r)
        | false ↦ λ stands. k
      ] refl

  pub keeps_weathered : (part : RoomPart) → Kept part → Kept (buildings_decayed part)
  keeps_weathered part k = keeps_over players stage (weathered_as (is_owned_room (controller_of part))) (decay_keeps (is_owned_room (controller_of part))) part k

-- Creeps grow older, or die, once their hits and loads are settled.
module _ (players : ℕ → Bool) where
  aged_keeps : (kind : Kind) (object : Object) (part : RoomPart) → object.kind ≡ kind → Holds part object.id object → KeepsRoomRules players summed part → KeepsRoomRules players summed (aged_as kind object part)
  aged_keeps Creep creep part is h k =
      elim (nat_lt 1 creep.timer) as (λ b. nat_lt 1 creep.timer ≡ b → KeepsRoomRules players summed (if b then with_object (record creep { timer = creep.timer - 1 }) part else gone creep part)) [
        | true ↦ λ runs. keeps_changed players summed part k creep.id creep (record creep { timer = creep.timer - 1 }) h
            (record { id = refl; kind = refl; x = refl; y = refl; owner = refl; other = refl }) (older_range creep.kind creep is runs)
        | false ↦ λ over. gone_keeps players summed creep creep part h k (ap is_source is, ap is_controller is) (IsSame-refl creep)
      ] refl
  aged_keeps kind object part is h k = k

  pub keeps_aged : (part : RoomPart) → KeepsRoomRules players summed part → KeepsRoomRules players summed (aged part)
  keeps_aged part k = keeps_over players summed (λ object. aged_as object.kind object) (λ object part h k. aged_keeps object.kind object part refl h k) part k

-- The creeps of a room have moved no more: it is between ticks again.
pub keeps_rest : (players : ℕ → Bool) (part : RoomPart) → KeepsRoomRules players moved part → KeepsRoomRules players between (each (λ object. Some (still object)) part)
keeps_rest players part k = keeps_turned players moved between (λ object. Some (still object)) (λ object after is.
    (let one : still object ≡ after = cc in
    subst (λ (o : Object). IsSame object o × (IsInRangeIn object.kind moved object → IsInRangeIn o.kind between o)) one (still_same object, still_range object))) part k
