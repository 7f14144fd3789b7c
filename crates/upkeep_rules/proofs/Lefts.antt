-- What a step leaves of an object as it was, and what it comes to for each kind.
use Rattle.std.proofs.Common.{◌≡◌, ◌≢◌, ℕ, ◌-◌, ◌==◌, max, nat_lt, true, false, if◌then◌else◌, Option, Some, None, refl, ap, subst}
use Rattle.game_tables.specs.Kinds.{renewal_ticks, pile_decay}
use Rattle.game_tables.specs.declared.kind.Kind.{Kind}
use Rattle.game_tables.specs.declared.kind.Kind.TheVariants.{Source, Controller, Creep, Pile}
use Rattle.room_table.specs.declared.object.Object.{Object}
use Rattle.world_rules.specs.Claims.{controller_aged_as, downgraded, owned_aged, reservation_aged}
use Rattle.world_rules.specs.Upkeep.{recovered_as, renewed_as, decayed_as, source_renewed, pile_decayed}
use Rattle.world_rules.proofs.Each.{KeepsIds}
use Rattle.upkeep_rules.specs.declared.pass.Step.{Step}
use Rattle.upkeep_rules.specs.declared.pass.Step.TheVariants.{Recover, Control, Renew, Decay}
use Rattle.upkeep_rules.specs.inner.Passed.{left_by}

-- ---- what stays

-- It has the id, the kind and the tile that it had.
pub record Stays (object after : Object) : Type 0 where
  pub id : after.id ≡ object.id
  pub kind : after.kind ≡ object.kind
  pub x : after.x ≡ object.x
  pub y : after.y ≡ object.y

abbrev StaysIfLeft : Object → Option Object → Type 0
StaysIfLeft object left = (after : Object) → left ≡ Some after → Stays object after

itself : (object : Object) → Stays object object
itself object = record { id = refl; kind = refl; x = refl; y = refl }

left_is : (object left : Object) → Stays object left → StaysIfLeft object (Some left)
left_is object left stays after is = let same : left ≡ after = cc in subst (Stays object) same stays

nothing_left : (object : Object) → StaysIfLeft object None
nothing_left object after is = absurd cc

recovered_stays : (kind : Kind) (object : Object) → Stays object (recovered_as kind object)
recovered_stays Creep object = record { id = refl; kind = refl; x = refl; y = refl }
recovered_stays kind object = itself object

controller_stays : (kind : Kind) (object : Object) → Stays object (controller_aged_as kind object)
controller_stays Controller object =
    elim (object.extra == 0) as (λ b. Stays object (if b then reservation_aged object else owned_aged object)) [
      | true ↦ elim (nat_lt 1 object.other_ticks) as (λ b. Stays object (if b then record object { other_ticks = object.other_ticks - 1 } else record object { other = 0; other_ticks = 0 })) [
        | true ↦ record { id = refl; kind = refl; x = refl; y = refl }
        | false ↦ record { id = refl; kind = refl; x = refl; y = refl }
      ]
      | false ↦ elim (nat_lt 1 object.timer) as (λ b. Stays object (if b then record object { timer = object.timer - 1; other_ticks = 0 } else downgraded (record object { other_ticks = 0 }))) [
        | true ↦ record { id = refl; kind = refl; x = refl; y = refl }
        | false ↦ record { id = refl; kind = refl; x = refl; y = refl }
      ]
    ]
controller_stays kind object = itself object

pub source_stays : (capacity : ℕ) (object : Object) → Stays object (source_renewed capacity object)
source_stays capacity object =
    elim (nat_lt 1 object.timer) as (λ b. Stays object (if b then record object { timer = object.timer - 1 } else if object.timer == 1 then record object { timer = 0; energy = max object.energy capacity } else if nat_lt object.energy capacity then record object { timer = renewal_ticks } else object)) [
      | true ↦ record { id = refl; kind = refl; x = refl; y = refl }
      | false ↦ elim (object.timer == 1) as (λ b. Stays object (if b then record object { timer = 0; energy = max object.energy capacity } else if nat_lt object.energy capacity then record object { timer = renewal_ticks } else object)) [
        | true ↦ record { id = refl; kind = refl; x = refl; y = refl }
        | false ↦ elim (nat_lt object.energy capacity) as (λ b. Stays object (if b then record object { timer = renewal_ticks } else object)) [
          | true ↦ record { id = refl; kind = refl; x = refl; y = refl }
          | false ↦ itself object
        ]
      ]
    ]

renewed_stays : (kind : Kind) (capacity : ℕ) (object : Object) → StaysIfLeft object (renewed_as kind capacity object)
renewed_stays Source capacity object = left_is object (source_renewed capacity object) (source_stays capacity object)
renewed_stays kind capacity object = left_is object object (itself object)

pile_stays : (object : Object) → StaysIfLeft object (pile_decayed object)
pile_stays object =
    let left : ℕ = object.energy - pile_decay object.energy in
    elim (left == 0) as (λ b. StaysIfLeft object (if b then None else Some (record object { energy = left }))) [
      | true ↦ nothing_left object
      | false ↦ left_is object (record object { energy = left }) (record { id = refl; kind = refl; x = refl; y = refl })
    ]

decayed_stays : (kind : Kind) (object : Object) → StaysIfLeft object (decayed_as kind object)
decayed_stays Pile object = pile_stays object
decayed_stays kind object = left_is object object (itself object)

pub left_stays : (step : Step) (object after : Object) → left_by step object ≡ Some after → Stays object after
left_stays Recover object = left_is object (recovered_as object.kind object) (recovered_stays object.kind object)
left_stays Control object = left_is object (controller_aged_as object.kind object) (controller_stays object.kind object)
left_stays (Renew capacity) object = renewed_stays object.kind capacity object
left_stays Decay object = decayed_stays object.kind object

pub left-id : (step : Step) → KeepsIds (left_by step)
left-id step object after is = (left_stays step object after is).id

-- ---- what the steps come to for each kind

pub recovers : (object : Object) → object.kind ≡ Creep → left_by Recover object ≡ Some (recovered_as Creep object)
recovers object is = ap (λ (k : Kind). Some (recovered_as k object)) is

other_recovered : (kind : Kind) (object : Object) → kind ≢ Creep → recovered_as kind object ≡ object
other_recovered Creep object other = absurd (other refl)
other_recovered kind object other = refl

pub stays_recovered : (object : Object) → object.kind ≢ Creep → left_by Recover object ≡ Some object
stays_recovered object other = ap Some (other_recovered object.kind object other)

pub ages : (object : Object) → object.kind ≡ Controller → left_by Control object ≡ Some (controller_aged_as Controller object)
ages object is = ap (λ (k : Kind). Some (controller_aged_as k object)) is

other_aged : (kind : Kind) (object : Object) → kind ≢ Controller → controller_aged_as kind object ≡ object
other_aged Controller object other = absurd (other refl)
other_aged kind object other = refl

pub stays_aged : (object : Object) → object.kind ≢ Controller → left_by Control object ≡ Some object
stays_aged object other = ap Some (other_aged object.kind object other)

pub renews : (capacity : ℕ) (object : Object) → object.kind ≡ Source → left_by (Renew capacity) object ≡ Some (source_renewed capacity object)
renews capacity object is = ap (λ (k : Kind). renewed_as k capacity object) is

other_renewed : (kind : Kind) (capacity : ℕ) (object : Object) → kind ≢ Source → renewed_as kind capacity object ≡ Some object
other_renewed Source capacity object other = absurd (other refl)
other_renewed kind capacity object other = refl

pub stays_renewed : (capacity : ℕ) (object : Object) → object.kind ≢ Source → left_by (Renew capacity) object ≡ Some object
stays_renewed capacity object other = other_renewed object.kind capacity object other

pub wanes : (object : Object) → object.kind ≡ Pile → left_by Decay object ≡ pile_decayed object
wanes object is = ap (λ (k : Kind). decayed_as k object) is

other_decayed : (kind : Kind) (object : Object) → kind ≢ Pile → decayed_as kind object ≡ Some object
other_decayed Pile object other = absurd (other refl)
other_decayed kind object other = refl

pub stays_decayed : (object : Object) → object.kind ≢ Pile → left_by Decay object ≡ Some object
stays_decayed object other = other_decayed object.kind object other

pub ruleset by_kind = (recovers, stays_recovered, ages, stays_aged, renews, stays_renewed, wanes, stays_decayed)
