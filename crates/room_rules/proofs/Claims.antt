-- What creeps do to controllers, and what time does to them, keeps the rules of a room.
use Rattle.std.proofs.Common.{◌≡◌, ◌≢◌, inl, inr, ℕ, zero, suc, ◌+◌, ◌-◌, ◌*◌, ◌/◌, ◌<◌, ◌≤◌, ◌==◌, ◌&&◌, ◌||◌, min, max, nat_lt, nat_le, if◌then◌else◌, Bool, true, false, [], Option, Some, None, refl, sym, ap, subst, ◌∙◌, arith}
use Rattle.std.proofs.lemmas.Bool.{cases_lt, eq-eqb, ne_eqb, eqb-true, eqb-false, ltb-true, leb-false}
use Rattle.game_tables.specs.Levels.{downgrade_number, last_level, total_for_next}
use Rattle.game_tables.specs.Kinds.{is_controller, is_creep, may_have_owner}
use Rattle.game_tables.specs.Actions.{is_target}
use Rattle.game_tables.specs.declared.action.Action.TheVariants.{ClaimController, Upgrade, Reserve, AttackController}
use Rattle.game_tables.specs.declared.kind.Kind.{Kind}
use Rattle.game_tables.specs.declared.kind.Kind.TheVariants.{Controller, Creep}
use Rattle.intent_book.specs.declared.intent.Intent.{Intent}
use Rattle.room_table.specs.Controllers.{is_another, is_anothers}
use Rattle.room_table.specs.Tallies.{sum_with}
use Rattle.room_table.specs.declared.object.Object.{Object}
use Rattle.world_rules.specs.RoomParts.{RoomPart}
use Rattle.world_rules.specs.Checks.{is_free_for}
use Rattle.world_rules.specs.Claims.{claimed, claimed_by, claimed_for, controller_aged_as, controller_attacked, controller_hurt, controllers_aged, downgraded, full_time, hurt_by, live_claim, owned_aged, progressed, refreshed, reservation_aged, reserved, reserved_by, risen, ticks_reserved, upgraded, upgraded_by, work_taken, worked_on}
use Rattle.world_rules.specs.Loads.{with_less}
use Rattle.world_rules.specs.Work.{live_work}
use Rattle.world_rules.specs.Rules.{IsController, IsDowngradeTimer, IsFrom1To, IsProgress}
use Rattle.world_rules.proofs.Checked.{and_left}
use Rattle.room_rules.specs.Within.{moved, summed, within, IsControllerWithin, IsInRangeIn}
use Rattle.room_rules.specs.RoomRules.{Holds, HasRightOwner, KeepsRoomRules}
use Rattle.room_rules.proofs.Keeps.{IsPlaced, IsSame, IsSame-refl, keeps_changed, keeps_changes, keeps_given, same_placed}
use Rattle.room_rules.proofs.Falls.{less_range}
use Rattle.room_rules.proofs.Changed.{PartiesKeep, keeps_parties, keeps_two, target_apart, target_kind}
use Rattle.room_rules.proofs.Loads.{same_less}
use Rattle.room_rules.proofs.Ready.{creep_load}

-- ---- levels

-- what holds of each level holds of any from 1 to 8
each_level : (P : ℕ → Type 0) → P 1 → P 2 → P 3 → P 4 → P 5 → P 6 → P 7 → P 8 → (level : ℕ) → 1 ≤ level → level ≤ 8 → P level
each_level P one two three four five six seven eight zero some most = absurd (omega (arith, some))
each_level P one two three four five six seven eight (suc zero) some most = one
each_level P one two three four five six seven eight (suc (suc zero)) some most = two
each_level P one two three four five six seven eight (suc (suc (suc zero))) some most = three
each_level P one two three four five six seven eight (suc (suc (suc (suc zero)))) some most = four
each_level P one two three four five six seven eight (suc (suc (suc (suc (suc zero))))) some most = five
each_level P one two three four five six seven eight (suc (suc (suc (suc (suc (suc zero)))))) some most = six
each_level P one two three four five six seven eight (suc (suc (suc (suc (suc (suc (suc zero))))))) some most = seven
each_level P one two three four five six seven eight (suc (suc (suc (suc (suc (suc (suc (suc zero)))))))) some most = eight
each_level P one two three four five six seven eight (suc (suc (suc (suc (suc (suc (suc (suc (suc level))))))))) some most = absurd (omega (arith, most))

-- the timer is within the time of the level, which a level has
abbrev HasTime : ℕ → Type 0
HasTime level = (timer : ℕ) → IsFrom1To (full_time level) timer → IsDowngradeTimer (downgrade_number level) timer

has_time : (level : ℕ) → 1 ≤ level → level ≤ 8 → HasTime level
has_time = each_level HasTime (λ t r. r) (λ t r. r) (λ t r. r) (λ t r. r) (λ t r. r) (λ t r. r) (λ t r. r) (λ t r. r)

abbrev TimeOf : ℕ → Type 0
TimeOf level = (timer : ℕ) → IsDowngradeTimer (downgrade_number level) timer → IsFrom1To (full_time level) timer

time_of : (level : ℕ) → 1 ≤ level → level ≤ 8 → TimeOf level
time_of = each_level TimeOf (λ t r. r) (λ t r. r) (λ t r. r) (λ t r. r) (λ t r. r) (λ t r. r) (λ t r. r) (λ t r. r)

-- ---- what a controller keeps beside

no_sum : (level ticks : ℕ) → 1 ≤ level → (if level == 0 then ticks else 0) ≡ 0
no_sum level ticks some = ap (λ (b : Bool). if b then ticks else 0) (ne_eqb level 0 (λ none. omega (arith, some, none)))

ticks_kept : (level ticks : ℕ) → level ≡ 0 → (if level == 0 then ticks else 0) ≡ ticks
ticks_kept level ticks none = ap (λ (b : Bool). if b then ticks else 0) (eq-eqb level 0 none)

zero_kept : (level ticks : ℕ) → ticks ≡ 0 → (if level == 0 then ticks else 0) ≡ 0
zero_kept level ticks none = zero_or (level == 0)
  where
    zero_or : (b : Bool) → (if b then ticks else 0) ≡ 0
    zero_or true = none
    zero_or false = refl

-- A controller has a level and an owner, and is in its ranges but for what it keeps beside.
abbrev IsLevelled : Object → Type 0
IsLevelled o =
    (1 ≤ o.extra) × (o.extra ≤ 8) × (o.owner ≢ 0) × (o.hits ≡ 0) × (o.energy ≡ 0) × IsFrom1To (full_time o.extra) o.timer
    × IsProgress (total_for_next o.extra) o.progress × (o.other ≡ 0) × (o.body ≡ [])

within_levelled : (o : Object) → IsLevelled o → IsControllerWithin o
within_levelled o l = record {
  unowned = λ none. absurd (l.2 none);
  owned = λ owned. l.0;
  hits = l.3;
  energy = l.4;
  timer = has_time o.extra l.0 l.1 o.timer l.5;
  extra = l.1;
  progress = l.6;
  other = λ another. absurd (another l.7);
  unreserved = λ none. no_sum o.extra o.other_ticks l.0;
  reserved = λ another. absurd (another l.7);
  body = l.8;
}

plain_levelled : (o : Object) → o.other_ticks ≡ 0 → IsLevelled o → IsController o
plain_levelled o rested l = record {
  unowned = λ none. absurd (l.2 none);
  owned = λ owned. l.0;
  hits = l.3;
  energy = l.4;
  timer = has_time o.extra l.0 l.1 o.timer l.5;
  extra = l.1;
  progress = l.6;
  other = λ another. absurd (another l.7);
  unreserved = λ none. rested;
  reserved = λ another. absurd (another l.7);
  body = l.8;
}

none_else : (n : ℕ) → (n ≢ 0 → ⊥) → n ≡ 0
none_else zero never = refl
none_else (suc n) never = absurd (never (λ is. omega (arith, is)))

levelled : (o : Object) → o.owner ≢ 0 → IsControllerWithin o → IsLevelled o
levelled o owned s =
    let some : 1 ≤ o.extra = s.owned owned in
    (some, s.extra, owned, s.hits, s.energy, time_of o.extra some s.extra o.timer s.timer, s.progress, none_else o.other (λ another. (let none = s.other another in omega (arith, some, none))), s.body)

-- the ticks of a reservation, of a controller without a level
reserved_ticks : (o : Object) → o.extra ≡ 0 → IsControllerWithin o → o.other ≢ 0 → IsFrom1To 5000 o.other_ticks
reserved_ticks o level s another = subst (IsFrom1To 5000) (ticks_kept o.extra o.other_ticks level) (s.reserved another)

-- ---- ranges

-- A controller between ticks is in the wider ranges within a tick.
pub begun_controller : (o : Object) → IsController o → IsControllerWithin o
begun_controller o s = record {
  unowned = s.unowned;
  owned = s.owned;
  hits = s.hits;
  energy = s.energy;
  timer = s.timer;
  extra = s.extra;
  progress = s.progress;
  other = s.other;
  unreserved = λ none. zero_kept o.extra o.other_ticks (s.unreserved none);
  reserved = λ another. subst (IsFrom1To 5000) (sym (ticks_kept o.extra o.other_ticks (s.other another))) (s.reserved another);
  body = s.body;
}

claimed_range : (player : ℕ) (o : Object) → 1 ≤ player → IsControllerWithin o → IsControllerWithin (claimed_for player o)
claimed_range player o some s =
    within_levelled (claimed_for player o) (omega arith, omega arith, λ none. omega (arith, some, none), s.hits, s.energy, (omega arith, omega arith), omega arith, refl, s.body)

begins : (none : Bool) (ticks : ℕ) → (none ≡ false → 1 ≤ ticks) → 1 ≤ (if none then 1 else ticks)
begins true ticks some = omega arith
begins false ticks some = some refl

-- a controller that nobody owns, with so many ticks of a reservation
with_ticks : (o : Object) (player ticks : ℕ) → player ≢ 0 → o.owner ≡ 0 → IsFrom1To 5000 ticks → IsControllerWithin o → IsControllerWithin (record o { other = player; other_ticks = ticks })
with_ticks o player ticks some free fits s =
    let level : o.extra ≡ 0 = s.unowned free in
    record {
      unowned = s.unowned;
      owned = s.owned;
      hits = s.hits;
      energy = s.energy;
      timer = s.timer;
      extra = s.extra;
      progress = s.progress;
      other = λ another. level;
      unreserved = λ none. absurd (some none);
      reserved = λ another. subst (IsFrom1To 5000) (sym (ticks_kept o.extra ticks level)) fits;
      body = s.body;
    }

reserved_range : (player : ℕ) (creep o : Object) → 1 ≤ player → o.owner ≡ 0 → IsControllerWithin o → IsControllerWithin (record o { other = player; other_ticks = ticks_reserved creep o })
reserved_range player creep o some free s =
    let first : 1 ≤ (if o.other == 0 then 1 else o.other_ticks) =
    begins (o.other == 0) o.other_ticks (λ apart. (reserved_ticks o (s.unowned free) s (eqb-false o.other 0 apart)).0) in
    with_ticks o player (ticks_reserved creep o) (λ none. omega (arith, some, none)) free (omega (arith, first), omega arith) s

other_reserves : (player owner other : ℕ) → owner ≡ 0 → (is_another player owner || is_another player other) ≡ true → other ≢ 0
other_reserves player owner other free is none =
    let now : (is_another player 0 || is_another player 0) ≡ true =
    subst (λ (n : ℕ). (is_another player 0 || is_another player n) ≡ true) none (subst (λ (n : ℕ). (is_another player n || is_another player other) ≡ true) free is) in
    absurd (cc)

hurt_range : (player : ℕ) (creep o : Object) → is_anothers player (Some o) ≡ true → IsControllerWithin o → IsControllerWithin (controller_hurt creep o)
hurt_range player creep o is s =
    elim (o.owner == 0) as (λ b. (o.owner == 0) ≡ b → IsControllerWithin (if b then record o { other_ticks = max 1 (o.other_ticks - live_claim creep) } else record o { timer = max 1 (o.timer - 300 * live_claim creep) })) [
      | true ↦ λ none. (
          let free : o.owner ≡ 0 = eqb-true o.owner 0 none in
          let another = other_reserves player o.owner o.other free is in
          let ticks = reserved_ticks o (s.unowned free) s another in
          with_ticks o o.other (max 1 (o.other_ticks - live_claim creep)) another free (omega arith, omega (arith, ticks)) s)
      | false ↦ λ owned. (
          let l = levelled o (eqb-false o.owner 0 owned) s in
          within_levelled (record o { timer = max 1 (o.timer - 300 * live_claim creep) }) (l.0, l.1, l.2, l.3, l.4, (omega arith, omega (arith, l.5)), l.6, l.7, l.8))
    ] refl

-- ---- upgrades

refreshed_levelled : (amount : ℕ) (o : Object) → IsLevelled o → IsLevelled (refreshed amount o)
refreshed_levelled amount o l =
    elim (amount == 0) as (λ b. IsLevelled (if b then o else record o { timer = min (full_time o.extra) (o.timer + 100) })) [
      | true ↦ l
      | false ↦ (l.0, l.1, l.2, l.3, l.4, (omega (arith, l.5), omega arith), l.6, l.7, l.8)
    ]

-- What a level rises to is in the ranges of the next.
abbrev Rises : ℕ → Type 0
Rises level =
    (total progress amount : ℕ) → total_for_next level ≡ Some total → progress < total → amount ≤ 2500
    → (level + 1 ≤ 8) × IsFrom1To (full_time (level + 1)) (full_time (level + 1) / 2)
    × IsProgress (total_for_next (level + 1)) (if level + 1 == last_level then 0 else progress + amount - total)

rises : (level : ℕ) → 1 ≤ level → level ≤ 8 → Rises level
rises = each_level Rises
    (λ total progress amount is below few. (omega arith, (omega arith, omega arith), omega (arith, below, few)))
    (λ total progress amount is below few. (omega arith, (omega arith, omega arith), omega (arith, below, few)))
    (λ total progress amount is below few. (omega arith, (omega arith, omega arith), omega (arith, below, few)))
    (λ total progress amount is below few. (omega arith, (omega arith, omega arith), omega (arith, below, few)))
    (λ total progress amount is below few. (omega arith, (omega arith, omega arith), omega (arith, below, few)))
    (λ total progress amount is below few. (omega arith, (omega arith, omega arith), omega (arith, below, few)))
    (λ total progress amount is below few. (omega arith, (omega arith, omega arith), refl))
    (λ total progress amount is below few. absurd (cc))

progressed_levelled : (next : Option ℕ) (amount : ℕ) (o : Object) → total_for_next o.extra ≡ next → amount ≤ 2500 → IsLevelled o → IsLevelled (progressed next amount o)
progressed_levelled None amount o is few l = refreshed_levelled amount o l
progressed_levelled (Some total) amount o is few l =
    let more : Object = record o { progress = o.progress + amount } in
    let before : o.progress < total = subst (λ (n : Option ℕ). IsProgress n o.progress) is l.6 in
    elim (nat_le total more.progress) as (λ b. nat_le total more.progress ≡ b → IsLevelled (if b then risen total more else refreshed amount more)) [
      | true ↦ λ reached. (let up = rises o.extra l.0 l.1 total o.progress amount is before few in (omega arith, up.0, l.2, l.3, l.4, up.1, up.2, l.7, l.8))
      | false ↦ λ short. refreshed_levelled amount more (l.0, l.1, l.2, l.3, l.4, l.5, subst (λ (n : Option ℕ). IsProgress n more.progress) (sym is) (leb-false total more.progress short), l.7, l.8)
    ] refl

worked_range : (amount : ℕ) (o : Object) → amount ≤ 2500 → o.owner ≢ 0 → IsControllerWithin o → IsControllerWithin (worked_on amount o)
worked_range amount o few owned s =
    within_levelled (worked_on amount o) (progressed_levelled (total_for_next o.extra) amount (record o { other_ticks = sum_with amount o.other_ticks }) refl few (levelled o owned s))

refreshed_same : (amount : ℕ) (before o : Object) → IsSame before o → IsSame before (refreshed amount o)
refreshed_same amount before o same =
    elim (amount == 0) as (λ b. IsSame before (if b then o else record o { timer = min (full_time o.extra) (o.timer + 100) })) [
      | true ↦ same
      | false ↦ record { id = same.id; kind = same.kind; x = same.x; y = same.y; owner = same.owner; other = same.other }
    ]

progressed_same : (next : Option ℕ) (amount : ℕ) (before o : Object) → IsSame before o → IsSame before (progressed next amount o)
progressed_same None amount before o same = refreshed_same amount before o same
progressed_same (Some total) amount before o same =
    let more : Object = record o { progress = o.progress + amount } in
    let also : IsSame before more = record { id = same.id; kind = same.kind; x = same.x; y = same.y; owner = same.owner; other = same.other } in
    elim (nat_le total more.progress) as (λ b. IsSame before (if b then risen total more else refreshed amount more)) [
      | true ↦ record { id = same.id; kind = same.kind; x = same.x; y = same.y; owner = same.owner; other = same.other }
      | false ↦ refreshed_same amount before more also
    ]

-- No more is put in than is carried.
pub taken_most : (creep controller : Object) → work_taken creep controller ≤ creep.energy
taken_most creep controller = most (controller.extra == last_level)
  where
    most : (b : Bool) → (if b then min (min (live_work creep) creep.energy) (15 - controller.other_ticks) else min (live_work creep) creep.energy) ≤ creep.energy
    most true = omega arith
    most false = omega arith

worked_same : (amount : ℕ) (o : Object) → IsSame o (worked_on amount o)
worked_same amount o =
    progressed_same (total_for_next o.extra) amount o (record o { other_ticks = sum_with amount o.other_ticks })
    (record { id = refl; kind = refl; x = refl; y = refl; owner = refl; other = refl })

-- ---- time

-- A controller that loses a level.
abbrev Fallen : Object → ℕ → Type 0
Fallen o level = IsController (downgraded (record o { extra = level; other_ticks = 0 }))

fallen_range : (o : Object) → IsLevelled o → Fallen o o.extra
fallen_range o l = each_level (Fallen o)
    (record {
      unowned = λ none. refl;
      owned = λ owned. absurd (owned refl);
      hits = l.3;
      energy = l.4;
      timer = refl;
      extra = omega arith;
      progress = refl;
      other = λ another. absurd (another l.7);
      unreserved = λ none. refl;
      reserved = λ another. absurd (another l.7);
      body = l.8;
    })
    (lower 2 (omega arith) (omega arith) (omega arith, omega arith) (omega arith))
    (lower 3 (omega arith) (omega arith) (omega arith, omega arith) (omega arith))
    (lower 4 (omega arith) (omega arith) (omega arith, omega arith) (omega arith))
    (lower 5 (omega arith) (omega arith) (omega arith, omega arith) (omega arith))
    (lower 6 (omega arith) (omega arith) (omega arith, omega arith) (omega arith))
    (lower 7 (omega arith) (omega arith) (omega arith, omega arith) (omega arith))
    (lower 8 (omega arith) (omega arith) (omega arith, omega arith) (omega arith))
    o.extra l.0 l.1
  where
    lower : (level : ℕ) → 2 ≤ level → level ≤ 8 → IsFrom1To (full_time (level - 1)) (full_time (level - 1) / 2) → IsProgress (total_for_next (level - 1)) 0 → Fallen o level
    lower level some most time progress =
        plain_levelled (downgraded (record o { extra = level; other_ticks = 0 })) refl
        (omega (arith, some), omega (arith, most), owner_stays (level - 1) (omega (arith, some)), l.3, l.4, time, progress, l.7, l.8)
      where
        owner_stays : (n : ℕ) → 1 ≤ n → (if n == 0 then 0 else o.owner) ≢ 0
        owner_stays n some = λ none. l.2 (sym (ap (λ (b : Bool). if b then 0 else o.owner) (ne_eqb n 0 (λ is. omega (arith, some, is)))) ∙ none)

aged_range : (o : Object) → IsControllerWithin o → IsController (controller_aged_as Controller o)
aged_range o s =
    elim (o.extra == 0) as (λ b. (o.extra == 0) ≡ b → IsController (if b then reservation_aged o else owned_aged o)) [
      | true ↦ λ is. reservation (eqb-true o.extra 0 is)
      | false ↦ λ is. owned (eqb-false o.extra 0 is)
    ] refl
  where
    reservation : o.extra ≡ 0 → IsController (reservation_aged o)
    reservation level =
        elim (nat_lt 1 o.other_ticks) as (λ b. nat_lt 1 o.other_ticks ≡ b → IsController (if b then record o { other_ticks = o.other_ticks - 1 } else record o { other = 0; other_ticks = 0 })) [
          | true ↦ λ runs. (
              let more = ltb-true 1 o.other_ticks runs in
              record {
                unowned = s.unowned;
                owned = s.owned;
                hits = s.hits;
                energy = s.energy;
                timer = s.timer;
                extra = s.extra;
                progress = s.progress;
                other = s.other;
                unreserved = λ none. (let zero_ticks = sym (ticks_kept o.extra o.other_ticks level) ∙ s.unreserved none in omega (arith, zero_ticks));
                reserved = λ another. (let ticks = reserved_ticks o level s another in (omega (arith, more), omega (arith, ticks)));
                body = s.body;
              })
          | false ↦ λ over. record {
            unowned = s.unowned;
            owned = s.owned;
            hits = s.hits;
            energy = s.energy;
            timer = s.timer;
            extra = s.extra;
            progress = s.progress;
            other = λ another. absurd (another refl);
            unreserved = λ none. refl;
            reserved = λ another. absurd (another refl);
            body = s.body;
          }
        ] refl

    owned : o.extra ≢ 0 → IsController (owned_aged o)
    owned level =
        let l = levelled o (λ none. level (s.unowned none)) s in
        elim (nat_lt 1 o.timer) as (λ b. nat_lt 1 o.timer ≡ b → IsController (if b then record o { timer = o.timer - 1; other_ticks = 0 } else downgraded (record o { other_ticks = 0 }))) [
          | true ↦ λ runs. (
              let more = ltb-true 1 o.timer runs in
              plain_levelled (record o { timer = o.timer - 1; other_ticks = 0 }) refl (l.0, l.1, l.2, l.3, l.4, (omega (arith, more), omega (arith, l.5)), l.6, l.7, l.8))
          | false ↦ λ over. fallen_range o l
        ] refl

aged_ranges : (k : Kind) (o : Object) → IsInRangeIn k summed o → IsInRangeIn k moved (controller_aged_as k o)
aged_ranges Controller o s = aged_range o s
aged_ranges k o s = s

-- ---- owners

-- Owner and reserver are as before, or nobody.
fewer_owners : (players : ℕ → Bool) (before after : Object) → IsPlaced before after → (after.owner ≢ 0 → after.owner ≡ before.owner) → (after.other ≢ 0 → after.other ≡ before.other) → HasRightOwner players before → HasRightOwner players after
fewer_owners players before after placed owner other right = record {
  owner = λ some. (let same = owner some in let r = right.owner (λ none. some (same ∙ none)) in (ap players same ∙ r.0, ap may_have_owner placed.kind ∙ r.1));
  other = λ some. (let same = other some in let r = right.other (λ none. some (same ∙ none)) in (ap players same ∙ r.0, ap is_controller placed.kind ∙ r.1));
}

-- A change that leaves an object where it is, and gives it to nobody else.
abbrev Leaves : Object → Object → Type 0
Leaves before after = IsPlaced before after × (after.owner ≢ 0 → after.owner ≡ before.owner) × (after.other ≢ 0 → after.other ≡ before.other)

aged_leaves : (k : Kind) (o : Object) → Leaves o (controller_aged_as k o)
aged_leaves Controller o =
    elim (o.extra == 0) as (λ b. Leaves o (if b then reservation_aged o else owned_aged o)) [
      | true ↦ elim (nat_lt 1 o.other_ticks) as (λ b. Leaves o (if b then record o { other_ticks = o.other_ticks - 1 } else record o { other = 0; other_ticks = 0 })) [
        | true ↦ (record { id = refl; kind = refl; x = refl; y = refl }, λ some. refl, λ some. refl)
        | false ↦ (record { id = refl; kind = refl; x = refl; y = refl }, λ some. refl, λ some. absurd (some refl))
      ]
      | false ↦ elim (nat_lt 1 o.timer) as (λ b. Leaves o (if b then record o { timer = o.timer - 1; other_ticks = 0 } else downgraded (record o { other_ticks = 0 }))) [
        | true ↦ (record { id = refl; kind = refl; x = refl; y = refl }, λ some. refl, λ some. refl)
        | false ↦ (record { id = refl; kind = refl; x = refl; y = refl }, owner_left (o.extra - 1 == 0) o.owner, λ some. refl)
      ]
    ]
  where
    owner_left : (b : Bool) (n : ℕ) → (if b then 0 else n) ≢ 0 → (if b then 0 else n) ≡ n
    owner_left true n some = absurd (some refl)
    owner_left false n some = refl
aged_leaves k o = (same_placed o o (IsSame-refl o), λ some. refl, λ some. refl)

module _ (players : ℕ → Bool) where
  -- Controllers lose time.
  pub keeps_controllers : (part : RoomPart) → KeepsRoomRules players summed part → KeepsRoomRules players moved (controllers_aged part)
  keeps_controllers = keeps_changes players summed moved (λ object. Some (controller_aged_as object.kind object)) (λ object after is.
      (let one : controller_aged_as object.kind object ≡ after = cc in
      let left = aged_leaves object.kind object in
      subst (λ (o : Object). IsPlaced object o × (HasRightOwner players object → HasRightOwner players o) × (IsInRangeIn object.kind summed object → IsInRangeIn o.kind moved o)) one (
        left.0,
        fewer_owners players object (controller_aged_as object.kind object) left.0 left.1 left.2,
        λ r. subst (λ (k : Kind). IsInRangeIn k moved (controller_aged_as object.kind object)) (sym left.0.kind) (aged_ranges object.kind object r),
      )))

-- ---- entries

claim_target : (k : Kind) → is_target ClaimController k ≡ true → k ≡ Controller
claim_target Controller is = refl
claim_target k is = absurd (cc)

upgrade_target : (k : Kind) → is_target Upgrade k ≡ true → k ≡ Controller
upgrade_target Controller is = refl
upgrade_target k is = absurd (cc)

reserve_target : (k : Kind) → is_target Reserve k ≡ true → k ≡ Controller
reserve_target Controller is = refl
reserve_target k is = absurd (cc)

attack_target : (k : Kind) → is_target AttackController k ≡ true → k ≡ Controller
attack_target Controller is = refl
attack_target k is = absurd (cc)

-- A change of a controller that is in its ranges as one.
as_controller : (o after : Object) → o.kind ≡ Controller → after.kind ≡ o.kind → (IsControllerWithin o → IsControllerWithin after) → IsInRangeIn o.kind within o → IsInRangeIn after.kind within after
as_controller o after is same keeps r =
    subst (λ (k : Kind). IsInRangeIn k within after) (sym (same ∙ is)) (keeps (subst (λ (k : Kind). IsInRangeIn k within o) is r))

module _ (players : ℕ → Bool) (entry : Intent) where
  abbrev Kept : RoomPart → Type 0
  Kept part = KeepsRoomRules players within part

  module _ (part : RoomPart) (k : Kept part) (creep : Object) (there : Holds part entry.actor creep) (kind : is_creep creep.kind ≡ true) where
    -- A creep has an owner,
    has_owner : 1 ≤ creep.owner
    has_owner = elim (cases_lt creep.owner 1) [
      | inl less ↦ absurd (k.ranges entry.actor creep there (λ r. (let some = of_creep creep.kind kind r in omega (arith, less, some))))
      | inr some ↦ some
    ]
      where
        of_creep : (one : Kind) → is_creep one ≡ true → IsInRangeIn one within creep → 1 ≤ creep.owner
        of_creep Creep is r = r.owner
        of_creep one is r = absurd (cc)

    -- who has an account,
    has_account : (creep.owner == entry.player) ≡ true → (1 ≤ entry.player) × (players entry.player ≡ true)
    has_account own =
        let same : creep.owner ≡ entry.player = eqb-true creep.owner entry.player own in
        let right = (k.owners entry.actor creep there).owner (λ none. omega (arith, has_owner, none)) in
        (omega (arith, has_owner, same), ap players (sym same) ∙ right.0)

    -- and carries no more than a body can.
    few_carried : creep.energy ≤ 2500
    few_carried = elim (cases_lt 2500 creep.energy) [
      | inl more ↦ absurd (k.ranges entry.actor creep there (λ r. (let few = creep_load within creep.kind creep kind r in omega (arith, more, few))))
      | inr few ↦ omega (arith, few)
    ]

  claim_keeps : PartiesKeep players within ClaimController (claimed_by entry.player) entry
  claim_keeps part k creep controller p =
      let is = claim_target controller.kind (target_kind ClaimController 1 entry part creep controller p.targets) in
      let account = has_account part k creep p.there p.kind p.own in
      keeps_given players within part k entry.target controller (claimed_for entry.player controller) p.at
      (record { id = refl; kind = refl; x = refl; y = refl })
      (record { owner = λ some. (account.1, ap may_have_owner is); other = λ some. absurd (some refl) })
      (as_controller controller (claimed_for entry.player controller) is refl (claimed_range entry.player controller account.0))

  pub keeps_claimed : (part : RoomPart) → Kept part → Kept (claimed entry part)
  keeps_claimed = keeps_parties players within ClaimController (claimed_by entry.player) entry claim_keeps

  reserve_keeps : PartiesKeep players within Reserve (reserved_by entry.player) entry
  reserve_keeps part k creep controller p =
      let is = reserve_target controller.kind (target_kind Reserve 1 entry part creep controller p.targets) in
      let account = has_account part k creep p.there p.kind p.own in
      let free = eqb-true controller.owner 0 (and_left (controller.owner == 0) ((controller.other == 0) || (controller.other == entry.player)) (and_left (is_free_for entry.player controller) true p.further)) in
      let after : Object = record controller { other = entry.player; other_ticks = ticks_reserved creep controller } in
      keeps_given players within part k entry.target controller after p.at
      (record { id = refl; kind = refl; x = refl; y = refl })
      (record { owner = (k.owners entry.target controller p.at).owner; other = λ some. (account.1, ap is_controller is) })
      (as_controller controller after is refl (reserved_range entry.player creep controller account.0 free))

  pub keeps_reserved : (part : RoomPart) → Kept part → Kept (reserved entry part)
  keeps_reserved = keeps_parties players within Reserve (reserved_by entry.player) entry reserve_keeps

  hurt_same : (creep o : Object) → IsSame o (controller_hurt creep o)
  hurt_same creep o =
      elim (o.owner == 0) as (λ b. IsSame o (if b then record o { other_ticks = max 1 (o.other_ticks - live_claim creep) } else record o { timer = max 1 (o.timer - 300 * live_claim creep) })) [
        | true ↦ record { id = refl; kind = refl; x = refl; y = refl; owner = refl; other = refl }
        | false ↦ record { id = refl; kind = refl; x = refl; y = refl; owner = refl; other = refl }
      ]

  hurt_keeps : PartiesKeep players within AttackController hurt_by entry
  hurt_keeps part k creep controller p =
      let is = attack_target controller.kind (target_kind AttackController 1 entry part creep controller p.targets) in
      let same = hurt_same creep controller in
      keeps_changed players within part k entry.target controller (controller_hurt creep controller) p.at same
      (as_controller controller (controller_hurt creep controller) is same.kind (hurt_range entry.player creep controller (and_left (is_anothers entry.player (Some controller)) true p.further)))

  pub keeps_hurt : (part : RoomPart) → Kept part → Kept (controller_attacked entry part)
  keeps_hurt = keeps_parties players within AttackController hurt_by entry hurt_keeps

  upgrade_keeps : PartiesKeep players within Upgrade upgraded_by entry
  upgrade_keeps part k creep controller p =
      let is = upgrade_target controller.kind (target_kind Upgrade 3 entry part creep controller p.targets) in
      let account = has_account part k creep p.there p.kind p.own in
      let amount : ℕ = work_taken creep controller in
      let few : amount ≤ 2500 = omega (arith, taken_most creep controller, few_carried part k creep p.there p.kind) in
      let same : controller.owner ≡ entry.player = eqb-true controller.owner entry.player (and_left (controller.owner == entry.player) (nat_le 1 creep.energy && true) p.further) in
      let like = worked_same amount controller in
      keeps_two players within part k entry.actor entry.target creep controller (with_less amount creep) (worked_on amount controller) p.there p.at
      (target_apart Upgrade 3 entry part creep controller p.targets refl) (same_less amount creep) like
      (less_range players within creep amount p.kind)
      (as_controller controller (worked_on amount controller) is like.kind (worked_range amount controller few (λ none. omega (arith, account.0, same, none))))

  pub keeps_upgraded : (part : RoomPart) → Kept part → Kept (upgraded entry part)
  keeps_upgraded = keeps_parties players within Upgrade upgraded_by entry upgrade_keeps
