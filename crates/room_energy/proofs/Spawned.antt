-- What a creep costs is gone, and what becomes of sites changes no energy.
use Rattle.std.proofs.Common.{◌≡◌, ◌⊎◌, inl, inr, ℕ, ◌+◌, ◌-◌, ◌*◌, ◌≤◌, ◌==◌, ◌&&◌, min, if◌then◌else◌, Bool, true, false, cond, List, [], ◌∷◌, ◌++◌, length, map, Option, Some, None, option_map, refl, sym, ap, subst, ◌∙◌, arith}
use Rattle.std.specs.List.{filter, sum_by}
use Rattle.std.specs.Ordering.{nat_cmp}
use Rattle.std.specs.Cmp.{nat_cmp_total, unsigned_tied}
use Rattle.std.specs.FinMap.{find, get, values, entries, entries_sorted, get-entries, get-insert}
use Rattle.std.proofs.lemmas.Bool.{cases_lt, leb-true, ne_eqb}
use Rattle.std.proofs.lemmas.List.Sums.{sum_by-append, sum_by-cons}
use Rattle.game_tables.specs.Bodies.{body_cost}
use Rattle.game_tables.specs.Kinds.{is_site}
use Rattle.game_tables.specs.Numbers.{kind_number}
use Rattle.game_tables.specs.declared.kind.Kind.{Kind}
use Rattle.game_tables.specs.declared.kind.Kind.TheVariants.{Spawn, Extension, Site}
use Rattle.game_tables.specs.declared.kind.Part.{Part}
use Rattle.intent_book.specs.declared.intent.Intent.{Intent}
use Rattle.room_table.specs.declared.object.Object.{Object}
use Rattle.world_rules.specs.RoomParts.{RoomPart}
use Rattle.world_rules.specs.Changes.{put, with_new, with_object, without}
use Rattle.world_rules.specs.Checks.{all_hold, holds_of, standing_at}
use Rattle.world_rules.specs.Loads.{with_less}
use Rattle.world_rules.specs.Sights.{is_visible}
use Rattle.world_rules.specs.Sites.{making_checks, plan_of, removal_checks, removing_checks, site_made, site_of, site_removed}
use Rattle.world_rules.specs.Spawns.{begun_with, creep_begun, held_by, holds_for_creeps, is_body, is_payable, paid, payers, share, spawn_checks, those_of}
use Rattle.world_rules.specs.Steps.{by_object}
use Rattle.world_rules.proofs.Checked.{and_left, and_right}
use Rattle.world_rules.proofs.Keys.{AreKeysOnce, once_of_sorted}
use Rattle.room_commutes.proofs.CreepsApart.{has_stands}
use Rattle.room_commutes.proofs.Members.{Has, append_cases, has_filter, has_found, has_map, map_has}
use Rattle.room_rules.specs.Within.{Stage, IsInRangeIn}
use Rattle.room_rules.specs.RoomRules.{Holds, KeepsRoomRules}
use Rattle.room_energy.specs.Energy.{cost_of, energy_in}
use Rattle.room_energy.proofs.Parts.{IsReady, energy_changed, energy_new, energy_without, ready_changed, under_own}
use Rattle.room_energy.proofs.Totals.{found_energy}

-- ---- ids that stand once

abbrev AreOnce : List ℕ → Type 0
AreOnce [] = Unit {0}
AreOnce (id ∷ later) = (Has later id → ⊥) × AreOnce later

once_filtered : (test : Object → Bool) (objects : List Object) → AreOnce (map (λ object. object.id) objects) → AreOnce (map (λ object. object.id) (filter test objects))
once_filtered test [] once = tt
once_filtered test (object ∷ later) once =
    let rest = once_filtered test later once.1 in
    elim (test object) as (λ b. AreOnce (map (λ (o : Object). o.id) (cond b (object ∷ filter test later) (filter test later)))) [
      | true ↦ ((λ has. once.0 (from_filtered object.id has)), rest)
      | false ↦ rest
    ]
  where
    from_filtered : (id : ℕ) → Has (map (λ (o : Object). o.id) (filter test later)) id → Has (map (λ (o : Object). o.id) later) id
    from_filtered id has =
        let one = map_has (λ (o : Object). o.id) (filter test later) id has in
        subst (Has (map (λ (o : Object). o.id) later)) one.2 (has_map (λ (o : Object). o.id) later one.0 (has_filter test later one.0 one.1).0)

once_joined : (one other : List ℕ) → AreOnce one → AreOnce other → ((id : ℕ) → Has one id → Has other id → ⊥) → AreOnce (one ++ other)
once_joined [] other first second apart = second
once_joined (id ∷ later) other first second apart = (
  (λ has. elim (append_cases later other id has) [ inl own ↦ first.0 own | inr others ↦ apart id (inl refl) others ]),
  once_joined later other first.1 second (λ key own others. apart key (inr own) others),
)

once_listed : (es : List (ℕ × Object)) → AreKeysOnce es → ((e : ℕ × Object) → Has es e → e.1.id ≡ e.0) → AreOnce (map (λ (o : Object). o.id) (map (λ (e : ℕ × Object). e.1) es))
once_listed [] once own = tt
once_listed (e ∷ es) once own = (
  (λ has. (
      let one = map_has (λ (o : Object). o.id) (map (λ (f : ℕ × Object). f.1) es) e.1.id has in
      let entry = map_has (λ (f : ℕ × Object). f.1) es one.0 one.1 in
      let key : entry.0.0 ≡ e.0 = sym (own entry.0 (inr entry.1)) ∙ ap (λ (o : Object). o.id) entry.2 ∙ one.2 ∙ own e (inl refl) in
      none_there entry.0.1 (find nat_cmp e.0 es) once.0 (ap (λ (n : ℕ). find nat_cmp n es) (sym key) ∙ has_found es once.1 entry.0 entry.1))),
  once_listed es once.1 (λ f has. own f (inr has)),
)
  where
    none_there : (object : Object) (found : Option Object) → found ≡ None → found ≡ Some object → ⊥
    none_there object found none some = cc

-- ---- what the payers hold

of_spawns : (kind : Kind) → (kind_number kind == kind_number Spawn) ≡ true → kind ≡ Spawn
of_spawns Spawn is = refl
of_spawns kind is = absurd (cc)

of_extensions : (kind : Kind) → (kind_number kind == kind_number Extension) ≡ true → kind ≡ Extension
of_extensions Extension is = refl
of_extensions kind is = absurd (cc)

-- an object that holds energy for creeps is a spawn or an extension, and not both
abbrev Splits : Kind → Bool → Type 0
Splits kind own =
    ((((kind_number kind == kind_number Spawn) && own) ≡ (holds_for_creeps kind && own)) × (((kind_number kind == kind_number Extension) && own) ≡ false))
    ⊎ ((((kind_number kind == kind_number Spawn) && own) ≡ false) × (((kind_number kind == kind_number Extension) && own) ≡ (holds_for_creeps kind && own)))

splits : (kind : Kind) (own : Bool) → Splits kind own
splits Extension own = inr (refl, refl)
splits kind own = inl (refl, refl)

filtered_sum : (test : Object → Bool) (object : Object) (later : List Object) → sum_by (λ (o : Object). o.energy) (filter test (object ∷ later)) ≡ cond {A = ℕ} (test object) object.energy 0 + sum_by (λ (o : Object). o.energy) (filter test later)
filtered_sum test object later = elim (test object) as (λ b. sum_by (λ (o : Object). o.energy) (cond b (object ∷ filter test later) (filter test later)) ≡ cond {A = ℕ} b object.energy 0 + sum_by (λ (o : Object). o.energy) (filter test later)) [
  | true ↦ sum_by-cons (λ (o : Object). o.energy) object (filter test later)
  | false ↦ omega arith
]

module _ (owner : ℕ) where
  abbrev is_spawn : Object → Bool
  is_spawn object = (kind_number object.kind == kind_number Spawn) && (object.owner == owner)

  abbrev is_extension : Object → Bool
  is_extension object = (kind_number object.kind == kind_number Extension) && (object.owner == owner)

  abbrev holds : Object → Bool
  holds object = holds_for_creeps object.kind && (object.owner == owner)

  abbrev energies : List Object → ℕ
  energies objects = sum_by (λ (o : Object). o.energy) objects

  held_split : (objects : List Object) → energies (filter is_spawn objects) + energies (filter is_extension objects) ≡ energies (filter holds objects)
  held_split [] = refl
  held_split (object ∷ later) =
      let rest = held_split later in
      let spawns = filtered_sum is_spawn object later in
      let extensions = filtered_sum is_extension object later in
      let all = filtered_sum holds object later in
      elim (splits object.kind (object.owner == owner)) [
        | inl split ↦
            let one = ap (λ (b : Bool). cond {A = ℕ} b object.energy 0) split.0 in
            let other = ap (λ (b : Bool). cond {A = ℕ} b object.energy 0) split.1 in
            omega (arith, rest, spawns, extensions, all, one, other)
        | inr split ↦
            let one = ap (λ (b : Bool). cond {A = ℕ} b object.energy 0) split.0 in
            let other = ap (λ (b : Bool). cond {A = ℕ} b object.energy 0) split.1 in
            omega (arith, rest, spawns, extensions, all, one, other)
      ]

-- ---- what is paid

abbrev energy_at : RoomPart → ℕ → ℕ
energy_at part id = found_energy (get part.objects id)

abbrev held_at : RoomPart → List ℕ → ℕ
held_at part ids = sum_by (energy_at part) ids

abbrev pay : ℕ → Object → RoomPart → RoomPart
pay amount object = with_object (with_less amount object)

share_is : (cost : ℕ) (found : Option Object) → share cost found ≡ min (found_energy found) cost
share_is cost None = omega arith
share_is cost (Some payer) = refl

put_elsewhere : (part : RoomPart) (object : Object) (found : Option Object) (id : ℕ) → (id ≡ object.id → ⊥) → get (put object part found).objects id ≡ get part.objects id
put_elsewhere part object None id apart = refl
put_elsewhere part object (Some old) id apart = get-insert nat_cmp_total part.objects object.id object id ∙ ap (λ (b : Bool). cond b (Some object) (get part.objects id)) (unsigned_tied id object.id ∙ ne_eqb id object.id apart)

module _ (part : RoomPart) (ready : IsReady part) (id cost : ℕ) where
  abbrev found : Option Object
  found = get part.objects id

  abbrev after : RoomPart
  after = by_object (pay (share cost found)) part found

  step_pays : (one : Option Object) → get part.objects id ≡ one → (energy_in (by_object (pay (share cost one)) part one) + share cost one ≡ energy_in part) × IsReady (by_object (pay (share cost one)) part one)
      × ((other : ℕ) → (other ≡ id → ⊥) → get (by_object (pay (share cost one)) part one).objects other ≡ get part.objects other)
  step_pays None is = (omega arith, ready, λ other apart. refl)
  step_pays (Some payer) is =
      let less : Object = with_less (share cost (Some payer)) payer in
      let own : payer.id ≡ id = ready.ids id payer is in
      let changed = energy_changed part less payer (under_own part ready id payer is) in
      (omega (arith, changed), ready_changed part less ready, λ other apart. put_elsewhere part less (get part.objects less.id) other (λ same. apart (same ∙ own)))

held_elsewhere : (part other : RoomPart) (id : ℕ) (ids : List ℕ) → (Has ids id → ⊥) → ((key : ℕ) → (key ≡ id → ⊥) → get other.objects key ≡ get part.objects key) → held_at other ids ≡ held_at part ids
held_elsewhere part other id [] none same = refl
held_elsewhere part other id (key ∷ later) none same =
    let one = ap found_energy (same key (λ is. none (inl is))) in
    let rest = held_elsewhere part other id later (λ has. none (inr has)) same in
    omega (arith, one, rest, sum_by-cons (energy_at other) key later, sum_by-cons (energy_at part) key later)

-- Ids that stand once pay what they hold, as far as it is to be paid.
paid_takes : (ids : List ℕ) (cost : ℕ) (part : RoomPart) → IsReady part → AreOnce ids → (energy_in (paid ids cost part) + min cost (held_at part ids) ≡ energy_in part) × IsReady (paid ids cost part)
paid_takes [] cost part ready once = (omega arith, ready)
paid_takes (id ∷ later) cost part ready once =
    let amount : ℕ = share cost (get part.objects id) in
    let middle : RoomPart = by_object (pay amount) part (get part.objects id) in
    let step = step_pays part ready id cost (get part.objects id) refl in
    let rest = paid_takes later (cost - amount) middle step.1 once.1 in
    let same = held_elsewhere part middle id later once.0 step.2 in
    let left = rest.0 in
    let first = step.0 in
    (omega (arith, left, first, same, share_is cost (get part.objects id), sum_by-cons (energy_at part) id later), rest.1)

-- ---- who pays

module _ (part : RoomPart) (ready : IsReady part) (owner : ℕ) where
  stands : (object : Object) → Has (values part.objects) object → Holds part object.id object
  stands object has = (let at = has_stands part object has in under_own part ready at.0 object at.1)

  values_once : AreOnce (map (λ (o : Object). o.id) (values part.objects))
  values_once =
      once_listed (entries part.objects) (once_of_sorted (entries part.objects) (entries_sorted part.objects))
      (λ e has. ready.ids e.0 e.1 (get-entries part.objects e.0 ∙ has_found (entries part.objects) (once_of_sorted (entries part.objects) (entries_sorted part.objects)) e has))

  same_stands : (one other : Object) → Has (values part.objects) one → Has (values part.objects) other → one.id ≡ other.id → one ≡ other
  same_stands one other h g same = only (get part.objects one.id) (stands one h) (ap (get part.objects) same ∙ stands other g)
    where
      only : (found : Option Object) → found ≡ Some one → found ≡ Some other → one ≡ other
      only found first second = cc

  payers_once : AreOnce (payers owner (values part.objects))
  payers_once =
      once_joined (those_of Spawn owner (values part.objects)) (those_of Extension owner (values part.objects))
      (once_filtered (is_spawn owner) (values part.objects) values_once) (once_filtered (is_extension owner) (values part.objects) values_once)
      (λ id spawns extensions. (
      let one = map_has (λ (o : Object). o.id) (filter (is_spawn owner) (values part.objects)) id spawns in
      let other = map_has (λ (o : Object). o.id) (filter (is_extension owner) (values part.objects)) id extensions in
      let first = has_filter (is_spawn owner) (values part.objects) one.0 one.1 in
      let second = has_filter (is_extension owner) (values part.objects) other.0 other.1 in
      let same = same_stands one.0 other.0 first.0 second.0 (one.2 ∙ sym other.2) in
      let spawn = of_spawns one.0.kind (and_left (kind_number one.0.kind == kind_number Spawn) (one.0.owner == owner) first.1) in
      let extension = of_extensions other.0.kind (and_left (kind_number other.0.kind == kind_number Extension) (other.0.owner == owner) second.1) in
      let number : kind_number Spawn ≡ kind_number Extension = ap kind_number (sym spawn ∙ ap (λ (o : Object). o.kind) same ∙ extension) in
      omega (arith, number)))

  held_there : (objects : List Object) → ((object : Object) → Has objects object → Holds part object.id object) → held_at part (map (λ (o : Object). o.id) objects) ≡ sum_by (λ (o : Object). o.energy) objects
  held_there [] all = refl
  held_there (object ∷ later) all =
      let one = ap found_energy (all object (inl refl)) in
      let rest = held_there later (λ o has. all o (inr has)) in
      omega (arith, one, rest, sum_by-cons (energy_at part) object.id (map (λ (o : Object). o.id) later), sum_by-cons (λ (o : Object). o.energy) object later)

  payers_hold : held_at part (payers owner (values part.objects)) ≡ held_by owner (values part.objects)
  payers_hold =
      let spawns : List Object = filter (is_spawn owner) (values part.objects) in
      let extensions : List Object = filter (is_extension owner) (values part.objects) in
      let both = sum_by-append (energy_at part) (map (λ (o : Object). o.id) spawns) (map (λ (o : Object). o.id) extensions) in
      let one = held_there spawns (λ o has. stands o (has_filter (is_spawn owner) (values part.objects) o has).0) in
      let other = held_there extensions (λ o has. stands o (has_filter (is_extension owner) (values part.objects) o has).0) in
      omega (arith, both, one, other, held_split owner (values part.objects))

-- ---- a creep that is begun

begun_alike : (body : List Part) (part : RoomPart) → IsReady part → (id : ℕ) (found : Option Object) → get part.objects id ≡ found → energy_in (by_object (begun_with body) part found) ≡ energy_in part
begun_alike body part ready id None is = refl
begun_alike body part ready id (Some spawn) is =
    let busy : Object = record spawn { body = body; timer = 3 * length body } in
    let changed = energy_changed part busy spawn (under_own part ready id spawn is) in
    omega (arith, changed)

-- the last of five checks
fifth_of : (one two three four five : Bool) → (one && (two && (three && (four && (five && true))))) ≡ true → five ≡ true
fifth_of one two three four five is =
    and_left five true (and_right four (five && true) (and_right three (four && (five && true)) (and_right two (three && (four && (five && true))) (and_right one (two && (three && (four && (five && true)))) is))))

module _ (part : RoomPart) (ready : IsReady part) (entry : Intent) where
  abbrev around : List Object
  around = values part.objects

  abbrev hold : Bool
  hold = all_hold (spawn_checks entry.player (standing_at part entry.actor) around (Some entry.body))

  payable : hold ≡ true → body_cost entry.body ≤ held_by entry.player around
  payable is =
      leb-true (body_cost entry.body) (held_by entry.player around) (
      fifth_of (holds_of (standing_at part entry.actor) (λ object. kind_number object.kind == kind_number Spawn)) (holds_of (standing_at part entry.actor) (λ object. object.owner == entry.player))
      (holds_of (standing_at part entry.actor) (λ object. object.timer == 0)) (is_body (Some entry.body)) (is_payable entry.player around (Some entry.body)) is
      )

  pub energy_begun : energy_in (creep_begun entry part) + cost_of entry part ≡ energy_in part
  energy_begun =
      let after : RoomPart = paid (payers entry.player around) (body_cost entry.body) part in
      elim hold as (λ b. hold ≡ b → energy_in (if b then by_object (begun_with entry.body) after (get after.objects entry.actor) else part) + (if b then body_cost entry.body else 0) ≡ energy_in part) [
        | true ↦ λ is.
            let paying = paid_takes (payers entry.player around) (body_cost entry.body) part ready (payers_once part ready entry.player) in
            let taken = paying.0 in
            let begun = begun_alike entry.body after paying.1 entry.actor (get after.objects entry.actor) refl in
            omega (arith, taken, begun, payable is, payers_hold part ready entry.player)
        | false ↦ λ is. omega arith
      ] refl

  pub energy_site_made : energy_in (site_made entry part) + 0 ≡ energy_in part
  energy_site_made =
      let made = energy_new part ready (site_of (plan_of entry part)) in
      elim (all_hold (making_checks entry part)) as (λ b. energy_in (if b then with_new (site_of (plan_of entry part)) part else part) + 0 ≡ energy_in part) [
        | true ↦ omega (arith, made)
        | false ↦ omega arith
      ]

-- ---- a site that is removed

no_energy : (stage : Stage) (kind : Kind) (o : Object) → is_site kind ≡ true → IsInRangeIn kind stage o → o.energy ≡ 0
no_energy stage Site o is s = s.energy
no_energy stage kind o is s = absurd (cc)

module _ (players : ℕ → Bool) (stage : Stage) (part : RoomPart) (k : KeepsRoomRules players stage part) (entry : Intent) where
  removed_alike : (found : Option Object) → get part.objects entry.actor ≡ found → all_hold (removal_checks entry.player (option_map (λ object. record { room = part.index; object = object }) found)) ≡ true → energy_in (without entry.actor part) ≡ energy_in part
  removed_alike None is hold = absurd (cc)
  removed_alike (Some site) is hold =
      let kind = and_left (is_site site.kind) ((site.owner == entry.player) && true) hold in
      let gone = energy_without part entry.actor site is in
      let none : site.energy ≤ 0 = elim (cases_lt 0 site.energy) [
        | inl some ↦ absurd (k.ranges entry.actor site is (λ r. (let nothing = no_energy stage site.kind site kind r in omega (arith, some, nothing))))
        | inr nothing ↦ omega (arith, nothing)
      ] in
      omega (arith, gone, none)

  pub energy_site_removed : energy_in (site_removed entry part) + 0 ≡ energy_in part
  energy_site_removed =
      elim (all_hold (removing_checks entry part)) as (λ b. all_hold (removing_checks entry part) ≡ b → energy_in (if b then without entry.actor part else part) + 0 ≡ energy_in part) [
        | true ↦ λ hold. (let same = removed_alike (get part.objects entry.actor) refl (and_right (is_visible entry.player part) (all_hold (removal_checks entry.player (standing_at part entry.actor))) hold) in omega (arith, same))
        | false ↦ λ fails. omega arith
      ] refl
