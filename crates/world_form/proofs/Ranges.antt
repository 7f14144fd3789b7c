-- The ranges of each kind's fields are within a file's.
use Rattle.std.proofs.Common.{◌≡◌, ℕ, zero, suc, ◌-◌, ◌*◌, ◌^◌, ◌≤◌, true, List, [], ◌∷◌, length, Option, Some, None, ap, arith, inl, inr}
use Rattle.std.specs.Prelude.{⊤, slice_index_or}
use Rattle.std.specs.List.{AllByRecursion}
use Rattle.std.proofs.lemmas.Bool.{cases_eq, cond_both}
use Rattle.std.proofs.lemmas.List.Sums.{count_by-le-length}
use Rattle.game_tables.specs.declared.kind.Kind.{Kind}
use Rattle.game_tables.specs.declared.kind.Kind.TheVariants as kinds
use Rattle.game_tables.specs.declared.kind.Part.{Part}
use Rattle.game_tables.specs.declared.kind.Part.TheVariants as parts
use Rattle.game_tables.specs.Bodies.{most_parts, has_part, lifetime, live_parts, live_count, same_part}
use Rattle.game_tables.specs.Kinds.{is_in_rules, hits_max, build_total}
use Rattle.game_tables.specs.Fields.{most_energy, most_timer}
use Rattle.game_tables.specs.Levels.{totals, downgrades, total_for_next, downgrade_number}
use Rattle.game_tables.specs.Numbers.{kind_number}
use Rattle.room_table.specs.declared.object.Object.{Object}
use Rattle.world_rules.specs.Rules.{IsProgress, IsDowngradeTimer, IsSource, IsController, IsCreep, IsSpawn, IsStore, IsDecaying, IsPile, IsSite, IsInRangeAs}

-- The kind is one of the rules in force, and the fields but for its id and its players are in a file's ranges.
pub record IsSmall (o : Object) : Type 0 where
  pub in_rules : is_in_rules o.kind 1 ≡ true
  pub hits : o.hits ≤ 2 ^ 32 - 1
  pub energy : o.energy ≤ 2 ^ 53
  pub timer : o.timer ≤ 2 ^ 32 - 1
  pub extra : o.extra ≤ 2 ^ 32 - 1
  pub progress : o.progress ≤ 2 ^ 53
  pub other_ticks : o.other_ticks ≤ 2 ^ 32 - 1
  pub body : length o.body ≤ most_parts

-- ---- tables

abbrev AtMost : ℕ → Option ℕ → Type 0
AtMost bound None = ⊤
AtMost bound (Some n) = n ≤ bound

at_most : (bound : ℕ) (entries : List (Option ℕ)) → AllByRecursion (AtMost bound) entries → (level : ℕ) → AtMost bound (slice_index_or entries level None)
at_most bound [] all level = tt
at_most bound (entry ∷ entries) all zero = all.0
at_most bound (entry ∷ entries) all (suc level) = at_most bound entries all.1 level

downgrade_most : (level : ℕ) → AtMost 200000 (downgrade_number level)
downgrade_most level =
    at_most 200000 downgrades
    (tt, (omega arith, (omega arith, (omega arith, (omega arith, (omega arith, (omega arith, (omega arith, (omega arith, tt))))))))) level

total_most : (level : ℕ) → AtMost 10935000 (total_for_next level)
total_most level =
    at_most 10935000 totals
    (tt, (omega arith, (omega arith, (omega arith, (omega arith, (omega arith, (omega arith, (omega arith, (tt, tt))))))))) level

timer_most : (bound : ℕ) (full : Option ℕ) (timer : ℕ) → AtMost bound full → IsDowngradeTimer full timer → timer ≤ bound
timer_most bound None timer most is = omega (arith, is)
timer_most bound (Some full) timer most is = let low : timer ≤ full = is.1 in omega arith

progress_most : (bound : ℕ) (total : Option ℕ) (progress : ℕ) → AtMost bound total → IsProgress total progress → progress ≤ bound
progress_most bound None progress most is = omega (arith, is)
progress_most bound (Some total) progress most is = omega (arith, is)

work_most : (kind : Kind) → AtMost 30000 (build_total kind)
work_most kinds.Source = tt
work_most kinds.Controller = tt
work_most kinds.Creep = tt
work_most kinds.Spawn = omega arith
work_most kinds.Extension = omega arith
work_most kinds.Storage = omega arith
work_most kinds.Container = omega arith
work_most kinds.Road = omega arith
work_most kinds.Pile = tt
work_most kinds.Site = tt
work_most kinds.Tower = tt
work_most kinds.Rampart = tt
work_most kinds.Wall = tt
work_most kinds.Tombstone = tt

number_most : (kind : Kind) → kind_number kind ≤ 14
number_most kinds.Source = omega arith
number_most kinds.Controller = omega arith
number_most kinds.Creep = omega arith
number_most kinds.Spawn = omega arith
number_most kinds.Extension = omega arith
number_most kinds.Storage = omega arith
number_most kinds.Container = omega arith
number_most kinds.Road = omega arith
number_most kinds.Pile = omega arith
number_most kinds.Site = omega arith
number_most kinds.Tower = omega arith
number_most kinds.Rampart = omega arith
number_most kinds.Wall = omega arith
number_most kinds.Tombstone = omega arith

live_short : (hits : ℕ) (body : List Part) → length (live_parts hits body) ≤ length body
live_short hits [] = omega arith
live_short hits (part ∷ rest) =
    let short : length (live_parts hits rest) ≤ length rest = live_short hits rest in
    cond_both _ (part ∷ live_parts hits rest) (live_parts hits rest) (λ live. length live ≤ suc (length rest)) (λ e. omega arith) (λ e. omega arith)

carried_most : (part : Part) (hits : ℕ) (body : List Part) → live_count part hits body ≤ length body
carried_most part hits body = omega (arith, count_by-le-length (same_part part) (live_parts hits body), live_short hits body)

lifetime_most : (body : List Part) → lifetime body ≤ 1500
lifetime_most body = cond_both (has_part parts.Claim body) 600 1500 (λ n. n ≤ 1500) (λ e. omega arith) (λ e. omega arith)

none_most : (body : List Part) → body ≡ [] → length body ≤ most_parts
none_most body none = omega (arith, ap length none)

-- ---- the kinds

source_small : (o : Object) → o.kind ≡ kinds.Source → IsSource o → IsSmall o
source_small o is s = record {
  in_rules = ap (λ kind. is_in_rules kind 1) is;
  hits = omega arith;
  energy = omega arith;
  timer = omega arith;
  extra = omega arith;
  progress = omega arith;
  other_ticks = omega arith;
  body = none_most o.body s.body;
}

controller_small : (o : Object) → o.kind ≡ kinds.Controller → IsController o → IsSmall o
controller_small o is s =
    let timer = timer_most 200000 (downgrade_number o.extra) o.timer (downgrade_most o.extra) s.timer in
    let progress = progress_most 10935000 (total_for_next o.extra) o.progress (total_most o.extra) s.progress in
    let ticks : o.other_ticks ≤ 5000 = elim (cases_eq o.other 0) [ inl nobody ↦ (let none = s.unreserved nobody in omega arith) | inr some ↦ (s.reserved some).1 ] in
    record {
      in_rules = ap (λ kind. is_in_rules kind 1) is;
      hits = omega arith;
      energy = omega arith;
      timer = omega arith;
      extra = omega arith;
      progress = omega arith;
      other_ticks = omega arith;
      body = none_most o.body s.body;
    }

creep_small : (o : Object) → o.kind ≡ kinds.Creep → IsCreep o → IsSmall o
creep_small o is s =
    let hits : o.hits ≤ 100 * length o.body = s.hits.1 in
    let long : length o.body ≤ 50 = s.parts in
    let load : o.energy ≤ 50 * live_count parts.Carry o.hits o.body = s.energy in
    let carried = carried_most parts.Carry o.hits o.body in
    let life : o.timer ≤ lifetime o.body = s.timer.1 in
    let years = lifetime_most o.body in
    record {
      in_rules = ap (λ kind. is_in_rules kind 1) is;
      hits = omega arith;
      energy = omega arith;
      timer = omega arith;
      extra = omega arith;
      progress = omega arith;
      other_ticks = omega arith;
      body = s.parts;
    }

spawn_small : (o : Object) → o.kind ≡ kinds.Spawn → IsSpawn o → IsSmall o
spawn_small o is s =
    let hits : o.hits ≤ 5000 = s.hits.1 in
    let long : length o.body ≤ 50 = s.parts in
    let timer : o.timer ≤ 3 * length o.body = s.timer in
    record {
      in_rules = ap (λ kind. is_in_rules kind 1) is;
      hits = omega arith;
      energy = omega arith;
      timer = omega arith;
      extra = omega arith;
      progress = omega arith;
      other_ticks = omega arith;
      body = s.parts;
    }

store_small : (kind : Kind) (o : Object) → is_in_rules o.kind 1 ≡ true → ((body : List Part) → hits_max kind body ≤ 10000) → ((hits : ℕ) (body : List Part) → most_energy kind hits body ≤ 1000000) → IsStore kind o → IsSmall o
store_small kind o known full room s =
    let hits : o.hits ≤ hits_max kind o.body = s.hits.1 in
    let most = full o.body in
    let energy : o.energy ≤ most_energy kind o.hits o.body = s.energy in
    let holds = room o.hits o.body in
    record {
      in_rules = known;
      hits = omega arith;
      energy = omega arith;
      timer = omega arith;
      extra = omega arith;
      progress = omega arith;
      other_ticks = omega arith;
      body = none_most o.body s.body;
    }

decaying_small : (kind : Kind) (o : Object) → is_in_rules o.kind 1 ≡ true → ((body : List Part) → hits_max kind body ≤ 250000) → ((hits : ℕ) (body : List Part) → most_energy kind hits body ≤ 2000)
    → ((extra : ℕ) (body : List Part) → most_timer kind extra body ≤ 1000) → IsDecaying kind o → IsSmall o
decaying_small kind o known full room decay s =
    let hits : o.hits ≤ hits_max kind o.body = s.hits.1 in
    let most = full o.body in
    let energy : o.energy ≤ most_energy kind o.hits o.body = s.energy in
    let holds = room o.hits o.body in
    let timer : o.timer ≤ most_timer kind o.extra o.body = s.timer.1 in
    let lasts = decay o.extra o.body in
    record {
      in_rules = known;
      hits = omega arith;
      energy = omega arith;
      timer = omega arith;
      extra = omega arith;
      progress = omega arith;
      other_ticks = omega arith;
      body = none_most o.body s.body;
    }

pile_small : (o : Object) → o.kind ≡ kinds.Pile → IsPile o → IsSmall o
pile_small o is s =
    let energy : o.energy ≤ 1000000000 = s.energy.1 in
    record {
      in_rules = ap (λ kind. is_in_rules kind 1) is;
      hits = omega arith;
      energy = omega arith;
      timer = omega arith;
      extra = omega arith;
      progress = omega arith;
      other_ticks = omega arith;
      body = none_most o.body s.body;
    }

site_small : (o : Object) → o.kind ≡ kinds.Site → IsSite o → IsSmall o
site_small o is s =
    let number : o.extra ≡ kind_number s.built.0 = s.built.2 in
    let most = number_most s.built.0 in
    let progress = progress_most 30000 (build_total s.built.0) o.progress (work_most s.built.0) s.built.3 in
    record {
      in_rules = ap (λ kind. is_in_rules kind 1) is;
      hits = omega arith;
      energy = omega arith;
      timer = omega arith;
      extra = omega arith;
      progress = omega arith;
      other_ticks = omega arith;
      body = none_most o.body s.body;
    }

pub small_as : (kind : Kind) (o : Object) → o.kind ≡ kind → IsInRangeAs kind o → IsSmall o
small_as kinds.Source o is s = source_small o is s
small_as kinds.Controller o is s = controller_small o is s
small_as kinds.Creep o is s = creep_small o is s
small_as kinds.Spawn o is s = spawn_small o is s
small_as kinds.Extension o is s = store_small kinds.Extension o (ap (λ kind. is_in_rules kind 1) is) (λ body. omega arith) (λ hits body. omega arith) s
small_as kinds.Storage o is s = store_small kinds.Storage o (ap (λ kind. is_in_rules kind 1) is) (λ body. omega arith) (λ hits body. omega arith) s
small_as kinds.Container o is s = decaying_small kinds.Container o (ap (λ kind. is_in_rules kind 1) is) (λ body. omega arith) (λ hits body. omega arith) (λ extra body. omega arith) s
small_as kinds.Road o is s = decaying_small kinds.Road o (ap (λ kind. is_in_rules kind 1) is) (λ body. omega arith) (λ hits body. omega arith) (λ extra body. omega arith) s
small_as kinds.Pile o is s = pile_small o is s
small_as kinds.Site o is s = site_small o is s
small_as kinds.Tower o is s = absurd s
small_as kinds.Rampart o is s = absurd s
small_as kinds.Wall o is s = absurd s
small_as kinds.Tombstone o is s = absurd s
