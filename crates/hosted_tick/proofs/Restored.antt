-- Modules that are put in one after the other.
use Rattle.std.proofs.Common.{◌≡◌, ℕ, Bool, true, false, cond, List, [], ◌∷◌, ◌++◌, Option, Some, None, refl, sym, ap, ◌∙◌}
use Rattle.std.specs.Cmp.{nat_cmp_total, eq_by_cmp_equiv, unsigned_tied}
use Rattle.std.proofs.lemmas.Bool.{eq-eqb}
use Rattle.std.specs.FinMap.{empty, find, from_entries, get, get-from_entries, get-insert, insert, nat_cmp-IsAntisymmetric, same_map}
use Rattle.std.specs.List.Sorted.{IsStrictlySortedBy}
use Rattle.std.specs.Map.{keys_of}
use Rattle.std.specs.Ordering.{eq_by_cmp, nat_cmp}
use Rattle.std.proofs.lemmas.Map.{NonePasses}
use Rattle.std.proofs.lemmas.Map.Entries.{none_past_head}
use Rattle.std.proofs.lemmas.Map.Keys.{IsDistinct-from_sorted, sorted_tail}
use Rattle.hosted_tick.specs.Next.{Modules}

-- the modules with these put in, one after the other
abbrev pub inserted : Modules → List (ℕ × List ℕ) → Modules
inserted modules [] = modules
inserted modules (entry ∷ later) = inserted (insert modules entry.0 entry.1) later

pub inserted_more : (modules : Modules) (entries : List (ℕ × List ℕ)) (player : ℕ) (bytes : List ℕ)
    → inserted modules (entries ++ (player, bytes) ∷ []) ≡ insert (inserted modules entries) player bytes
inserted_more modules [] player bytes = refl
inserted_more modules (entry ∷ later) player bytes = inserted_more (insert modules entry.0 entry.1) later player bytes

-- the first of two that there is
abbrev or_else : Option (List ℕ) → Option (List ℕ) → Option (List ℕ)
or_else None other = other
or_else (Some bytes) other = Some bytes

none_found : (player : ℕ) (entries : List (ℕ × List ℕ)) → NonePasses (eq_by_cmp nat_cmp player) entries
    → find nat_cmp player entries ≡ None
none_found player [] none = refl
none_found player (entry ∷ later) none = rw none.0 (none_found player later none.1)

past : (here : Bool) (bytes : List ℕ) (later other : Option (List ℕ)) → (here ≡ true → later ≡ None)
    → or_else later (cond here (Some bytes) other) ≡ or_else (cond here (Some bytes) later) other
past true bytes later other none = ap (λ (o : Option (List ℕ)). or_else o (Some bytes)) (none refl)
past false bytes later other none = refl

get_inserted : (modules : Modules) (entries : List (ℕ × List ℕ)) → IsStrictlySortedBy nat_cmp (keys_of entries)
    → (player : ℕ) → get (inserted modules entries) player ≡ or_else (find nat_cmp player entries) (get modules player)
get_inserted modules [] sorted player = refl
get_inserted modules (entry ∷ later) sorted player =
    get_inserted (insert modules entry.0 entry.1) later (sorted_tail nat_cmp entry.0 (keys_of later) sorted) player
    ∙ (ap (or_else (find nat_cmp player later)) (get-insert nat_cmp_total modules entry.0 entry.1 player)
    ∙ past (eq_by_cmp nat_cmp player entry.0) entry.1 (find nat_cmp player later) (get modules player) (λ here.
    none_found player later (none_past_head (eq_by_cmp_equiv nat_cmp_total) player entry later
    (IsDistinct-from_sorted nat_cmp (keys_of (entry ∷ later)) sorted) here)))

-- What stands in a list in which each player stands once is found there.
pub found_middle : (done later : List (ℕ × List ℕ)) (player : ℕ) (bytes : List ℕ) → IsStrictlySortedBy nat_cmp (keys_of (done ++ (player, bytes) ∷ later))
    → find nat_cmp player (done ++ (player, bytes) ∷ later) ≡ Some bytes
found_middle [] later player bytes sorted = ap (λ (b : Bool). cond b (Some bytes) (find nat_cmp player later)) (unsigned_tied player player ∙ eq-eqb player player refl)
found_middle (entry ∷ done) later player bytes sorted =
    let more : List (ℕ × List ℕ) = done ++ (player, bytes) ∷ later in
    let rest = found_middle done later player bytes (sorted_tail nat_cmp entry.0 (keys_of more) sorted) in
    elim (eq_by_cmp nat_cmp player entry.0) as (λ b. eq_by_cmp nat_cmp player entry.0 ≡ b → cond b (Some entry.1) (find nat_cmp player more) ≡ Some bytes) [
      | true ↦ λ here.
          let none = none_found player more (none_past_head (eq_by_cmp_equiv nat_cmp_total) player entry more (IsDistinct-from_sorted nat_cmp (keys_of (entry ∷ more)) sorted) here) in
          absurd (cc)
      | false ↦ λ other. rest
    ] refl

or_none : (one other : Option (List ℕ)) → other ≡ None → or_else one other ≡ one
or_none None other none = none
or_none (Some bytes) other none = refl

get-empty : (player : ℕ) → get (empty {X = List ℕ} {R = nat_cmp}) player ≡ None
get-empty player = get-from_entries nat_cmp_total [] player

-- Where each player stands once, in rising order, they are the modules of the list.
pub inserted_sorted : (entries : List (ℕ × List ℕ)) → IsStrictlySortedBy nat_cmp (keys_of entries)
    → inserted empty entries ≡ from_entries entries
inserted_sorted entries sorted =
    same_map nat_cmp_total nat_cmp-IsAntisymmetric (inserted empty entries) (from_entries entries) (λ player.
    get_inserted empty entries sorted player
    ∙ (or_none (find nat_cmp player entries) (get empty player) (get-empty player)
    ∙ sym (get-from_entries nat_cmp_total entries player)))
