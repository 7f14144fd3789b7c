-- The energy of the objects of a map, and what a change of one of them does to it.
use Rattle.std.proofs.Common.{◌≡◌, ℕ, ◌+◌, ◌==◌, ◌&&◌, Bool, true, false, cond, T, Less, Equal, Greater, List, [], ◌∷◌, map, Option, Some, None, refl, sym, ap, ◌∙◌, arith}
use Rattle.std.specs.List.{sum_by}
use Rattle.std.specs.Ordering.{nat_cmp, is_eq}
use Rattle.std.specs.Cmp.{nat_cmp_total, unsigned_tied}
use Rattle.std.specs.FinMap.{FinMap, find, put, get, insert, remove, entries, values, entries_sorted, is_sorted, entries-insert, get-entries, get-insert, get-remove, same_map, nat_cmp-IsAntisymmetric}
use Rattle.std.specs.FinMap.Entries.{below_all, by_order, is_sorted-put}
use Rattle.std.proofs.lemmas.Bool.{eq-eqb, eqb-true}
use Rattle.std.proofs.lemmas.List.Sums.{sum_by-cons}
use Rattle.room_table.specs.declared.object.Object.{Object}
use Rattle.world_rules.proofs.Keys.{once_of_sorted}

-- the energy of the objects of a list, and of a map
abbrev pub listed : List (ℕ × Object) → ℕ
listed es = sum_by (λ object. object.energy) (map (λ (e : ℕ × Object). e.1) es)

abbrev pub total : FinMap nat_cmp Object → ℕ
total objects = sum_by (λ object. object.energy) (values objects)

-- the energy of an object, where there is one
abbrev pub found_energy : Option Object → ℕ
found_energy None = 0
found_energy (Some object) = object.energy

second : (a b : Bool) → T (a && b) → T b
second true b h = h
second false b h = absurd h

listed_first : (e : ℕ × Object) (es : List (ℕ × Object)) → listed (e ∷ es) ≡ e.1.energy + listed es
listed_first e es = sum_by-cons (λ (o : Object). o.energy) e.1 (map (λ (e : ℕ × Object). e.1) es)

-- Where an object is put into a list, the energy changes by what it has more than the one in its place.
put_listed : (k : ℕ) (object : Object) (es : List (ℕ × Object)) → T (is_sorted nat_cmp es) → listed (put nat_cmp k object es) + found_energy (find nat_cmp k es) ≡ listed es + object.energy
put_listed k object [] rise = omega (arith, listed_first (k, object) [])
put_listed k object (e ∷ es) rise =
    let rest : listed (put nat_cmp k object es) + found_energy (find nat_cmp k es) ≡ listed es + object.energy = put_listed k object es (second (below_all nat_cmp e.0 es) (is_sorted nat_cmp es) rise) in
    let after = is_sorted-put nat_cmp nat_cmp_total k object (e ∷ es) rise in
    elim (nat_cmp k e.0) as (λ r. nat_cmp k e.0 ≡ r → T (is_sorted nat_cmp (by_order r ((k, object) ∷ e ∷ es) ((e.0, object) ∷ es) (e ∷ put nat_cmp k object es)))
    → listed (by_order r ((k, object) ∷ e ∷ es) ((e.0, object) ∷ es) (e ∷ put nat_cmp k object es)) + found_energy (cond (is_eq r) (Some e.1) (find nat_cmp k es)) ≡ listed (e ∷ es) + object.energy) [
      | Less ↦ λ p sorted.
          let once = (once_of_sorted ((k, object) ∷ e ∷ es) sorted).0 in
          let none : find nat_cmp k es ≡ None = ap (λ r. cond (is_eq r) (Some e.1) (find nat_cmp k es)) (sym p) ∙ once in
          let nothing : found_energy (find nat_cmp k es) ≡ 0 = ap found_energy none in
          omega (arith, nothing, listed_first (k, object) (e ∷ es))
      | Equal ↦ λ p sorted. omega (arith, listed_first (e.0, object) es, listed_first e es)
      | Greater ↦ λ p sorted. omega (arith, rest, listed_first e (put nat_cmp k object es), listed_first e es)
    ] refl after

-- so in a map
pub total-insert : (m : FinMap nat_cmp Object) (k : ℕ) (object : Object) → total (insert m k object) + found_energy (get m k) ≡ total m + object.energy
total-insert m k object =
    let list = ap listed (entries-insert nat_cmp_total m k object) in
    let found = ap found_energy (get-entries m k) in
    omega (arith, list, found, put_listed k object (entries m) (entries_sorted m))

gone_and_back : (m : FinMap nat_cmp Object) (k : ℕ) (object : Object) → get m k ≡ Some object → insert (remove m k) k object ≡ m
gone_and_back m k object there = same_map nat_cmp_total nat_cmp-IsAntisymmetric (insert (remove m k) k object) m (λ q.
    get-insert nat_cmp_total (remove m k) k object q
    ∙ ap (cond (is_eq (nat_cmp q k)) (Some object)) (get-remove nat_cmp_total m k q)
    ∙ ap (λ (b : Bool). cond b (Some object) (cond b None (get m q))) (unsigned_tied q k)
    ∙ elim (q == k) as (λ b. (q == k) ≡ b → cond b (Some object) (cond b None (get m q)) ≡ get m q) [
      | true ↦ λ is. sym (ap (get m) (eqb-true q k is) ∙ there)
      | false ↦ λ is. refl
    ] refl)

-- Without an object, its energy is gone.
pub total-remove : (m : FinMap nat_cmp Object) (k : ℕ) (object : Object) → get m k ≡ Some object → total (remove m k) + object.energy ≡ total m
total-remove m k object there =
    let none : get (remove m k) k ≡ None = get-remove nat_cmp_total m k k ∙ ap (λ (b : Bool). cond b None (get m k)) (unsigned_tied k k ∙ eq-eqb k k refl) in
    let nothing : found_energy (get (remove m k) k) ≡ 0 = ap found_energy none in
    let whole = ap total (gone_and_back m k object there) in
    omega (arith, nothing, whole, total-insert (remove m k) k object)
