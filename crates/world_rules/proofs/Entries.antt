-- Lists of objects by id: how often an id stands there, and what is found.
use Rattle.std.proofs.Common.{◌≡◌, ℕ, ◌+◌, ◌≤◌, ◌==◌, true, false, cond, List, [], ◌∷◌, ◌++◌, Some, None, refl, sym, ap, ◌∙◌, arith}
use Rattle.std.specs.List.{count_by}
use Rattle.std.specs.Ordering.{nat_cmp}
use Rattle.std.specs.Cmp.{unsigned_tied}
use Rattle.std.specs.FinMap.{find}
use Rattle.std.proofs.lemmas.Bool.{eq-eqb, eqb-true}
use Rattle.std.proofs.lemmas.List.Sums.{sum_by-append, sum_by-cons}
use Rattle.world_rules.specs.World.{Placed}

abbrev pub Entries : Type 0
Entries = List (ℕ × Placed)

-- how often an id stands in a list
abbrev pub times : ℕ → Entries → ℕ
times q es = count_by (λ entry. entry.0 == q) es

pub times_cons : (q : ℕ) (e : ℕ × Placed) (es : Entries) → times q (e ∷ es) ≡ cond (e.0 == q) 1 0 + times q es
times_cons q e es = sum_by-cons (λ (entry : ℕ × Placed). cond (entry.0 == q) 1 0) e es

pub times_append : (q : ℕ) (es fs : Entries) → times q (es ++ fs) ≡ times q es + times q fs
times_append q es fs = sum_by-append (λ (entry : ℕ × Placed). cond (entry.0 == q) 1 0) es fs

pub some_times : (q : ℕ) (es : Entries) (p : Placed) → find nat_cmp q es ≡ Some p → 1 ≤ times q es
some_times q [] p is = absurd cc
some_times q (e ∷ es) p is =
    let all = times_cons q e es in
    elim (q == e.0) as (λ b. (q == e.0) ≡ b → cond b (Some e.1) (find nat_cmp q es) ≡ Some p → 1 ≤ times q (e ∷ es)) [
      | true ↦ λ here found. let one : (e.0 == q) ≡ true = eq-eqb e.0 q (sym (eqb-true q e.0 here)) in let first = all ∙ ap (λ b. cond b 1 0 + times q es) one in omega arith
      | false ↦ λ here found. let rest : 1 ≤ times q es = some_times q es p found in omega arith
    ] refl (sym (ap (λ b. cond b (Some e.1) (find nat_cmp q es)) (unsigned_tied q e.0)) ∙ is)

pub no_times : (q : ℕ) (es : Entries) → times q es ≡ 0 → find nat_cmp q es ≡ None
no_times q es none = elim (find nat_cmp q es) as (λ found. find nat_cmp q es ≡ found → found ≡ None) [
  | None ↦ λ is. refl
  | Some p ↦ λ is. let some : 1 ≤ times q es = some_times q es p is in absurd (omega arith)
] refl
