-- The winners after one more entry.
use Rattle.std.proofs.Common.{◌≡◌, ◌⊎◌, ℕ, ◌<◌, ◌≤◌, ◌==◌, ◌||◌, false, true, cond, if◌then◌else◌, nat_lt, List, [], ◌∷◌, ◌++◌, Option, Some, None, length, get_or, set, inl, inr, refl, sym, ap, subst, ◌∙◌, arith, get_or-set_other, get_or-set_same}
use Rattle.std.proofs.lemmas.Bool.{cases_eq, eqb-true, eq-eqb, ltb-true, ltb-false, or_cases, or_left, or_right, true≢false}
use Rattle.std.proofs.lemmas.List.Elements.{Contains-append_left, Contains-push, Contains-push_cases}
use Rattle.room_terrain.specs.Tiles.{tile}
use Rattle.intent_book.specs.declared.intent.Intent.{Intent}
use Rattle.world_rules.specs.RoomParts.{RoomPart}
use Rattle.world_rules.specs.Movement.{Mover}
use Rattle.world_rules.specs.Moves.{mover_of}
use Rattle.creep_move.specs.declared.candidate.Step.{Step}
use Rattle.creep_move.specs.inner.Arrivals.{Arrives, ComesFrom, Would, Wins, as_mover, leads}

lead_cases : (a b c : ℕ) → ((a == 2500) || nat_lt b c) ≡ true → (a ≡ 2500) ⊎ (b < c)
lead_cases a b c is = elim (or_cases (a == 2500) (nat_lt b c) is) [ inl same ↦ inl (eqb-true a 2500 same) | inr less ↦ inr (ltb-true b c less) ]

late_some : (a b c : ℕ) → ((a == 2500) || nat_lt b c) ≡ false → a ≡ 2500 → ⊥
late_some a b c is same = true≢false (sym (or_left (a == 2500) (nat_lt b c) (eq-eqb a 2500 same)) ∙ is)

late_least : (a b c : ℕ) → ((a == 2500) || nat_lt b c) ≡ false → c ≤ b
late_least a b c is = elim (nat_lt b c) as (λ l. nat_lt b c ≡ l → c ≤ b) [
  | true ↦ λ less. absurd (true≢false (sym (or_right (a == 2500) (nat_lt b c) less) ∙ is))
  | false ↦ λ more. ltb-false b c more
] refl

module _ (part : RoomPart) (front : List Intent) (entry : Intent) where
  abbrev more : List Intent
  more = front ++ entry ∷ []

  would_old : (one : Mover) → Would part front one → Would part more one
  would_old one h = (h.0, Contains-append_left front (entry ∷ []) h.0 h.1, h.2)

  would_cases : (one : Mover) → Would part more one → Would part front one ⊎ (mover_of part entry ≡ Some one)
  would_cases one h = elim (Contains-push_cases front entry h.0 h.1) [
    | inl old ↦ inl (h.0, old, h.2)
    | inr e ↦ inr (ap (mover_of part) e ∙ h.2)
  ]

  -- a winner stays where none that is new would beat it
  wins_kept : (t from id : ℕ) → ((one : Mover) → mover_of part entry ≡ Some one → tile one.x one.y ≡ t → id ≤ one.creep) → Wins part front t from id → Wins part more t from id
  wins_kept t from id late wins = record {
    one = wins.one;
    would = would_old wins.one wins.would;
    there = wins.there;
    its = wins.its;
    comes = wins.comes;
    least = λ other h at. elim (would_cases other h) [ inl old ↦ wins.least other old at | inr new ↦ late other new at ];
  }

  arrives_kept : (t from id : ℕ) → ((one : Mover) → mover_of part entry ≡ Some one → tile one.x one.y ≡ t → from ≡ 2500 → ⊥) → ((one : Mover) → mover_of part entry ≡ Some one → tile one.x one.y ≡ t → id ≤ one.creep)
      → Arrives part front t from id → Arrives part more t from id
  arrives_kept t from id some late (inl none) = inl (none.0, λ one h at. elim (would_cases one h) [ inl old ↦ none.1 one old at | inr new ↦ some one new at none.0 ])
  arrives_kept t from id some late (inr wins) = inr (wins_kept t from id late wins)

  pub arrives_none : mover_of part entry ≡ None → (t from id : ℕ) → Arrives part front t from id → Arrives part more t from id
  arrives_none none t from id = arrives_kept t from id (λ one is at e. let n : ◌≡◌ {A = Option Mover} None (Some one) = sym none ∙ is in absurd (cc)) (λ one is at. let n : ◌≡◌ {A = Option Mover} None (Some one) = sym none ∙ is in absurd (cc))

  module _ (step : Step) (is : mover_of part entry ≡ Some (as_mover step)) (from : ComesFrom part (as_mover step) step.from) where
    same_mover : (one : Mover) → mover_of part entry ≡ Some one → as_mover step ≡ one
    same_mover one h = let e : Some (as_mover step) ≡ Some one = sym is ∙ h in cc

    abbrev to : ℕ
    to = tile step.x step.y

    arrives_other : (t f id : ℕ) → (t ≡ to → ⊥) → Arrives part front t f id → Arrives part more t f id
    arrives_other t f id other = arrives_kept t f id (λ one h at e. other (sym at ∙ sym (ap (λ (m : Mover). tile m.x m.y) (same_mover one h)))) (λ one h at. absurd (other (sym at ∙ sym (ap (λ (m : Mover). tile m.x m.y) (same_mover one h)))))

    arrives_late : (f id : ℕ) → (f ≡ 2500 → ⊥) → id ≤ step.creep → Arrives part front to f id → Arrives part more to f id
    arrives_late f id some least = arrives_kept to f id (λ one h at. some) (λ one h at. subst (λ (m : Mover). id ≤ m.creep) (same_mover one h) least)

    arrives_first : (f id : ℕ) → (f ≡ 2500) ⊎ (step.creep < id) → Arrives part front to f id → Arrives part more to step.from step.creep
    arrives_first f id leading before = inr (record {
      one = as_mover step;
      would = (entry, Contains-push front entry, is);
      there = refl;
      its = refl;
      comes = from;
      least = λ other h at. elim (would_cases other h) [
        | inl old ↦ beaten other old at before
        | inr new ↦ let low : step.creep ≤ step.creep = omega arith in subst (λ (m : Mover). step.creep ≤ m.creep) (same_mover other new) low
      ];
    })
      where
        beaten : (other : Mover) → Would part front other → tile other.x other.y ≡ to → Arrives part front to f id → step.creep ≤ other.creep
        beaten other old at (inl none) = absurd (none.1 other old at)
        beaten other old at (inr wins) =
            let least : id ≤ other.creep = wins.least other old at in
            let short : f < 2500 = wins.comes.inside in
            elim leading [ inl e ↦ absurd (omega (arith, e, short)) | inr less ↦ omega (arith, less, least) ]

    pub arrives_step : (comes best : List ℕ) → to < length comes → to < length best → ((t : ℕ) → t < 2500 → Arrives part front t (get_or comes t 0) (get_or best t 0)) → (t : ℕ) → t < 2500
        → Arrives part more t (get_or (if leads step comes best then set comes to step.from else comes) t 0) (get_or (if leads step comes best then set best to step.creep else best) t 0)
    arrives_step comes best low short so_far t within = elim (leads step comes best) as (λ b. leads step comes best ≡ b → Arrives part more t (get_or (cond b (set comes to step.from) comes) t 0) (get_or (cond b (set best to step.creep) best) t 0)) [
      | true ↦ λ leading. elim (cases_eq t to) [
        | inl e ↦ subst (λ n. Arrives part more n (get_or (set comes to step.from) n 0) (get_or (set best to step.creep) n 0)) (sym e)
            (subst (λ f. Arrives part more to f (get_or (set best to step.creep) to 0)) (sym (get_or-set_same comes to step.from 0 low))
            (subst (λ id. Arrives part more to step.from id) (sym (get_or-set_same best to step.creep 0 short))
            (arrives_first (get_or comes to 0) (get_or best to 0) (lead_cases (get_or comes to 0) step.creep (get_or best to 0) leading) (subst (λ n. Arrives part front n (get_or comes n 0) (get_or best n 0)) e (so_far t within)))))
        | inr other ↦ subst (λ f. Arrives part more t f (get_or (set best to step.creep) t 0)) (sym (get_or-set_other comes to t step.from 0 other))
            (subst (λ id. Arrives part more t (get_or comes t 0) id) (sym (get_or-set_other best to t step.creep 0 other))
            (arrives_other t (get_or comes t 0) (get_or best t 0) other (so_far t within)))
      ]
      | false ↦ λ late. elim (cases_eq t to) [
        | inl e ↦ subst (λ n. Arrives part more n (get_or comes n 0) (get_or best n 0)) (sym e)
            (arrives_late (get_or comes to 0) (get_or best to 0) (late_some (get_or comes to 0) step.creep (get_or best to 0) late) (late_least (get_or comes to 0) step.creep (get_or best to 0) late) (subst (λ n. Arrives part front n (get_or comes n 0) (get_or best n 0)) e (so_far t within)))
        | inr other ↦ arrives_other t (get_or comes t 0) (get_or best t 0) other (so_far t within)
      ]
    ] refl
