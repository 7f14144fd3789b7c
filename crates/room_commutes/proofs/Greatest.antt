-- The movers are the greatest allowed set.
use Rattle.std.proofs.Common.{◌≡◌, ◌≢◌, ◌↔◌, inl, inr, ℕ, ◌<◌, ◌≤◌, ◌==◌, ◌&&◌, not, Bool, true, false, cond, List, [], ◌∷◌, ◌++◌, map, refl, sym, ap, subst, ◌∙◌, arith}
use Rattle.std.specs.Prelude.{nat_lt}
use Rattle.std.specs.List.{AllPairs, Contains, filter, list_any, list_all}
use Rattle.std.proofs.lemmas.Bool.{eqb-true, eq-eqb, ltb-true, ltb-false, and_from, and_parts, false_from_ne_true}
use Rattle.std.proofs.lemmas.List.Elements.{Contains-get_or}
use Rattle.std.proofs.lemmas.List.Kept.{AllPairs-filter}
use Rattle.room_table.specs.declared.object.Object.{Object}
use Rattle.world_rules.specs.Movement.{Mover, meet, winners, has_mover, is_creep_on, may_move, sets_of, movers}
use Rattle.room_commutes.specs.Allowed.{AreCreepsOnce, IsLeast, IsAllowed}
use Rattle.room_commutes.proofs.Members.{Has, has_contained, contains_has, any_has, has_any, all_has, has_all, filter_has, has_filter, append_left, append_right, append_cases, all_of_has, pairs_first, pairs_later, has_map, map_has}

-- ---- the winners

-- Both would step to one tile, and the second has the lesser id.
abbrev lesser : Mover → Mover → Bool
lesser one other = meet one other && nat_lt other.creep one.creep

pub winner_is : (list : List Mover) (one : Mover) → Contains (winners list) one ↔ IsLeast list one
winner_is list one = (
  λ contained.
      let won = has_filter (λ mover. not (list_any (lesser mover) list)) list one (contains_has (winners list) one contained) in
      record {
        listed = has_contained list one won.0;
        least = λ other there meets. elim (nat_lt other.creep one.creep) as (λ b. nat_lt other.creep one.creep ≡ b → one.creep ≤ other.creep) [
          | true ↦ λ less.
              let loses : list_any (lesser one) list ≡ true = has_any (lesser one) list other (contains_has list other there) (and_from (meet one other) (nat_lt other.creep one.creep) meets less) in
              let wins : not (list_any (lesser one) list) ≡ true = won.1 in
              let fails : not (list_any (lesser one) list) ≡ false = ap not loses in
              absurd (cc)
          | false ↦ λ more. ltb-false other.creep one.creep more
        ] refl;
      },
  λ is.
      let wins : list_any (lesser one) list ≡ false = false_from_ne_true (list_any (lesser one) list) (λ loses.
      let by = any_has (lesser one) list loses in
      let parts = and_parts (meet one by.0) (nat_lt by.0.creep one.creep) by.2 in
      let least : one.creep ≤ by.0.creep = is.least by.0 (has_contained list by.0 by.1) parts.0 in
      let less : by.0.creep < one.creep = ltb-true by.0.creep one.creep parts.1 in
      absurd (omega arith)) in
      has_contained (winners list) one (filter_has (λ mover. not (list_any (lesser mover) list)) list one (contains_has list one is.listed) (ap not wins)),
)

meets_back : (one other : Mover) → meet one other ≡ true → meet other one ≡ true
meets_back one other is =
    let parts = and_parts (one.x == other.x) (one.y == other.y) is in
    and_from (other.x == one.x) (other.y == one.y) (eq-eqb other.x one.x (sym (eqb-true one.x other.x parts.0))) (eq-eqb other.y one.y (sym (eqb-true one.y other.y parts.1)))

-- two winners of different creeps don't meet
pub winners_apart : (list : List Mover) (one other : Mover) → Contains (winners list) one → Contains (winners list) other → one.creep ≢ other.creep → meet one other ≡ false
winners_apart list one other won also apart = false_from_ne_true (meet one other) (λ meets.
    let first = (winner_is list one).0 won in
    let second = (winner_is list other).0 also in
    let most : one.creep ≤ other.creep = first.least other second.listed meets in
    let least : other.creep ≤ one.creep = second.least one first.listed (meets_back one other meets) in
    apart (omega arith))

-- ---- sets

sets_filter : (test : Mover → Bool) (list : List Mover) → Has (sets_of list) (filter test list)
sets_filter test [] = inl refl
sets_filter test (one ∷ later) =
    let rest = sets_filter test later in
    elim (test one) as (λ b. Has (map (λ set. one ∷ set) (sets_of later) ++ sets_of later) (cond b (one ∷ filter test later) (filter test later))) [
      | true ↦ append_left (map (λ set. one ∷ set) (sets_of later)) (sets_of later) (one ∷ filter test later) (has_map (λ set. one ∷ set) (sets_of later) (filter test later) rest)
      | false ↦ append_right (map (λ set. one ∷ set) (sets_of later)) (sets_of later) (filter test later) rest
    ]

of_set : (list set : List Mover) (x : Mover) → Has (sets_of list) set → Has set x → Has list x
of_set [] set x (inl is) has = absurd (subst (λ s. Has s x) (sym is) has)
of_set [] set x (inr none) has = absurd none
of_set (one ∷ later) set x among has = elim (append_cases (map (λ s. one ∷ s) (sets_of later)) (sets_of later) set among) [
  | inl with ↦
      let rest = map_has (λ s. one ∷ s) (sets_of later) set with in
      let there : Has (one ∷ rest.0) x = subst (λ s. Has s x) (sym rest.2) has in
      elim there [ inl is ↦ inl is | inr more ↦ inr (of_set later rest.0 x rest.1 more) ]
  | inr without ↦ inr (of_set later set x without has)
]

-- ---- a creep once

pub one_of_creep : (list : List Mover) (one other : Mover) → AreCreepsOnce list → Has list one → Has list other → one.creep ≡ other.creep → one ≡ other
one_of_creep [] one other once here there same = absurd here
one_of_creep (first ∷ later) one other once (inl is) (inl also) same = sym is ∙ also
one_of_creep (first ∷ later) one other once (inl is) (inr there) same =
    absurd (all_of_has (λ mover. first.creep ≢ mover.creep) later other (pairs_first (λ a b. a.creep ≢ b.creep) first later once) there (ap (λ (m : Mover). m.creep) is ∙ same))
one_of_creep (first ∷ later) one other once (inr here) (inl also) same =
    absurd (all_of_has (λ mover. first.creep ≢ mover.creep) later one (pairs_first (λ a b. a.creep ≢ b.creep) first later once) here (ap (λ (m : Mover). m.creep) also ∙ sym same))
one_of_creep (first ∷ later) one other once (inr here) (inr there) same = one_of_creep later one other (pairs_later (λ a b. a.creep ≢ b.creep) first later once) here there same

pub has_creep : (set : List Mover) (creep : ℕ) → has_mover set creep ≡ true → (one : Mover) × Has set one × (one.creep ≡ creep)
has_creep set creep is = let found = any_has (λ one. one.creep == creep) set is in (found.0, found.1, eqb-true found.0.creep creep found.2)

pub creep_has : (set : List Mover) (one : Mover) → Has set one → has_mover set one.creep ≡ true
creep_has set one has = has_any (λ other. other.creep == one.creep) set one has (eq-eqb one.creep one.creep refl)

module _ (objects : List Object) where
  abbrev pub free_for : List Mover → Mover → Bool
  free_for set one = list_all (λ creep. has_mover set creep.id) (filter (is_creep_on one.x one.y) objects)

  -- what may move for one set may for one that has its creeps
  freer : (set more : List Mover) (one : Mover) → ((creep : ℕ) → has_mover set creep ≡ true → has_mover more creep ≡ true) → free_for set one ≡ true → free_for more one ≡ true
  freer set more one wider free =
      has_all (λ creep. has_mover more creep.id) (filter (is_creep_on one.x one.y) objects) (λ creep has.
      wider creep.id (all_has (λ creep. has_mover set creep.id) (filter (is_creep_on one.x one.y) objects) creep free has))

  module _ (list : List Mover) (once : AreCreepsOnce list) where
    abbrev first : List Mover
    first = winners list

    abbrev moves_in : Mover → List Mover → Bool
    moves_in one set = may_move objects set && has_mover set one.creep

    abbrev moves : Mover → Bool
    moves one = list_any (moves_in one) (sets_of first)

    once_first : AreCreepsOnce first
    once_first = AllPairs-filter (λ one later. one.creep ≢ later.creep) (λ mover. not (list_any (lesser mover) list)) list once

    pub movers_apart : AllPairs (λ one later. meet one later ≡ false) (movers objects list)
    movers_apart = AllPairs-filter (λ one later. meet one later ≡ false) moves first (λ i j d less within.
        winners_apart list _ _ (Contains-get_or first i d (omega arith)) (Contains-get_or first j d within) (once_first i j d less within))

    -- the members of a set that may move are movers
    joins : (set : List Mover) (one : Mover) → Has (sets_of first) set → may_move objects set ≡ true → Has set one → Has (movers objects list) one
    joins set one among may has =
        filter_has moves first one (of_set first set one among has)
        (has_any (moves_in one) (sets_of first) set among (and_from (may_move objects set) (has_mover set one.creep) may (creep_has set one has)))

    free_mover : (one : Mover) → Has (movers objects list) one → free_for (movers objects list) one ≡ true
    free_mover one has =
        let chosen = has_filter moves first one has in
        let by = any_has (moves_in one) (sets_of first) chosen.1 in
        let parts = and_parts (may_move objects by.0) (has_mover by.0 one.creep) by.2 in
        let mate = has_creep by.0 one.creep parts.1 in
        let same : mate.0 ≡ one = one_of_creep first mate.0 one once_first (of_set first by.0 mate.0 by.1 mate.1) chosen.0 mate.2 in
        let inside : Has by.0 one = subst (Has by.0) same mate.1 in
        freer by.0 (movers objects list) one (λ creep is.
        let found = has_creep by.0 creep is in
        subst (λ n. has_mover (movers objects list) n ≡ true) found.2 (creep_has (movers objects list) found.0 (joins by.0 found.0 by.1 parts.0 found.1)))
        (all_has (free_for by.0) by.0 one parts.0 inside)

    pub movers_allowed : IsAllowed objects list (movers objects list)
    movers_allowed = record {
      winners = λ one contained. has_contained first one (has_filter moves first one (contains_has (movers objects list) one contained)).0;
      moves = has_all (free_for (movers objects list)) (movers objects list) free_mover;
    }

    module _ (set : List Mover) (allowed : IsAllowed objects list set) where
      -- the winners of the set's creeps
      abbrev mates : List Mover
      mates = filter (λ one. has_mover set one.creep) first

      won : (one : Mover) → Has set one → Has first one
      won one has = contains_has first one (allowed.winners one (has_contained set one has))

      mate_of : (one : Mover) → Has set one → Has mates one
      mate_of one has = filter_has (λ other. has_mover set other.creep) first one (won one has) (creep_has set one has)

      in_set : (one : Mover) → Has mates one → Has set one
      in_set one has =
          let parts = has_filter (λ other. has_mover set other.creep) first one has in
          let found = has_creep set one.creep parts.1 in
          subst (Has set) (one_of_creep first found.0 one once_first (won found.0 found.1) parts.0 found.2) found.1

      mates_move : may_move objects mates ≡ true
      mates_move = has_all (free_for mates) mates (λ one has.
          freer set mates one (λ creep is.
          let found = has_creep set creep is in
          subst (λ n. has_mover mates n ≡ true) found.2 (creep_has mates found.0 (mate_of found.0 found.1)))
          (all_has (free_for set) set one allowed.moves (in_set one has)))

      pub movers_greatest : (one : Mover) → Contains set one → Contains (movers objects list) one
      movers_greatest one contained =
          has_contained (movers objects list) one
          (joins mates one (sets_filter (λ other. has_mover set other.creep) first) mates_move (mate_of one (contains_has set one contained)))
