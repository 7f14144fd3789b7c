-- How many entries each room has, entry by entry.
use Rattle.std.proofs.Common.{◌≡◌, ℕ, ◌+◌, ◌^◌, ◌<◌, ◌≤◌, ◌==◌, Bool, true, false, cond, List, [], ◌∷◌, ◌++◌, length, get_or, set, take, refl, sym, ap, ◌∙◌, arith, get_or-set_other, get_or-set_same}
use Rattle.std.proofs.lemmas.Bool.{eqb-true, eqb-false, ne_eqb}
use Rattle.std.proofs.lemmas.List.{get_or_default, length-set, length-take-le, take_more}
use Rattle.std.proofs.lemmas.List.Sums.{count_by-le-length, sum_by-append}
use Rattle.room_table.proofs.Moved.{count_head}
use Rattle.kept_entries.specs.declared.entries.Entry.{Entry}
use Rattle.ruled_tick.specs.inner.Entered.{many_in, AreCounts}

many_push : (room : ℕ) (entries : List Entry) (entry : Entry) → many_in room (entries ++ entry ∷ []) ≡ many_in room entries + cond (entry.room == room) 1 0
many_push room entries entry =
    sum_by-append (λ (e : Entry). cond (e.room == room) 1 0) entries (entry ∷ [])
    ∙ ap (λ (n : ℕ). many_in room entries + n) (count_head (λ (e : Entry). e.room == room) entry [] ∙ plus_none (cond (entry.room == room) 1 0))
  where
    plus_none : (n : ℕ) → n + 0 ≡ n
    plus_none n = omega arith

module _ (rooms : ℕ) (entries : List Entry) (i : ℕ) (entry : Entry) (counts : List ℕ) (counted : AreCounts rooms (take i entries) counts) (inside : i < length entries) (is : entry ≡ get_or entries i entry) where
  many_more : (room : ℕ) → many_in room (take (i + 1) entries) ≡ many_in room (take i entries) + cond (entry.room == room) 1 0
  many_more room = ap (many_in room) (take_more entries i entry inside ∙ ap (λ (e : Entry). take i entries ++ e ∷ []) (sym is)) ∙ many_push room (take i entries) entry

  others_more : (room : ℕ) → (entry.room ≡ room → ⊥) → many_in room (take (i + 1) entries) ≡ many_in room (take i entries)
  others_more room apart = omega (arith, many_more room, ap (λ (b : Bool). cond {A = ℕ} b 1 0) (ne_eqb entry.room room apart))

  -- an entry of a room that there is not
  pub counted_past : length counts ≤ entry.room → AreCounts rooms (take (i + 1) entries) counts
  counted_past past = record {
    long = counted.long;
    each = λ room within. counted.each room within ∙ sym (others_more room (λ same. omega (arith, counted.long)));
  }

  module _ (now : ℕ) (read : now ≡ get_or counts entry.room now) (there : entry.room < length counts) where
    now_is : now ≡ many_in entry.room (take i entries)
    now_is = read ∙ get_or_default counts entry.room now 0 there ∙ counted.each entry.room (omega (arith, counted.long))

    pub now_few : length entries ≤ 2 ^ 18 → now ≤ 2 ^ 18
    now_few few = omega (arith, now_is, count_by-le-length (λ (e : Entry). e.room == entry.room) (take i entries), length-take-le i entries)

    pub counted_more : AreCounts rooms (take (i + 1) entries) (set counts entry.room (now + 1))
    counted_more = record {
      long = length-set counts entry.room (now + 1) ∙ counted.long;
      each = λ room within.
          elim (entry.room == room) as (λ b. (entry.room == room) ≡ b → get_or (set counts entry.room (now + 1)) room 0 ≡ many_in room (take (i + 1) entries)) [
            | true ↦ λ at.
                let same : entry.room ≡ room = eqb-true entry.room room at in
                let one = many_more entry.room in
                let counts_one = ap (λ (b : Bool). cond {A = ℕ} b 1 0) (ap (λ (n : ℕ). entry.room == n) same ∙ at) in
                ap (λ (n : ℕ). get_or (set counts entry.room (now + 1)) n 0) (sym same)
                ∙ get_or-set_same counts entry.room (now + 1) 0 there
                ∙ omega (arith, now_is, one, counts_one)
                ∙ ap (λ (n : ℕ). many_in n (take (i + 1) entries)) same
            | false ↦ λ at.
                let apart = eqb-false entry.room room at in
                get_or-set_other counts entry.room room (now + 1) 0 (λ same. apart (sym same))
                ∙ counted.each room within
                ∙ sym (others_more room apart)
          ] refl;
    }
