-- A player's record wants no more new sites than he may have with those that he has.
use Rattle.std.proofs.Common.{◌≡◌, ℕ, ◌+◌, ◌==◌, ◌&&◌, ◌≤◌, ◌<◌, Bool, true, false, not, nat_eq, cond, List, [], ◌∷◌, length, inl, inr, sym, ap, subst, ◌∙◌, arith}
use Rattle.std.specs.List.{count_by, filter}
use Rattle.std.proofs.lemmas.Bool.{cases_Bool, eq-eqb, eqb-true}
use Rattle.std.proofs.lemmas.List.Sums.{sum_by-cons, sum_by_push}
use Rattle.game_tables.specs.Actions.{action_number}
use Rattle.game_tables.specs.declared.action.Action.TheVariants.{CreateSite}
use Rattle.counted_record.specs.Others.{is_of, others_of}
use Rattle.intent_book.specs.Records.{put_last, same_place}
use Rattle.intent_book.specs.declared.intent.Intent.{Intent}
use Rattle.world_rules.specs.Intents.{names_tile}
use Rattle.site_limit.proofs.Entered.{tile_action}

abbrev for_site : Intent → Bool
for_site entry = names_tile entry.action

-- how many entries are for new sites
abbrev pub site_entries : List Intent → ℕ
site_entries entries = count_by for_site entries

one_more : (entry : Intent) (later : List Intent) → site_entries (entry ∷ later) ≡ cond (for_site entry) 1 0 + site_entries later
one_more entry later = sum_by-cons (λ (e : Intent). cond (for_site e) 1 0) entry later

filtered_few : (test : Intent → Bool) (entries : List Intent) → site_entries (filter test entries) ≤ site_entries entries
filtered_few test [] = omega arith
filtered_few test (entry ∷ later) =
    let rest = filtered_few test later in
    let step = one_more entry later in
    let front = one_more entry (filter test later) in
    elim (test entry) as (λ b. site_entries (cond b (entry ∷ filter test later) (filter test later)) ≤ site_entries (entry ∷ later)) [
      | true ↦ omega (arith, rest, step, front)
      | false ↦ omega (arith, rest, step)
    ]

-- ---- one entry that is put

module _ (intent : Intent) (tile : intent.action ≡ CreateSite) where
  abbrev Apart : Intent → Bool
  Apart entry = not (same_place intent entry)

  abbrev Other : Intent → Bool
  Other entry = is_of CreateSite entry && not (entry.actor == intent.actor)

  -- An entry for a site that stays is for another tile.
  stays_other : (entry : Intent) → for_site entry ≡ true → Apart entry ≡ true → Other entry ≡ true
  stays_other entry is apart =
      let same_number : action_number intent.action ≡ action_number entry.action = ap action_number (tile ∙ sym (tile_action entry.action is)) in
      let number : nat_eq (action_number intent.action) (action_number entry.action) ≡ true = eq-eqb (action_number intent.action) (action_number entry.action) same_number in
      elim (cases_Bool (entry.actor == intent.actor)) [
        | inl at ↦
            let on : nat_eq intent.actor entry.actor ≡ true = eq-eqb intent.actor entry.actor (sym (eqb-true entry.actor intent.actor at)) in
            let none : Apart entry ≡ false = λ i. not (number i && on i) in
            absurd (cc)
        | inr off ↦ λ i. eq-eqb (action_number entry.action) (action_number CreateSite) (ap action_number (tile_action entry.action is)) i && not (off i)
      ]

  one_other : (entry : Intent) (later : List Intent) → length (filter Other (entry ∷ later)) ≡ cond (Other entry) 1 0 + length (filter Other later)
  one_other entry later = elim (Other entry) as (λ b. length (cond b (entry ∷ filter Other later) (filter Other later)) ≡ cond b 1 0 + length (filter Other later)) [ true ↦ omega arith | false ↦ omega arith ]

  others_few : (entries : List Intent) → site_entries (filter Apart entries) ≤ length (others_of CreateSite intent.actor entries)
  others_few [] = omega arith
  others_few (entry ∷ later) =
      let rest = others_few later in
      let step = one_other entry later in
      let front = one_more entry (filter Apart later) in
      elim (cases_Bool (Apart entry)) [
        | inr gone ↦ subst (λ (b : Bool). site_entries (cond b (entry ∷ filter Apart later) (filter Apart later)) ≤ length (filter Other (entry ∷ later))) (sym gone) (omega (arith, rest, step))
        | inl apart ↦ subst (λ (b : Bool). site_entries (cond b (entry ∷ filter Apart later) (filter Apart later)) ≤ length (filter Other (entry ∷ later))) (sym apart) (elim (cases_Bool (for_site entry)) [
          | inl is ↦
              let counts : ◌≡◌ {A = ℕ} (cond (Other entry) 1 0) 1 = ap (λ (b : Bool). cond b 1 0) (stays_other entry is apart) in
              let counted : ◌≡◌ {A = ℕ} (cond (for_site entry) 1 0) 1 = ap (λ (b : Bool). cond b 1 0) is in
              omega (arith, rest, step, front, counts, counted)
          | inr other ↦
              let counted : ◌≡◌ {A = ℕ} (cond (for_site entry) 1 0) 0 = ap (λ (b : Bool). cond b 1 0) other in
              omega (arith, rest, step, front, counted)
        ])
      ]

-- What is put last adds nothing where it is for no site, and one to those of other tiles where it is.
pub put_few : (most : ℕ) (entries : List Intent) (intent : Intent) → site_entries entries ≤ most → (names_tile intent.action ≡ true → length (others_of CreateSite intent.actor entries) < most) → site_entries (put_last entries intent) ≤ most
put_few most entries intent few less =
    let left : List Intent = filter (λ entry. not (same_place intent entry)) entries in
    let sum = sum_by_push (λ (e : Intent). cond (for_site e) 1 0) left intent in
    elim (cases_Bool (for_site intent)) [
      | inl is ↦
          let counted : ◌≡◌ {A = ℕ} (cond (for_site intent) 1 0) 1 = ap (λ (b : Bool). cond b 1 0) is in
          let others = others_few intent (tile_action intent.action is) entries in
          let below = less is in
          omega (arith, sum, counted, others, below)
      | inr other ↦
          let counted : ◌≡◌ {A = ℕ} (cond (for_site intent) 1 0) 0 = ap (λ (b : Bool). cond b 1 0) other in
          let fewer = filtered_few (λ entry. not (same_place intent entry)) entries in
          omega (arith, sum, counted, fewer, few)
    ]
