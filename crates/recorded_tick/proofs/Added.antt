-- What one more room and one more account add to a record.
use Rattle.std.proofs.Common.{◌≡◌, ℕ, ◌+◌, ◌<◌, List, [], ◌∷◌, ◌++◌, length, take, get_or, inl, inr, sym, ap, arith, refl, ◌∙◌}
use Rattle.std.proofs.lemmas.List.{take_more, length-take}
use Rattle.object_store.specs.declared.account.Account.{Account}
use Rattle.object_store.specs.declared.world.Room.{Room}
use Rattle.room_table.specs.Tables.{Table}
use Rattle.recorded_tick.specs.Recording.{AreChangedAccounts, AreChangedRooms}
use Rattle.recorded_tick.specs.inner.Steps.{AddsAccount, AddsTable}

-- ---- rooms

rooms_push : (before after : List Room) (one other : Room) (tables more : List Table) → length before ≡ length after → AreChangedRooms before after tables → AddsTable one.table other.table tables more
    → AreChangedRooms (before ++ one ∷ []) (after ++ other ∷ []) more
rooms_push [] [] one other tables more many so adds = elim adds [
  | inl same ↦ inl (same.0, same.1 ∙ so)
  | inr apart ↦ inr (apart.0, apart.1, [], apart.2 ∙ ap (λ (t : List Table). t ++ apart.1 ∷ []) so, apart.3, refl)
]
rooms_push [] (x ∷ after) one other tables more many so adds = absurd (omega (arith, many))
rooms_push (x ∷ before) [] one other tables more many so adds = absurd (omega (arith, many))
rooms_push (x ∷ before) (y ∷ after) one other tables more many so adds = elim so [
  | inl same ↦ inl (same.0, rooms_push before after one other tables more (omega (arith, many)) same.1 adds)
  | inr apart ↦ elim adds [
    | inl kept ↦ inr (apart.0, apart.1, apart.2, kept.1 ∙ apart.3, apart.4, rooms_push before after one other apart.2 apart.2 (omega (arith, many)) apart.5 (inl (kept.0, refl)))
    | inr added ↦ inr (
      apart.0,
      apart.1,
      apart.2 ++ added.1 ∷ [],
      added.2 ∙ ap (λ (t : List Table). t ++ added.1 ∷ []) apart.3,
      apart.4,
      rooms_push before after one other apart.2 (apart.2 ++ added.1 ∷ []) (omega (arith, many)) apart.5 (inr (added.0, added.1, refl, added.3)),
    )
  ]
]

pub rooms_more : (before after : List Room) (i : ℕ) (one other : Room) (tables more : List Table) → length before ≡ length after → i < length before → one ≡ get_or before i one → other ≡ get_or after i other
    → AreChangedRooms (take i before) (take i after) tables → AddsTable one.table other.table tables more → AreChangedRooms (take (i + 1) before) (take (i + 1) after) more
rooms_more before after i one other tables more many within is its so adds =
    let fewer : length (take i before) ≡ length (take i after) = omega (arith, length-take i before, length-take i after, many) in
    let front : take (i + 1) before ≡ take i before ++ one ∷ [] = take_more before i one within ∙ ap (λ (r : Room). take i before ++ r ∷ []) (sym is) in
    let front' : take (i + 1) after ≡ take i after ++ other ∷ [] = take_more after i other (omega (arith, many, within)) ∙ ap (λ (r : Room). take i after ++ r ∷ []) (sym its) in
    rw (front, front') (rooms_push (take i before) (take i after) one other tables more fewer so adds)

-- ---- accounts

accounts_push : (before after : List Account) (one other : Account) (accounts more : List Account) → length before ≡ length after → AreChangedAccounts before after accounts → AddsAccount one other accounts more
    → AreChangedAccounts (before ++ one ∷ []) (after ++ other ∷ []) more
accounts_push [] [] one other accounts more many so adds = elim adds [
  | inl same ↦ inl (same.0, same.1 ∙ so)
  | inr apart ↦ inr (apart.0, [], apart.1 ∙ ap (λ (t : List Account). t ++ other ∷ []) so, refl)
]
accounts_push [] (x ∷ after) one other accounts more many so adds = absurd (omega (arith, many))
accounts_push (x ∷ before) [] one other accounts more many so adds = absurd (omega (arith, many))
accounts_push (x ∷ before) (y ∷ after) one other accounts more many so adds = elim so [
  | inl same ↦ inl (same.0, accounts_push before after one other accounts more (omega (arith, many)) same.1 adds)
  | inr apart ↦ elim adds [
    | inl kept ↦ inr (apart.0, apart.1, kept.1 ∙ apart.2, accounts_push before after one other apart.1 apart.1 (omega (arith, many)) apart.3 (inl (kept.0, refl)))
    | inr added ↦ inr (
      apart.0,
      apart.1 ++ other ∷ [],
      added.1 ∙ ap (λ (t : List Account). t ++ other ∷ []) apart.2,
      accounts_push before after one other apart.1 (apart.1 ++ other ∷ []) (omega (arith, many)) apart.3 (inr (added.0, refl)),
    )
  ]
]

pub accounts_more : (before after : List Account) (i : ℕ) (one other : Account) (accounts more : List Account) → length before ≡ length after → i < length before → one ≡ get_or before i one → other ≡ get_or after i other
    → AreChangedAccounts (take i before) (take i after) accounts → AddsAccount one other accounts more → AreChangedAccounts (take (i + 1) before) (take (i + 1) after) more
accounts_more before after i one other accounts more many within is its so adds =
    let fewer : length (take i before) ≡ length (take i after) = omega (arith, length-take i before, length-take i after, many) in
    let front : take (i + 1) before ≡ take i before ++ one ∷ [] = take_more before i one within ∙ ap (λ (r : Account). take i before ++ r ∷ []) (sym is) in
    let front' : take (i + 1) after ≡ take i after ++ other ∷ [] = take_more after i other (omega (arith, many, within)) ∙ ap (λ (r : Account). take i after ++ r ∷ []) (sym its) in
    rw (front, front') (accounts_push (take i before) (take i after) one other accounts more fewer so adds)
