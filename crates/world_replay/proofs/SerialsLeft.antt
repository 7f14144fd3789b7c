-- The first room that has used up its serials.
use Rattle.std.proofs.Common.{◌≡◌, ℕ, ◌+◌, ◌<◌, ◌≤◌, List, length, get_or, Some, sym, ap, subst, ◌∙◌, inl, inr, arith}
use Rattle.std.proofs.lemmas.Bool.{cases_eq}
use Rattle.std.proofs.lemmas.Option.{slice_get-get_or, slice_get_within}
use Rattle.std.specs.Prelude.{slice_get}
use Rattle.object_store.specs.declared.world.Room.{Room}
use Rattle.world_rules.specs.Sound.{serials_bound}

-- The rooms before this index have serials.
abbrev pub HaveSerialsTo : ℕ → List Room → Type 0
HaveSerialsTo index rooms = (earlier : ℕ) (room : Room) → earlier < index → slice_get rooms earlier ≡ Some room → room.table.next ≤ serials_bound

module _ (rooms : List Room) (i : ℕ) (room : Room) (inside : i < length rooms) (is : room ≡ get_or rooms i room) where
  pub stands : slice_get rooms i ≡ Some room
  stands = slice_get-get_or rooms i room inside ∙ ap Some (sym is)

  pub one_more : HaveSerialsTo i rooms → room.table.next ≤ serials_bound → HaveSerialsTo (i + 1) rooms
  one_more before here earlier other below at = elim (cases_eq earlier i) as (λ c. other.table.next ≤ serials_bound) [
    | inl same ↦ (let found : Some room ≡ Some other = sym stands ∙ ap (slice_get rooms) (sym same) ∙ at in let one : room ≡ other = cc in subst (λ (r : Room). r.table.next ≤ serials_bound) one here)
    | inr apart ↦ before earlier other (omega (arith, below, apart)) at
  ]

pub all_have : (rooms : List Room) (i : ℕ) → length rooms ≤ i → HaveSerialsTo i rooms → (k : ℕ) (room : Room) → slice_get rooms k ≡ Some room → room.table.next ≤ serials_bound
all_have rooms i past before k room at = let inside = slice_get_within rooms k room at in before k room (omega (arith, inside, past)) at
