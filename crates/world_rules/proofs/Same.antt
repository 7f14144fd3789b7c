-- Two sound stored worlds that store the same world are equal.
use Rattle.std.proofs.Common.{◌≡◌, ℕ, zero, suc, ◌≤◌, List, [], ◌∷◌, map, Option, Some, None, option_map, option_and_then, refl, sym, ap, subst, ◌∙◌, arith}
use Rattle.std.specs.Prelude.{slice_get}
use Rattle.std.specs.FinMap.{get}
use Rattle.std.proofs.lemmas.Option.{slice_get-map}
use Rattle.room_table.specs.declared.object.Object.{Object}
use Rattle.object_store.specs.declared.account.Account.{Account}
use Rattle.object_store.specs.declared.world.Room.{Room}
use Rattle.room_table.specs.Tallies.{no_tallies}
use Rattle.room_table.specs.Tables.{IsRising}
use Rattle.object_store.specs.Stored.{Stored, HaveRisingTables}
use Rattle.world_rules.specs.declared.rule.Rule.TheVariants.{IdTwice}
use Rattle.world_rules.specs.World.{World, placed, listed_room, listing_of, world_of}
use Rattle.world_rules.specs.Sound.{IsSound, bare_room, bare}
use Rattle.world_rules.proofs.Entries.{times}
use Rattle.world_rules.proofs.Keys.{table_sorted, accounts_sorted, same_list, same_find}
use Rattle.world_rules.proofs.Parts.{only}
use Rattle.world_rules.proofs.Rooms.{room_find}
use Rattle.world_rules.proofs.Lifting.{frame_stored}

-- by the rules, an id stands once
pub once : (w : Stored) → IsSound w → (q : ℕ) → times q (placed (listing_of w)) ≤ 1
once w s q =
    let not_twice : 2 ≤ times q (placed (listing_of w)) → ⊥ = s.rules IdTwice q (λ e. cc) (λ e. cc) in
    omega arith

pub tables_at : (rooms : List Room) (k : ℕ) (room : Room) → HaveRisingTables rooms → slice_get rooms k ≡ Some room → IsRising room.table.objects
tables_at [] k room rise is = absurd cc
tables_at (first ∷ rooms) zero room rise is = let same : first ≡ room = cc in subst (λ (r : Room). IsRising r.table.objects) same rise.0
tables_at (first ∷ rooms) (suc k) room rise is = tables_at rooms k room rise.1 is

pub same_lists : {A : Type 0} (xs ys : List A) → ((k : ℕ) → slice_get xs k ≡ slice_get ys k) → xs ≡ ys
same_lists [] [] same = refl
same_lists [] (y ∷ ys) same = let first = same 0 in absurd cc
same_lists (x ∷ xs) [] same = let first = same 0 in absurd cc
same_lists (x ∷ xs) (y ∷ ys) same = let first : Some x ≡ Some y = same 0 in let one : x ≡ y = cc in let rest = same_lists xs ys (λ k. same (suc k)) in λ i. one i ∷ rest i

same_room : (room other : Room) → (listed_room room).frame ≡ (listed_room other).frame → room.table.index ≡ other.table.index → room.table.objects ≡ other.table.objects → bare_room room ≡ bare_room other
same_room room other frame index objects = λ i. record { name = (frame i).name; terrain = (frame i).grounds; table = record { index = index i; next = (frame i).next; objects = objects i; spare = 0; tallies = no_tallies } }

module _ (one other : Stored) (s : IsSound one) (t : IsSound other) (same : world_of one ≡ world_of other) where
  objects_at : (k : ℕ) (room mate : Room) → slice_get one.rooms k ≡ Some room → slice_get other.rooms k ≡ Some mate → room.table.objects ≡ mate.table.objects
  objects_at k room mate is at =
      same_list (λ (object : Object). object.id) room.table.objects mate.table.objects (table_sorted _ (tables_at one.rooms k room s.tables is)) (table_sorted _ (tables_at other.rooms k mate t.tables at))
      (λ q.
      room_find k 0 k (map listed_room one.rooms) (listed_room room) q (omega arith) (slice_get-map listed_room one.rooms k ∙ ap (option_map listed_room) is) (once one s q)
      ∙ ap (option_and_then (only k)) (same_find (placed (listing_of one)) (placed (listing_of other)) (ap (λ (w : World). w.objects) same) q)
      ∙ sym (room_find k 0 k (map listed_room other.rooms) (listed_room mate) q (omega arith) (slice_get-map listed_room other.rooms k ∙ ap (option_map listed_room) at) (once other t q)))

  rooms_as : (k : ℕ) (found mate : Option Room) → slice_get one.rooms k ≡ found → slice_get other.rooms k ≡ mate → option_map (λ (room : Room). (listed_room room).frame) found ≡ option_map (λ (room : Room). (listed_room room).frame) mate → option_map bare_room found ≡ option_map bare_room mate
  rooms_as k None None is at frames = refl
  rooms_as k None (Some mate) is at frames = absurd cc
  rooms_as k (Some room) None is at frames = absurd cc
  rooms_as k (Some room) (Some mate) is at frames =
      let frame : (listed_room room).frame ≡ (listed_room mate).frame = cc in
      ap Some (same_room room mate frame (s.places k room is ∙ sym (t.places k mate at)) (objects_at k room mate is at))

  rooms_same : (bare one).rooms ≡ (bare other).rooms
  rooms_same = same_lists (map bare_room one.rooms) (map bare_room other.rooms) (λ k. slice_get-map bare_room one.rooms k ∙ rooms_as k (slice_get one.rooms k) (slice_get other.rooms k) refl refl (sym (frame_stored one k) ∙ ap (λ (w : World). get w.rooms k) same ∙ frame_stored other k) ∙ sym (slice_get-map bare_room other.rooms k))

  accounts_same : one.accounts ≡ other.accounts
  accounts_same = same_list (λ (account : Account). account.player) one.accounts other.accounts (accounts_sorted _ s.accounts) (accounts_sorted _ t.accounts) (same_find _ _ (ap (λ (w : World). w.accounts) same))

  pub one_form : bare one ≡ bare other
  one_form = λ i. record { tick = (same i).tick; rooms = rooms_same i; accounts = accounts_same i }
