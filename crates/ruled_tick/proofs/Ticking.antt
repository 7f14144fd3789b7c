-- Rooms that are ticked one after the other.
use Rattle.std.proofs.Common.{◌≡◌, ℕ, zero, suc, ◌+◌, ◌<◌, ◌==◌, ◌&&◌, Bool, true, false, cond, List, [], ◌∷◌, ◌++◌, map, length, get_or, set, slice_get, slice_index_or, refl, sym, ap, subst, ◌∙◌, arith}
use Rattle.std.specs.List.{filter}
use Rattle.std.proofs.lemmas.Bool.{eqb-true, eqb-false}
use Rattle.std.proofs.lemmas.List.{length_push, length-set}
use Rattle.game_tables.specs.Actions.{action_number}
use Rattle.game_tables.specs.declared.action.Action.TheVariants.{Move}
use Rattle.intent_book.specs.declared.intent.Intent.{Intent}
use Rattle.kept_entries.specs.declared.entries.Entry.{Entry}
use Rattle.object_store.specs.declared.world.Room.{Room}
use Rattle.ruled_tick.specs.inner.Ticked.{is_move_in, moves_in, AreMoves, AreTicked, IsTicked, IsTickedAt}

-- They are as many as before.
pub as_many_ticked : (entries : List Entry) (old new : List Room) → AreTicked entries old new → length new ≡ length old
as_many_ticked entries old new are = as_many (λ k. moves_in k entries) old new are
  where
    as_many : (moves : ℕ → List Intent) (old new : List Room) → ((k : ℕ) → IsTickedAt (moves k) (slice_get old k) (slice_get new k)) → length new ≡ length old
    as_many moves [] [] are = refl
    as_many moves [] (y ∷ new) are = absurd (are 0)
    as_many moves (x ∷ old) [] are = absurd (are 0)
    as_many moves (x ∷ old) (y ∷ new) are = ap suc (as_many (λ j. moves (suc j)) old new (λ j. are (suc j)))

-- With one more that is ticked all are.
pub ticked_push : (moves : ℕ → List Intent) (old new : List Room) (room mate : Room) → length old ≡ length new → ((k : ℕ) → IsTickedAt (moves k) (slice_get old k) (slice_get new k)) → IsTicked (moves (length old)) room mate
    → (k : ℕ) → IsTickedAt (moves k) (slice_get (old ++ room ∷ []) k) (slice_get (new ++ mate ∷ []) k)
ticked_push moves [] [] room mate same each ticked zero = ticked
ticked_push moves [] [] room mate same each ticked (suc k) = tt
ticked_push moves [] (y ∷ new) room mate same each ticked k = absurd (omega (arith, same))
ticked_push moves (x ∷ old) [] room mate same each ticked k = absurd (omega (arith, same))
ticked_push moves (x ∷ old) (y ∷ new) room mate same each ticked zero = each 0
ticked_push moves (x ∷ old) (y ∷ new) room mate same each ticked (suc k) = ticked_push (λ j. moves (suc j)) old new room mate (omega (arith, same)) (λ j. each (suc j)) ticked k

-- ---- lists with another item at a place

get_or-set_same : {A : Type 0} (xs : List A) (i : ℕ) (x d : A) → i < length xs → get_or (set xs i x) i d ≡ x
get_or-set_same [] i x d inside = absurd (omega arith)
get_or-set_same (y ∷ xs) zero x d inside = refl
get_or-set_same (y ∷ xs) (suc i) x d inside = get_or-set_same xs i x d (omega arith)

get_or-set_other : {A : Type 0} (xs : List A) (i k : ℕ) (x d : A) → (k ≡ i → ⊥) → get_or (set xs i x) k d ≡ get_or xs k d
get_or-set_other [] i k x d apart = refl
get_or-set_other (y ∷ xs) zero zero x d apart = absurd (apart refl)
get_or-set_other (y ∷ xs) zero (suc k) x d apart = refl
get_or-set_other (y ∷ xs) (suc i) zero x d apart = refl
get_or-set_other (y ∷ xs) (suc i) (suc k) x d apart = get_or-set_other xs i k x d (λ same. apart (ap suc same))

-- ---- the moves of each room

moves_push : (k : ℕ) (done : List Entry) (entry : Entry) → moves_in k (done ++ entry ∷ []) ≡ cond (is_move_in k entry) (moves_in k done ++ entry.intent ∷ []) (moves_in k done)
moves_push k [] entry = elim (is_move_in k entry) as (λ b. map (λ (e : Entry). e.intent) (cond b (entry ∷ []) []) ≡ cond b (entry.intent ∷ []) []) [ true ↦ refl | false ↦ refl ]
moves_push k (first ∷ done) entry =
    let rest = moves_push k done entry in
    elim (is_move_in k first) as (λ b. map (λ (e : Entry). e.intent) (cond b (first ∷ filter (is_move_in k) (done ++ entry ∷ [])) (filter (is_move_in k) (done ++ entry ∷ [])))
    ≡ cond (is_move_in k entry) (map (λ (e : Entry). e.intent) (cond b (first ∷ filter (is_move_in k) done) (filter (is_move_in k) done)) ++ entry.intent ∷ []) (map (λ (e : Entry). e.intent) (cond b (first ∷ filter (is_move_in k) done) (filter (is_move_in k) done)))) [
      | true ↦ ap (λ (more : List Intent). first.intent ∷ more) rest ∙ elim (is_move_in k entry) as (λ b. first.intent ∷ cond b (moves_in k done ++ entry.intent ∷ []) (moves_in k done) ≡ cond b (first.intent ∷ (moves_in k done ++ entry.intent ∷ [])) (first.intent ∷ moves_in k done)) [ true ↦ refl | false ↦ refl ]
      | false ↦ rest
    ]

-- an entry that is no move of any of the rooms
pub moves_stay : (rooms : ℕ) (done : List Entry) (entry : Entry) (lists : List (List Intent)) → ((k : ℕ) → k < rooms → is_move_in k entry ≡ false) → AreMoves rooms done lists → AreMoves rooms (done ++ entry ∷ []) lists
moves_stay rooms done entry lists none are = record {
  long = are.long;
  each = λ k inside. are.each k inside ∙ sym (moves_push k done entry ∙ ap (λ (b : Bool). cond b (moves_in k done ++ entry.intent ∷ []) (moves_in k done)) (none k inside));
}

-- ---- rooms without moves

-- so many lists, and all empty
pub record AreEmpty (many : ℕ) (lists : List (List Intent)) : Type 0 where
  pub long : length lists ≡ many
  pub each : (k : ℕ) → slice_index_or lists k [] ≡ []

pub empty_none : AreEmpty 0 []
empty_none = record { long = refl; each = λ k. refl }

empty_push : (lists : List (List Intent)) → ((k : ℕ) → slice_index_or lists k [] ≡ []) → (k : ℕ) → slice_index_or (lists ++ [] ∷ []) k [] ≡ []
empty_push [] each zero = refl
empty_push [] each (suc k) = refl
empty_push (list ∷ lists) each zero = each 0
empty_push (list ∷ lists) each (suc k) = empty_push lists (λ j. each (suc j)) k

pub empty_more : (many : ℕ) (lists : List (List Intent)) → AreEmpty many lists → AreEmpty (many + 1) (lists ++ [] ∷ [])
empty_more many lists are = record { long = length_push lists [] ∙ ap (λ n. n + 1) are.long; each = empty_push lists are.each }

pub empty_moves : (rooms many : ℕ) (lists : List (List Intent)) → many ≡ rooms → AreEmpty many lists → AreMoves rooms [] lists
empty_moves rooms many lists same are = record { long = are.long ∙ same; each = λ k inside. are.each k }

-- ---- an entry more

-- an entry that is a move of one of the rooms
pub moves_more : (rooms : ℕ) (done : List Entry) (entry : Entry) (lists : List (List Intent)) → entry.room < length lists → (action_number entry.intent.action == action_number Move) ≡ true → AreMoves rooms done lists
    → AreMoves rooms (done ++ entry ∷ []) (set lists entry.room (slice_index_or lists entry.room [] ++ entry.intent ∷ []))
moves_more rooms done entry lists there move are = record {
  long = length-set lists entry.room (slice_index_or lists entry.room [] ++ entry.intent ∷ []) ∙ are.long;
  each = λ k inside. elim (entry.room == k) as (λ b. (entry.room == k) ≡ b → slice_index_or (set lists entry.room (slice_index_or lists entry.room [] ++ entry.intent ∷ [])) k [] ≡ moves_in k (done ++ entry ∷ [])) [
    | true ↦ λ same.
        let here : entry.room ≡ k = eqb-true entry.room k same in
        ap (λ (n : ℕ). slice_index_or (set lists entry.room (slice_index_or lists entry.room [] ++ entry.intent ∷ [])) n []) (sym here)
        ∙ get_or-set_same lists entry.room (slice_index_or lists entry.room [] ++ entry.intent ∷ []) [] there
        ∙ ap (λ (list : List Intent). list ++ entry.intent ∷ []) (are.each entry.room (subst (λ (n : ℕ). n < rooms) (sym here) inside) ∙ ap (λ (n : ℕ). moves_in n done) here)
        ∙ sym (moves_push k done entry ∙ ap (λ (b : Bool). cond (b && (action_number entry.intent.action == action_number Move)) (moves_in k done ++ entry.intent ∷ []) (moves_in k done)) same ∙ ap (λ (b : Bool). cond b (moves_in k done ++ entry.intent ∷ []) (moves_in k done)) move)
    | false ↦ λ apart.
        get_or-set_other lists entry.room k (slice_index_or lists entry.room [] ++ entry.intent ∷ []) [] (λ same. eqb-false entry.room k apart (sym same))
        ∙ are.each k inside
        ∙ sym (moves_push k done entry ∙ ap (λ (b : Bool). cond (b && (action_number entry.intent.action == action_number Move)) (moves_in k done ++ entry.intent ∷ []) (moves_in k done)) apart)
  ] refl;
}
