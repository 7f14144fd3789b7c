-- The objects of one room more.
use Rattle.std.proofs.Common.{◌≡◌, ℕ, suc, ◌+◌, List, [], ◌∷◌, ◌++◌, map, length, sym, ap, ◌∙◌, arith, append_assoc}
use Rattle.std.proofs.lemmas.List.{append-nil}
use Rattle.object_store.specs.declared.world.Room.{Room}
use Rattle.world_rules.specs.World.{Placed, placed_from, listed_room}
use Rattle.world_roster.specs.inner.Listed.{placed_at, placed_among}

placed_more : (k : ℕ) (rooms : List Room) (room : Room) → placed_from k (map listed_room (rooms ++ room ∷ [])) ≡ placed_from k (map listed_room rooms) ++ placed_at (k + length rooms) room.table.objects
placed_more k [] room = append-nil (placed_at k room.table.objects) ∙ ap (λ (n : ℕ). placed_at n room.table.objects) (omega arith)
placed_more k (first ∷ rooms) room =
    let rest = placed_more (suc k) rooms room in
    ap (λ (more : List (ℕ × Placed)). placed_at k first.table.objects ++ more) (rest ∙ ap (λ (n : ℕ). placed_from (suc k) (map listed_room rooms) ++ placed_at n room.table.objects) (place k (length rooms)))
    ∙ sym (append_assoc (placed_at k first.table.objects) (placed_from (suc k) (map listed_room rooms)) (placed_at (k + length (first ∷ rooms)) room.table.objects))
  where
    place : (k n : ℕ) → suc k + n ≡ k + suc n
    place k n = omega arith

-- one room more
pub placed_push : (rooms : List Room) (room : Room) → placed_among (rooms ++ room ∷ []) ≡ placed_among rooms ++ placed_at (length rooms) room.table.objects
placed_push rooms room = placed_more 0 rooms room ∙ ap (λ (n : ℕ). placed_among rooms ++ placed_at n room.table.objects) (omega arith)
