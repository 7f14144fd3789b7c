-- Rooms and accounts that are added to a world one after the other.
use Rattle.std.proofs.Common.{◌≡◌, ℕ, zero, suc, ◌+◌, ◌<◌, List, [], ◌∷◌, ◌++◌, map, length, take, get_or, Some, sym, ap, ◌∙◌, append_assoc, arith}
use Rattle.std.specs.Prelude.{slice_get}
use Rattle.std.proofs.lemmas.List.{map_push}
use Rattle.object_store.specs.declared.account.Account.{Account}
use Rattle.object_store.specs.declared.world.Room.{Room}
use Rattle.object_store.specs.Stored.{AreRising, IsLast}
use Rattle.world_rules.specs.World.{ListedRoom, listed_room}
use Rattle.world_text.specs.declared.draft.RoomDraft.{RoomDraft}
use Rattle.world_text.specs.inner.Drafts.{drafted_room, HavePlaces}
use Rattle.world_text.proofs.Passes.{all_at}

-- ---- rooms

pub rooms_push : (before : List ListedRoom) (rooms : List Room) (drafts : List RoomDraft) (room : Room) (draft : RoomDraft) → map listed_room rooms ≡ before ++ map drafted_room drafts → listed_room room ≡ drafted_room draft
    → map listed_room (rooms ++ room ∷ []) ≡ before ++ map drafted_room (drafts ++ draft ∷ [])
rooms_push before rooms drafts room draft same new =
    map_push listed_room rooms room
    ∙ (λ i. same i ++ new i ∷ [])
    ∙ append_assoc before (map drafted_room drafts) (drafted_room draft ∷ [])
    ∙ ap (λ (rest : List ListedRoom). before ++ rest) (sym (map_push drafted_room drafts draft))

place_push : (first : ℕ) (rooms : List Room) (new : Room) → ((k : ℕ) (room : Room) → slice_get rooms k ≡ Some room → room.table.index ≡ first + k) → new.table.index ≡ first + length rooms
    → (k : ℕ) (room : Room) → slice_get (rooms ++ new ∷ []) k ≡ Some room → room.table.index ≡ first + k
place_push first [] new places last zero room e = let same : new ≡ room = cc in ap (λ (r : Room). r.table.index) (sym same) ∙ last
place_push first [] new places last (suc k) room e = absurd cc
place_push first (x ∷ rooms) new places last zero room e = places 0 room e
place_push first (x ∷ rooms) new places last (suc k) room e =
    let later = place_push (suc first) rooms new (λ (j : ℕ) (r : Room) (at : slice_get rooms j ≡ Some r). places (suc j) r at ∙ omega arith) (last ∙ omega arith) k room e in
    later ∙ omega arith

pub places_push : (rooms : List Room) (new : Room) → HavePlaces rooms → new.table.index ≡ length rooms → HavePlaces (rooms ++ new ∷ [])
places_push rooms new places last k room e = place_push 0 rooms new (λ (j : ℕ) (r : Room) (at : slice_get rooms j ≡ Some r). places j r at ∙ omega arith) (last ∙ omega arith) k room e ∙ omega arith

-- ---- accounts

-- Each account comes after those before it.
pub comes_last : (accounts : List Account) (k : ℕ) (account : Account) → AreRising accounts → k < length accounts → account ≡ get_or accounts k account → IsLast account.player (take k accounts)
comes_last [] k account rising lt is = absurd (omega arith)
comes_last (a ∷ accounts) zero account rising lt is = tt
comes_last (a ∷ accounts) (suc k) account rising lt is =
    (all_at (λ (later : Account). a.player < later.player) accounts k account (omega arith) is rising.0, comes_last accounts k account rising.1 (omega arith) is)
