use Rattle.std.proofs.Common.{◌≡◌, ℕ, ◌+◌, ◌<◌, List, [], ◌∷◌, ◌++◌, Some, length, get_or, slice_get, slice_index_or, refl, sym, ap, subst, ◌∙◌, append-nil, append_assoc, arith}
use Rattle.std.proofs.lemmas.Option.{get_or_from_slice_get, slice_get-get_or, slice_get_within}
use Rattle.std.proofs.lemmas.List.{length_push}
use Rattle.intent_book.specs.declared.intent.Intent.{Intent}
use Rattle.object_store.specs.declared.world.Room.{Room}
use Rattle.kept_entries.specs.declared.entries.Entry.{Entry}
use Rattle.ruled_tick.specs.inner.Ticked.{moves_in, AreMoves, AreTicked, IsTicked, IsTickedAt}
use Rattle.room_rules.specs.Calls.{AreActorsOnce}
use Rattle.ruled_tick.proofs.Places.{read_middle}
use Rattle.ruled_tick.proofs.Ticking.{ticked_push}
use Rattle.ruled_tick.proofs.rooms.tick_all.Goals as goal

abbrev no_room : List Room
no_room = []

nothing_at : (moves : List Intent) (k : ℕ) → IsTickedAt moves (slice_get no_room k) (slice_get no_room k)
nothing_at moves k = tt

pub loop-room-init : goal.loop-room-init
loop-room-init c = record {
  many = ap length c.in_ok-ticked.ensures.items;
  all = c.into_iter-room-iterator.ensures.into_iter_gives.0;
  done = λ k. subst (λ (rooms : List Room). IsTickedAt (moves_in k c.args.entries.now) (slice_get [] k) (slice_get rooms k)) (sym c.in_ok-ticked.ensures.items) (nothing_at (moves_in k c.args.entries.now) k);
}

no_rooms : (rooms : List Room) → length rooms ≡ 0 → rooms ≡ []
no_rooms [] none = refl
no_rooms (room ∷ rooms) none = absurd (omega (arith, none))

-- the room whose turn it is
at_its_place : (rooms done rest more : List Room) (room : Room) → done ++ rest ≡ rooms → rest ≡ room ∷ more → slice_get rooms (length done) ≡ Some room
at_its_place rooms done rest more room all is = ap (λ (list : List Room). slice_get list (length done)) (sym all ∙ ap (λ (list : List Room). done ++ list) is) ∙ read_middle done room more

pub tick_room-requires-clause-ready : goal.tick_room-requires-clause-ready
tick_room-requires-clause-ready c =
    let done = c.loop-room.yielded in
    c.requires.ready (length done) c.in-Some.room (at_its_place c.args.rooms.items done c.loop-room.room-iterator.rest.items c.next.new.self.rest.items c.in-Some.room c.loop-room.invariant.all c.in-Some.ensures.steps.0)

-- the moves that are read are those of its room
own_moves : (lists : List (List Intent)) (rooms : ℕ) (entries : List Entry) (i : ℕ) (d read : List Intent) → AreMoves rooms entries lists → i < rooms → read ≡ get_or lists i d → read ≡ moves_in i entries
own_moves lists rooms entries i d read are inside is =
    let within : i < length lists = omega (arith, inside, are.long) in
    is ∙ get_or_from_slice_get lists i (slice_index_or lists i []) d (slice_get-get_or lists i [] within) ∙ are.each i inside

pub tick_room-requires-clause-once : goal.tick_room-requires-clause-once
tick_room-requires-clause-once c =
    let rooms : List Room = c.args.rooms.items in
    let entries = c.args.entries.now in
    let done = c.loop-room.yielded in
    let room = c.in-Some.room in
    let lists : List (List Intent) = c.in_ok-moves.moves.items in
    let at = at_its_place rooms done c.loop-room.room-iterator.rest.items c.next.new.self.rest.items room c.loop-room.invariant.all c.in-Some.ensures.steps.0 in
    let inside : length done < length rooms = slice_get_within rooms (length done) room at in
    let place : c.len-index.result ≡ length done = omega (arith, c.len-index.ensures, c.loop-room.ticked.ok, c.loop-room.invariant.many) in
    let moves = subst (λ (n : ℕ). AreMoves n entries lists) (omega (arith, c.len.ensures, c.args.rooms.ok)) c.in_ok-moves.ensures in
    let own : c.as_slice.result.now ≡ moves_in (length done) entries =
    own_moves lists (length rooms) entries (length done) c.index.result.now c.as_slice.result.now moves inside (c.as_slice.ensures ∙ c.index.ensures ∙ ap (λ (n : ℕ). get_or lists n c.index.result.now) place) in
    subst AreActorsOnce (sym own) (c.requires.once (length done))

pub loop-room-preserved : goal.loop-room-preserved
loop-room-preserved c =
    let rooms : List Room = c.args.rooms.items in
    let entries = c.args.entries.now in
    let done = c.loop-room.yielded in
    let room = c.in-Some.room in
    let lists : List (List Intent) = c.in_ok-moves.moves.items in
    let at = at_its_place rooms done c.loop-room.room-iterator.rest.items c.next.new.self.rest.items room c.loop-room.invariant.all c.in-Some.ensures.steps.0 in
    let inside : length done < length rooms = slice_get_within rooms (length done) room at in
    let place : c.len-index.result ≡ length done = omega (arith, c.len-index.ensures, c.loop-room.ticked.ok, c.loop-room.invariant.many) in
    let moves = subst (λ (n : ℕ). AreMoves n entries lists) (omega (arith, c.len.ensures, c.args.rooms.ok)) c.in_ok-moves.ensures in
    let own : c.as_slice.result.now ≡ moves_in (length done) entries =
    own_moves lists (length rooms) entries (length done) c.index.result.now c.as_slice.result.now moves inside (c.as_slice.ensures ∙ c.index.ensures ∙ ap (λ (n : ℕ). get_or lists n c.index.result.now) place) in
    let mate = c.in_ok-tick_room.field-0 in
    let old : List Room = c.loop-room.ticked.items in
    let ticked = subst (λ (list : List Intent). IsTicked list room mate) own c.in_ok-tick_room.ensures in
    let pushed = c.in_ok-push.ensures.items in
    record {
      many = ap length pushed ∙ length_push old mate ∙ ap (λ (n : ℕ). n + 1) c.loop-room.invariant.many ∙ sym (length_push done room);
      all = append_assoc done (room ∷ []) c.next.new.self.rest.items ∙ ap (λ (more : List Room). done ++ more) (sym c.in-Some.ensures.steps.0) ∙ c.loop-room.invariant.all;
      done = λ k. subst (λ (list : List Room). IsTickedAt (moves_in k entries) (slice_get (done ++ room ∷ []) k) (slice_get list k)) (sym pushed)
          (ticked_push (λ j. moves_in j entries) done old room mate (sym c.loop-room.invariant.many) c.loop-room.invariant.done ticked k);
    }

pub returns : goal.returns
returns c =
    let rooms : List Room = c.args.rooms.items in
    let done = c.loop-room.yielded in
    let none : c.loop-room.room-iterator.rest.items ≡ [] = no_rooms c.loop-room.room-iterator.rest.items (omega (arith, c.loop-room.room-iterator.rest.ok, c.in-None.ensures.steps.0)) in
    let all : done ≡ rooms = sym (append-nil done) ∙ ap (λ (more : List Room). done ++ more) (sym none) ∙ c.loop-room.invariant.all in
    subst (λ (list : List Room). AreTicked c.args.entries.now list c.loop-room.ticked.items) all c.loop-room.invariant.done
