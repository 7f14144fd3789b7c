use Rattle.std.proofs.Common.{◌≡◌, ℕ, ◌+◌, ◌^◌, ◌<◌, ◌==◌, if◌then◌else◌, List, [], ◌++◌, map, length, replicate, take, drop, option_map, slice_get, sym, ap, subst, ◌∙◌, arith}
use Rattle.std.specs.List.{AllByRecursion}
use Rattle.std.proofs.lemmas.List.{length-take-le}
use Rattle.kept_entries.specs.Turns.{placed}
use Rattle.object_store.specs.declared.account.Account.{Account}
use Rattle.object_store.specs.declared.world.Room.{Room}
use Rattle.world_rules.specs.Tick.{book, gained}
use Rattle.world_rules.specs.World.{world_of}
use Rattle.room_table.specs.Tables.{IsOnTile}
use Rattle.room_rules.specs.RoomRules.{is_player}
use Rattle.exit_crossing.specs.declared.leaving.Crosser.{Crosser}
use Rattle.exit_crossing.specs.Crossing.{AreCrossers, AreIdsApart, rested_room}
use Rattle.ruled_tick.proofs.Players.{entry_of_somebody}
use Rattle.ruled_tick.specs.inner.Entered.{many_in, points_entered, widened, AreGains, IsActed, IsRuledIn}
use Rattle.ruled_tick.specs.inner.Ticked.{AreInPlace}
use Rattle.ruled_tick.proofs.Ticking.{as_many_ticked}
use Rattle.ruled_tick.proofs.Acted.{acted_first, acted_more, acted_next, acted_ready, acted_then}
use Rattle.ruled_tick.proofs.Gaining.{gained_all, gained_first, gained_more, gained_then}
use Rattle.ruled_tick.proofs.Moves.{actors_once}
use Rattle.ruled_tick.proofs.Next.{read_gains}
use Rattle.ruled_tick.proofs.Places.{written_back}
use Rattle.ruled_tick.proofs.Ruled.{are_ruled, ready_rooms, ready_to_tick, ticked_ids, ticked_places, ticked_tiles}
use Rattle.ruled_tick.proofs.tick.ruled_rooms.Goals as goal

pub loop-entry-init : goal.loop-entry-init
loop-entry-init c =
    let world = c.args.world in
    let entries = c.args.entries.now in
    let items = c.into_parts-rooms.result.0.items in
    let new = c.widen_all.new.rooms in
    let start = c.deref_mut.ensures.value ∙ c.into_parts-rooms.ensures.rooms in
    let long : length new ≡ length c.deref_mut.result.now = c.widen_all.auto.rooms in
    let full : c.into_parts-rooms.result.0.len ≡ length items = omega (arith, c.deref_mut.ensures.len, ap length c.deref_mut.ensures.value) in
    let many : c.len.result ≡ length world.accounts = omega (arith, c.len.ensures, c.into_parts-rooms.result.1.ok, ap length c.into_parts-rooms.ensures.accounts) in
    record {
      acted = subst (IsActed world [] entries) (sym (written_back items new c.into_parts-rooms.result.0.len (long ∙ ap length c.deref_mut.ensures.value) full))
          (acted_first world entries new c.requires.sound
          (λ k. c.in_ok-widen_all.ensures k ∙ ap (λ (xs : List Room). option_map (widened (many_in k entries)) (slice_get xs k)) start)
          c.requires.serials (long ∙ ap length start));
      gained = c.in_ok-gains.ensures.items_if_clones_equal (λ y same. same) ∙ ap (λ (n : ℕ). replicate n 0) many ∙ gained_first world.accounts;
    }

pub enter-points-requires : goal.enter-points-requires
enter-points-requires c =
    let world = c.args.world in
    let entries = c.args.entries.now in
    let i = c.loop-entry.entry-index in
    let entry = c.entry-item.result in
    let items = c.loop-entry.rooms.items in
    let few : length (take i entries) < 2 ^ 18 = omega (arith, length-take-le i entries, c.requires.few) in
    record {
      ready = λ room at.
          acted_ready world c.requires.sound (take i entries) entry (entry_of_somebody (world_of world) c.requires.kept.0 entries c.requires.kept.1 i entry c.loop-entry-test.true c.entry-item.is) (drop (i + 1) entries) items (acted_next world entries i entry items c.loop-entry-test.true c.entry-item.is c.loop-entry.invariant.acted) few room
          (ap (λ (xs : List Room). slice_get xs entry.room) (sym c.deref_mut-in-loop-entry.ensures.value) ∙ at);
    }

pub loop-entry-preserved : goal.loop-entry-preserved
loop-entry-preserved c =
    let world = c.args.world in
    let entries = c.args.entries.now in
    let i = c.loop-entry.entry-index in
    let entry = c.entry-item.result in
    let items = c.loop-entry.rooms.items in
    let points = c.enter-points.result in
    let new = c.enter-points.new.rooms in
    let value = c.deref_mut-in-loop-entry.ensures.value in
    let long : length new ≡ length c.deref_mut-in-loop-entry.result.now = c.enter-points.auto.rooms in
    let full : c.loop-entry.rooms.len ≡ length items = omega (arith, c.deref_mut-in-loop-entry.ensures.len, ap length value) in
    let ruled = subst (λ (xs : List Room). IsRuledIn (slice_get xs entry.room) entry.room entry.intent points xs new) value c.enter-points.ensures in
    let acted = acted_next world entries i entry items c.loop-entry-test.true c.entry-item.is c.loop-entry.invariant.acted in
    let gains : List ℕ = c.loop-entry.gains.items in
    let beside : List ℕ = c.add_gain.new.gains in
    let read = c.deref_mut-in-loop-entry-2.ensures.value in
    let as_long : length beside ≡ length c.deref_mut-in-loop-entry-2.result.now = c.add_gain.auto.gains in
    let stored = c.deref.ensures.value ∙ c.into_parts-rooms.ensures.accounts in
    let before : ℕ → ℕ = points_entered (world_of world) (map placed (take i entries)) in
    let after : ℕ → ℕ = λ player. before player + (if entry.intent.player == player then points else 0) in
    let added = c.add_gain.ensures before (read_gains before world.accounts c.deref.result.now gains c.deref_mut-in-loop-entry-2.result.now stored read c.loop-entry.invariant.gained) in
    let whole : c.loop-entry.gains.len ≡ length gains = omega (arith, c.deref_mut-in-loop-entry-2.ensures.len, ap length read) in
    record {
      acted = subst (IsActed world (take (i + 1) entries) (drop (i + 1) entries)) (sym (written_back items new c.loop-entry.rooms.len (long ∙ ap length value) full))
          (acted_then world entries i entry new c.loop-entry-test.true c.entry-item.is
          (acted_more world c.requires.sound (take i entries) entry (entry_of_somebody (world_of world) c.requires.kept.0 entries c.requires.kept.1 i entry c.loop-entry-test.true c.entry-item.is) (drop (i + 1) entries) items acted points new ruled));
      gained = subst (AreGains (points_entered (world_of world) (map placed (take (i + 1) entries))) world.accounts) (sym (written_back gains beside c.loop-entry.gains.len (as_long ∙ ap length read) whole))
          (gained_then world entries i entry beside c.loop-entry-test.true c.entry-item.is
          (gained_more world c.requires.sound (take i entries) entry (drop (i + 1) entries) items acted points new ruled beside
          (subst (λ (accounts : List Account). AreGains after accounts beside) stored added)));
    }

pub tick_all-requires-clause-ready : goal.tick_all-requires-clause-ready
tick_all-requires-clause-ready c = λ index room at.
    ready_to_tick c.args.world c.requires.sound c.loop-entry.rooms.items (is_player (world_of c.args.world)) c.loop-entry.invariant.acted.follow index room at

pub tick_all-requires-clause-once : goal.tick_all-requires-clause-once
tick_all-requires-clause-once c = λ index. actors_once (world_of c.args.world) c.requires.kept.0 c.args.entries.now c.requires.kept.1 index

pub all_crossers-requires-clause-places : goal.all_crossers-requires-clause-places
all_crossers-requires-clause-places c = λ index room at.
    ticked_places c.args.world c.requires.sound c.args.entries.now c.requires.kept.0 c.requires.kept.1 c.loop-entry.entry-index c.loop-entry.rooms.items c.loop-entry.invariant.acted c.loop-entry-test.false c.in_ok-rooms.rooms.items c.in_ok-rooms.ensures index room
    (ap (λ (xs : List Room). slice_get xs index) (sym c.deref_mut-2.ensures.value) ∙ at)

pub all_crossers-requires-clause-tiles : goal.all_crossers-requires-clause-tiles
all_crossers-requires-clause-tiles c =
    subst (λ (xs : List Room). AllByRecursion (λ (room : Room). AllByRecursion IsOnTile room.table.objects) xs) (sym c.deref_mut-2.ensures.value)
    (ticked_tiles c.args.world c.requires.sound c.args.entries.now c.requires.kept.0 c.requires.kept.1 c.loop-entry.entry-index c.loop-entry.rooms.items c.loop-entry.invariant.acted c.loop-entry-test.false c.in_ok-rooms.rooms.items c.in_ok-rooms.ensures)

pub all_crossers-requires-clause-ids : goal.all_crossers-requires-clause-ids
all_crossers-requires-clause-ids c =
    subst AreIdsApart (sym c.deref_mut-2.ensures.value)
    (ticked_ids c.args.world c.requires.sound c.args.entries.now c.requires.kept.0 c.requires.kept.1 c.loop-entry.entry-index c.loop-entry.rooms.items c.loop-entry.invariant.acted c.loop-entry-test.false c.in_ok-rooms.rooms.items c.in_ok-rooms.ensures)

pub world_of_rooms-requires-clause-places : goal.world_of_rooms-requires-clause-places
world_of_rooms-requires-clause-places c =
    let new : List Room = c.in_ok-rooms.rooms.items in
    let last = c.all_crossers.new.rooms in
    let value = c.deref_mut-2.ensures.value in
    let long : length last ≡ length c.deref_mut-2.result.now = c.all_crossers.auto.rooms in
    let rested : last ≡ map rested_room new = c.in_ok-crossers.ensures.rested ∙ ap (map rested_room) value in
    let final : take c.in_ok-rooms.rooms.len (last ++ drop (length last) new) ≡ last = written_back new last c.in_ok-rooms.rooms.len (long ∙ ap length value) (omega (arith, c.in_ok-rooms.rooms.ok)) in
    subst AreInPlace (sym (final ∙ rested))
    (ready_rooms c.args.world c.requires.sound c.args.entries.now c.requires.kept.0 c.requires.kept.1 c.loop-entry.entry-index c.loop-entry.rooms.items c.loop-entry.invariant.acted c.loop-entry-test.false new c.in_ok-rooms.ensures).places

pub world_of_rooms-requires-clause-within : goal.world_of_rooms-requires-clause-within
world_of_rooms-requires-clause-within c =
    let new : List Room = c.in_ok-rooms.rooms.items in
    let last = c.all_crossers.new.rooms in
    let value = c.deref_mut-2.ensures.value in
    let long : length last ≡ length c.deref_mut-2.result.now = c.all_crossers.auto.rooms in
    let final : take c.in_ok-rooms.rooms.len (last ++ drop (length last) new) ≡ last = written_back new last c.in_ok-rooms.rooms.len (long ∙ ap length value) (omega (arith, c.in_ok-rooms.rooms.ok)) in
    let many = as_many_ticked c.args.entries.now c.loop-entry.rooms.items new c.in_ok-rooms.ensures in
    omega (arith, ap length final, long, ap length value, many, c.loop-entry.invariant.acted.many, c.stands_in_order.ensures.rooms)

pub returns-clause-rooms : goal.returns-clause-rooms
returns-clause-rooms c =
    let new : List Room = c.in_ok-rooms.rooms.items in
    let last = c.all_crossers.new.rooms in
    let value = c.deref_mut-2.ensures.value in
    let long : length last ≡ length c.deref_mut-2.result.now = c.all_crossers.auto.rooms in
    let rested : last ≡ map rested_room new = c.in_ok-crossers.ensures.rested ∙ ap (map rested_room) value in
    let final : take c.in_ok-rooms.rooms.len (last ++ drop (length last) new) ≡ last = written_back new last c.in_ok-rooms.rooms.len (long ∙ ap length value) (omega (arith, c.in_ok-rooms.rooms.ok)) in
    let crossing : List Crosser = c.in_ok-crossers.crossers.items in
    are_ruled c.args.world c.requires.sound c.args.entries.now c.requires.kept.0 c.requires.kept.1 c.loop-entry.entry-index c.loop-entry.rooms.items c.loop-entry.invariant.acted c.loop-entry-test.false new c.in_ok-rooms.ensures crossing
    (λ s at. c.in_ok-crossers.ensures.list s (at ∙ sym value))
    (subst (λ (xs : List Room). AreCrossers xs crossing) rested c.in_ok-crossers.ensures.crossers)
    c.in_ok-next.next
    (c.in_ok-next.ensures ∙ (λ j. record { tick = c.tick-tick.ensures j + 1; rooms = (final ∙ rested) j; accounts = [] }))
    (as_many_ticked c.args.entries.now c.loop-entry.rooms.items new c.in_ok-rooms.ensures)

pub returns-clause-gains : goal.returns-clause-gains
returns-clause-gains c = λ list kept.
    let world = c.args.world in
    let gains : List ℕ = c.loop-entry.gains.items in
    subst (λ (accounts : List Account). AreGains (gained book (world_of world) list) accounts gains) (sym c.into_parts-rooms.ensures.accounts)
    (gained_all world c.requires.sound c.args.entries.now c.loop-entry.entry-index gains c.loop-entry-test.false c.loop-entry.invariant.gained list kept)
