use Rattle.std.proofs.Common.{◌<◌, length, option_map, slice_get, sym, ap, subst, ◌∙◌, refl, arith, length-set}
use Rattle.object_store.specs.declared.world.Room.{Room}
use Rattle.object_store.specs.inner.Naming.{AreByName}
use Rattle.object_store.specs.Stored.{Stored}
use Rattle.object_store.proofs.Named.{names_same, table_at, with_table_is}
use Rattle.object_store.proofs.world.World.room_mut.Goals as goal

pub invariant_of-self-lent : goal.invariant_of-self-lent
invariant_of-self-lent c w =
    let rooms = c.self.inside.rooms.items in
    let i = c.args.index in
    let room = c.index_mut-room.result.now in
    let changed : Room = record room { table = w } in
    let within : i < length rooms = omega (arith, c.requires, ap length (ap (λ (s : Stored). s.rooms) c.self.view_is)) in (
      omega (arith, c.self.invariant.0, length-set rooms i changed),
      subst (λ ns. AreByName ns c.self.inside.by_name.items) (sym (names_same rooms i room w within c.index_mut-room.ensures.value)) c.self.invariant.1,
      c.self.invariant.2,
      c.self.invariant.3,
    )

pub returns : goal.returns
returns c =
    let rooms = c.self.inside.rooms.items in
    let i = c.args.index in
    let room = c.index_mut-room.result.now in
    let within : i < length rooms = omega (arith, c.requires, ap length (ap (λ (s : Stored). s.rooms) c.self.view_is)) in
    let read = c.index_mut-room.ensures.value in (
      (
        refl,
        λ w. rw (with_table_is rooms i room w within read, ← c.self.view_is) refl,
      ),
      record {
        writes_back = tt;
        value = ap (λ (s : Stored). option_map (λ (r : Room). r.table) (slice_get s.rooms i)) (sym c.self.view_is) ∙ table_at rooms i room within read;
      },
    )
