use Rattle.std.proofs.Common.{refl}
use Rattle.world_text.proofs.rooms.read_room.Goals as goal

pub returns-clause-ok : goal.returns-clause-ok
returns-clause-ok c =
    let said = c.in_ok-objects.ensures.ok in (
      record { frame = record { name = c.in_ok-name.name; grounds = c.in_ok-terrain.terrain; next = c.in_ok-next.next }; objects = said.0 },
      record { name = c.in_ok-name.ensures.ok; terrain = c.in_ok-terrain.ensures.ok; next = c.in_ok-next.ensures.ok; objects = said.1 },
      record { frame = refl; objects = said.2 },
    )
