use Rattle.world_gen.specs.Generator.{players_of}
use Rattle.world_gen.proofs.Streamed.{uploads_are, uploads_found}
use Rattle.world_gen.proofs.stream.generate_uploads.Goals as goal

pub returns-clause-found : goal.returns-clause-found
returns-clause-found c =
    uploads_found c.in_ok-text.text.items c.deref.result.now c.in_ok-bytes.bytes.items
    c.players_of.result (players_of c.args.rooms) c.in_ok-text.ensures.shortest
    c.deref.ensures.value c.players_of.ensures c.in_ok-bytes.ensures

pub returns-clause-only : goal.returns-clause-only
returns-clause-only c =
    uploads_are c.in_ok-text.text.items c.deref.result.now c.in_ok-bytes.bytes.items
    c.players_of.result (players_of c.args.rooms) c.in_ok-text.ensures.once
    c.deref.ensures.value c.players_of.ensures c.in_ok-bytes.ensures
