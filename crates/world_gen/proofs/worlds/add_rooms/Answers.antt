use Rattle.std.proofs.Common.{◌≡◌, ap, sym, ◌∙◌, arith}
use Rattle.world_gen.specs.Generator.{rooms_from}
use Rattle.world_gen.proofs.Drawn.{state_none}
use Rattle.world_gen.proofs.Listed.{no_rooms_yet, room_next, room_state}
use Rattle.world_gen.proofs.worlds.add_rooms.Goals as goal

pub loop-index-init : goal.loop-index-init
loop-index-init c = record {
  state = sym (state_none c.args.seed);
  world = no_rooms_yet c.args.seed c.args.players c.args.world.now c.requires.none;
}

pub loop-index-preserved : goal.loop-index-preserved
loop-index-preserved c = record {
  state =
      room_state c.args.seed c.loop-index.index c.loop-index.state c.drawn_terrain.new.state c.drawn_table.new.state
      c.loop-index.invariant.state c.in_ok-terrain.ensures.state c.in_ok-table.ensures.state;
  world =
      room_next c.args.seed c.args.players c.loop-index.index c.loop-index.state c.drawn_terrain.new.state
      c.args.world.now c.loop-index.world c.push_room.new.self c.name_of.result c.in_ok-terrain.terrain
      c.in_ok-table.table c.loop-index.invariant.world c.loop-index.invariant.state c.name_of.ensures
      c.in_ok-terrain.ensures.made c.in_ok-terrain.ensures.state c.in_ok-table.ensures.made
      c.in_ok-push_room.ensures.ok;
}

pub returns : goal.returns
returns c =
    let at_end : c.loop-index.index ≡ c.args.rooms = omega arith in
    c.loop-index.invariant.world
    ∙ ap (λ k. record c.args.world.now { rooms = rooms_from c.args.seed c.args.players k }) at_end
