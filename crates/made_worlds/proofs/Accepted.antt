-- Each text of the players' module is accepted.
use Rattle.std.proofs.Common.{List, ℕ}
use Rattle.byte_fields.specs.Front.{SpellsShortest}
use Rattle.wasm_module.specs.Limits.{WithinBytes}
use Rattle.wasm_module.specs.Sections.{Spells}
use Rattle.player_run.specs.Admission.{IsAccepted}
use Rattle.world_gen.specs.PlayerModule.{player_module}
use Rattle.made_worlds.proofs.Linked.{are_signatures, linked, signatures, the_program}
use Rattle.made_worlds.proofs.Short.{module_short}
use Rattle.made_worlds.proofs.Valid.{no_floats, valid, within}

pub module_accepted : (text : List ℕ) → Spells text player_module → WithinBytes text → IsAccepted text
module_accepted text spelled short = (
  record { whole = player_module; program = the_program; main = 7 },
  record {
    syntax = player_module;
    spells = ((spelled, short, within), no_floats, valid);
    sigs = signatures;
    calls = are_signatures;
    linked = linked;
  },
)

pub shortest_accepted : (text : List ℕ) → SpellsShortest Spells text player_module → IsAccepted text
shortest_accepted text shortest = module_accepted text shortest.0 (module_short text shortest)
