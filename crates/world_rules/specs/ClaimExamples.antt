-- Worked examples of controllers, which the check computes.
use Rattle.std.specs.Prelude.{◌≡◌, ℕ, [], replicate}
use Rattle.game_tables.specs.declared.kind.Kind.TheVariants as kinds
use Rattle.game_tables.specs.declared.kind.Part.TheVariants as part_kinds
use Rattle.room_table.specs.declared.object.Object.{Object}
use Rattle.world_rules.specs.Claims.{claimed_for, controller_aged_as, controller_hurt, ticks_reserved}
use Rattle.world_rules.specs.Claims.{work_taken, worked_on}
use Rattle.world_rules.specs.FightExamples.{one_of}

-- a controller of this owner and level, with this progress and time, and with this reserver and these ticks
abbrev pub controller : ℕ → ℕ → ℕ → ℕ → ℕ → ℕ → Object
controller owner level progress timer other other_ticks = record {
  id = 2;
  kind = kinds.Controller;
  x = 10;
  y = 21;
  owner = owner;
  hits = 0;
  energy = 0;
  timer = timer;
  extra = level;
  progress = progress;
  other = other;
  other_ticks = other_ticks;
  body = [];
}

-- one of player 1, with what was put into it in the tick
abbrev pub owned : ℕ → ℕ → ℕ → ℕ → Object
owned level progress timer sum = controller 1 level progress timer 0 sum

-- one that nobody owns and player 1 reserves for so many ticks
abbrev pub reserved_for : ℕ → Object
reserved_for ticks = controller 0 0 0 0 1 ticks

-- nobody's
abbrev pub free : Object
free = controller 0 0 0 0 0 0

-- a creep with so many CLAIM parts
abbrev pub claimer : ℕ → Object
claimer parts = one_of 5000 (replicate parts part_kinds.Claim)

-- a creep with so many WORK parts and this load
abbrev pub upgrader : ℕ → ℕ → Object
upgrader parts load = record (one_of 5000 (replicate parts part_kinds.Work)) { energy = load }

-- Player 1 claims it, and this comes of it.
abbrev pub Claims : Object → Object → Type 0
Claims before after = claimed_for 1 before ≡ after

-- A creep with so many CLAIM parts reserves it for so many ticks.
abbrev pub Reserves : ℕ → Object → ℕ → Type 0
Reserves parts before ticks = ticks_reserved (claimer parts) before ≡ ticks

-- A creep with so many CLAIM parts attacks it, and this comes of it.
abbrev pub Hurts : ℕ → Object → Object → Type 0
Hurts parts before after = controller_hurt (claimer parts) before ≡ after

-- A creep with so many WORK parts and this load puts this into it.
abbrev pub Gives : ℕ → ℕ → Object → ℕ → Type 0
Gives parts load before amount = work_taken (upgrader parts load) before ≡ amount

-- This comes of it where so much is put into it.
abbrev pub Becomes : ℕ → Object → Object → Type 0
Becomes amount before after = worked_on amount before ≡ after

-- This is left of it by a tick.
abbrev pub Ages : Object → Object → Type 0
Ages before after = controller_aged_as kinds.Controller before ≡ after
