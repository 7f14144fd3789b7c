use Rattle.std.proofs.Common.{◌≡◌, map, take, string_bytes}
use Rattle.world_form.specs.Digits.{ground_digit}
use Rattle.world_text.proofs.write.terrain_text.Given as goal

abbrev pub invariant-loop-ground : goal.invariant-loop-ground
invariant-loop-ground l = string_bytes l.text ≡ map ground_digit (take l.ground-index l.ground-items)
