use Rattle.std.proofs.Common.{◌≡◌, map, take}
use Rattle.world_form.specs.Digits.{ground_digit}
use Rattle.world_text.proofs.values.grounds_of.Given as goal

abbrev pub invariant-loop-digit : goal.invariant-loop-digit
invariant-loop-digit l = take l.digit-index l.text ≡ map ground_digit l.grounds.items
