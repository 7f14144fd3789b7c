use Rattle.std.proofs.Common.{◌≡◌, ◌<◌, ◌*◌, ◌^◌, take}
use Rattle.std.specs.List.{AllByRecursion}
use Rattle.world_form.specs.Digits.{hex}
use Rattle.world_text.proofs.values.bytes_of.Given as goal

abbrev pub invariant-loop-at : goal.invariant-loop-at
invariant-loop-at l = record {
  digits : take (2 * l.at) l.digits ≡ hex l.bytes;
  bytes : AllByRecursion (λ byte. byte < 2 ^ 8) l.bytes;
}
