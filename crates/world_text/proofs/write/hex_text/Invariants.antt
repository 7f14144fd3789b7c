use Rattle.std.proofs.Common.{◌≡◌, take, string_bytes}
use Rattle.world_form.specs.Digits.{hex}
use Rattle.world_text.proofs.write.hex_text.Given as goal

abbrev pub invariant-loop-byte : goal.invariant-loop-byte
invariant-loop-byte l = string_bytes l.text ≡ hex (take l.byte-index l.bytes)
