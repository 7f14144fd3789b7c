use Rattle.std.proofs.Common.{◌≡◌, length}
use Rattle.host_calls.proofs.Parts.{AreRead}
use Rattle.host_calls.proofs.making.body_of.Given as goal

abbrev pub invariant-loop-byte : goal.invariant-loop-byte
invariant-loop-byte l = record {
  read : AreRead l.bytes l.byte-index l.body;
  few : length l.body ≡ l.byte-index;
}
