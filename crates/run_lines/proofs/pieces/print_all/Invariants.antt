use Rattle.std.proofs.Common.{◌≡◌, List, ℕ, take, Bor}
use Rattle.std.specs.List.{flat_map}
use Rattle.run_lines.specs.inner.Pieces.{Gives}
use Rattle.run_lines.proofs.pieces.print_all.Given as goal

abbrev pub invariant-loop-text : goal.invariant-loop-text
invariant-loop-text g l = record {
  given : Gives (g.O.Sink.written l.fn.out) (g.O.Sink.written l.out) l.fn.piece.items l.piece.items (flat_map (λ (text : Bor (List ℕ)). text.now) (take l.text-index l.texts));
  steady : g.O.Sink.faults l.out ≡ g.O.Sink.faults l.fn.out;
}
