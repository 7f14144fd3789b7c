use Rattle.std.proofs.Common.{rules, ◌≡◌, ◌+◌, ◌∙◌, sym, arith, length, drop}
use Rattle.world_io.specs.Moments.{no_moment}
use Rattle.frame_log.proofs.Frames.{piece_size, has_more, is_log_more}
use Rattle.frame_log.proofs.log.Log.append_piece.Goals as goal

pub returns-then-self-clause-each_moment : goal.returns-then-self-clause-each_moment
returns-then-self-clause-each_moment g c = λ contents has. no_moment

pub returns-in_default-clause-each_moment : goal.returns-in_default-clause-each_moment
returns-in_default-clause-each_moment g c = λ contents has. no_moment

pub returns-clause-gate : goal.returns-clause-gate
returns-clause-gate g c =
    let content = drop 8 c.args.piece.items in
    let is = c.deref.ensures.value ∙ c.in-Ok.ensures in
    let size : c.len.result ≡ 9 + length content = c.len.ensures ∙ sym c.deref.ensures.len ∙ piece_size content c.deref.result.now is in
    omega (arith, size)

pub returns-clause-done : goal.returns-clause-done
returns-clause-done g c = λ contents has.
    let is = c.deref.ensures.value ∙ c.in-Ok.ensures in
    has_more (drop 8 c.args.piece.items) _ (search rules) (returns-clause-gate g c) (λ front place. c.in-Ok-commit.ensures.written front (drop 8 c.args.piece.items) place is) has

pub returns-clause-rests : goal.returns-clause-rests
returns-clause-rests g c = is_log_more c.args.self.now.gate _ _ _ (g.D.Disk.moments c.args.disk.now) _ (drop 8 c.args.piece.items) (search rules) c.commit.ensures.alike (returns-clause-done g c)
