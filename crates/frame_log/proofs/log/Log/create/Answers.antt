use Rattle.std.proofs.Common.{rules, [], inl, ◌∙◌, sym, refl}
use Rattle.world_io.specs.Moments.{no_moment}
use Rattle.world_io.proofs.Moments.{since_trans, since_weaken}
use Rattle.frame_log.proofs.Ends.{cleared, is_log_cleared, empty_or_first}
use Rattle.frame_log.proofs.Frames.{piece_size, has_more, is_log_more}
use Rattle.frame_log.proofs.log.Log.create.Goals as goal

pub returns-in_default-clause-each_moment : goal.returns-in_default-clause-each_moment
returns-in_default-clause-each_moment g c = λ bytes empty rests. no_moment

pub returns-in_default-clear-clause-each_moment : goal.returns-in_default-clear-clause-each_moment
returns-in_default-clear-clause-each_moment g c = λ bytes empty rests. since_weaken (λ image is. inl is) (c.clear.ensures.each_moment bytes empty rests)

pub commit-requires-clause-log : goal.commit-requires-clause-log
commit-requires-clause-log g c = is_log_cleared _ _ (g.D.Disk.moments c.args.disk.now) _ c.requires c.clear.ensures.alike c.in-Ok-clear.ensures.done

pub returns-in_default-commit-clause-each_moment : goal.returns-in_default-commit-clause-each_moment
returns-in_default-commit-clause-each_moment g c = λ bytes empty rests.
    let has = cleared _ _ (c.in-Ok-clear.ensures.done bytes empty rests) in
    since_trans (since_weaken (λ image is. inl is) (c.clear.ensures.each_moment bytes empty rests))
    (since_weaken (empty_or_first c.args.first.now) (c.commit.ensures.each_moment [] c.args.first.now (search rules) (c.deref.ensures.value ∙ c.in-Ok.ensures) has))

pub returns-clause-each_moment : goal.returns-clause-each_moment
returns-clause-each_moment g c = λ bytes empty rests.
    let has = cleared _ _ (c.in-Ok-clear.ensures.done bytes empty rests) in
    since_trans (since_weaken (λ image is. inl is) (c.clear.ensures.each_moment bytes empty rests))
    (since_weaken (empty_or_first c.args.first.now) (c.commit.ensures.each_moment [] c.args.first.now (search rules) (c.deref.ensures.value ∙ c.in-Ok.ensures) has))

pub returns-clause-written : goal.returns-clause-written
returns-clause-written g c = λ bytes empty rests. c.in-Ok-commit.ensures.written [] c.args.first.now refl (c.deref.ensures.value ∙ c.in-Ok.ensures) (c.in-Ok-clear.ensures.done bytes empty rests)

pub returns-clause-gate : goal.returns-clause-gate
returns-clause-gate g c = c.len.ensures ∙ sym c.deref.ensures.len ∙ piece_size c.args.first.now c.deref.result.now (c.deref.ensures.value ∙ c.in-Ok.ensures)

pub returns-clause-rests : goal.returns-clause-rests
returns-clause-rests g c =
    let there = is_log_cleared _ _ (g.D.Disk.moments c.args.disk.now) _ c.requires c.clear.ensures.alike c.in-Ok-clear.ensures.done in
    let is = c.deref.ensures.value ∙ c.in-Ok.ensures in
    is_log_more 0 _ _ _ (g.D.Disk.moments c.clear.new.disk) _ c.args.first.now there c.commit.ensures.alike
    (λ contents has. has_more c.args.first.now _ (search rules) (returns-clause-gate g c) (λ front place. c.in-Ok-commit.ensures.written front c.args.first.now place is) has)
