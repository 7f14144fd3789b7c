use Rattle.std.proofs.Common.{◌≡◌, ◌+◌, ◌≤◌, ◌++◌, ◌∙◌, List, ap, sym, subst}
use Rattle.std.specs.List.{AllByRecursion}
use Rattle.upload_stream.specs.Streams.{Upload as Entry, uploads_after, uploads_at}
use Rattle.upload_stream.specs.inner.Reading.{uploads_in}
use Rattle.upload_stream.proofs.Parts.{as_read, of_tick, split_back, split_front, uploads_are}
use Rattle.upload_stream.proofs.uploads.Uploads.take_tick.Goals as goal

pub length_before-count-requires : goal.length_before-count-requires
length_before-count-requires c =
    let bytes = c.self.inside.bytes.now in
    let split = c.length_before.ensures.split (uploads_in bytes) c.self.invariant in
    (split.back, split_back c.args.tick bytes (uploads_in bytes) c.length_before.result c.self.invariant split)

pub invariant_of-self : goal.invariant_of-self
invariant_of-self c =
    let bytes = c.self.inside.bytes.now in
    let first = c.length_before.ensures.split (uploads_in bytes) c.self.invariant in
    let list = split_back c.args.tick bytes (uploads_in bytes) c.length_before.result c.self.invariant first in
    let split = c.length_before-count.ensures.split first.back list in
    as_read _ split.back (split_back (c.args.tick + 1) _ first.back c.length_before-count.result list split)

pub invariant_of-result : goal.invariant_of-result
invariant_of-result c =
    let bytes = c.self.inside.bytes.now in
    let first = c.length_before.ensures.split (uploads_in bytes) c.self.invariant in
    let list = split_back c.args.tick bytes (uploads_in bytes) c.length_before.result c.self.invariant first in
    let split = c.length_before-count.ensures.split first.back list in
    as_read _ split.front (split_front (c.args.tick + 1) _ first.back c.length_before-count.result list split)

pub returns-clause-taken : goal.returns-clause-taken
returns-clause-taken c =
    let bytes = c.self.inside.bytes.now in
    let first = c.length_before.ensures.split (uploads_in bytes) c.self.invariant in
    let list = split_back c.args.tick bytes (uploads_in bytes) c.length_before.result c.self.invariant first in
    let split = c.length_before-count.ensures.split first.back list in
    let whole : c.args.self.now ≡ first.front ++ (split.front ++ split.back) = sym c.self.view_is ∙ (first.parts ∙ ap (λ (z : List Entry). first.front ++ z) split.parts) in
    let are = of_tick c.args.tick first.front split.front split.back first.before (subst (AllByRecursion (λ (u : Entry). c.args.tick ≤ u.tick)) split.parts first.behind) split.before split.behind in
    uploads_are _ split.front (split_front (c.args.tick + 1) _ first.back c.length_before-count.result list split)
    ∙ sym (ap (uploads_at c.args.tick) whole ∙ are.0)

pub returns-clause-left : goal.returns-clause-left
returns-clause-left c =
    let bytes = c.self.inside.bytes.now in
    let first = c.length_before.ensures.split (uploads_in bytes) c.self.invariant in
    let list = split_back c.args.tick bytes (uploads_in bytes) c.length_before.result c.self.invariant first in
    let split = c.length_before-count.ensures.split first.back list in
    let whole : c.args.self.now ≡ first.front ++ (split.front ++ split.back) = sym c.self.view_is ∙ (first.parts ∙ ap (λ (z : List Entry). first.front ++ z) split.parts) in
    let are = of_tick c.args.tick first.front split.front split.back first.before (subst (AllByRecursion (λ (u : Entry). c.args.tick ≤ u.tick)) split.parts first.behind) split.before split.behind in
    uploads_are _ split.back (split_back (c.args.tick + 1) _ first.back c.length_before-count.result list split)
    ∙ sym (ap (uploads_after c.args.tick) whole ∙ are.1)
