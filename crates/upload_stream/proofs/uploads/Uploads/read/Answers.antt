use Rattle.upload_stream.proofs.Parts.{as_read}
use Rattle.upload_stream.proofs.uploads.Uploads.read.Goals as goal

pub invariant_of-result : goal.invariant_of-result
invariant_of-result c =
    let good = c.in_ok-test_stream.ensures.good in
    as_read c.args.bytes.now good.0 good.1

pub returns-clause-list : goal.returns-clause-list
returns-clause-list c = invariant_of-result c
