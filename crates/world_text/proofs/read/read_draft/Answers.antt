use Rattle.std.proofs.lemmas.Result.{MatchResult-weaker}
use Rattle.serde_json.specs.View.{view}
use Rattle.world_text.proofs.Keyed.{fault_of_keys}
use Rattle.world_text.proofs.read.read_draft.Goals as goal

pub returns-clause-fault : goal.returns-clause-fault
returns-clause-fault c = MatchResult-weaker c.read_file.result c.read_file.ensures.err (λ draft h. h) (λ e first. fault_of_keys c.args.bytes.now (view c.in_ok-value.value) e c.in_ok-value.ensures.ok first)
