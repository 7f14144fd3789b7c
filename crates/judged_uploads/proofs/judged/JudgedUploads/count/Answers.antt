use Rattle.std.proofs.Common.{rules, ◌≡◌, ◌∙◌, sym, ap, length}
use Rattle.judged_uploads.proofs.Judging.{judged_length}
use Rattle.judged_uploads.proofs.judged.JudgedUploads.count.Goals as goal

pub returns : goal.returns
returns c =
    let len : c.len.result ≡ length c.self.inside.results.items = search rules in
    len ∙ sym (judged_length _ _ c.self.invariant) ∙ ap length c.self.view_is
