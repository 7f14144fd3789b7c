use Rattle.std.proofs.Common.{◌≡◌, ◌++◌, ℕ, List, take, ap, subst, ◌∙◌}
use Rattle.std.specs.List.{AllByRecursion}
use Rattle.std.proofs.lemmas.List.{take_all}
use Rattle.upload_stream.specs.Streams.{HasEntryForm, Upload, entry_bytes, stream_bytes}
use Rattle.world_hub.specs.declared.queue.Upload.{Upload as Sent}
use Rattle.served_ticks.specs.Given.{sent, sent_at}
use Rattle.served_ticks.proofs.Streams.{bytes_more, forms_more, stream_is, taken_more}
use Rattle.served_ticks.proofs.given.stream_of.Goals as goal

pub loop-upload-preserved : goal.loop-upload-preserved
loop-upload-preserved c =
    let tick = c.args.tick in
    let i = c.loop-upload.upload-index in
    let done = take i c.args.taken.now in
    let upload : Sent = c.upload-item.result in
    let more = taken_more c.args.taken.now i upload c.loop-upload-test.true c.upload-item.is in
    let put = c.in_ok-put_upload.ensures in
    let same : record { tick = tick; player = upload.player; bytes = c.deref.result.now } ≡ sent tick upload = ap (λ (b : List ℕ). record { tick = tick; player = upload.player; bytes = b }) c.deref.ensures.value in
    record {
      written = put.written ∙ (ap (λ (l : List ℕ). l ++ entry_bytes (record { tick = tick; player = upload.player; bytes = c.deref.result.now })) c.loop-upload.invariant.written
          ∙ (ap (λ (u : Upload). stream_bytes (sent_at tick done) ++ entry_bytes u) same
          ∙ (bytes_more tick done upload ∙ ap (λ (l : List Sent). stream_bytes (sent_at tick l)) more)));
      forms = subst (λ (l : List Sent). AllByRecursion HasEntryForm (sent_at tick l)) more
          (forms_more tick done upload c.loop-upload.invariant.forms (subst HasEntryForm same put.form));
    }

pub returns : goal.returns
returns c =
    let all = take_all c.loop-upload.upload-index c.args.taken.now c.loop-upload-test.false in
    stream_is c.args.tick c.args.taken.now c.loop-upload.stream.items
    (c.loop-upload.invariant.written ∙ ap (λ (l : List Sent). stream_bytes (sent_at c.args.tick l)) all)
    (subst (λ (l : List Sent). AllByRecursion HasEntryForm (sent_at c.args.tick l)) all c.loop-upload.invariant.forms)
