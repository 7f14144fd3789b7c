-- What a player emits is one.
use Rattle.std.proofs.Common.{◌≡◌, ℕ, List, ap, sym, ◌∙◌, subst}
use Rattle.wasm_link.specs.Linking.{Link, first_store}
use Rattle.wasm_steps.specs.Laws.{IsFunction}
use Rattle.wasm_steps.specs.Steps.{State}
use Rattle.wasm_steps.proofs.Ends.{one_end}
use Rattle.intent_book.specs.Records.{IsCanonical}
use Rattle.intent_book.specs.declared.player_run.PlayerRun.{PlayerRun}
use Rattle.intent_book.proofs.Canonical.{one_canonical}
use Rattle.visible_view.specs.Sights.{Sight}
use Rattle.host_calls.specs.Desks.{Desk, desk_of}
use Rattle.host_calls.specs.Replies.{Reply, answers}
use Rattle.player_run.specs.Emitted.{Emits, EmitsBy, fuel_of, outcome_of, used_of}
use Rattle.player_run.proofs.Judged.{accepted_once}

-- A desk answers a call in one way.
desk_once : IsFunction {S = Desk} answers
desk_once host call arguments memory one other after final next last p q =
    let same : ◌≡◌ {A = Reply} (record { answer = one; desk = next; memory = after }) (record { answer = other; desk = last; memory = final }) = sym p ∙ q in
    (ap (λ (r : Reply). r.answer) same, ap (λ (r : Reply). r.memory) same, ap (λ (r : Reply). r.desk) same)

pub emitted_by_link : (link : Link) (sight : Sight) (one other : PlayerRun) → EmitsBy link sight one → EmitsBy link sight other → one ≡ other
emitted_by_link link sight one other a b =
    let same = one_end desk_once link.program link.main link.whole.start (first_store link.whole) (desk_of sight) (fuel_of sight.account) a.outcome b.outcome a.last b.last a.ends b.ends in
    let player : one.player ≡ other.player = a.player ∙ sym b.player in
    let outcome : one.outcome ≡ other.outcome = a.ended ∙ ap outcome_of same.0 ∙ sym b.ended in
    let used : one.used ≡ other.used = a.used ∙ ap used_of same.0 ∙ sym b.used in
    let memory : one.memory ≡ other.memory = a.memory ∙ ap (λ (z : State Desk). z.host.memory) same.1 ∙ sym b.memory in
    let intents : one.intents ≡ other.intents =
    one_canonical a.last.host.book.entries one.intents other.intents a.single a.intents
    (subst (λ (z : State Desk). IsCanonical z.host.book.entries other.intents) (sym same.1) b.intents) in
    λ i. record { player = player i; outcome = outcome i; used = used i; intents = intents i; memory = memory i }

pub emitted_by_bytes : (bytes : List ℕ) (sight : Sight) (one other : PlayerRun) → Emits bytes sight one → Emits bytes sight other → one ≡ other
emitted_by_bytes bytes sight one other (link, a, e) (linked, b, f) =
    emitted_by_link link sight one other e (subst (λ (z : Link). EmitsBy z sight other) (accepted_once bytes linked link b a) f)
