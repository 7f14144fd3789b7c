use Rattle.std.proofs.Common.{◌≡◌, List, ℕ, sym, subst, ◌∙◌}
use Rattle.world_form.specs.Files.{HasFault, WorldForm}
use Rattle.world_io.specs.Told.{GaveAll}
use Rattle.world_run.proofs.Gave.{gave_whole}
use Rattle.world_run.proofs.Starting.{may_start}
use Rattle.world_run.proofs.WorldFaults.{fault_read, fault_memory}
use Rattle.world_run.proofs.inputs.load_world.Goals as goal

pub returns-clause-refused : goal.returns-clause-refused
returns-clause-refused g c = λ other is.
    let text : c.deref.result.now ≡ c.in-Ok.bytes.items = c.deref.ensures.value in
    fault_read _ _ c.in-Ok.bytes.items c.in-Err.fault other c.in-Ok.ensures.whole c.in-Ok.ensures.within (subst (λ (b : List ℕ). HasFault b c.in-Err.fault) text c.in-Err.ensures.fault) (sym c.refused_world.ensures ∙ is)

pub returns-clause-complete : goal.returns-clause-complete
returns-clause-complete g c = λ bytes found left form fine.
    let whole : c.in-Ok.bytes.items ≡ bytes = gave_whole _ bytes c.in-Ok.bytes.items (subst (λ o. GaveAll o (g.W.Source.left c.read_all.new.source) c.in-Ok.bytes.items) left c.in-Ok.ensures.whole) in
    let text : c.deref.result.now ≡ bytes = c.deref.ensures.value ∙ whole in
    c.refused_world.ensures ∙ fault_memory c.in-Err.fault c.deref.result.now found c.in-Err.ensures.refused (subst (λ (b : List ℕ). WorldForm b found) (sym text) form)

pub returns-in-Ok-read_world-clause-starts : goal.returns-in-Ok-read_world-clause-starts
returns-in-Ok-read_world-clause-starts g c = may_start _ c.in-Ok-read_world.ensures.writable c.have_tiles.ensures
