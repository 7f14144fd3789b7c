use Rattle.std.proofs.Common.{◌≡◌, ◌∙◌, ap, sym, subst, List, ℕ, Option}
use Rattle.std.specs.Prelude.{slice_get}
use Rattle.tick_journal.specs.BaseForms.{SpellsBase, world_as_read}
use Rattle.tick_journal.specs.Contents.{base_content}
use Rattle.run_status.specs.declared.status.Status.TheVariants.{OtherWorld}
use Rattle.world_run.proofs.Opened.{differ_as}
use Rattle.world_run.proofs.opening.same_base.Goals as goal

pub returns-in-None-clause-same : goal.returns-in-None-clause-same
returns-in-None-clause-same c =
    let one = base_content c.args.base.now in
    let other = base_content c.args.world.now in
    let same : other ≡ one =
    sym c.in-Ok-write_base.ensures.written ∙ (sym c.deref-2.ensures.value ∙ (sym c.in-None.ensures.none ∙ (c.deref.ensures.value ∙ c.in-Ok.ensures.written))) in
    c.bases_are_one.ensures.one one c.args.base.now (world_as_read c.args.world.now) (c.bases_are_one.ensures.written c.args.base.now c.requires.form)
    (subst (λ (bytes : List ℕ). SpellsBase bytes (world_as_read c.args.world.now)) same (c.bases_are_one.ensures.as_read c.args.world.now (c.requires.begins.form c.in-Ok-write_base.ensures.fits)))

same_place : (at place : ℕ) (one given kept other : Option ℕ) → OtherWorld at one given ≡ OtherWorld place kept other → (at ≡ place) × (one ≡ kept) × (given ≡ other)
same_place at place one given kept other same = (cc, cc, cc)

pub returns-clause-other : goal.returns-clause-other
returns-clause-other c = λ at one given is.
    let same = same_place at c.in-Some.place one given c.byte_at.result c.byte_at-in-Some.result (sym is) in
    let first : c.deref.result.now ≡ base_content c.args.base.now = c.deref.ensures.value ∙ c.in-Ok.ensures.written in
    let second : c.deref-2.result.now ≡ base_content c.args.world.now = c.deref-2.ensures.value ∙ c.in-Ok-write_base.ensures.written in
    let kept : c.byte_at.result ≡ slice_get (base_content c.args.base.now) c.in-Some.place =
    c.byte_at.ensures ∙ ap (λ (l : List ℕ). slice_get l c.in-Some.place) (c.deref-in-Some.ensures.value ∙ c.in-Ok.ensures.written) in
    let read : c.byte_at-in-Some.result ≡ slice_get (base_content c.args.world.now) c.in-Some.place =
    c.byte_at-in-Some.ensures ∙ ap (λ (l : List ℕ). slice_get l c.in-Some.place) (c.deref-in-Some-2.ensures.value ∙ c.in-Ok-write_base.ensures.written) in
    differ_as at c.in-Some.place one given c.deref.result.now c.deref-2.result.now (base_content c.args.base.now) (base_content c.args.world.now)
    c.in-Some.ensures.some first second same.0 (same.1 ∙ kept) (same.2 ∙ read)
