-- Each check of a world file fails with one fault, and only where it doesn't hold.
use Rattle.std.proofs.Common.{◌≡◌, ℕ, false, sym, ap, subst, ◌∙◌, inl, inr}
use Rattle.serde_json.specs.Data.{Data}
use Rattle.serde_json.specs.Find.{get}
use Rattle.game_tables.specs.Kinds.{is_in_rules}
use Rattle.world_form.specs.declared.fault.WorldFault.TheVariants.{NotBuilt}
use Rattle.world_form.specs.declared.field.Field.{Field}
use Rattle.world_form.specs.declared.field.Field.TheVariants as fields
use Rattle.world_form.specs.Keys.{key}
use Rattle.world_form.specs.Facts.{IsKindText}
use Rattle.world_form.specs.FirstFaults.{IsAbsent, IsFormed, IsMalformed, required, optional, known_kind, world_checks}
use Rattle.world_form.proofs.Checks.{IsExact, AllOf, all_of_append}
use Rattle.world_form.proofs.EachCheck.{IsOfKinds, world_such}
use Rattle.world_form.proofs.Forms.{some_none, one_some, true_false, kind_one, required_one}

absent_apart : {A : Type 0} (field : Field) (Form : Data → A → Type 0) (part : Data) → IsFormed field Form part → IsAbsent field part → ⊥
absent_apart field Form part formed absent = some_none (get (key field) part) formed.1.0 formed.1.1 absent

malformed_apart : {A : Type 0} (field : Field) (Form : Data → A → Type 0) (part : Data) → IsFormed field Form part → IsMalformed field Form part → ⊥
malformed_apart field Form part formed bad =
    let same = one_some (get (key field) part) formed.1.0 bad.0 formed.1.1 bad.1 in
    bad.2 formed.0 (subst (λ value. Form value formed.0) same formed.1.2)

absent_or_malformed : {A : Type 0} (field : Field) (Form : Data → A → Type 0) (part : Data) → IsAbsent field part → IsMalformed field Form part → ⊥
absent_or_malformed field Form part absent bad = some_none (get (key field) part) bad.0 bad.1 absent

required_exact : {A : Type 0} (field : Field) (Form : Data → A → Type 0) (place : ℕ) (part : Data) → IsExact (required field Form place part)
required_exact field Form place part = record {
  one = λ fault other fails also. elim fails [
    | inl here ↦ elim also [ inl there ↦ here.1 ∙ sym there.1 | inr there ↦ absurd (absent_or_malformed field Form part here.0 there.0) ]
    | inr here ↦ elim also [ inl there ↦ absurd (absent_or_malformed field Form part there.0 here.0) | inr there ↦ here.1 ∙ sym there.1 ]
  ];
  apart = λ fault formed fails. elim fails [ inl here ↦ absent_apart field Form part formed here.0 | inr here ↦ malformed_apart field Form part formed here.0 ];
}

optional_exact : {A : Type 0} (field : Field) (Form : Data → A → Type 0) (place : ℕ) (part : Data) → IsExact (optional field Form place part)
optional_exact field Form place part = record {
  one = λ fault other fails also. fails.1 ∙ sym also.1;
  apart = λ fault holds fails. elim holds [ inl formed ↦ malformed_apart field Form part formed fails.0 | inr absent ↦ absent_or_malformed field Form part absent fails.0 ];
}

known_kind_exact : (part : Data) → IsExact (known_kind part)
known_kind_exact part = record {
  one = λ fault other fails also. fails.3 ∙ ap NotBuilt (required_one fields.Kind IsKindText kind_one part fails.0 also.0 fails.1 also.1) ∙ sym also.3;
  apart = λ fault holds fails.
      let same = required_one fields.Kind IsKindText kind_one part fails.0 holds.0 fails.1 holds.1 in
      true_false (is_in_rules holds.0 1) holds.2 (subst (λ kind. is_in_rules kind 1 ≡ false) same fails.2);
}

all_exact : IsOfKinds (AllOf IsExact)
all_exact = record {
  nothing = tt;
  joined = all_of_append IsExact;
  of_required = λ A field Form place part. (required_exact field Form place part, tt);
  of_optional = λ A field Form place part. (optional_exact field Form place part, tt);
  of_kind = λ place part. (required_exact fields.Kind IsKindText place part, (known_kind_exact part, tt));
}

pub world_exact : (part : Data) → AllOf IsExact (world_checks part)
world_exact = world_such (AllOf IsExact) all_exact
