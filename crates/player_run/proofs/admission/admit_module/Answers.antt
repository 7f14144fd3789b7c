use Rattle.std.proofs.Common.{inl, inr, sym, subst}
use Rattle.player_run.specs.Admission.{IsRefused}
use Rattle.player_run.proofs.admission.admit_module.Goals as goal

pub returns-in-Ok-clause-accepted : goal.returns-in-Ok-clause-accepted
returns-in-Ok-clause-accepted c = rw c.in-Ok.ensures.same at c.admit_valid.ensures.accepted

pub returns-in-Ok-clause-refused : goal.returns-in-Ok-clause-refused
returns-in-Ok-clause-refused c = rw c.in-Ok.ensures.same at c.admit_valid.ensures.refused

pub returns-in-Err-clause-refused : goal.returns-in-Err-clause-refused
returns-in-Err-clause-refused c = λ bytes within spells memory. elim c.refusal_of.ensures.one [
  | inl float ↦
      let found = c.refusal_of.ensures.float float in
      let why = c.in-Err.ensures.float_refused found.0 found.1 in
      subst (IsRefused bytes) (sym float) (_, (spells, within, c.requires.within), why.1)
  | inr (inl invalid) ↦
      let found = c.refusal_of.ensures.invalid invalid in
      let why = c.in-Err.ensures.invalid found.0 found.1 in
      subst (IsRefused bytes) (sym invalid) (_, (spells, within, c.requires.within), why.1, why.2)
  | inr (inr wants) ↦ absurd (memory wants)
]
