-- What is answered, and what is left, where a change is refused and where it is made. Assumes nothing.
use Rattle.std.proofs.Common.{◌≡◌, sym, ap, ◌∙◌, Bool, true, false, cond, Err}
use Rattle.answer.specs.declared.refusal.Refusal.{Refusal}
use Rattle.answer.specs.Told.{Told, told, accepts, number_of}
use Rattle.diagnosis.specs.Answers.{told_scored, told_record, told_refused, number_at, record_with}
use Rattle.site.specs.declared.changes.Changed.{Changed}
use Rattle.site.specs.Changes.{State, rows_of, answered, left}
use Rattle.site.specs.Internal.{Made}

module _ (tells : Told) (before after : State) where
  module _ (r : Refusal) (e : told (Err r) ≡ tells) where
    none : accepts tells ≡ false
    none = sym (ap accepts e)

    pub refused_answer : told_refused (number_of r.reason) r.row r.column ≡ answered tells after
    unfolding answered
    refused_answer =
        ap (λ (t : Told). told_refused t.number t.row t.column) e
        ∙ ap (λ (b : Bool). cond b (told_scored (record_with (rows_of after) (number_at after.totals.held))) (told_refused tells.number tells.row tells.column)) (sym none)

    pub refused_left : before ≡ left tells before after
    unfolding left
    refused_left = ap (λ (b : Bool). cond b after before) (sym none)

  module _ (passes : accepts tells ≡ true) where
    pub made_answer : (changed : Changed) → Made changed after → told_scored (told_record changed.answer) ≡ answered tells after
    unfolding answered
    made_answer changed made =
        ap told_scored made.answer_is
        ∙ ap (λ (b : Bool). cond b (told_scored (record_with (rows_of after) (number_at after.totals.held))) (told_refused tells.number tells.row tells.column)) (sym passes)

    pub made_left : after ≡ left tells before after
    unfolding left
    made_left = ap (λ (b : Bool). cond b after before) (sym passes)
