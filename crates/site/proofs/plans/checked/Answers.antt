-- `checked` meets its contract. Assumes nothing.
use Rattle.std.proofs.Common.{◌≡◌, ◌∙◌, sym, true, Result, Ok, Err, IfOk, IfErr, ◌*◌, ◌≤◌, length, arith}
use Rattle.answer.specs.declared.refusal.Refusal.{Refusal}
use Rattle.answer.specs.Told.{told, accepts}
use Rattle.survey.specs.Judgement.{judging}
use Rattle.diagnosis.specs.declared.accepted.AcceptedTable.{AcceptedTable}
use Rattle.site.specs.Changes.{State, on, rows_of, checking}
use Rattle.site.proofs.Checking.{checking_long, checking_judged, checking_accepts}
use Rattle.site.proofs.plans.checked.Goals as goal

pub returns-then-table-numbers-clause-refused : goal.returns-then-table-numbers-clause-refused
returns-then-table-numbers-clause-refused c =
    rw c.without_place.ensures (checking_long (on c.args.table.now c.args.totals) (omega arith))

-- What judging the rows in use answers, where they fit.
module _ (s : State) (fits : 8 * s.totals.rows ≤ length s.table) where
  passes : (judged : Result AcceptedTable Refusal) → IfOk judged (λ rows. rows.table.now ≡ rows_of s)
      → IfOk judged (λ rows. (accepts (checking s) ≡ true) × (rows.table.now ≡ rows_of s))
  passes (Ok rows) same = (checking_accepts s (record { fits = fits; accepted = rw (← same) rows.of_house.stands.accepted }), same)
  passes (Err refused) same = tt

  fails : (judged : Result AcceptedTable Refusal) → IfErr judged (λ refused. told (Err refused) ≡ judging (rows_of s))
      → IfErr judged (λ refused. told (Err refused) ≡ checking s)
  fails (Ok rows) tells = tt
  fails (Err refused) tells = tells ∙ sym (checking_judged s fits)

pub returns-clause-accepted : goal.returns-clause-accepted
returns-clause-accepted c = passes (on c.args.table.now c.args.totals) (omega arith) c.judged.result c.judged.ensures.accepted

pub returns-clause-refused : goal.returns-clause-refused
returns-clause-refused c = fails (on c.args.table.now c.args.totals) (omega arith) c.judged.result c.judged.ensures.refused
