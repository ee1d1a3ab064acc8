-- `survey::judgement::judge` meets its contract. Assumes nothing.
use Rattle.std.proofs.Common.{◌≡◌, Err, ◌∙◌, refl, rules}
use Rattle.answer.proofs.Lengths.{counted_whole}
use Rattle.survey.proofs.RowFaults.{row_house}
use Rattle.survey.proofs.Judging.{judging_begins, fault_refused}
use Rattle.survey.proofs.judgement.judge.Goals as goal

pub invariant_of-table : goal.invariant_of-table
invariant_of-table c = record { whole = (counted_whole 8 _ c.in_ok-rows.ensures).1; of_house = c.cell.ensures }

-- The house's row is the first that is judged.
pub returns-in_err-refused : goal.returns-in_err-refused
returns-in_err-refused c =
    let size = (counted_whole 8 _ c.in_ok-rows.ensures).1 in
    let came : c.from_residual-in_err-refused.result ≡ Err c.in_err-refused.field-0.0 = search rules in
    rw came (fault_refused (judging_begins size) size.some c.check_house.result (c.check_house.ensures ∙ row_house _) {A = Unit {0}} {answer = Err c.in_err-refused.field-0.0} _ refl c.in_err-refused.ensures)
