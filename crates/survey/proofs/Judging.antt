-- What judging a table answers, case by case in the order of its tests. Assumes nothing.
use Rattle.std.proofs.Common.{◌∙◌, Result, IfErr, Ok, Err, ◌≡◌, false, List, ℕ, ◌+◌, ◌<◌, ◌≤◌, le_refl, arith, eqb, length, below_none, below_more, ne_eqb, lt-ltb, le-ltb}
use Rattle.answer.specs.Told.{told, number_of, counted, refusal, sheet_length, row_out_of_order}
use Rattle.answer.specs.First.{first}
use Rattle.answer.specs.Length.{rows_in, Whole}
use Rattle.answer.proofs.Lengths.{rows_counted}
use Rattle.answer.proofs.Places.{first_is, first_none}
use Rattle.answer.specs.declared.refusal.Reason.TheVariants.{RowOutOfOrder}
use Rattle.answer.specs.declared.refusal.Refusal.{Refusal}
use Rattle.survey.specs.declared.row.Table.{Table}
use Rattle.survey.specs.declared.row.Row.{Row}
use Rattle.survey.specs.declared.row.RowFault.{RowFault}
use Rattle.survey.specs.Table.{rows_due}
use Rattle.survey.specs.Judgement.{Fault, fault, fault_told, none, faulty, row_fault, judging}
use Rattle.survey.specs.Internal.{JudgedTo, told_by_row}
use Rattle.answer.proofs.Refusals.{number_some}
use Rattle.survey.proofs.Faults.{not_faulty, row_told, row_clear}

-- Nothing lent, a row cut off, or too many rows.
pub judging_length : (table : List ℕ) → rows_in 8 (length table) ≡ 0 → refusal sheet_length 0 0 ≡ judging table
unfolding judging
judging_length table none = rw (none)

-- Else judging begins at the house's row.
pub judging_begins : {table : List ℕ} {rows : ℕ} → Whole 8 (length table) rows → JudgedTo table rows 0
judging_begins size = record { size = size; reached = omega arith; clean = below_none _ }

-- It has come as far as a row.
module _ {table : List ℕ} {rows row : ℕ} (judged : JudgedTo table rows row) where
  so_many : rows ≡ rows_in 8 (length table)
  so_many = rows_counted 8 judged.size.whole (omega arith) judged.size.most

  some : eqb rows 0 ≡ false
  some = ne_eqb rows 0 (λ none. omega (arith, judged.size.some))

  -- That row has a fault, or it has none, and the next row is reached.
  module _ {f : Fault} (h : row < rows) (e : f ≡ row_fault table row) where
    pub judging_fault : 0 < f.number → refusal f.number (row + 1) f.column ≡ judging table
    unfolding judging
    judging_fault some-fault =
        rw (← so_many, some, first_is (λ i. faulty (row_fault table i)) rows row h judged.clean (rw (← e) (lt-ltb 0 f.number some-fault)), lt-ltb row rows h, e)

    pub judging_goes_on : f.number ≤ 0 → JudgedTo table rows (row + 1)
    judging_goes_on clear = record {
      size = judged.size;
      reached = omega arith;
      clean = below_more _ _ judged.clean (not_faulty _ e clear);
    }

  -- There is no such row: the table ends early, or it is whole.
  module _ (end : row ≡ rows) where
    no_fault : first (λ i. faulty (row_fault table i)) rows ≡ rows
    no_fault = first_none (λ i. faulty (row_fault table i)) rows (λ k l. judged.clean k (omega arith))

    pub judging_short : row < rows_due table → refusal row_out_of_order (row + 1) 1 ≡ judging table
    unfolding judging
    judging_short h = rw (end, ← so_many, some, no_fault, le-ltb rows rows (le_refl rows), lt-ltb rows (rows_due table) (omega arith))

    pub judging_accepted : rows_due table ≤ row → counted rows ≡ judging table
    unfolding judging
    judging_accepted h = rw (← so_many, some, no_fault, le-ltb rows rows (le_refl rows), le-ltb rows (rows_due table) (omega arith))

-- As the code's tests answer: a row's fault is judging's refusal, and where it has none the next row is reached;
module _ {table : List ℕ} {rows row : ℕ} (judged : JudgedTo table rows row) (h : row < rows) (tested : Result (Unit {0}) RowFault) (due : fault_told tested ≡ row_fault table row) where
  pub fault_refused : {A : Type 0} {answer : Result A Refusal} (r : Refusal) → answer ≡ Err r → Err r ≡ told_by_row row tested
      → IfErr answer (λ r. told (Err r) ≡ judging table)
  fault_refused r is by_row =
      let found : (fault_told tested ≡ fault (number_of r.reason) r.column) × (r.row ≡ row + 1) = rw (← by_row) at (row_told row tested) in
      rw (is, found.1) (judging_fault judged h (rw (← found.0) due) (number_some r.reason))

  pub fault_passed : {u : Unit {0}} → Ok u ≡ told_by_row row tested → JudgedTo table rows (row + 1)
  fault_passed by_row = judging_goes_on judged h due (row_clear row tested by_row)

-- the refusal of a row that is missing is judging's,
module _ (self : Table) {at : ℕ} (judged : JudgedTo self.numbers.now self.rows at) where
  pub row_missing : {A : Type 0} {answer : Result A Refusal} (r : Refusal) → answer ≡ Err r → at < rows_due self.numbers.now
      → (at ≡ self.rows) × (r ≡ record { reason = RowOutOfOrder; row = at + 1; column = 1 }) → IfErr answer (λ r. told (Err r) ≡ judging self.numbers.now)
  row_missing r is due missing = rw (is, missing.1) (judging_short judged missing.0 due)

  -- and of a row that stands there its fault is.
  module _ (row : Row) (test : List ℕ → ℕ → Fault) (stands : (row.table ≡ self) × (row.at ≡ at)) (due : test self.numbers.now at ≡ row_fault self.numbers.now at)
      (tested : Result (Unit {0}) RowFault) (told_is : fault_told tested ≡ test row.table.numbers.now row.at)
    where
      inside : at < self.rows
      inside = rw stands.0 at (rw stands.1 at row.stands)

      fault_due : fault_told tested ≡ row_fault self.numbers.now at
      fault_due = rw (stands.0, stands.1) at told_is ∙ due

      pub row_refused : {A : Type 0} {answer : Result A Refusal} (r : Refusal) → answer ≡ Err r → Err r ≡ told_by_row row.at tested
          → IfErr answer (λ r. told (Err r) ≡ judging self.numbers.now)
      row_refused r is by_row = fault_refused judged inside tested fault_due r is (rw stands.1 at by_row)

      pub row_passed : {u : Unit {0}} → Ok u ≡ told_by_row row.at tested → JudgedTo self.numbers.now self.rows (at + 1)
      row_passed by_row = fault_passed judged inside tested fault_due (rw stands.1 at by_row)
