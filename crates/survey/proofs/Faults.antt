-- The laws of faults: the first of two tests, and a test by what it asks. Assumes nothing.
use Rattle.std.proofs.Common.{Result, Ok, Err, IfErr, le_refl, rules, ◌≡◌, refl, ◌+◌, Bool, true, false, List, ℕ, ◌<◌, ◌≤◌, get_or, lt-ltb, le-ltb}
use Rattle.answer.specs.Told.{number_of}
use Rattle.answer.proofs.Refusals.{number_some}
use Rattle.survey.specs.declared.row.RowFault.{RowFault}
use Rattle.survey.specs.Table.{cell}
use Rattle.survey.specs.Internal.{told_by_row}
use Rattle.survey.specs.Judgement.{Fault, fault, fault_told, none, faulty, ◌then◌, test, outside}

-- A fault that the earlier test found.
pub found : {f : Fault} (earlier later : Fault) → f ≡ earlier → 0 < f.number → f ≡ earlier then later
unfolding ◌then◌
found {f} earlier later e h = rw (← e, lt-ltb 0 f.number h)

pub error_found : {tested : Result (Unit {0}) RowFault} (f : RowFault) (earlier later : Fault) → tested ≡ Err f → fault_told (Err f) ≡ earlier
    → fault_told tested ≡ earlier then later
error_found f earlier later is e = rw is (found earlier later e (number_some f.reason))

-- What a refusal by a row tells of the test: the fault that it found; and where there is no refusal, none.
pub row_told : (row : ℕ) (tested : Result (Unit {0}) RowFault) → IfErr (told_by_row row tested) (λ r. (fault_told tested ≡ fault (number_of r.reason) r.column) × (r.row ≡ row + 1))
row_told row (Ok done) = tt
row_told row (Err f) = (refl, refl)

pub row_clear : (row : ℕ) (tested : Result (Unit {0}) RowFault) {u : Unit {0}} → Ok u ≡ told_by_row row tested → (fault_told tested).number ≤ 0
row_clear row (Ok done) e = le_refl 0
row_clear row (Err f) e = search rules

-- The earlier test found none.
pub passed : {f g : Fault} (earlier later : Fault) → f ≡ earlier → f.number ≤ 0 → g ≡ later → g ≡ earlier then later
unfolding ◌then◌
passed {f} earlier later e h g = rw (← e, le-ltb 0 f.number h) g

pub held : {holds : Bool} (f : Fault) → holds ≡ true → f ≡ test holds f
unfolding test
held f e = rw e

pub clear : {holds : Bool} (f : Fault) → holds ≡ false → none ≡ test holds f
unfolding test
clear f e = rw e

-- No fault.
pub not_faulty : {f : Fault} (g : Fault) → f ≡ g → f.number ≤ 0 → faulty g ≡ false
not_faulty {f} g e h = rw (← e) (le-ltb 0 f.number h)

-- A test, and those after it.
pub test_finds : {holds : Bool} (f later : Fault) → holds ≡ true → 0 < f.number → f ≡ test holds f then later
test_finds f later e h = found (test _ f) later (held f e) h

pub test_passes : {holds : Bool} {g : Fault} (f later : Fault) → holds ≡ false → g ≡ later → g ≡ test holds f then later
test_passes f later e g = passed (test _ f) later (clear f e) (le_refl 0) g

-- A number in its column's range.
pub inside : (low high table : List ℕ) (row column : ℕ) → get_or low column 0 ≤ cell table row column → cell table row column ≤ get_or high column 0
    → outside low high table row column ≡ false
unfolding outside
inside low high table row column least most =
    rw (le-ltb (cell table row column) (get_or low column 0) least, le-ltb (get_or high column 0) (cell table row column) most)
