-- `AcceptedTable::deterioration` meets its contract. Assumes nothing.
use Rattle.std.proofs.Common.{◌≡◌, cond, rules}
use Rattle.diagnosis.specs.House.{deterioration}
use Rattle.diagnosis.proofs.Places.{repaired_as_number}
use Rattle.diagnosis.proofs.accepted.AcceptedTable.deterioration.Goals as goal

pub returns : goal.returns
unfolding deterioration
returns c =
    let number : c.from.result ≡ cond c.repaired.result 1 0 = search rules in
    rw (c.after_repair.ensures, c.deterioration_factor-factor.ensures, c.items.ensures, c.age_on-age.ensures, c.dates-dates.ensures, number, c.repaired.ensures)
    (repaired_as_number _ _)
