-- The numbers that judging tells: none above 11, and not 9, so it never tells of lent space; and 0 only where it tells a count. Assumes nothing.
use Rattle.std.proofs.Common.{◌≡◌, refl, sym, ◌∙◌, Bool, true, false, cond, not, ◌&&◌, List, ℕ, ◌+◌, ◌≤◌, arith, T, eqb, leb, ltb, leb→le, length, ltb-true, eq-eqb, ne_eqb, eqb-true}
use mir.Facts.{and_yes}
use Rattle.answer.specs.Told.{Told, counted, refusal, accepts, sheet_length, row_out_of_order, lent_space_short, dates_out_of_order}
use Rattle.answer.specs.First.{first}
use Rattle.answer.specs.Length.{rows_in}
use Rattle.answer.proofs.Refusals.{ByNumber, either_by_number}
use Rattle.answer.proofs.Places.{at_first}
use Rattle.survey.specs.Table.{rows_due}
use Rattle.survey.specs.Judgement.{Fault, fault, faulty, ◌then◌, test, wrong_column, house_fault, storey_fault, ends_fault, wall_fault, parts_fault, days_fault, order_fault, dates_fault, row_fault, judging}

-- One of those numbers, and a fault of one of them, or none.
abbrev tellable : ℕ → Bool
tellable number = leb number dates_out_of_order && not (eqb number lent_space_short)

record Known (f : Fault) : Type 0 where
  known : T (tellable f.number)

fault_known : (number column : ℕ) → T (tellable number) → Known (fault number column)
fault_known number column few = record { known = few }

either : (b : Bool) (f g : Fault) → Known f → Known g → Known (cond b f g)
either true f g one other = one
either false f g one other = other

then_known : (f g : Fault) → Known f → Known g → Known (f then g)
unfolding ◌then◌
then_known f g one other = either (faulty f) f g one other

test_known : (holds : Bool) (f : Fault) → Known f → Known (test holds f)
unfolding test
test_known holds f known = either holds f _ known (fault_known _ _ tt)

columns_known : (due column : ℕ) → Known (wrong_column due column)
unfolding wrong_column
columns_known due column =
    then_known _ _ (test_known (ltb column due) _ (fault_known _ _ tt)) (test_known (ltb column 8) _ (fault_known _ _ tt))

-- A row's fault, by the place where it stands.
row_known : (table : List ℕ) (row : ℕ) → Known (row_fault table row)
unfolding row_fault house_fault storey_fault ends_fault wall_fault parts_fault days_fault order_fault dates_fault
row_known table row = search (either, then_known, test_known, columns_known, fault_known) depth 14

module _ (table : List ℕ) where
  abbrev rows : ℕ
  rows = rows_in 8 (length table)

  -- The first row with a fault, and its refusal.
  abbrev row : ℕ
  row = first (λ i. faulty (row_fault table i)) rows

  abbrev refused : Told
  refused = refusal (row_fault table row).number (row + 1) (row_fault table row).column

  -- What judging tells where no row has a fault.
  abbrev faultless : Told
  faultless = cond (ltb rows (rows_due table)) (refusal row_out_of_order (rows + 1) 1) (counted rows)

  judging_tellable : T (tellable (judging table).number)
  unfolding judging
  judging_tellable = go (eqb rows 0) (ltb row rows) (ltb rows (rows_due table)) (row_known table row)
    where
      go : (a b c : Bool) → Known (row_fault table row)
          → T (tellable (cond a (refusal sheet_length 0 0) (cond b refused (cond c (refusal row_out_of_order (rows + 1) 1) (counted rows)))).number)
      go true b c fine = tt
      go false true c fine = fine.known
      go false false true fine = tt
      go false false false fine = tt

  pub judging_known : ((judging table).number ≤ dates_out_of_order) × ((judging table).number ≡ lent_space_short → ⊥)
  judging_known =
      let both = and_yes (leb (judging table).number dates_out_of_order) _ judging_tellable in
      (leb→le (judging table).number dates_out_of_order both.0, λ e. rw e at both.1)

  -- What is told is a count just where the number is 0: a fault's is not.
  pub judging_by_number : (judging table).is_count ≡ eqb (judging table).number 0
  unfolding judging
  judging_by_number = either_by_number (eqb rows 0) (refusal sheet_length 0 0) _ refl (go (ltb row rows) refl)
    where
      go : (b : Bool) → ltb row rows ≡ b → ByNumber (cond b refused faultless)
      go true e =
          let fault_is = ltb-true 0 (row_fault table row).number (at_first (λ i. faulty (row_fault table i)) rows (ltb-true row rows e)) in
          sym (ne_eqb (row_fault table row).number 0 (λ none. omega (arith, fault_is, none)))
      go false e = either_by_number (ltb rows (rows_due table)) (refusal row_out_of_order (rows + 1) 1) (counted rows) refl refl

  -- So a table is accepted just where the number is 0.
  pub judging_accepts : (judging table).number ≡ 0 → accepts (judging table) ≡ true
  judging_accepts h = judging_by_number ∙ eq-eqb (judging table).number 0 h

  pub accepted_number : accepts (judging table) ≡ true → (judging table).number ≡ 0
  accepted_number h = eqb-true (judging table).number 0 (sym judging_by_number ∙ h)

  pub judging_refuses : ((judging table).number ≡ 0 → ⊥) → accepts (judging table) ≡ false
  judging_refuses h = judging_by_number ∙ ne_eqb (judging table).number 0 h
