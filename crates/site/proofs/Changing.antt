-- What the code makes of a state: the refusal that is told, or the state with the wall or without it. Assumes nothing.
use Rattle.std.proofs.Common.{◌≡◌, refl, sym, ap, subst, ◌∙◌, Bool, true, false, cond, Err, List, ℕ, ◌+◌, ◌-◌, ◌*◌, ◌≤◌, ◌<◌, arith, length, ◌++◌}
use Rattle.answer.specs.declared.refusal.Refusal.{Refusal}
use Rattle.answer.specs.Told.{Told, told, accepts}
use Rattle.answer.specs.Lists.{over}
use Rattle.survey.specs.Table.{storeys, rows_due}
use Rattle.survey.specs.Judgement.{judging}
use Rattle.survey.proofs.Acceptance.{accepted}
use Rattle.method.specs.declared.rows.House.{House}
use Rattle.diagnosis.specs.declared.accepted.AcceptedTable.{AcceptedTable}
use Rattle.diagnosis.specs.Rows.{house_of}
use Rattle.diagnosis.specs.Premises.{HouseOf}
use Rattle.diagnosis.specs.House.{held}
use Rattle.diagnosis.specs.declared.scores.Record.{Record}
use Rattle.diagnosis.specs.Answers.{told_record, six_numbers, number_at, record_of}
use Rattle.diagnosis.proofs.AcceptedTables.{stands}
use Rattle.diagnosis.proofs.GivenStrengths.{record_own}
use Rattle.site.specs.declared.changes.Changed.{Changed}
use Rattle.site.specs.Internal.{Made}
use Rattle.site.specs.Rows.{in_use, with_row, without_row}
use Rattle.site.specs.Totals.{total_added, total_taken, some_above}
use Rattle.site.specs.Changes.{State, on, rows_of, checking, started, row_taken, addition, add_told, with_wall, deletion, delete_told, without_wall, empty_row}
use Rattle.site.proofs.OwnSums.{sums_own}
use Rattle.site.proofs.Checking.{checked}
use Rattle.site.proofs.PutRows.{same_house}
use Rattle.site.proofs.Additions as additions
use Rattle.site.proofs.Deletions as deletions
use Rattle.site.proofs.States.{Ready, add_fits, add_put, add_stands, add_rows, add_table_long, add_judged, Found, delete_fits, delete_put, delete_stands, delete_rows, delete_table_long, delete_judged, in_use_long}

-- A refusal of the rows in use is told first, whatever comes next.
told_first : (tells next : Told) (r : Refusal) → told (Err r) ≡ tells → told (Err r) ≡ cond (accepts tells) next tells
told_first tells next r e = e ∙ ap (λ (b : Bool). cond b next tells) (ap accepts e)

next_told : (tells next : Told) → accepts tells ≡ true → next ≡ cond (accepts tells) next tells
next_told tells next e = rw e refl

-- An accepted table has this house, and so many rows.
house_is : (table : List ℕ) → (judging table).number ≡ 0 → {house : House} → house ≡ house_of table → HouseOf table house
house_is table h is = record { stands = stands table h; row = is; storeys_same = ap (λ (h : House). h.storeys) is }

rows_are_due : (table : List ℕ) → (judging table).number ≡ 0 → (rows : ℕ) → length table ≡ 8 * rows → rows ≡ rows_due table
rows_are_due table h rows long = omega (arith, (accepted table h).sizes)

-- Rows that are accepted are few.
pub count_small : (rows : AcceptedTable) → rows.rows ≤ 312
count_small rows = omega (arith, rows.rows_are, (accepted rows.table.now rows.of_house.stands.accepted).sizes)

-- What the code stores after a change that was told so: a table, six totals and a count of rows, which are the state that the change makes.
pub record Stores (tells : Told) (after : State) (house : House) (stored held : List ℕ) (rows : ℕ) : Type 0 where
  pub accepted_so : accepts tells ≡ true
  pub state : on stored (record { held = held; rows = rows }) ≡ after
  pub fits : 8 * rows ≤ length stored
  pub house_known : HouseOf (rows_of after) house
  pub within : some_above (storeys (rows_of after)) held ≡ false

-- So these are an accepted table's rows in use, with that house, and no total of it is above the most.
module _ {tells : Told} {after : State} {house : House} {stored held table : List ℕ} {rows : ℕ} (s : Stores tells after house stored held rows) (is : table ≡ stored) where
  pub stored_fits : 8 * rows ≤ length table
  stored_fits = rw is s.fits

  pub stored_house : HouseOf (in_use table rows) house
  stored_house = subst (λ (l : List ℕ). HouseOf l house) (sym (ap (λ (t : List ℕ). in_use t rows) is ∙ ap rows_of s.state)) s.house_known

  pub stored_rows : rows ≡ rows_due (in_use table rows)
  stored_rows =
      rows_are_due (in_use table rows) stored_house.stands.accepted rows (in_use_long (on table (record { held = held; rows = rows })) stored_fits)

  pub stored_within : some_above (storeys (in_use table rows)) held ≡ false
  stored_within =
      ap (λ (t : List ℕ). some_above (storeys (in_use t rows)) held) is ∙ ap (λ (t : State). some_above (storeys (rows_of t)) held) s.state ∙ s.within

  pub stored_made : (changed : Changed) → Made changed (on table (record { held = held; rows = rows }))
      → (accepts tells ≡ true) × (table ≡ after.table) × Made changed after
  stored_made changed made =
      let state = ap (λ (t : List ℕ). on t (record { held = held; rows = rows })) is ∙ s.state in
      (s.accepted_so, ap (λ (t : State). t.table) state, subst (λ (t : State). Made changed t) state made)

-- How many rows are in use afterwards.
pub count_with : (s : State) (wall : List ℕ) → (with_wall s wall).totals.rows ≡ s.totals.rows + 1
unfolding with_wall
count_with s wall = refl

pub count_left : (s : State) (row : ℕ) → (without_wall s row).totals.rows ≡ s.totals.rows - 1
unfolding without_wall
count_left s row = refl

module _ (s : State) where
  -- A refusal of the rows in use, and of the tests after them.
  pub add_refused : (wall : List ℕ) (r : Refusal) → told (Err r) ≡ checking s → told (Err r) ≡ add_told s wall
  unfolding add_told
  add_refused wall r e = told_first (checking s) (addition (rows_of s) s.totals.held (length s.table) wall) r e

  pub delete_refused : (row : ℕ) (r : Refusal) → told (Err r) ≡ checking s → told (Err r) ≡ delete_told s row
  unfolding delete_told
  delete_refused row r e = told_first (checking s) (deletion (rows_of s) s.totals.held row) r e

  pub add_next : (wall : List ℕ) → accepts (checking s) ≡ true → addition (rows_of s) s.totals.held (length s.table) wall ≡ add_told s wall
  unfolding add_told
  add_next wall e = next_told (checking s) (addition (rows_of s) s.totals.held (length s.table) wall) e

  pub delete_next : (row : ℕ) → accepts (checking s) ≡ true → deletion (rows_of s) s.totals.held row ≡ delete_told s row
  unfolding delete_told
  delete_next row e = next_told (checking s) (deletion (rows_of s) s.totals.held row) e

  -- The rows in use as the code has them.
  module _ (rows : AcceptedTable) (ok : accepts (checking s) ≡ true) (same : rows.table.now ≡ rows_of s) where
    pub count_is : rows.rows ≡ s.totals.rows
    count_is =
        let long : length rows.table.now ≡ 8 * s.totals.rows = ap length same ∙ in_use_long s (checked s ok).fits in
        omega (arith, long, rows.rows_are, (accepted rows.table.now rows.of_house.stands.accepted).sizes)

    house_same : rows.house ≡ house_of (rows_of s)
    house_same = rows.of_house.row ∙ ap house_of same

    pub add_stopped : (wall : List ℕ) (r : Refusal) → told (Err r) ≡ addition rows.table.now s.totals.held (length s.table) wall
        → told (Err r) ≡ add_told s wall
    add_stopped wall r e = e ∙ ap (λ (l : List ℕ). addition l s.totals.held (length s.table) wall) same ∙ add_next wall ok

    pub delete_stopped : (row : ℕ) (r : Refusal) → told (Err r) ≡ deletion rows.table.now s.totals.held row → told (Err r) ≡ delete_told s row
    delete_stopped row r e = e ∙ ap (λ (l : List ℕ). deletion l s.totals.held row) same ∙ delete_next row ok

    -- A start fills in the sums of the rows in use, and answers their record.
    pub starts : (held_is : List ℕ) → held_is ≡ six_numbers rows.table.now (held rows.table.now) → (scored : Record) → told_record scored ≡ record_of rows.table.now
        → Made (record { totals = record { held = held_is; rows = s.totals.rows }; answer = scored }) (started s)
    unfolding started
    starts sums sums_are scored scored_is =
        let R = rows_of s in
        record {
          totals = rw (sums_are, same) refl;
          answer_is = scored_is ∙ rw same (sym (record_own R (number_at (six_numbers R (held R))) (sums_own R (checked s ok).accepted)));
        }

    module _ (wall : List ℕ) (eight : length wall ≡ 8) (passed : accepts (addition rows.table.now s.totals.held (length s.table) wall) ≡ true) where
      passes : additions.Passes (rows_of s) s.totals.held wall (length s.table)
      passes = additions.told_passes (rows_of s) s.totals.held wall (length s.table) (rw same at passed)

      pub ready : Ready s wall
      ready = record {
        eight = eight;
        fits = (checked s ok).fits;
        rows_accepted = (checked s ok).accepted;
        ranged = passes.ranged;
        few = passes.few;
        room = passes.room;
      }

      add_accepts : accepts (add_told s wall) ≡ true
      add_accepts = sym (ap accepts (add_next wall ok)) ∙ ap (λ (l : List ℕ). accepts (addition l s.totals.held (length s.table) wall)) (sym same) ∙ passed

      add_house : HouseOf (rows_of (with_wall s wall)) rows.house
      add_house =
          house_is (rows_of (with_wall s wall)) (add_judged s wall ready)
          (house_same ∙ sym (ap house_of (add_rows s wall ready) ∙ same_house (add_put s wall ready) (omega (arith, add_stands s wall ready))))

      -- Where the wall is put in, and what is stored then.
      module _ (at : ℕ) (at_is : at ≡ row_taken rows.table.now wall) where
        at_row : at ≡ row_taken (rows_of s) wall
        at_row = at_is ∙ ap (λ (l : List ℕ). row_taken l wall) same

        pub add_requires : (at ≤ rows.rows) × (8 * rows.rows + 8 ≤ length s.table)
        add_requires = (omega (arith, at_row, count_is, add_fits s wall ready), omega (arith, count_is, add_fits s wall ready))

        pub adds : (held : List ℕ) → held ≡ total_added rows.table.now s.totals.held wall
            → Stores (add_told s wall) (with_wall s wall) rows.house (over s.table (with_row (in_use s.table rows.rows) at wall)) held (rows.rows + 1)
        unfolding with_wall
        adds held held_is =
            let many : storeys (rows_of (with_wall s wall)) ≡ storeys (rows_of s) = ap storeys (add_rows s wall ready) ∙ (add_stands s wall ready).storeys_same in
            let state : on (over s.table (with_row (in_use s.table rows.rows) at wall)) (record { held = held; rows = rows.rows + 1 }) ≡ with_wall s wall =
            rw (at_row, held_is, same, count_is) refl in
            record {
              accepted_so = add_accepts;
              state = state;
              fits = omega (arith, ap (λ (t : State). length t.table) state, add_table_long s wall ready, add_requires);
              house_known = add_house;
              within = rw (many, held_is, same) passes.within;
            }

    module _ (row : ℕ) (passed : accepts (deletion rows.table.now s.totals.held row) ≡ true) where
      left : deletions.Passes (rows_of s) s.totals.held row
      left = deletions.told_passes (rows_of s) s.totals.held row (rw same at passed)

      pub found : Found s row
      found = record { fits = (checked s ok).fits; rows_accepted = (checked s ok).accepted; some = left.wall.some; kind = left.wall.kind }

      delete_accepts : accepts (delete_told s row) ≡ true
      delete_accepts = sym (ap accepts (delete_next row ok)) ∙ ap (λ (l : List ℕ). accepts (deletion l s.totals.held row)) (sym same) ∙ passed

      delete_house : HouseOf (rows_of (without_wall s row)) rows.house
      delete_house =
          house_is (rows_of (without_wall s row)) (delete_judged s row found)
          (house_same ∙ same_house (delete_put s row found) (omega (arith, delete_stands s row found)) ∙ sym (ap house_of (delete_rows s row found)))

      -- Where the wall is taken out, and what is stored then.
      module _ (at : ℕ) (at_is : at ≡ row - 1) where
        pub delete_requires : (at < rows.rows) × (8 * rows.rows ≤ length s.table)
        delete_requires = (omega (arith, at_is, count_is, delete_fits s row found), omega (arith, count_is, found.fits))

        pub deletes : (held : List ℕ) → held ≡ total_taken rows.table.now s.totals.held (row - 1)
            → Stores (delete_told s row) (without_wall s row) rows.house (over s.table (without_row (in_use s.table rows.rows) at ++ empty_row)) held (rows.rows - 1)
        unfolding without_wall
        deletes held held_is =
            let many : storeys (rows_of (without_wall s row)) ≡ storeys (rows_of s) = ap storeys (delete_rows s row found) ∙ sym (delete_stands s row found).storeys_same in
            let state : on (over s.table (without_row (in_use s.table rows.rows) at ++ empty_row)) (record { held = held; rows = rows.rows - 1 }) ≡ without_wall s row =
            rw (at_is, held_is, same, count_is) refl in
            record {
              accepted_so = delete_accepts;
              state = state;
              fits = omega (arith, ap (λ (t : State). length t.table) state, delete_table_long s row found, delete_requires);
              house_known = delete_house;
              within = rw (many, held_is, same) left.within;
            }
