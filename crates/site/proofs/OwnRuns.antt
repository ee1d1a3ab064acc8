-- A record with its own sums keeps them, whatever is added and deleted. Assumes nothing.
use Rattle.std.proofs.Common.{◌≡◌, refl, sym, ap, subst, ◌∙◌, Bool, true, false, cond, List, [], ◌∷◌, ℕ, ◌+◌, ◌-◌, ◌*◌, ◌<◌, ◌≤◌, arith, length, eqb, eq-eqb, T}
use Rattle.std.proofs.lemmas.List.{length-set}
use borrow.Author.Tests.{eqb-true, eqb-false}
use Rattle.answer.specs.Told.{Told, accepts, refusal, no_such_wall}
use Rattle.answer.specs.Length.{most_walls}
use Rattle.survey.specs.Table.{cell, storeys, wall_rows}
use Rattle.survey.specs.Judgement.{judging, new_wall_column}
use Rattle.survey.specs.Walls.{is_wall_of}
use Rattle.survey.proofs.Acceptance.{made_accepted}
use Rattle.survey.proofs.RefusalNumbers.{judging_accepts, accepted_number}
use Rattle.diagnosis.specs.Rows.{house_of}
use Rattle.diagnosis.specs.House.{InHouse, share, row_share, held}
use Rattle.diagnosis.specs.Answers.{told_scored, told_refused, six_numbers, score_at, number_at, record_with, record_of, scoring}
use Rattle.diagnosis.proofs.AcceptedTables.{storeys_few}
use Rattle.diagnosis.proofs.GivenStrengths.{SameInHouse, record_own}
use Rattle.site.specs.Rows.{with_row, without_row}
use Rattle.site.specs.Totals.{wall_total, total_added, total_taken, some_above}
use Rattle.site.specs.Changes.{State, rows_of, checking, started, starting, answered, left, row_taken, addition, add_told, with_wall, deletion, delete_told, without_wall}
use Rattle.site.specs.Runs.{Change, add, delete, EightNumbers, change_told, answer_of, after, after_run, AllEightNumbers, Own}
use Rattle.site.proofs.SixTotals.{total_set, total_other}
use Rattle.site.proofs.Checking.{checked, checking_judged, checking_accepts}
use Rattle.site.proofs.PutRows.{same_house}
use Rattle.site.proofs.States.{Ready, add_ranged, add_numbers, add_kind, add_put, add_stands, add_made, add_rows, add_table_long, add_fits, add_judged, Found, delete_put, delete_stands, delete_made, delete_ranged, delete_rows, delete_table_long, delete_judged}
use Rattle.site.proofs.OwnSums.{own_within, sums_six, sums_own}
use Rattle.site.proofs.Additions as additions
use Rattle.site.proofs.Deletions as deletions
use Rattle.site.proofs.Changing.{add_next, delete_next}
use Rattle.site.proofs.RowSums.{counted, held_put}

-- A wall counts towards its own storey and direction, and no other.
module _ (table : List ℕ) (row : ℕ) (kind : cell table row 0 ≡ 4) where
  pub counts_here : counted table (cell table row 1) (cell table row 2) row ≡ row_share (house_of table) table row
  unfolding counted is_wall_of
  counts_here = rw (eq-eqb (cell table row 0) 4 kind, eq-eqb (cell table row 1) (cell table row 1) refl, eq-eqb (cell table row 2) (cell table row 2) refl) refl

  pub counts_not : (storey direction : ℕ) → (cell table row 1 ≡ storey → cell table row 2 ≡ direction → ⊥) → counted table storey direction row ≡ 0
  unfolding counted is_wall_of
  counts_not storey direction other =
      rw (eq-eqb (cell table row 0) 4 kind) (go (eqb (cell table row 1) storey) refl (eqb (cell table row 2) direction) refl)
    where
      go : (x : Bool) → eqb (cell table row 1) storey ≡ x → (y : Bool) → eqb (cell table row 2) direction ≡ y
          → cond x (cond y (share (house_of table) storey table row) 0) 0 ≡ 0
      go true e true f = absurd (other (eqb-true (cell table row 1) storey e) (eqb-true (cell table row 2) direction f))
      go true e false f = refl
      go false e y f = refl

-- What holds where two numbers are the same, both of them, and where they are not.
same_both : (s d storey direction : ℕ) (Goal : Type 0) → (s ≡ storey → d ≡ direction → Goal) → ((s ≡ storey → d ≡ direction → ⊥) → Goal) → Goal
same_both s d storey direction Goal yes' no' = go (eqb s storey) refl (eqb d direction) refl
  where
    go : (x : Bool) → eqb s storey ≡ x → (y : Bool) → eqb d direction ≡ y → Goal
    go true e true f = yes' (eqb-true s storey e) (eqb-true d direction f)
    go true e false f = no' (λ g h. eqb-false d direction f h)
    go false e y f = no' (λ g h. eqb-false s storey e g)

-- After an addition.
module _ (s : State) (wall : List ℕ) (t : Ready s wall) where
  abbrev A : List ℕ
  A = rows_of s

  abbrev at : ℕ
  at = row_taken A wall

  abbrev B : List ℕ
  B = with_row A at wall

  pub share_placed : row_share (house_of B) B at ≡ row_share (house_of A) wall 0
  share_placed =
      let house : house_of B ≡ house_of A = same_house (add_put s wall t) (omega (arith, (add_stands s wall t).past)) in
      let n = add_numbers s wall t in
      rw (house, n 1 (omega arith), n 4 (omega arith), n 5 (omega arith), n 6 (omega arith), n 7 (omega arith)) refl

  counts_placed : counted B (cell wall 0 1) (cell wall 0 2) at ≡ row_share (house_of A) wall 0
  counts_placed =
      let n = add_numbers s wall t in
      ap (λ (st : ℕ). counted B st (cell wall 0 2) at) (sym (n 1 (omega arith))) ∙ ap (λ (d : ℕ). counted B (cell B at 1) d at) (sym (n 2 (omega arith)))
      ∙ counts_here B at (add_kind s wall t) ∙ share_placed

  B_accepted : (judging B).number ≡ 0
  B_accepted = ap (λ (t : Told). t.number) (made_accepted B (add_made s wall t))

  module _ (own : Own s) where
    pub add_sums : SameInHouse B (number_at (total_added A s.totals.held wall)) (held B)
    unfolding total_added
    add_sums storey direction here =
        let sums = s.totals.held in
        let total = wall_total sums wall 0 + row_share (house_of A) wall 0 in
        let st = cell wall 0 1 in
        let d = cell wall 0 2 in
        let ranged = add_ranged s wall t in
        let place = ranged 1 (omega arith) in
        let way = ranged 2 (omega arith) in
        let few = (storeys_few A t.rows_accepted).1 in
        let many = (add_stands s wall t).storeys_same in
        let before : InHouse A storey direction = record {
          some_storey = here.some_storey;
          last_storey = omega (arith, here.last_storey, many);
          some_direction = here.some_direction;
          last_direction = here.last_direction;
        } in
        let put = held_put (add_put s wall t) (add_stands s wall t) t.rows_accepted B_accepted storey direction in
        same_both st d storey direction _
        (λ e f.
        let is = total_set sums own.six st d total place.0 (omega arith) way.0 way.1 in
        rw (← e, ← f) (is ∙ omega (arith, rw (← e, ← f) at (own.sums storey direction before), rw (← e, ← f) at put, counts_placed)))
        (λ other.
        total_other sums own.six st d total place.0 (omega arith) way.0 way.1 (score_at storey direction) (λ e. other (omega (arith, here)) (omega (arith, here)))
        ∙ omega (
          arith,
          own.sums storey direction before,
          put,
          counts_not B at (add_kind s wall t) storey direction (λ e f. other (sym (add_numbers s wall t 1 (omega arith)) ∙ e) (sym (add_numbers s wall t 2 (omega arith)) ∙ f)),
        ))

    added_six : length (total_added A s.totals.held wall) ≡ 6
    unfolding total_added
    added_six = length-set s.totals.held _ _ ∙ own.six

    pub own_added : Own (with_wall s wall)
    unfolding with_wall
    own_added = record {
      six = added_six;
      fits = omega (arith, add_table_long s wall t, add_fits s wall t);
      rows_accepted = add_judged s wall t;
      sums = λ storey direction here.
          let rows = add_rows s wall t in
          add_sums storey direction (subst (λ (l : List ℕ). InHouse l storey direction) rows here) ∙ ap (λ (l : List ℕ). held l storey direction) (sym rows);
    }

    pub add_within : some_above (storeys A) (total_added A s.totals.held wall) ≡ false
    add_within =
        ap (λ (n : ℕ). some_above n (total_added A s.totals.held wall)) (sym (add_stands s wall t).storeys_same)
        ∙ own_within B B_accepted (total_added A s.totals.held wall) added_six add_sums

-- After a deletion.
module _ (s : State) (own : Own s) (row : ℕ) (f : Found s row) where
  abbrev R : List ℕ
  R = rows_of s

  abbrev gone : ℕ
  gone = row - 1

  abbrev L : List ℕ
  L = without_row R gone

  L_accepted : (judging L).number ≡ 0
  L_accepted = ap (λ (t : Told). t.number) (made_accepted L (delete_made s row f))

  -- What the storey of a wall holds in its direction, with the wall and without it.
  held_left : (storey direction : ℕ) → held R storey direction ≡ held L storey direction + counted R storey direction gone
  held_left storey direction = held_put (delete_put s row f) (delete_stands s row f) L_accepted f.rows_accepted storey direction

  place : (1 ≤ cell R gone 1) × (cell R gone 1 ≤ storeys R)
  place = delete_ranged s row f 1 (omega arith)

  way : (1 ≤ cell R gone 2) × (cell R gone 2 ≤ 2)
  way = delete_ranged s row f 2 (omega arith)

  here_itself : InHouse R (cell R gone 1) (cell R gone 2)
  here_itself = record { some_storey = place.0; last_storey = place.1; some_direction = way.0; last_direction = way.1 }

  -- Its total is no less than its share.
  pub enough_held : row_share (house_of R) R gone ≤ wall_total s.totals.held R gone
  enough_held =
      omega (arith, own.sums (cell R gone 1) (cell R gone 2) here_itself, held_left (cell R gone 1) (cell R gone 2), counts_here R gone f.kind)

  pub left_sums : SameInHouse L (number_at (total_taken R s.totals.held gone)) (held L)
  unfolding total_taken
  left_sums storey direction here =
      let sums = s.totals.held in
      let total = wall_total sums R gone - row_share (house_of R) R gone in
      let st = cell R gone 1 in
      let d = cell R gone 2 in
      let few = (storeys_few R f.rows_accepted).1 in
      let many = (delete_stands s row f).storeys_same in
      let before : InHouse R storey direction = record {
        some_storey = here.some_storey;
        last_storey = omega (arith, here.last_storey, many);
        some_direction = here.some_direction;
        last_direction = here.last_direction;
      } in
      same_both st d storey direction _
      (λ e g.
      rw (← e, ← g)
      (total_set sums own.six st d total place.0 (omega (arith, place, few)) way.0 way.1
      ∙ omega (arith, own.sums st d here_itself, held_left st d, counts_here R gone f.kind)))
      (λ other.
      total_other sums own.six st d total place.0 (omega (arith, place, few)) way.0 way.1 (score_at storey direction) (λ e. other (omega (arith, here, place, way)) (omega (arith, here, place, way)))
      ∙ omega (arith, own.sums storey direction before, held_left storey direction, counts_not R gone f.kind storey direction other))

  left_six : length (total_taken R s.totals.held gone) ≡ 6
  unfolding total_taken
  left_six = length-set s.totals.held _ _ ∙ own.six

  pub own_left : Own (without_wall s row)
  unfolding without_wall
  own_left = record {
    six = left_six;
    fits = omega (arith, delete_table_long s row f, f.fits);
    rows_accepted = delete_judged s row f;
    sums = λ storey direction here.
        let rows = delete_rows s row f in
        left_sums storey direction (subst (λ (l : List ℕ). InHouse l storey direction) rows here) ∙ ap (λ (l : List ℕ). held l storey direction) (sym rows);
  }

  pub left_within : some_above (storeys R) (total_taken R s.totals.held gone) ≡ false
  left_within =
      ap (λ (n : ℕ). some_above n (total_taken R s.totals.held gone)) (delete_stands s row f).storeys_same
      ∙ own_within L L_accepted (total_taken R s.totals.held gone) left_six left_sums

-- A start that is accepted gives a record with its own sums.
pub started_own : (s : State) → accepts (checking s) ≡ true → Own (started s)
unfolding started
started_own s passes =
    let c = checked s passes in
    record {
      six = sums_six (rows_of s) c.accepted;
      fits = c.fits;
      rows_accepted = c.accepted;
      sums = sums_own (rows_of s) c.accepted;
    }

-- What passes the tests, of a state with its own sums.
module _ (s : State) (own : Own s) where
  passes : accepts (checking s) ≡ true
  passes = checking_accepts s (record { fits = own.fits; accepted = own.rows_accepted })

  add_is : (wall : List ℕ) → addition (rows_of s) s.totals.held (length s.table) wall ≡ add_told s wall
  add_is wall = add_next s wall passes

  delete_is : (row : ℕ) → deletion (rows_of s) s.totals.held row ≡ delete_told s row
  delete_is row = delete_next s row passes

  ready_of : (wall : List ℕ) → length wall ≡ 8 → 8 ≤ new_wall_column (storeys (rows_of s)) wall → wall_rows (rows_of s) < most_walls
      → length (rows_of s) + 8 ≤ length s.table → Ready s wall
  ready_of wall eight ranged few room =
      record { eight = eight; fits = own.fits; rows_accepted = own.rows_accepted; ranged = ranged; few = few; room = room }

  pub add_ready : (wall : List ℕ) → length wall ≡ 8 → accepts (add_told s wall) ≡ true → Ready s wall
  add_ready wall eight e =
      let p = additions.told_passes (rows_of s) s.totals.held wall (length s.table) (ap accepts (add_is wall) ∙ e) in
      ready_of wall eight p.ranged p.few p.room

  pub delete_found : (row : ℕ) → accepts (delete_told s row) ≡ true → Found s row
  delete_found row e =
      let p = deletions.told_passes (rows_of s) s.totals.held row (ap accepts (delete_is row) ∙ e) in
      record { fits = own.fits; rows_accepted = own.rows_accepted; some = p.wall.some; kind = p.wall.kind }

  -- An addition is not refused with 12: no total can be above the most once the tests before have passed.
  pub add_never_twelve : (wall : List ℕ) → length wall ≡ 8 → (add_told s wall).number ≡ no_such_wall → ⊥
  add_never_twelve wall eight e =
      let told = additions.twelve_told (rows_of s) s.totals.held wall (length s.table) (ap (λ (t : Told). t.number) (add_is wall) ∙ e) in
      true_false (sym told.3 ∙ add_within s wall (ready_of wall eight told.0 told.1 told.2) own)
    where
      true_false : ◌≡◌ {A = Bool} true false → ⊥
      true_false e = subst T e tt

  -- A deletion's 12 names the row.
  pub delete_twelve : (row : ℕ) → (delete_told s row).number ≡ no_such_wall → delete_told s row ≡ refusal no_such_wall row 0
  delete_twelve row e =
      sym (delete_is row)
      ∙ deletions.twelve_told (rows_of s) s.totals.held row
      (λ wall.
      let f : Found s row = record { fits = own.fits; rows_accepted = own.rows_accepted; some = wall.some; kind = wall.kind } in
      (enough_held s own row f, left_within s own row f))
      (ap (λ (t : Told). t.number) (delete_is row) ∙ e)

-- One change keeps the sums, whatever it is told.
keeps : (tells : Told) (before after : State) → Own before → (accepts tells ≡ true → Own after) → Own (left tells before after)
unfolding left
keeps tells before after own made = go (accepts tells) refl
  where
    go : (b : Bool) → accepts tells ≡ b → Own (cond b after before)
    go true e = made e
    go false e = own

pub after_own : (s : State) → Own s → (change : Change) → EightNumbers change → Own (after s change)
after_own s own (add wall) eight = keeps (add_told s wall) s (with_wall s wall) own (λ e. own_added s wall (add_ready s own wall eight e) own)
after_own s own (delete row) eight = keeps (delete_told s row) s (without_wall s row) own (λ e. own_left s own row (delete_found s own row e))

-- And so does a run of changes.
pub after_run_own : (s : State) → Own s → (changes : List Change) → AllEightNumbers changes → Own (after_run s changes)
unfolding after_run
after_run_own s own [] eight = own
after_run_own s own (change ∷ changes) eight = after_run_own (after s change) (after_own s own change eight.0) changes eight.1

-- An accepted answer is the fresh scoring of the rows that are then in use.
fresh : (tells : Told) (before after : State) → accepts tells ≡ true → Own after → answered tells after ≡ scoring (rows_of (left tells before after))
unfolding answered left scoring
fresh tells before after e own =
    rw (e, judging_accepts (rows_of after) own.rows_accepted, record_own (rows_of after) (number_at after.totals.held) own.sums) refl

pub answer_fresh : (s : State) → Own s → (change : Change) → EightNumbers change → accepts (change_told s change) ≡ true
    → answer_of s change ≡ scoring (rows_of (after s change))
answer_fresh s own (add wall) eight e = fresh (add_told s wall) s (with_wall s wall) e (own_added s wall (add_ready s own wall eight e) own)
answer_fresh s own (delete row) eight e = fresh (delete_told s row) s (without_wall s row) e (own_left s own row (delete_found s own row e))

-- A start answers what scoring its rows in use does, accepted or refused.
pub started_fresh : (s : State) → 8 * s.totals.rows ≤ length s.table → starting s ≡ scoring (rows_of s)
unfolding answered scoring started
started_fresh s fits = rw (checking_judged s fits) (go (accepts (judging (rows_of s))) refl)
  where
    R : List ℕ
    R = rows_of s

    go : (b : Bool) → accepts (judging R) ≡ b
        → cond b (told_scored (record_with R (number_at (six_numbers R (held R))))) (told_refused (judging R).number (judging R).row (judging R).column)
        ≡ cond b (told_scored (record_of R)) (told_refused (judging R).number (judging R).row (judging R).column)
    go true e = ap told_scored (record_own R (number_at (six_numbers R (held R))) (sums_own R (accepted_number R e)))
    go false e = refl

-- A wall of a record with its own sums can be deleted.
pub wall_deleted : (s : State) → Own s → (row : ℕ) → 0 < row → cell (rows_of s) (row - 1) 0 ≡ 4 → accepts (delete_told s row) ≡ true
wall_deleted s own row some kind =
    let f : Found s row = record { fits = own.fits; rows_accepted = own.rows_accepted; some = some; kind = kind } in
    sym (ap accepts (delete_is s own row))
    ∙ ap accepts (deletions.passes_told (rows_of s) s.totals.held row (record {
      wall = deletions.wall_here (rows_of s) s.totals.held row some kind;
      enough_held = enough_held s own row f;
      within = left_within s own row f;
    }))
