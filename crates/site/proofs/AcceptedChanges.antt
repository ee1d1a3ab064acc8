-- What an accepted change says of the state before it, and what is answered and left. Assumes nothing.
use Rattle.std.proofs.Common.{◌≡◌, refl, ap, ◌∙◌, Bool, true, false, cond, List, ℕ, ◌<◌, arith, length}
use Rattle.answer.specs.Told.{Told, accepts}
use Rattle.diagnosis.specs.Answers.{told_scored, told_refused, number_at, record_with}
use Rattle.site.specs.Changes.{State, rows_of, checking, answered, left, addition, add_told, deletion, delete_told}
use Rattle.site.proofs.Checking.{checked}
use Rattle.site.proofs.Additions as additions
use Rattle.site.proofs.Deletions as deletions
use Rattle.site.proofs.States.{Ready, Found}
use Rattle.site.proofs.Changing.{add_next, delete_next}

-- Where the tests accept, the state is the one that the change makes; else it stays.
pub accepted_left : (tells : Told) (before after : State) → accepts tells ≡ true → left tells before after ≡ after
unfolding left
accepted_left tells before after e = rw e refl

pub refused_left : (tells : Told) (before after : State) → accepts tells ≡ false → left tells before after ≡ before
unfolding left
refused_left tells before after e = rw e refl

-- An answer is a record just where the tests accept, and else has the number that is told.
pub answered_scored : (tells : Told) (after : State) → (answered tells after).scored ≡ accepts tells
unfolding answered
answered_scored tells after = go (accepts tells) refl
  where
    go : (b : Bool) → accepts tells ≡ b
        → (cond b (told_scored (record_with (rows_of after) (number_at after.totals.held))) (told_refused tells.number tells.row tells.column)).scored ≡ b
    go true e = refl
    go false e = refl

pub answered_number : (tells : Told) (after : State) (n : ℕ) → 0 < n → (answered tells after).number ≡ n → (accepts tells ≡ false) × (tells.number ≡ n)
unfolding answered
answered_number tells after n some e = go (accepts tells) refl e
  where
    go : (b : Bool) → accepts tells ≡ b
        → (cond b (told_scored (record_with (rows_of after) (number_at after.totals.held))) (told_refused tells.number tells.row tells.column)).number ≡ n
        → (accepts tells ≡ false) × (tells.number ≡ n)
    go true f z = absurd (omega arith)
    go false f z = (f, z)

pub answered_refused : (tells : Told) (after : State) → accepts tells ≡ false → answered tells after ≡ told_refused tells.number tells.row tells.column
unfolding answered
answered_refused tells after e = rw e refl

-- What is told after the rows in use is no count where they are refused.
both_accept : (first next : Told) → accepts (cond (accepts first) next first) ≡ true → accepts first ≡ true
both_accept first next e = go (accepts first) refl e
  where
    go : (b : Bool) → accepts first ≡ b → accepts (cond b next first) ≡ true → accepts first ≡ true
    go true f e = f
    go false f e = e

-- An addition that is accepted: its rows in use are, and its tests pass.
module _ (s : State) (wall : List ℕ) (e : accepts (add_told s wall) ≡ true) where
  add_checked : accepts (checking s) ≡ true
  unfolding add_told
  add_checked = both_accept (checking s) (addition (rows_of s) s.totals.held (length s.table) wall) e

  pub add_passes : additions.Passes (rows_of s) s.totals.held wall (length s.table)
  add_passes = additions.told_passes (rows_of s) s.totals.held wall (length s.table) (ap accepts (add_next s wall add_checked) ∙ e)

  pub add_ready : length wall ≡ 8 → Ready s wall
  add_ready eight =
      let c = checked s add_checked in
      let p = add_passes in
      record { eight = eight; fits = c.fits; rows_accepted = c.accepted; ranged = p.ranged; few = p.few; room = p.room }

-- And a deletion.
module _ (s : State) (row : ℕ) (e : accepts (delete_told s row) ≡ true) where
  delete_checked : accepts (checking s) ≡ true
  unfolding delete_told
  delete_checked = both_accept (checking s) (deletion (rows_of s) s.totals.held row) e

  pub delete_passes : deletions.Passes (rows_of s) s.totals.held row
  delete_passes = deletions.told_passes (rows_of s) s.totals.held row (ap accepts (delete_next s row delete_checked) ∙ e)

  pub delete_ready : Found s row
  delete_ready =
      let c = checked s delete_checked in
      let p = delete_passes in
      record { fits = c.fits; rows_accepted = c.accepted; some = p.wall.some; kind = p.wall.kind }
