-- The rows in use, checked. Assumes nothing.
use Rattle.std.proofs.Common.{◌≡◌, refl, sym, ap, ◌∙◌, Bool, true, false, cond, ℕ, ◌*◌, ◌<◌, ◌≤◌, length, ltb, lt-ltb, le-ltb, ltb-false, subst, T}
use Rattle.answer.specs.Told.{accepts, refusal, sheet_length}
use Rattle.survey.specs.Judgement.{judging}
use Rattle.survey.proofs.RefusalNumbers.{judging_accepts, accepted_number}
use Rattle.site.specs.Changes.{State, rows_of, checking}

-- A refusal is no count.
pub refused_counts : (number row column : ℕ) → accepts (refusal number row column) ≡ true → ⊥
refused_counts number row column e = subst T (sym e) tt

module _ (s : State) where
  pub checking_long : length s.table < 8 * s.totals.rows → refusal sheet_length 0 0 ≡ checking s
  unfolding checking
  checking_long long = rw (lt-ltb _ _ long)

  pub checking_judged : 8 * s.totals.rows ≤ length s.table → checking s ≡ judging (rows_of s)
  unfolding checking
  checking_judged fits = rw (le-ltb _ _ fits)

  -- The rows in use of a state that is accepted: they fit, and they are.
  pub record Checked : Type 0 where
    pub fits : 8 * s.totals.rows ≤ length s.table
    pub accepted : (judging (rows_of s)).number ≡ 0

  pub checked : accepts (checking s) ≡ true → Checked
  unfolding checking
  checked e = go (ltb (length s.table) (8 * s.totals.rows)) refl e
    where
      go : (b : Bool) → ltb (length s.table) (8 * s.totals.rows) ≡ b
          → accepts (cond b (refusal sheet_length 0 0) (judging (rows_of s))) ≡ true → Checked
      go true f e = absurd (refused_counts sheet_length 0 0 e)
      go false f e = record { fits = ltb-false _ _ f; accepted = accepted_number (rows_of s) e }

  pub checking_accepts : Checked → accepts (checking s) ≡ true
  checking_accepts c = ap accepts (checking_judged c.fits) ∙ judging_accepts (rows_of s) c.accepted
