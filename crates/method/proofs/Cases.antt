-- The cases of a joint factor: at a printed strength those on both sides give the entry, so each is the factor on the whole of its stretch.
-- Assumes nothing.
use Rattle.std.proofs.Common.{◌≡◌, refl, sym, ◌∙◌, cond, ℕ, ◌+◌, ◌-◌, ◌*◌, ◌/◌, ◌<◌, ◌≤◌, mul-zero, zero-add, add-zero, mul_left_comm, arith, ltb, lit<, lt-ltb, le-ltb}
use native.Mathlib.Nat.{sub_self, mul-add-div_right, div-eq_of_lt}
use native.Mathlib.Decide.{dec_lt}
use Rattle.method.specs.JointTables.{at2, at3, at5, at7}
use Rattle.method.specs.Held.{interpolated, below2, from2to3, from3to5, from5to7, above7, row_factor}

-- An entry that is multiplied out and rounded is the entry.
rounded : (value width : ℕ) → 0 < width → (2 * (value * width) + width) / (2 * width) ≡ value
rounded value width some =
    rw (mul_left_comm 2 value width, mul-add-div_right {m = 2 * width} (omega arith) value width, div-eq_of_lt {n = width} {m = 2 * width} (omega arith), add-zero)

-- A straight line begins with the entry on its left and ends with that on its right.
module _ (from to left right : ℕ) (width : from < to) where
  line_begins : interpolated from to left right from ≡ left
  unfolding interpolated
  line_begins = rw (sub_self from, mul-zero right, add-zero) (rounded left (to - from) (omega arith))

  line_ends : interpolated from to left right to ≡ right
  unfolding interpolated
  line_ends = rw (sub_self to, mul-zero left, zero-add) (rounded right (to - from) (omega arith))

-- So at 2.0, 3.0, 5.0 and 7.0 the cases on both sides give the entry there, of any row.
pub meet : (row : ℕ → ℕ)
    → (below2 row ≡ row at2) × (from2to3 row 20 ≡ row at2)
    × (from2to3 row 30 ≡ row at3) × (from3to5 row 30 ≡ row at3)
    × (from3to5 row 50 ≡ row at5) × (from5to7 row 50 ≡ row at5)
    × (from5to7 row 70 ≡ row at7) × (above7 row ≡ row at7)
meet row = (
  refl,
  line_begins 20 30 (row at2) (row at3) (lit< tt),
  line_ends 20 30 (row at2) (row at3) (lit< tt),
  line_begins 30 50 (row at3) (row at5) (lit< tt),
  line_ends 30 50 (row at3) (row at5) (lit< tt),
  line_begins 50 70 (row at5) (row at7) (lit< tt),
  line_ends 50 70 (row at5) (row at7) (lit< tt),
  refl,
)

-- A case up to its end, where the next one gives the same.
up_to : (strength end : ℕ) {here next : ℕ} → strength ≤ end → (strength ≡ end → next ≡ here) → cond (ltb strength end) here next ≡ here
up_to strength end {here} {next} most same = go (dec_lt strength end)
  where
    go : Dec (strength < end) → cond (ltb strength end) here next ≡ here
    go (yes less) = rw (lt-ltb strength end less)
    go (no not) = rw (le-ltb strength end (omega (arith, not))) (same (omega (arith, not)))

-- Each case is the factor on the whole of its stretch, the printed strengths at its ends included.
pub case_by_case : (row : ℕ → ℕ) (strength : ℕ)
    → (strength ≤ 20 → row_factor row strength ≡ below2 row)
    × (20 ≤ strength → strength ≤ 30 → row_factor row strength ≡ from2to3 row strength)
    × (30 ≤ strength → strength ≤ 50 → row_factor row strength ≡ from3to5 row strength)
    × (50 ≤ strength → strength ≤ 70 → row_factor row strength ≡ from5to7 row strength)
    × (70 ≤ strength → row_factor row strength ≡ above7 row)
unfolding row_factor
case_by_case row strength =
    let met = meet row in (
      λ below. up_to strength 20 below (λ e. rw e met.1),
      λ above below. rw (le-ltb strength 20 above) (up_to strength 30 below (λ e. rw e (met.3 ∙ sym met.2))),
      λ above below.
          rw (le-ltb strength 20 (omega arith), le-ltb strength 30 above) (up_to strength 50 below (λ e. rw e (met.5 ∙ sym met.4))),
      λ above below.
          rw (le-ltb strength 20 (omega arith), le-ltb strength 30 (omega arith), le-ltb strength 50 above)
          (up_to strength 70 below (λ e. rw e (sym met.6))),
      λ above.
          rw (le-ltb strength 20 (omega arith), le-ltb strength 30 (omega arith), le-ltb strength 50 (omega arith), le-ltb strength 70 above),
    )
