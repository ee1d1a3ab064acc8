-- The report's rows as they are written: one row more, the verdict's row. Assumes nothing.
use Rattle.std.proofs.Common.{◌≡◌, refl, List, [], ◌∷◌, ◌++◌, ℕ, ◌+◌, ◌*◌, ◌<◌, ◌≤◌, arith, add-one, append-nil, length, set, take, length-append}
use Rattle.std.specs.List.{flat_map}
use Rattle.std.proofs.lemmas.List.{take_more_set}
use Rattle.std.proofs.lemmas.Grind.{flat_map-append}
use Rattle.answer.specs.Lists.{joined, over}
use Rattle.answer.proofs.Lists.{joined_length}
use Rattle.sheet.specs.Sheet.{after_printing}
use Rattle.sheet.proofs.Sheets.{printing_rows}
use Rattle.survey.specs.Table.{storeys}
use Rattle.diagnosis.specs.declared.assessment.HouseAssessment.{HouseAssessment}
use Rattle.diagnosis.specs.Report.{storey_rows, result_rows, verdict_row, report_rows}
use Rattle.diagnosis.specs.Internal.{row_by, rows_by, lines_by, bytes_by}

-- The rows of the first places, so many, of what is worked out for a house; and one more.
abbrev pub rows_below : HouseAssessment → ℕ → List ℕ
rows_below found count = joined count (row_by found.places found.factor)

pub rows_length : (found : HouseAssessment) (count : ℕ) → length (rows_below found count) ≡ 8 * count
rows_length found count = joined_length 8 (row_by found.places found.factor) (λ i. refl) count

joined_next : (f : ℕ → List ℕ) (n : ℕ) → joined n f ++ f n ≡ joined (n + 1) f
unfolding joined
joined_next f n = rw add-one refl

pub row_more : (found : HouseAssessment) (rows : List (List ℕ)) (at : ℕ) {row : List ℕ} → at < length rows
    → flat_map (λ (r : List ℕ). r) (take at rows) ≡ rows_below found at → row ≡ row_by found.places found.factor at
    → flat_map (λ (r : List ℕ). r) (take (at + 1) (set rows at row)) ≡ rows_below found (at + 1)
row_more found rows at {row} inside e f =
    rw (take_more_set rows at row inside, flat_map-append (λ (r : List ℕ). r) (take at rows) (row ∷ []), e, append-nil row, f)
    (joined_next (row_by found.places found.factor) at)

rows_by_length : (found : HouseAssessment) → length (rows_by found) ≡ 8 * found.count + 8
rows_by_length found = simp length-append (omega (arith, rows_length found found.count))

-- The verdict's row after those of all places.
pub rows_filled : (found : HouseAssessment) (rows : List (List ℕ)) {last : List ℕ} → found.count < length rows
    → flat_map (λ (r : List ℕ). r) (take found.count rows) ≡ rows_below found found.count → last ≡ verdict_row found.least
    → flat_map (λ (r : List ℕ). r) (take (lines_by found) (set rows found.count last)) ≡ rows_by found
rows_filled found rows {last} inside e verdict =
    rw (take_more_set rows found.count last inside, flat_map-append (λ (r : List ℕ). r) (take found.count rows) (last ∷ []), e, append-nil last, verdict) refl

-- They are printed where there is room for them.
pub rows_printed : (found : HouseAssessment) (lent : List ℕ) {filled : List ℕ} → filled ≡ rows_by found → 65 * lines_by found ≤ length lent
    → after_printing filled lent ≡ over lent (bytes_by found)
rows_printed found lent e room =
    rw e (printing_rows (rows_by found) lent (lines_by found) (omega (arith, rows_by_length found)) room)

-- A table's report is as long.
results_length : (table : List ℕ) → length (result_rows table) ≡ 16 * storeys table
unfolding result_rows
results_length table = joined_length 16 (λ below. storey_rows table (below + 1)) (λ i. refl) (storeys table)

pub report_length : (table : List ℕ) → length (report_rows table) ≡ 16 * storeys table + 8
unfolding report_rows
report_length table = simp length-append (omega (arith, results_length table))
