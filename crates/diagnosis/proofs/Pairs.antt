-- Pairs of houses that demand 3 compares: P10's, whose score rises without the premise on bands, and those to which all of the theorem applies; and
-- pairs that it does not compare, one under snow of two depths and one of which the first alone is repaired. By computation. Assumes nothing.
use Rattle.std.proofs.Common.{◌≡◌, refl, sym, ap, ◌∙◌, Bool, true, false, ◌||◌, List, [], ◌∷◌, ℕ, ◌*◌, ◌<◌, ◌≤◌, arith, length, get_or, eqb, lit<, eqb-true}
use native.Mathlib.Decide.{dec_lt}
use Rattle.answer.specs.Told.{Told, counted}
use Rattle.answer.specs.First.{first}
use Rattle.survey.specs.Table.{cell, storeys, wall_rows}
use Rattle.survey.specs.Judgement.{within, judging}
use Rattle.survey.proofs.Examples.{zones_known}
use Rattle.survey.proofs.Positions.{beyond}
use Rattle.method.proofs.Tables.{every_below, at_every}
use Rattle.diagnosis.specs.Rows.{marked}
use Rattle.diagnosis.specs.House.{InHouse, score_before, full_score}
use Rattle.diagnosis.specs.Comparison.{may_differ, NoLower, SameOrWorse, BandKept, Applies}
use Rattle.diagnosis.specs.Worked.{p10, sound, heavy, zone100, soft_ground, over_ten, more_marks, all_worse, under_snow, snowy_sound, snowy_worse, as_repaired, repaired_sound, repaired_worse, weak_joints, figures, same_bands}
use Rattle.diagnosis.proofs.ScoreLists.{one_or_two, score_at_lem}
use Rattle.diagnosis.proofs.Examples.{p10_judged, p10_rises, two_judged, sound_figures, heavy_figures, zone_figures, soft_ground_figures, over_ten_figures, more_marks_figures, all_worse_figures, repaired_judged, repaired_figures, snowy_judged, deeper_judged, snowy_figures, weak_joints_figures}

-- Whether the first rows of two tables, so many, hold equal numbers wherever they may not differ.
alike : List ℕ → List ℕ → ℕ → Bool
alike A B rows = every_below rows (λ row. every_below 8 (λ column. may_differ A row column || eqb (cell A row column) (cell B row column)))

-- Two accepted tables of so many rows that pass this test.
module _
    (A B : List ℕ) (rows : ℕ) (A-judged : judging A ≡ counted rows) (B-judged : judging B ≡ counted rows)
    (A-rows : length A ≡ 8 * rows) (B-rows : length B ≡ 8 * rows) (passed : alike A B rows ≡ true)
  where
    rows_same : (row column : ℕ) → column < 8 → may_differ A row column ≡ false → cell A row column ≡ cell B row column
    unfolding alike
    rows_same row column inside other = go (dec_lt row rows)
      where
        go : Dec (row < rows) → cell A row column ≡ cell B row column
        go (yes before) =
            eqb-true (cell A row column) (cell B row column) (rw other at (at_every 8 _ (at_every rows _ passed row before) column inside))
        go (no after) = rw (beyond A row column (omega arith), beyond B row column (omega arith))

    -- One is the other made worse, where none of its numbers that differ is lower and it has every mark of the other.
    made_worse : NoLower A B → within (marked A) (marked B) ≡ true → SameOrWorse A B
    made_worse no_lower marks = record {
      A_accepted = ap (λ (t : Told). t.number) A-judged;
      B_accepted = ap (λ (t : Told). t.number) B-judged;
      rows = A-rows ∙ sym B-rows;
      same = rows_same;
      no_lower = no_lower;
      marks = marks;
    }

-- Demand 3's pair without the premise on bands: made worse, a house scores more, 14 where it was 11, since its better end falls from B to A
-- (`p10_rises`).
pub p10_worse : SameOrWorse (p10 90) (p10 100)
unfolding alike every_below may_differ wall_rows first within
p10_worse =
    made_worse (p10 90) (p10 100) 11 (p10_judged 90 zones_known.2) (p10_judged 100 zones_known.3) refl refl refl
    (record { heavier = omega arith; higher = omega arith; softer = omega arith; later = omega arith }) refl

p10_scores : (full_score (p10 90) 1 1 ≡ 11) × (full_score (p10 100) 1 1 ≡ 14)
p10_scores = (ap (λ (l : List ℕ). get_or l 1 0) p10_rises.0, ap (λ (l : List ℕ). get_or l 1 0) p10_rises.1)

-- The ground storey in X.
ground_in_x : (table : List ℕ) → 1 ≤ storeys table → InHouse table 1 1
ground_in_x table some = record { some_storey = omega arith; last_storey = some; some_direction = omega arith; last_direction = omega arith }

-- So without that premise the comparison is false.
pub bands_needed : ((A B : List ℕ) → SameOrWorse A B → (storey direction : ℕ) → InHouse A storey direction → full_score B storey direction ≤ full_score A storey direction)
    → ⊥
bands_needed claim = omega (arith, claim (p10 90) (p10 100) p10_worse 1 1 (ground_in_x (p10 90) (omega arith)), p10_scores)

-- The bands among a house's figures.
abbrev bands_of : List (List ℕ) → List ℕ
bands_of figures = get_or figures 2 []

-- A house of two storeys made worse, with the same bands of its better ends.
module _
    (A B : List ℕ) (worse : SameOrWorse A B) (two : storeys A ≡ 2) {bands : List ℕ} (a : bands_of (figures A) ≡ bands) (b : bands_of (figures B) ≡ bands)
  where
    band_same : (i : ℕ) → get_or (bands_of (figures B)) i 0 ≡ get_or (bands_of (figures A)) i 0
    band_same i = ap (λ (l : List ℕ). get_or l i 0) (b ∙ sym a)

    bands_kept_applies : Applies A B
    bands_kept_applies = record {
      worse = worse;
      kept = λ storey direction s.
          one_or_two
          (λ storey. BandKept A B storey direction)
          (one_or_two (BandKept A B 1) (band_same 0) (band_same 1) direction s.some_direction s.last_direction)
          (one_or_two (BandKept A B 2) (band_same 2) (band_same 3) direction s.some_direction s.last_direction) storey s.some_storey
          (omega (arith, s.last_storey, two));
    }

-- The sound house made worse.
module _
    (B : List ℕ) (accepted : judging B ≡ counted 15) (long : length B ≡ 120) (passed : alike sound B 15 ≡ true) {scored before : List ℕ}
    (b : figures B ≡ scored ∷ before ∷ same_bands ∷ [])
  where
    applies : NoLower sound B → within (marked sound) (marked B) ≡ true → Applies sound B
    applies no_lower marks =
        bands_kept_applies sound B (made_worse sound B 15 two_judged.0 accepted refl long passed no_lower marks) refl (ap bands_of sound_figures) (ap bands_of b)

-- Pairs to which all of demand 3 applies: one for each of the five, and one that is worse in all of them.
pub worsened :
    Applies sound heavy × Applies sound zone100 × Applies sound soft_ground × Applies sound over_ten × Applies sound more_marks × Applies sound all_worse
unfolding p10_worse
worsened = (
  applies heavy two_judged.1 refl refl heavy_figures (record { heavier = omega arith; higher = omega arith; softer = omega arith; later = omega arith }) refl,
  applies zone100 two_judged.2 refl refl zone_figures (record { heavier = omega arith; higher = omega arith; softer = omega arith; later = omega arith }) refl,
  applies soft_ground two_judged.3 refl refl soft_ground_figures (record { heavier = omega arith; higher = omega arith; softer = omega arith; later = omega arith }) refl,
  applies over_ten two_judged.4 refl refl over_ten_figures (record { heavier = omega arith; higher = omega arith; softer = omega arith; later = omega arith }) refl,
  applies more_marks two_judged.5 refl refl more_marks_figures (record { heavier = omega arith; higher = omega arith; softer = omega arith; later = omega arith }) refl,
  applies all_worse two_judged.6 refl refl all_worse_figures (record { heavier = omega arith; higher = omega arith; softer = omega arith; later = omega arith }) refl,
)

-- And pairs under snow, worse in all five: at each depth one is the other made worse, and under 1 m all of demand 3 applies.
pub snowy_worse_lem :
    SameOrWorse snowy_sound snowy_worse × SameOrWorse (under_snow 2 sound) (under_snow 2 all_worse) × SameOrWorse (under_snow 3 sound) (under_snow 3 all_worse)
unfolding p10_worse
snowy_worse_lem = (
  made_worse snowy_sound snowy_worse 15 snowy_judged.0 snowy_judged.1 refl refl refl
      (record { heavier = omega arith; higher = omega arith; softer = omega arith; later = omega arith }) refl,
  made_worse (under_snow 2 sound) (under_snow 2 all_worse) 15 deeper_judged.0 deeper_judged.1 refl refl refl
      (record { heavier = omega arith; higher = omega arith; softer = omega arith; later = omega arith }) refl,
  made_worse (under_snow 3 sound) (under_snow 3 all_worse) 15 deeper_judged.2 deeper_judged.3 refl refl refl
      (record { heavier = omega arith; higher = omega arith; softer = omega arith; later = omega arith }) refl,
)

pub snowy_worsened : Applies snowy_sound snowy_worse
snowy_worsened =
    bands_kept_applies snowy_sound snowy_worse snowy_worse_lem.0 refl (ap bands_of snowy_figures.0) (ap bands_of snowy_figures.1)

-- And a pair of repaired houses, worse in all five.
pub repaired_worsened : Applies repaired_sound repaired_worse
unfolding p10_worse
repaired_worsened =
    bands_kept_applies repaired_sound repaired_worse
    (made_worse repaired_sound repaired_worse 15 repaired_judged.0 repaired_judged.1 refl refl refl
    (record { heavier = omega arith; higher = omega arith; softer = omega arith; later = omega arith }) refl)
    refl (ap bands_of repaired_figures.0) (ap bands_of repaired_figures.1)

-- The first number of a line of a house's figures.
abbrev first_of : ℕ → List (List ℕ) → ℕ
first_of line figures = get_or (get_or figures line []) 0 0

-- Of two houses the second scores more on the ground in X, before the layout factor and with it, and the better end keeps its band: by their figures.
record Rises (A B : List ℕ) : Type 0 where
  before : score_before A 1 1 < score_before B 1 1
  full : full_score A 1 1 < full_score B 1 1
  kept : BandKept A B 1 1

rises : (A B : List ℕ) → 1 ≤ storeys A → 1 ≤ storeys B → {a b : List (List ℕ)} → figures A ≡ a → figures B ≡ b
    → first_of 0 a < first_of 0 b → first_of 1 a < first_of 1 b → first_of 2 b ≡ first_of 2 a → Rises A B
rises A B A-some B-some a b full before kept = record {
  before = rw (ap (first_of 1) a, ap (first_of 1) b) before;
  full = rw (sym (score_at_lem A 0 (omega (arith, A-some))) ∙ ap (first_of 0) a, sym (score_at_lem B 0 (omega (arith, B-some))) ∙ ap (first_of 0) b) full;
  kept = ap (first_of 2) b ∙ kept ∙ sym (ap (first_of 2) a);
}

-- The house with weak joints, without snow and under 1 m: 60 becomes 62.
weak_joints_rise : Rises weak_joints (under_snow 1 weak_joints)
weak_joints_rise =
    rises weak_joints (under_snow 1 weak_joints) (omega arith) (omega arith) weak_joints_figures.0 weak_joints_figures.1 (lit< tt) (lit< tt) refl

-- So under deeper snow the comparison is false.
pub same_snow_needed :
    (((table : List ℕ) (less more : ℕ) → less ≤ more → (judging (under_snow less table)).number ≡ 0 → (judging (under_snow more table)).number ≡ 0
    → (storey direction : ℕ) → InHouse (under_snow less table) storey direction
    → score_before (under_snow more table) storey direction ≤ score_before (under_snow less table) storey direction) → ⊥)
    × (((table : List ℕ) (less more : ℕ) → less ≤ more → (judging (under_snow less table)).number ≡ 0 → (judging (under_snow more table)).number ≡ 0
    → (storey direction : ℕ) → InHouse (under_snow less table) storey direction → BandKept (under_snow less table) (under_snow more table) storey direction
    → full_score (under_snow more table) storey direction ≤ full_score (under_snow less table) storey direction) → ⊥)
same_snow_needed =
    let stands = ground_in_x weak_joints (omega arith) in
    let without : (judging weak_joints).number ≡ 0 = ap (λ (t : Told). t.number) snowy_judged.2 in
    let under : (judging (under_snow 1 weak_joints)).number ≡ 0 = ap (λ (t : Told). t.number) snowy_judged.3 in (
      (λ claim. omega (arith, claim weak_joints 0 1 (omega arith) without under 1 1 stands, weak_joints_rise.before)),
      (λ claim. omega (arith, claim weak_joints 0 1 (omega arith) without under 1 1 stands weak_joints_rise.kept, weak_joints_rise.full)),
    )

-- The sound house repaired and not repaired: 118 becomes 131, before the layout factor 169 becomes 188, and the better end stays in band E.
repaired_rises : Rises (as_repaired 1 sound) (as_repaired 0 sound)
unfolding wall_rows first
repaired_rises = rises repaired_sound sound (omega arith) (omega arith) repaired_figures.0 sound_figures (lit< tt) (lit< tt) refl

-- So of a repaired house and one that is not the comparison is false.
pub same_repair_needed :
    (((table : List ℕ) → (judging (as_repaired 1 table)).number ≡ 0 → (judging (as_repaired 0 table)).number ≡ 0
    → (storey direction : ℕ) → InHouse (as_repaired 1 table) storey direction
    → score_before (as_repaired 0 table) storey direction ≤ score_before (as_repaired 1 table) storey direction) → ⊥)
    × (((table : List ℕ) → (judging (as_repaired 1 table)).number ≡ 0 → (judging (as_repaired 0 table)).number ≡ 0
    → (storey direction : ℕ) → InHouse (as_repaired 1 table) storey direction → BandKept (as_repaired 1 table) (as_repaired 0 table) storey direction
    → full_score (as_repaired 0 table) storey direction ≤ full_score (as_repaired 1 table) storey direction) → ⊥)
unfolding wall_rows first
same_repair_needed =
    let stands = ground_in_x repaired_sound (omega arith) in
    let repaired : (judging repaired_sound).number ≡ 0 = ap (λ (t : Told). t.number) repaired_judged.0 in
    let not_repaired : (judging (as_repaired 0 sound)).number ≡ 0 = ap (λ (t : Told). t.number) two_judged.0 in (
      (λ claim. omega (arith, claim sound repaired not_repaired 1 1 stands, repaired_rises.before)),
      (λ claim. omega (arith, claim sound repaired not_repaired 1 1 stands repaired_rises.kept, repaired_rises.full)),
    )
