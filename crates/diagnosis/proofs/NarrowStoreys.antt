-- A storey's narrow factor: its least and its most, by all storeys above it as document 02, request 6, has it, and the same in houses whose storeys are
-- the same. Assumes nothing.
use Rattle.std.proofs.Common.{◌≡◌, true, false, List, ℕ, ◌+◌, ◌<◌, ◌≤◌, arith, le-leb, le-ltb}
use Rattle.std.proofs.lemmas.Bool.{lt-leb, lt-ltb}
use mathlib.Core.Bool.{or-true}
use native.Mathlib.Decide.{dec_le}
use Rattle.survey.specs.Table.{storeys}
use Rattle.method.specs.Required.{is_narrow, narrow_factor}
use Rattle.method.proofs.Requirements.{narrow_least, narrow_most}
use Rattle.diagnosis.specs.Rows.{storey_of}
use Rattle.diagnosis.specs.House.{narrow_storey, narrow}

module _ (table : List ℕ) where
  pub factor_least : (storey : ℕ) → 100 ≤ narrow table storey
  unfolding narrow
  factor_least storey = narrow_least _

  pub factor_most : (storey : ℕ) → narrow table storey ≤ 113
  unfolding narrow
  factor_most storey = narrow_most _

  narrow_there : (storey : ℕ) → storey ≤ storeys table → (storey_of table storey).side < 4000 → narrow_storey table storey ≡ true
  unfolding narrow_storey is_narrow
  narrow_there storey last under = rw (le-leb storey (storeys table) last, lt-ltb (storey_of table storey).side 4000 under)

  -- A storey that the house lacks is not narrow.
  not_narrow : (storey : ℕ) → (storey ≤ storeys table → 4000 ≤ (storey_of table storey).side) → narrow_storey table storey ≡ false
  unfolding narrow_storey is_narrow
  not_narrow storey wide = go (dec_le storey (storeys table))
    where
      go : Dec (storey ≤ storeys table) → narrow_storey table storey ≡ false
      go (yes last) = rw (le-leb storey (storeys table) last, le-ltb (storey_of table storey).side 4000 (wide last))
      go (no above) = rw (lt-leb storey (storeys table) (omega arith))

  module _ (few : storeys table ≤ 3) (storey : ℕ) (some : 1 ≤ storey) where
    -- A storey above is the next one or the one after that.
    pub below_narrow : (above : ℕ) → storey < above → above ≤ storeys table → (storey_of table above).side < 4000 → narrow table storey ≡ 113
    unfolding narrow narrow_factor
    below_narrow above higher last under = go (dec_le above (storey + 1))
      where
        go : Dec (above ≤ storey + 1) → narrow table storey ≡ 113
        go (yes next) =
            let here : above ≡ storey + 1 = omega arith in
            rw (← here, narrow_there above last under)
        go (no far) =
            let here : above ≡ storey + 2 = omega arith in
            rw (← here, narrow_there above last under, or-true (narrow_storey table (storey + 1)))

    pub below_wide : ((above : ℕ) → storey < above → above ≤ storeys table → 4000 ≤ (storey_of table above).side) → narrow table storey ≡ 100
    unfolding narrow narrow_factor
    below_wide wide =
        rw (not_narrow (storey + 1) (λ last. wide (storey + 1) (omega arith) last), not_narrow (storey + 2) (λ last. wide (storey + 2) (omega arith) last))

-- Of two houses with equally many storeys, whose rows are the same.
module _
    (A B : List ℕ) (storeys_same : storeys A ≡ storeys B)
    (row_same : (storey : ℕ) → 1 ≤ storey → storey ≤ storeys A → storey_of A storey ≡ storey_of B storey)
  where
    narrow_storey_same : (storey : ℕ) → 1 ≤ storey → narrow_storey A storey ≡ narrow_storey B storey
    unfolding narrow_storey
    narrow_storey_same storey some = go (dec_le storey (storeys A))
      where
        go : Dec (storey ≤ storeys A) → narrow_storey A storey ≡ narrow_storey B storey
        go (yes last) = rw (storeys_same, row_same storey some last)
        go (no above) = rw (lt-leb storey (storeys A) (omega arith), lt-leb storey (storeys B) (omega (arith, storeys_same)))

    pub factor_same : (storey : ℕ) → narrow A storey ≡ narrow B storey
    unfolding narrow
    factor_same storey = rw (narrow_storey_same (storey + 1) (omega arith), narrow_storey_same (storey + 2) (omega arith))
