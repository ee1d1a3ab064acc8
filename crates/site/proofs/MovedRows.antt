-- A part of a table whose rows are moved, number by number. Assumes nothing.
use Rattle.std.proofs.Common.{◌≡◌, refl, sym, ap, ◌∙◌, List, ◌++◌, ℕ, zero, suc, ◌+◌, ◌-◌, ◌*◌, ◌<◌, ◌≤◌, append_assoc, arith, length, get_or, set, take, drop, length-append, ext_get_or}
use Rattle.std.proofs.lemmas.List.{get_or-set_same, get_or-set_other, get_or-take, get_or-drop, get_or-append_right, length-take, length-drop, take_all, take-take, drop-take, drop-drop}
use Rattle.std.proofs.Math.Seq.{take-append-add}
use lib.ListN.{get_or-append}
use native.Mathlib.Decide.{dec_lt}
use borrow.Rule.Slice.PartMut.{put_mid}
use Rattle.answer.specs.Lists.{over}
use Rattle.answer.proofs.Lists.{part_put}
use Rattle.site.specs.Rows.{in_use, with_row, without_row}
use Rattle.site.specs.Changes.{empty_row}

-- Two lists that have the same numbers before a place, and from a place on.
abbrev pub Front : ℕ → List ℕ → List ℕ → Type 0
Front at one other = (k : ℕ) → k < at → get_or one k 0 ≡ get_or other k 0

abbrev pub Back : ℕ → List ℕ → List ℕ → Type 0
Back at one other = (k : ℕ) → at ≤ k → k < length other → get_or one k 0 ≡ get_or other k 0

module _ (old new part : List ℕ) (at x : ℕ) (inside : at < length part) (is : x ≡ get_or new at 0) where
  here : get_or (set part at x) at 0 ≡ get_or new at 0
  here = get_or-set_same part at x 0 inside ∙ is

  elsewhere : (k : ℕ) → (k ≡ at → ⊥) → get_or (set part at x) k 0 ≡ get_or part k 0
  elsewhere k other = get_or-set_other part at k x 0 other

  -- One number more is new, from the back on;
  pub back_more : Back (at + 1) part new → Back at (set part at x) new
  back_more later k past below = go (dec_lt at k)
    where
      go : Dec (at < k) → get_or (set part at x) k 0 ≡ get_or new k 0
      go (yes l) = elsewhere k (λ e. omega arith) ∙ later k (omega arith) below
      go (no l) =
          let same : k ≡ at = omega arith in
          rw same here

  pub front_less : Front (at + 1) part old → Front at (set part at x) old
  front_less before k below = elsewhere k (λ e. omega arith) ∙ before k (omega arith)

  -- or from the front on.
  pub front_more : Front at part new → Front (at + 1) (set part at x) new
  front_more before k below = go (dec_lt k at)
    where
      go : Dec (k < at) → get_or (set part at x) k 0 ≡ get_or new k 0
      go (yes l) = elsewhere k (λ e. omega arith) ∙ before k l
      go (no l) =
          let same : k ≡ at = omega arith in
          rw same here

  pub back_less : Back at part old → Back (at + 1) (set part at x) old
  back_less later k past below = elsewhere k (λ e. omega arith) ∙ later k (omega arith) below

pub all_new : (part new : List ℕ) → length part ≡ length new → Front (length part) part new → part ≡ new
all_new part new long same = ext_get_or 0 part new long same

-- A part with a row put in front, whose last goes.
abbrev pub put_in : List ℕ → List ℕ → List ℕ
put_in row part = take (length part) (row ++ part)

module _ (row part : List ℕ) (eight : length row ≡ 8) where
  pub put_in_long : length (put_in row part) ≡ length part
  put_in_long = omega (arith, length-take (length part) (row ++ part), length-append row part)

  pub put_in_row : (k : ℕ) → k < length part → k < 8 → get_or row k 0 ≡ get_or (put_in row part) k 0
  put_in_row k inside small = sym (get_or-take (length part) (row ++ part) k 0 inside ∙ get_or-append row part 0 k (omega arith))

  pub put_in_part : (k : ℕ) → k < length part → 8 ≤ k → get_or part (k - 8) 0 ≡ get_or (put_in row part) k 0
  put_in_part k inside past = sym (get_or-take (length part) (row ++ part) k 0 inside ∙ get_or-append_right row part 8 k 0 eight past)

-- A part without its first row, and zeros behind its last.
abbrev pub taken_out : List ℕ → List ℕ
taken_out part = take (length part) (drop 8 part ++ empty_row)

module _ (part : List ℕ) where
  nothing : (k : ℕ) → get_or empty_row k 0 ≡ 0
  nothing zero = refl
  nothing (suc zero) = refl
  nothing (suc (suc zero)) = refl
  nothing (suc (suc (suc zero))) = refl
  nothing (suc (suc (suc (suc zero)))) = refl
  nothing (suc (suc (suc (suc (suc zero))))) = refl
  nothing (suc (suc (suc (suc (suc (suc zero)))))) = refl
  nothing (suc (suc (suc (suc (suc (suc (suc zero))))))) = refl
  nothing (suc (suc (suc (suc (suc (suc (suc (suc k)))))))) = refl

  left_long : length (drop 8 part) ≡ length part - 8
  left_long = length-drop 8 part

  pub taken_out_long : length (taken_out part) ≡ length part
  taken_out_long = omega (arith, length-take (length part) (drop 8 part ++ empty_row), length-append (drop 8 part) empty_row, left_long)

  pub taken_out_part : (k : ℕ) → k < length part → k + 8 < length part → get_or part (k + 8) 0 ≡ get_or (taken_out part) k 0
  taken_out_part k inside before =
      let next : 8 + k ≡ k + 8 = omega arith in
      sym (get_or-take (length part) (drop 8 part ++ empty_row) k 0 inside ∙ get_or-append (drop 8 part) empty_row 0 k (omega (arith, left_long))
      ∙ get_or-drop 8 part k 0 ∙ ap (λ (i : ℕ). get_or part i 0) next)

  pub taken_out_end : (k : ℕ) → k < length part → length part ≤ k + 8 → 0 ≡ get_or (taken_out part) k 0
  taken_out_end k inside past =
      sym (get_or-take (length part) (drop 8 part ++ empty_row) k 0 inside
      ∙ get_or-append_right (drop 8 part) empty_row (length part - 8) k 0 left_long (omega arith) ∙ nothing (k - (length part - 8)))

-- The table in which such a part of the rows in use was written.
module _ (table : List ℕ) (at rows : ℕ) where
  abbrev after : ℕ → List ℕ
  after size = take size (drop (8 * at) table)

  rest_in_use : at ≤ rows → take (8 * (rows - at)) (drop (8 * at) table) ≡ drop (8 * at) (in_use table rows)
  rest_in_use inside =
      let all : 8 * at + 8 * (rows - at) ≡ 8 * rows = omega arith in
      sym (ap (λ (n : ℕ). drop (8 * at) (take n table)) (sym all) ∙ drop-take (8 * at) (8 * (rows - at)) table)

  rows_before : at ≤ rows → take (8 * at) (in_use table rows) ≡ take (8 * at) table
  rows_before inside = take-take (8 * at) (8 * rows) table (omega arith)

  module _ (row : List ℕ) (eight : length row ≡ 8) (inside : at ≤ rows) (fits : 8 * rows + 8 ≤ length table) where
    abbrev room : ℕ
    room = 8 * (rows - at) + 8

    part_in : put_in row (after room) ≡ row ++ drop (8 * at) (in_use table rows)
    part_in =
        let long : length (after room) ≡ length row + 8 * (rows - at) =
        omega (arith, length-take room (drop (8 * at) table), length-drop (8 * at) table, eight) in
        ap (λ (n : ℕ). take n (row ++ after room)) long ∙ take-append-add row (after room) (8 * (rows - at))
        ∙ ap (λ (l : List ℕ). row ++ l) (take-take (8 * (rows - at)) room (drop (8 * at) table) (omega arith) ∙ rest_in_use inside)

    with_row_long : length (with_row (in_use table rows) at row) ≡ 8 * at + room
    unfolding with_row
    with_row_long =
        simp (length-append, length-take, length-drop) (omega arith)

    -- A row put in.
    pub row_in : put_mid (8 * at) (8 * rows + 8 - 8 * at) table (put_in row (after (8 * rows + 8 - 8 * at))) ≡ over table (with_row (in_use table rows) at row)
    unfolding over with_row
    row_in =
        let short : 8 * rows + 8 - 8 * at ≡ room = omega arith in
        let same : room ≡ 8 * at + room - 8 * at = omega arith in
        let rest = drop (8 * at) (in_use table rows) in
        ap (λ (n : ℕ). put_mid (8 * at) n table (put_in row (after n))) short
        ∙ ap (λ (n : ℕ). put_mid (8 * at) n table (put_in row (after room))) same
        ∙ part_put (8 * at) room table (put_in row (after room))
        ∙ rw (part_in, with_row_long, rows_before inside)
        (ap (λ (l : List ℕ). l ++ drop (8 * at + room) table) (sym (append_assoc (take (8 * at) table) row rest)))

  module _ (inside : at < rows) (fits : 8 * rows ≤ length table) where
    abbrev some : ℕ
    some = 8 * (rows - at)

    part_out : taken_out (after some) ≡ drop (8 * at + 8) (in_use table rows) ++ empty_row
    part_out =
        let all : 8 + 8 * (rows - at - 1) ≡ some = omega arith in
        let long : length (after some) ≡ some = omega (arith, length-take some (drop (8 * at) table), length-drop (8 * at) table) in
        let next : drop 8 (after some) ≡ drop (8 * at + 8) (in_use table rows) =
        ap (drop 8) (rest_in_use (omega arith)) ∙ drop-drop 8 (8 * at) (in_use table rows) in
        ap (λ (l : List ℕ). take (length (after some)) (l ++ empty_row)) next
        ∙ take_all _ _ (omega (arith, long, length-append (drop (8 * at + 8) (in_use table rows)) empty_row, length-drop (8 * at + 8) (in_use table rows), length-take (8 * rows) table))

    without_row_long : length (without_row (in_use table rows) at ++ empty_row) ≡ 8 * at + some
    unfolding without_row
    without_row_long = simp (length-append, length-take, length-drop) (omega arith)

    -- A row taken out.
    pub row_out : put_mid (8 * at) (8 * rows - 8 * at) table (taken_out (after (8 * rows - 8 * at)))
        ≡ over table (without_row (in_use table rows) at ++ empty_row)
    unfolding over without_row
    row_out =
        let short : 8 * rows - 8 * at ≡ some = omega arith in
        let same : some ≡ 8 * at + some - 8 * at = omega arith in
        let rest = drop (8 * at + 8) (in_use table rows) in
        ap (λ (n : ℕ). put_mid (8 * at) n table (taken_out (after n))) short
        ∙ ap (λ (n : ℕ). put_mid (8 * at) n table (taken_out (after some))) same
        ∙ part_put (8 * at) some table (taken_out (after some))
        ∙ rw (part_out, without_row_long, rows_before (omega arith))
        (ap (λ (l : List ℕ). l ++ drop (8 * at + some) table) (sym (append_assoc (take (8 * at) table) rest empty_row)))
