-- The laws of lines and sheets: a place's judgement, the numbers read and the lines printed one after the other. Assumes nothing.
use Rattle.std.proofs.Common.{◌≡◌, refl, sym, ap, subst, ◌∙◌, not, Bool, T, true, false, cond, Ok, Err, Some, None, rules, List, [], ◌∷◌, ◌++◌, ℕ, zero, suc, ◌+◌, ◌-◌, ◌*◌, ◌/◌, ◌%◌, ◌<◌, ◌≤◌, one-mul, mul-suc, add-zero, mod-eq_of_lt, add-one, arith, eqb, ltb, length, get_or, set, le_refl, length-append, ne_eqb, lt-ltb, le-ltb, ltb-true, ltb-false}
use native.Mathlib.Nat.{div-eq_of_lt, mul-add-div, mul-add-mod_self_left}
use native.Mathlib.Decide.{dec_lt}
use borrow.Rule.Slice.PartMut.{put_mid}
use Rattle.answer.specs.declared.refusal.Reason.TheVariants.{Misprint}
use Rattle.answer.specs.declared.refusal.Refusal.{Refusal}
use Rattle.answer.specs.Told.{Told, told, counted, misprint}
use Rattle.answer.specs.First.{first}
use Rattle.answer.specs.Lists.{joined, part, over}
use Rattle.answer.proofs.Places.{first_is, first_none, before_first, first_most, at_first}
use Rattle.answer.proofs.Lists.{part_again, part_whole, over_set, over_whole, joined_add, joined_same, joined_length, joined_over}
use Rattle.sheet.specs.Field.{field, is_number, value, number_in, printed}
use Rattle.sheet.specs.Line.{line}
use Rattle.sheet.specs.Sheet.{refusal_at, placed, field_at, misprinted, line_read, lines_read, numbers_of, lines_of, after_printing}
use Rattle.sheet.proofs.Fields.{some_number, none_number}

-- A field of a line by itself, as a sheet of one line, and what the code makes of it.
module _ (line : List ℕ) (long : length line ≡ 65) (column : ℕ) (some : column < 8) where
  only_field : field_at line (column / 8) (column % 8) ≡ part 8 column line
  unfolding field_at
  only_field =
      let top : column / 8 ≡ 0 = omega arith in
      let same : column % 8 ≡ column = omega arith in
      rw (top, same, part_whole 65 line long)

  field_judged : not (is_number (field (part 8 column line))) ≡ misprinted line column
  unfolding misprinted field_at
  field_judged =
      let top : column / 9 ≡ 0 = omega arith in
      let same : column % 9 ≡ column = omega arith in
      rw (same, ne_eqb column 8 (omega arith), top, part_whole 65 line long)

  pub field_wrong : None ≡ number_in (part 8 column line) → misprinted line column ≡ true
  field_wrong e = sym field_judged ∙ ap not (none_number (part 8 column line) e)

  module _ {n : ℕ} (read : Some n ≡ number_in (part 8 column line)) where
    pub field_right : misprinted line column ≡ false
    field_right = sym field_judged ∙ ap not (some_number (part 8 column line) read).0

    pub field_number : n ≡ value (field (field_at line (column / 8) (column % 8)))
    field_number = (some_number (part 8 column line) read).1 ∙ ap (λ (l : List ℕ). value (field l)) (sym only_field)

pub line_last : (line : List ℕ) → length line ≡ 65 → not (eqb (get_or line 64 0) 10) ≡ misprinted line 8
unfolding misprinted
line_last line long = rw (part_whole 65 line long)

-- The row and the column of a place, where a row has so many; and of a place of the first row.
located : (size row k : ℕ) → k < size → ((size * row + k) / size ≡ row) × ((size * row + k) % size ≡ k) × (k / size ≡ 0) × (k % size ≡ k)
located size row k few =
    let some : 0 < size = omega arith in
    let only : k / size ≡ 0 = div-eq_of_lt few in
    let same : k % size ≡ k = mod-eq_of_lt few in
    (mul-add-div some row k ∙ rw only (add-zero row), mul-add-mod_self_left size row k ∙ same, only, same)

-- What is read of a line: the refusal of its first misprint, or its numbers.
module _ (line : List ℕ) (row : ℕ) where
  pub line_refused : (column : ℕ) {r : Refusal} → column < 9 → ((k : ℕ) → k < column → misprinted line k ≡ false) → misprinted line column ≡ true
      → r ≡ placed Misprint row column → Err r ≡ line_read row line
  unfolding line_read
  line_refused column few left here e = rw (first_is (misprinted line) 9 column few left here, lt-ltb column 9 few, e)

  pub line_accepted : {numbers : List ℕ} → ((k : ℕ) → k < 9 → misprinted line k ≡ false) → numbers ≡ numbers_of 8 line → Ok numbers ≡ line_read row line
  unfolding line_read
  line_accepted right e = rw (first_none (misprinted line) 9 right, e)

  pub refused_line : {r : Refusal} → Err r ≡ line_read row line
      → (r ≡ placed Misprint row (first (misprinted line) 9)) × (first (misprinted line) 9 < 9)
  unfolding line_read
  refused_line {r} = go (ltb (first (misprinted line) 9) 9) refl
    where
      go : (few : Bool) → ltb (first (misprinted line) 9) 9 ≡ few
          → Err r ≡ cond few (Err (placed Misprint row (first (misprinted line) 9))) (Ok (numbers_of 8 line))
          → (r ≡ placed Misprint row (first (misprinted line) 9)) × (first (misprinted line) 9 < 9)
      go true f e = (search rules, ltb-true (first (misprinted line) 9) 9 f)
      go false f e = absurd (search rules)

  pub accepted_line : {numbers : List ℕ} → Ok numbers ≡ line_read row line → (numbers ≡ numbers_of 8 line) × (9 ≤ first (misprinted line) 9)
  unfolding line_read
  accepted_line {numbers} = go (ltb (first (misprinted line) 9) 9) refl
    where
      go : (few : Bool) → ltb (first (misprinted line) 9) 9 ≡ few
          → Ok numbers ≡ cond few (Err (placed Misprint row (first (misprinted line) 9))) (Ok (numbers_of 8 line))
          → (numbers ≡ numbers_of 8 line) × (9 ≤ first (misprinted line) 9)
      go true f e = absurd (search rules)
      go false f e = (search rules, ltb-false (first (misprinted line) 9) 9 f)

-- A place of a sheet is one of its line's.
pub place_of_line : (sheet : List ℕ) (row k : ℕ) → k < 9 → misprinted sheet (9 * row + k) ≡ misprinted (part 65 row sheet) k
unfolding misprinted field_at
place_of_line sheet row k few =
    let at = located 9 row k few in
    rw (at.0, at.1, at.2, at.3, part_again)

-- No place is misprinted before the one that was found in a line, if none of the lines above has one.
module _ (sheet : List ℕ) (row : ℕ) (above : (k : ℕ) → k < 9 * row → misprinted sheet k ≡ false)
    {column : ℕ} (found : column ≡ first (misprinted (part 65 row sheet)) 9) where
  before : (k : ℕ) → k < 9 * row + column → misprinted sheet k ≡ false
  before k h = go (dec_lt k (9 * row))
    where
      go : Dec (k < 9 * row) → misprinted sheet k ≡ false
      go (yes l) = above k l
      go (no l) =
          let along : 9 * row + (k - 9 * row) ≡ k = omega arith in
          let most : column ≤ 9 = rw found (first_most (misprinted (part 65 row sheet)) 9) in
          rw (← along)
          (place_of_line sheet row (k - 9 * row) (omega arith)
          ∙ before_first (misprinted (part 65 row sheet)) 9 (k - 9 * row) (rw (← found) (omega arith)))

  pub first_in_line : (lines : ℕ) → row < lines → column < 9 → 9 * row + column ≡ first (misprinted sheet) (9 * lines)
  first_in_line lines inside few =
      let here = at_first (misprinted (part 65 row sheet)) 9 (rw (← found) few) in
      sym (first_is (misprinted sheet) (9 * lines) (9 * row + column) (omega arith) before (place_of_line sheet row column few ∙ rw found here))

  pub line_right : 9 ≤ column → (k : ℕ) → k < 9 * (row + 1) → misprinted sheet k ≡ false
  line_right all k h = before k (omega arith)

-- What is told of lines that are read.
module _ (sheet : List ℕ) (lines : ℕ) where
  pub lines_refused : {row column : ℕ} {r : Refusal} → column < 9 → row < lines → 9 * row + column ≡ first (misprinted sheet) (9 * lines)
      → r ≡ placed Misprint row column → told (Err r) ≡ lines_read sheet lines
  unfolding refusal_at
  lines_refused {row} {column} few inside found e =
      let at = located 9 row column few in
      rw (← found, lt-ltb (9 * row + column) (9 * lines) (omega arith), at.0, at.1, e)

  pub lines_counted : ((k : ℕ) → k < 9 * lines → misprinted sheet k ≡ false) → counted lines ≡ lines_read sheet lines
  lines_counted right = rw (first_none (misprinted sheet) (9 * lines) right, le-ltb (9 * lines) (9 * lines) (le_refl (9 * lines)))

  pub counted_lines : {n : ℕ} → counted n ≡ lines_read sheet lines → n ≡ lines
  unfolding refusal_at
  counted_lines {n} = go (ltb (first (misprinted sheet) (9 * lines)) (9 * lines))
    where
      go : (b : Bool) → counted n ≡ cond b (refusal_at misprint 9 (first (misprinted sheet) (9 * lines))) (counted lines) → n ≡ lines
      go true e = absurd (subst T (ap (λ (t : Told). t.is_count) e) tt)
      go false e = ap (λ (t : Told). t.count) e

-- The numbers of a sheet, one after the other.
pub numbers_length : (n : ℕ) (sheet : List ℕ) → length (numbers_of n sheet) ≡ n
unfolding numbers_of
numbers_length n sheet = joined_length 1 (λ place. value (field (field_at sheet (place / 8) (place % 8))) ∷ []) (λ i. refl) n ∙ one-mul n

pub numbers_more : (sheet lent table : List ℕ) (at v : ℕ) → at < length lent → table ≡ over lent (numbers_of at sheet)
    → v ≡ value (field (field_at sheet (at / 8) (at % 8))) → set table at v ≡ over lent (numbers_of (at + 1) sheet)
unfolding numbers_of joined
numbers_more sheet lent table at v h e f =
    ap (λ (t : List ℕ). set t at v) e ∙ over_set lent (numbers_of at sheet) v at (numbers_length at sheet) h ∙ rw (add-one, f)

-- The numbers of a sheet are those of its lines.
field_of_line : (sheet : List ℕ) (row k : ℕ) → k < 8
    → field_at (part 65 row sheet) (k / 8) (k % 8) ≡ field_at sheet ((8 * row + k) / 8) ((8 * row + k) % 8)
unfolding field_at
field_of_line sheet row k few =
    let at = located 8 row k few in
    rw (at.0, at.1, at.2, at.3, part_again)

pub numbers_by_lines : (sheet : List ℕ) (lines : ℕ) → joined lines (λ i. numbers_of 8 (part 65 i sheet)) ≡ numbers_of (8 * lines) sheet
unfolding joined numbers_of
numbers_by_lines sheet zero = refl
numbers_by_lines sheet (suc n) =
    rw (numbers_by_lines sheet n, mul-suc, joined_add)
    (ap (λ (l : List ℕ). joined (8 * n) number ++ l) (joined_same (λ i. of_line i) (λ i. number (8 * n + i)) 8 one))
  where
    number : ℕ → List ℕ
    number place = value (field (field_at sheet (place / 8) (place % 8))) ∷ []

    of_line : ℕ → List ℕ
    of_line place = value (field (field_at (part 65 n sheet) (place / 8) (place % 8))) ∷ []

    one : (i : ℕ) → i < 8 → of_line i ≡ number (8 * n + i)
    one i few = ap (λ (l : List ℕ). value (field l) ∷ []) (field_of_line sheet n i few)

-- A line's fields, and the byte after them.
abbrev pub fields : List ℕ → ℕ → List ℕ
fields row j = printed (get_or row j 0)

pub field_long : (row : List ℕ) (j : ℕ) → length (fields row j) ≡ 8
unfolding printed
field_long row j = refl

pub fields_length : (row : List ℕ) (n : ℕ) → length (joined n (fields row)) ≡ 8 * n
fields_length row = joined_length 8 (fields row) (field_long row)

pub line_end : (row lent bytes : List ℕ) → length lent ≡ 65 → bytes ≡ over lent (joined 8 (fields row)) → set bytes 64 10 ≡ line row
unfolding line
line_end row lent bytes e p =
    ap (λ (l : List ℕ). set l 64 10) p
    ∙ over_set lent (joined 8 (fields row)) 10 64 (fields_length row 8) (omega arith)
    ∙ over_whole lent (line row) (simp length-append (omega (arith, fields_length row 8)))

pub line_length : (row : List ℕ) → length (line row) ≡ 65
unfolding line
line_length row = simp length-append (omega (arith, fields_length row 8))

-- A table's lines, one after the other.
pub lines_length : (n : ℕ) (table : List ℕ) → length (lines_of n table) ≡ 65 * n
unfolding lines_of
lines_length n table = joined_length 65 (λ i. line (part 8 i table)) (λ i. line_length (part 8 i table)) n

pub lines_more : (table lent bytes y : List ℕ) (n : ℕ) → 65 * n + 65 ≤ length lent → bytes ≡ over lent (lines_of n table) → y ≡ line (part 8 n table)
    → put_mid (65 * n) (65 * n + 65 - 65 * n) bytes y ≡ over lent (lines_of (n + 1) table)
unfolding lines_of
lines_more table lent bytes y n h e g =
    joined_over 65 (λ i. line (part 8 i table)) (λ i. line_length (part 8 i table)) lent bytes y n h e g

-- Rows are printed where there is room for all of them, and else no byte changes.
pub printing_short : (table sheet : List ℕ) → length sheet / 65 < length table / 8 → sheet ≡ after_printing table sheet
unfolding after_printing
printing_short table sheet h = rw (lt-ltb (length sheet) (65 * (length table / 8)) (omega arith))

pub printing_room : (table sheet : List ℕ) → length table / 8 ≤ length sheet / 65
    → over sheet (lines_of (length table / 8) table) ≡ after_printing table sheet
unfolding after_printing
printing_room table sheet h = rw (le-ltb (length sheet) (65 * (length table / 8)) (omega arith))

pub printing_rows : (table sheet : List ℕ) (rows : ℕ) → 8 * rows ≡ length table → 65 * rows ≤ length sheet
    → after_printing table sheet ≡ over sheet (lines_of rows table)
printing_rows table sheet rows e h =
    let whole : length table / 8 ≡ rows = omega arith in
    sym (printing_room table sheet (omega arith)) ∙ ap (λ (n : ℕ). over sheet (lines_of n table)) whole
