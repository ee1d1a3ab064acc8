-- What reading and then writing a sheet comes to, by the two ways out of reading. Assumes nothing.
use Rattle.std.proofs.Common.{◌≡◌, refl, sym, ap, subst, ◌∙◌, Bool, true, false, cond, List, ℕ, ◌*◌, ◌≤◌, arith, T, ltb, length, take, ltb-true, ltb-false, Result, Ok, Err}
use Rattle.answer.specs.Told.{Told, told, counted, refusal, accepts, lent_space_short}
use Rattle.answer.specs.declared.refusal.Refusal.{Refusal}
use Rattle.answer.proofs.Refusals.{refused_first}
use Rattle.sheet.specs.Sheet.{reading, after_reading, writing, after_writing, rows_read}
use Rattle.sheet.proofs.Answers.{accepted_count, read_accepted}
use Rattle.sheet.proofs.RoundTrip.{read_then_write, read_then_short}
use Rattle.run_sheets.specs.Again.{again, after_again}

module _ (sheet table : List ℕ) {answer : Result ℕ Refusal} (read : told answer ≡ reading sheet (length table)) where
  pub again_refused : (bytes : List ℕ) {refusal : Refusal} → answer ≡ Err refusal
      → (told answer ≡ again sheet (length table) (length bytes)) × (bytes ≡ after_again sheet (length table) bytes)
  unfolding again after_again
  again_refused bytes e = refused_first (reading sheet (length table)) _ _ bytes read e

  module _ {rows : ℕ} (count : answer ≡ Ok rows) where
    accepted : (reading sheet (length table)).number ≡ 0
    accepted = ap (λ (a : Told). a.number) (read_accepted sheet table read count)

    so_many : (reading sheet (length table)).count ≡ rows
    so_many = ap (λ (a : Told). a.count) (read_accepted sheet table read count)

    -- The rows that were read are within the table.
    pub again_rows : 8 * rows ≤ length table
    again_rows = rw so_many at (accepted_count sheet table accepted).1

    rows_read_lem : take (8 * rows) (after_reading sheet table) ≡ rows_read sheet table
    rows_read_lem = rw so_many refl

    pub again_written : (bytes : List ℕ) {last : Told} {left : List ℕ}
        → last ≡ writing (take (8 * rows) (after_reading sheet table)) (length bytes)
        → left ≡ after_writing (take (8 * rows) (after_reading sheet table)) bytes
        → (last ≡ again sheet (length table) (length bytes)) × (left ≡ after_again sheet (length table) bytes)
    unfolding again after_again
    again_written bytes {last} {left} e f = go (ltb (length bytes) (length sheet)) refl
      where
        was_accepted : accepts (reading sheet (length table)) ≡ true
        was_accepted = ap accepts (read_accepted sheet table read count)

        e' : last ≡ writing (rows_read sheet table) (length bytes)
        e' = e ∙ ap (λ (t : List ℕ). writing t (length bytes)) rows_read_lem

        f' : left ≡ after_writing (rows_read sheet table) bytes
        f' = f ∙ ap (λ (t : List ℕ). after_writing t bytes) rows_read_lem

        go : (b : Bool) → ltb (length bytes) (length sheet) ≡ b
            → (last ≡ again sheet (length table) (length bytes)) × (left ≡ after_again sheet (length table) bytes)
        go true h =
            let short = read_then_short sheet table bytes accepted (ltb-true (length bytes) (length sheet) h) in
            (rw (was_accepted, h) (e' ∙ short.0), rw (was_accepted, h) (f' ∙ short.1))
        go false h =
            let same = read_then_write sheet table bytes accepted (ltb-false (length bytes) (length sheet) h) in
            (rw (was_accepted, h) (e' ∙ same.0), rw (was_accepted, h) (f' ∙ same.1))

-- What is counted is within the bytes.
pub again_counted : (sheet bytes : List ℕ) (numbers : ℕ) {answer : Result ℕ Refusal} {n : ℕ}
    → told answer ≡ again sheet numbers (length bytes) → answer ≡ Ok n → n ≤ length bytes
unfolding again
again_counted sheet bytes numbers {answer} {n} e count =
    go (accepts (reading sheet numbers)) refl (ltb (length bytes) (length sheet)) refl (sym (ap told count) ∙ e)
  where
    go : (b : Bool) → accepts (reading sheet numbers) ≡ b → (d : Bool) → ltb (length bytes) (length sheet) ≡ d
        → counted n ≡ cond b (cond d (refusal lent_space_short 0 0) (counted (length sheet))) (reading sheet numbers)
        → n ≤ length bytes
    go true f true h z =
        let wrong : ◌≡◌ {A = ℕ} 0 9 = ap (λ (a : Told). a.number) z in
        absurd (omega arith)
    go true f false h z =
        let all : n ≡ length sheet = ap (λ (a : Told). a.count) z in
        omega (arith, ltb-false (length bytes) (length sheet) h)
    go false f d h z = absurd (subst T (ap accepts z ∙ f) tt)
