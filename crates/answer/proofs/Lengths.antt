-- The laws of `rows_in`. Assumes nothing.
use Rattle.std.proofs.Common.{◌≡◌, refl, sym, ◌∙◌, rules, ne_eqb, Ok, Err, Bool, true, false, cond, ℕ, ◌*◌, ◌/◌, ◌%◌, ◌<◌, ◌≤◌, arith, eqb, leb, eqb-true, leb-true, le-leb}
use borrow.Author.Tests.{eqb-false}
use mathlib.Core.Path.{subst⁻¹}
use native.Mathlib.Nat.{div-add-mod, div-zero, mul-mod_right, mul-div_cancel_left}
use Rattle.answer.specs.declared.refusal.Reason.TheVariants.{SheetLength}
use Rattle.answer.specs.declared.refusal.Refusal.{Refusal}
use Rattle.answer.specs.Told.{without_place}
use Rattle.answer.specs.Length.{most_rows, rows_in, whole_rows, Whole}

-- A length that refusal 1 does not name.
pub rows_whole : (unit n : ℕ) {rows : ℕ} → rows ≡ rows_in unit n → (rows ≡ 0 → ⊥) → Whole unit n rows
unfolding rows_in
rows_whole unit n e some = subst⁻¹ (Whole unit n) e (go (eqb (n % unit) 0) refl (leb (n / unit) most_rows) refl (omega arith))
  where
    go : (b : Bool) → eqb (n % unit) 0 ≡ b → (d : Bool) → leb (n / unit) most_rows ≡ d → 0 < cond b (cond d (n / unit) 0) 0
        → Whole unit n (cond b (cond d (n / unit) 0) 0)
    go true e true f h = record { some = h; most = leb-true _ _ f; whole = omega (arith, div-add-mod n unit, eqb-true (n % unit) 0 e) }
    go true e false f h = absurd (omega arith)
    go false e true f h = absurd (omega arith)
    go false e false f h = absurd (omega arith)

-- As many whole units as are allowed are that many rows.
pub rows_counted : (unit : ℕ) {n rows : ℕ} → unit * rows ≡ n → 0 < unit → rows ≤ most_rows → rows ≡ rows_in unit n
unfolding rows_in
rows_counted unit {n} {rows} e some most =
    rw (← e, mul-mod_right, mul-div_cancel_left rows some, le-leb rows most_rows most)

-- No length holds more rows than are allowed.
pub rows_most : (unit n : ℕ) → rows_in unit n ≤ most_rows
unfolding rows_in
rows_most unit n = go (eqb (n % unit) 0) (leb (n / unit) most_rows) refl
  where
    go : (b d : Bool) → leb (n / unit) most_rows ≡ d → cond b (cond d (n / unit) 0) 0 ≤ most_rows
    go true true e = leb-true (n / unit) most_rows e
    go true false e = omega arith
    go false d e = omega arith

-- A unit of nothing makes no row.
pub rows_zero : (n : ℕ) → rows_in 0 n ≡ 0
unfolding rows_in
rows_zero n = rw div-zero (go (eqb (n % 0) 0))
  where
    go : (b : Bool) → ◌≡◌ {A = ℕ} (cond b 0 0) 0
    go true = refl
    go false = refl

-- What the code answers: refusal 1 where no rows are told, and else the rows; and what follows from either.
module _ (unit n : ℕ) where
  pub whole_refused : {r : Refusal} → r ≡ without_place SheetLength → rows_in unit n ≡ 0 → Err r ≡ whole_rows unit n
  whole_refused e none = rw (e, none) refl

  pub whole_counted : {rows : ℕ} → rows ≡ rows_in unit n → (rows ≡ 0 → ⊥) → Ok rows ≡ whole_rows unit n
  whole_counted {rows} e some = rw (← e, ne_eqb rows 0 some) refl

  go_refused : {r : Refusal} (rows : ℕ) (none : Bool) → eqb rows 0 ≡ none → Err r ≡ cond none (Err (without_place SheetLength)) (Ok rows)
      → (r ≡ without_place SheetLength) × (rows ≡ 0)
  go_refused rows true e f = (search rules, eqb-true rows 0 e)
  go_refused rows false e f = search rules

  pub refused_whole : {r : Refusal} → Err r ≡ whole_rows unit n → (r ≡ without_place SheetLength) × (rows_in unit n ≡ 0)
  refused_whole e = go_refused (rows_in unit n) (eqb (rows_in unit n) 0) refl e

  go_counted : {rows : ℕ} (r : ℕ) (none : Bool) → eqb r 0 ≡ none → Ok rows ≡ cond none (Err (without_place SheetLength)) (Ok r)
      → (rows ≡ r) × (r ≡ 0 → ⊥)
  go_counted r true e f = search rules
  go_counted r false e f = (search rules, eqb-false r 0 e)

  pub counted_whole : {rows : ℕ} → Ok rows ≡ whole_rows unit n → (rows ≡ rows_in unit n) × Whole unit n rows
  counted_whole {rows} f =
      let known = go_counted (rows_in unit n) (eqb (rows_in unit n) 0) refl f in
      (known.0, rows_whole unit n known.0 (λ z. known.1 (sym known.0 ∙ z)))
