-- `answer::rows_in` meets its contract: each return is one case of `rows_in`. Assumes nothing.
use Rattle.std.proofs.Common.{ap, ◌∙◌, ℕ, ◌/◌, eq-eqb, ne_eqb, le-leb}
use borrow.Author.Tests.{lt-leb}
use Rattle.answer.specs.Length.{rows_in}
use Rattle.answer.proofs.Lengths.{rows_zero, whole_refused, whole_counted}
use Rattle.answer.proofs.rows_in.Goals as goal
use Rattle.answer.proofs.rows_in.Goals.{then-unit-eq0-via-then-unit-eq0, then-unit-eq0-via-else-unit-eq0+then-length-unit-ne0, then-rows-eq0-via-then-rows-eq0, then-rows-eq0-via-else-rows-eq0+then-rows-gt-MOST_ROWS}

pub returns-then-unit-eq0 : goal.returns-then-unit-eq0
unfolding rows_in
returns-then-unit-eq0 c =
    let unit = c.args.unit in
    let n = c.args.length in
    whole_refused unit n c.without_place.ensures
    (elim c.then-unit-eq0.branch [
      | then-unit-eq0-via-then-unit-eq0 w ↦ ap (λ (u : ℕ). rows_in u n) w.if-unit-eq0.true ∙ rows_zero n
      | then-unit-eq0-via-else-unit-eq0+then-length-unit-ne0 w ↦ simp (ne_eqb _ _ w.if-length-unit-ne0.true)
    ])

pub returns-then-rows-eq0 : goal.returns-then-rows-eq0
unfolding rows_in
returns-then-rows-eq0 c =
    let unit = c.args.unit in
    let n = c.args.length in
    whole_refused unit n c.without_place-then-rows-eq0.ensures
    (elim c.then-rows-eq0.branch [
      | then-rows-eq0-via-then-rows-eq0 w ↦ simp (eq-eqb _ _ c.if-length-unit-ne0.false, w.if-rows-eq0.true)
      | then-rows-eq0-via-else-rows-eq0+then-rows-gt-MOST_ROWS w ↦ simp (eq-eqb _ _ c.if-length-unit-ne0.false, lt-leb _ _ w.if-rows-gt-MOST_ROWS.true)
    ])

pub returns : goal.returns
unfolding rows_in
returns c =
    let unit = c.args.unit in
    let n = c.args.length in
    whole_counted unit n {rows = n / unit} (simp (eq-eqb _ _ c.if-length-unit-ne0.false, le-leb _ _ c.if-rows-gt-MOST_ROWS.false)) c.if-rows-eq0.false
