-- `scan` meets its contract: each way through the match reads one character more. Assumes nothing.
use Rattle.std.proofs.Common.{sym, ap, ◌∙◌, arith}
use Rattle.sheet.proofs.Fields.{made, all_read, space_read, first_digit_read, next_digit_read, next_digit_wrong}
use Rattle.sheet.proofs.field.scan.Goals as goal
use Rattle.sheet.proofs.field.scan.Goals.{in-None, in-None-2+in_ok-digit-in-None-2, in-Some+in_ok-digit-in-Some}

pub returns-in_err-digit-in-Some : goal.returns-in_err-digit-in-Some
returns-in_err-digit-in-Some c =
    c.from_residual-in_err-digit-in-Some.ensures
    ∙ next_digit_wrong _ _ _ c.loop-character.invariant (omega arith) c.in-Some.is (rw c.in-Some.is at c.in-Some.n-test).1 (sym c.in_err-digit-in-Some.was ∙ c.digit-in-Some.ensures)

pub loop-character-preserved : goal.loop-character-preserved
loop-character-preserved c =
    let so_far = c.loop-character.invariant in
    elim c.match-number.branch [
      | in-None w ↦ ap made w.number-is ∙ space_read _ _ _ so_far (omega arith) w.in-None.is w.if-character-eq32.true
      | in-None-2+in_ok-digit-in-None-2 w ↦
          ap made w.number-is
          ∙ first_digit_read _ _ _ so_far (omega arith) w.in-None.is w.if-character-eq32.false _ (sym w.in_ok-digit-in-None-2.was ∙ w.digit.ensures)
      | in-Some+in_ok-digit-in-Some w ↦
          ap made w.number-is
          ∙ next_digit_read _ _ _ so_far (omega arith) w.in-Some.is (rw w.in-Some.is at w.in-Some.n-test).1 _ (sym w.in_ok-digit-in-Some.was ∙ w.digit-in-Some.ensures)
    ]

pub returns : goal.returns
returns c = all_read _ _ _ c.loop-character.invariant (omega arith)
