-- The loop of `survey::row::Row::check_days`: every date before is a day.
use Rattle.std.proofs.Common.{◌≡◌, ◌<◌, ◌≤◌, ℕ, false}
use Rattle.survey.specs.Judgement.{has_no_day}
use Rattle.survey.proofs.row.Row.check_days.Given as goal

abbrev pub invariant-loop-column : goal.invariant-loop-column
invariant-loop-column l = (k : ℕ) → 1 ≤ k → k < l.column → has_no_day l.self.table.numbers.now l.self.at k ≡ false
